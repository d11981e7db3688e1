use Rattle.std.proofs.Common.{ap, sym, subst, false, ◌∙◌}
use Rattle.rolltee_core.specs.Log.{LogState, OpensLog}
use Rattle.rolltee_core.proofs.file_log.FileLog.new.Goals as goal

pub returns : goal.returns
returns g c =
    let is = c.look.ensures.same in
    let log = sym (ap (λ (l : LogState _ _ _). l.log) is) in
    let config = g.O.Opens.config c.args.opener in
    let whole_lines = c.args.whole_lines in
    record {
      folder = c.in_ok-log.ensures.0;
      at = c.in_ok-log.ensures.1;
      opens = subst (λ l. OpensLog g.S.Folder g.C.Clock config c.in_ok-log.ensures.0 l) log c.in_ok-log.ensures.2;
      looked = c.look.ensures.looked;
      same = is ∙ ap (λ l. record c.look.new.self { log = l; config = config; whole_lines = whole_lines; short = false; is_gone = false; anew = false; flushed = false; failed = 0 }) log;
    }
