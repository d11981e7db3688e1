use Rattle.std.proofs.Common.{ap, refl, sym, subst, false, true, ◌∙◌}
use Rattle.rolltee_core.specs.Log.{LogState, OpensLog}
use Rattle.rolltee_core.proofs.file_log.FileLog.replace.Goals as goal

pub returns : goal.returns
returns g c =
    let is = c.look.ensures.same in
    let config = g.O.Opens.config c.self.inside.opener in
    rw (← c.self.view_is) (record {
      folder = c.requires.0;
      opens = subst (λ l. OpensLog g.S.Folder g.C.Clock config c.requires.0 l) (sym (ap (λ (l : LogState _ _ _). l.log) is)) (rw (← c.self.view_is) at c.requires.1);
      looked = c.look.ensures.looked;
      closed = c.flush-flushed.new.self;
      answer = c.flush-flushed.result;
      flushes = c.flush-flushed.ensures;
      failed = ap (λ (l : LogState _ _ _). l.failed) is ∙ c.saturating_add-self-inside.ensures
          ∙ rw (c.unsynced_after-self-inside.ensures, c.unsynced-noted.ensures, c.folder.ensures) refl;
      same = is ∙ ap (λ (l : LogState _ _ _). record c.look.new.self {
        log = l.log;
        config = config;
        whole_lines = c.self.inside.whole_lines;
        short = false;
        is_gone = false;
        anew = true;
        flushed = c.self.inside.flushed;
        failed = l.failed;
      }) (sym is);
    })
