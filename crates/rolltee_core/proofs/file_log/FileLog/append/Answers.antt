use Rattle.std.proofs.Common.{ap, sym, inl, inr, take, ◌∙◌}
use Rattle.rolltee_core.proofs.Ends.{added_whole, whole_appended}
use Rattle.rolltee_core.proofs.file_log.FileLog.append.Goals as goal

pub invariant_of-self : goal.invariant_of-self
invariant_of-self g c = λ whole.
    let added = take c.count_of-taken.result c.args.bytes.now in
    whole_appended g.S.Folder c.args.bytes.now added c.append-answer.result
    c.self.inside.log c.append-answer.new.self c.append-answer.ensures.call (ap (λ n. take n c.args.bytes.now) c.count_of-taken.ensures)
    (elim (added_whole c.self.inside.cut added (sym c.is_cut_after-self-inside.ensures ∙ whole)) [
      | inl none ↦ inl (c.self.invariant none.0, none.1)
      | inr some ↦ inr some
    ])
