use Rattle.std.proofs.Common.{w64, FitsSigned, ◌≡◌, ◌∙◌, true, false, ap, sym}
use Rattle.std.proofs.lemmas.Int.{to_z-of_z}
use Rattle.std.specs.Prelude.{is_some}
use Rattle.appender_rolling.specs.Roller.{OpenFile, next_with}
use Rattle.appender_rolling.proofs.Fullness.{begins_at_boundaries}
use Rattle.appender_rolling.proofs.rolling.shared_roller.SharedRoller.due.Goals.{then-is_limited, else-is_limited}
use Rattle.appender_rolling.proofs.rolling.shared_roller.SharedRoller.due.Goals as goal

pub returns : goal.returns
returns g c =
    let fits : FitsSigned w64 c.args.moment = c.ranges.moment in
    let schedule = c.args.self.now.schedule in
    let next : c.next_stamp.result ≡ next_with schedule c.if-is_limited.room c.args.moment 0 = simp to_z-of_z at c.next_stamp.ensures in
    let asked : c.is_some.result ≡ is_some (next_with schedule c.if-is_limited.room c.args.moment 0) = c.is_some.ensures ∙ ap is_some next in
    elim c.if-is_limited.branch [
      | then-is_limited w ↦ record {
        plain = λ unlimited. absurd (let both : true ≡ false = sym w.if-is_limited.true ∙ c.is_limited.ensures ∙ unlimited in cc);
        limited = λ limited. (w.lock.result.value, asked ∙ ap (λ room. is_some (next_with schedule room c.args.moment 0)) (w.room-is ∙ ap (λ (h : OpenFile _ _). h.room) (w.behind-lock.view_is ∙ w.deref.ensures)));
      }
      | else-is_limited w ↦ record {
        plain = λ unlimited. asked ∙ begins_at_boundaries schedule c.if-is_limited.room c.args.moment 0 unlimited;
        limited = λ limited. absurd (let both : true ≡ false = sym limited ∙ sym c.is_limited.ensures ∙ w.if-is_limited.false in cc);
      }
    ]
