use Rattle.std.proofs.Common.{ap, inl, inr, refl, sym, ◌∙◌}
use Rattle.rolltee_core.specs.Log.{LogState}
use Rattle.rolltee_core.proofs.Outcome.{ok_is}
use Rattle.rolltee_core.proofs.file_log.FileLogTeeLog.flush_all.Goals as goal

pub returns : goal.returns
returns g c = inr (inl (
  refl,
  c.flush-answer.result,
  c.flush-answer.new.self,
  c.flush-answer.ensures,
  ap (λ (l : LogState _ _ _). record l { flushed = c.is_ok-self-inside.result }) c.self.view_is,
  λ good. ok_is c.flush-answer.result (sym c.is_ok-self-inside.ensures.value ∙ good),
))
