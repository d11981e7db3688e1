-- Runs whose status is 0.
use Rattle.std.specs.Prelude.{◌≡◌, ℕ, List, Option, Some, Result, Ok}
use Rattle.appender_names.specs.declared.rotation.Rotation.{Rotation}
use Rattle.appender_non_blocking.specs.declared.non_blocking.run.Written.{Written}
use Rattle.program_io.specs.declared.options.Options.{Options}
use Rattle.rolltee_core.specs.Taken.{TookInput, TookText}
use Rattle.rolltee_core.specs.declared.losses.TeeLosses.{TeeLosses}
use Rattle.rolltee_core.specs.declared.tee.Fault.{Fault}

-- If what was left of the input is known, a log was opened by what was asked for, and took exactly the lines that it leads to.
pub record TakesInput {W O : Type 0} (opens : Rotation → List ℕ → List ℕ → Options → W → Type 0) (asked : Rotation → List ℕ → List ℕ → Options → Type 0) (takes : W → List ℕ → W → Type 0) (is_kept : W → Type 0) (before : Option (List ℕ)) (contents : O → Option (List ℕ)) (remaining : Option (List ℕ)) (echoed : O) : Type 0 where
  pub took : (text : List ℕ) → remaining ≡ Some text → TookInput opens asked takes is_kept before (contents echoed) text

-- The work of a run ended with this output, its worker in time, and neither lost a line.
pub record EndsRun {W O : Type 0} (is_opened : W → Type 0) (takes : W → List ℕ → W → Type 0) (is_kept : W → Type 0) (outcome : Result (TeeLosses × O) Fault) (written : Option (Written (List ℕ))) (echoed : O) : Type 0 where
  pub sent : TeeLosses
  pub outcome_is : outcome ≡ Ok (sent, echoed)
  pub dropped : sent.dropped ≡ 0
  pub unechoed : sent.unechoed ≡ 0
  pub last : Written (List ℕ)
  pub written_is : written ≡ Some last
  pub whole : last.given_up ≡ 0
  pub took : TookText is_opened takes is_kept last.writer
