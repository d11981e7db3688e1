-- What a run leads to, said of its input and its output.
use Rattle.std.proofs.Common.{◌≡◌, ◌∙◌, ℕ, List, subst, sym}
use Rattle.std.specs.Prelude.{Option}
use Rattle.appender_names.specs.declared.rotation.Rotation.{Rotation}
use Rattle.program_io.specs.declared.options.Options.{Options}
use Rattle.rolltee_core.specs.Taken.{TookInput}
use Rattle.rolltee_core.specs.Inside.Runs.{TakesInput}

pub takes_same : {W O : Type 0} {opens : Rotation → List ℕ → List ℕ → Options → W → Type 0} {asked : Rotation → List ℕ → List ℕ → Options → Type 0} {takes : W → List ℕ → W → Type 0} {is_kept : W → Type 0}
    {before remaining left : Option (List ℕ)} {contents : O → Option (List ℕ)} {output echoed : O} → remaining ≡ left → echoed ≡ output
    → TakesInput opens asked takes is_kept before contents remaining output → TakesInput opens asked takes is_kept before contents left echoed
takes_same {opens = opens} {asked = asked} {takes = takes} {is_kept = is_kept} {before = before} {contents = contents} same is t = record {
  took = λ text e. subst (λ o. TookInput opens asked takes is_kept before (contents o) text) (sym is) (t.took text (same ∙ e));
}
