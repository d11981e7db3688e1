use Rattle.std.proofs.Common.{◌≡◌, ℕ, List, [], ◌∷◌, Bool, true, false, if◌then◌else◌, refl, ap, arith}
use Rattle.std.specs.Prelude.{◌≢◌, ◌==◌}
use Rattle.std.proofs.lemmas.Bool.Decides.{nat_tests}
use Rattle.rolltee_core.specs.Log.{undotted}
use Rattle.rolltee_core.proofs.logs.without_dot.Goals as goal

undotted_other : (text : List ℕ) → ((rest : List ℕ) → text ≢ 46 ∷ rest) → text ≡ undotted text
undotted_other [] other = refl
undotted_other (byte ∷ bytes) other = by (byte == 46) refl
  where
    by : (t : Bool) → (byte == 46) ≡ t → byte ∷ bytes ≡ (if t then bytes else byte ∷ bytes)
    by true is = absurd (other bytes (ap (λ b. b ∷ bytes) (grind (arith, nat_tests, is))))
    by false is = refl

pub returns-in-None : goal.returns-in-None
unfolding lib.Utf8.encode
returns-in-None c = undotted_other c.args.suffix.now c.in-None.ensures.cases
