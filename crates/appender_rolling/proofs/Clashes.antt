-- When a name reads as a date.
use Rattle.std.proofs.Common.{◌≡◌, ◌↔◌, ℕ, ℤ, Bool, true, false, is_some, List, Option, None, Some, refl}
use Rattle.appender_names.specs.Name.{Naming, Reads}

-- a name that was read as a second, or as none
pub reads_exactly : (n : Naming) (name : List ℕ) (read : Option ℤ) (answer : Bool) → ((s : ℤ) → (read ≡ Some s) ↔ Reads n name s) → answer ≡ is_some read → (answer ≡ true) ↔ ((s : ℤ) × Reads n name s)
reads_exactly n name None answer exact is = (
  λ e. absurd (let both : false ≡ true = rw is at e in cc),
  λ w. absurd (let both : ◌≡◌ {A = Option ℤ} None (Some w.0) = (exact w.0).1 w.1 in cc),
)
reads_exactly n name (Some s) answer exact is = (λ e. (s, (exact s).0 refl), λ w. is)
