-- What a change of one name does to a map of names.
use Rattle.std.specs.Prelude.{◌≡◌, ◌≢◌, ◌⊎◌, ℕ, List, None, Some}
use Rattle.std.specs.FinMap as fin
use Rattle.appender_store.specs.Content.{NameMap, Entry}

-- a removal removes its own name and no other
abbrev pub RemovalsTakeOneName : Type 0
RemovalsTakeOneName = (names : NameMap) (name other : List ℕ) → ((other ≡ name) × (fin.get (fin.remove names name) other ≡ None)) ⊎ ((other ≢ name) × (fin.get (fin.remove names name) other ≡ fin.get names other))

-- what is added has its own name, and no other name changes
abbrev pub AdditionsAddOneName : Type 0
AdditionsAddOneName = (names : NameMap) (name : List ℕ) (entry : Entry) (other : List ℕ) → ((other ≡ name) × (fin.get (fin.insert names name entry) other ≡ Some entry)) ⊎ ((other ≢ name) × (fin.get (fin.insert names name entry) other ≡ fin.get names other))

-- both
pub record NameLaws : Type 0 where
  pub removals : RemovalsTakeOneName
  pub additions : AdditionsAddOneName
