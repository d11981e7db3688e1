-- Lists of lines: as ghost values, and of new histories.
use Rattle.std.specs.Prelude.{◌≡◌, ℕ, ◌+◌, List, [], ◌∷◌}
use base.Stored.{Gv, coded_list, coded_ℕ}

-- the ghost value of a list of lines
abbrev pub coded : List (List ℕ) → Gv
coded lines = (coded_list (coded_list coded_ℕ)).code lines

-- each of these at its place, of which the first is given
abbrev pub AllFrom : {T : Type 0} → (T → ℕ → Type 0) → ℕ → List T → Type 0
AllFrom P place [] = Unit {0}
AllFrom P place (x ∷ xs) = P x place × AllFrom P (place + 1) xs

-- new histories, with these places and lines, which follow one another
abbrev pub AreNew : {T : Type 0} → (T → ℕ) → (T → List (List ℕ)) → ℕ → List T → Type 0
AreNew at lines place xs = AllFrom (λ x n. (at x ≡ n) × (lines x ≡ [])) place xs
