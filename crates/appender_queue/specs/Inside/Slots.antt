-- Lines in a row of slots.
use Rattle.std.specs.Prelude.{ℕ, List, [], ◌∷◌, Bool, true, false, Option, Some, None, Vec}
use Rattle.std.specs.declared.alloc.Global.{Global}

-- the lines of the full slots, in order
abbrev pub slot_lines : List (Option (Vec ℕ Global)) → List (List ℕ)
slot_lines [] = []
slot_lines (None ∷ slots) = slot_lines slots
slot_lines (Some line ∷ slots) = line.items ∷ slot_lines slots

-- no slot is full
abbrev pub all_empty : List (Option (Vec ℕ Global)) → Bool
all_empty [] = true
all_empty (None ∷ slots) = all_empty slots
all_empty (Some line ∷ slots) = false

-- after an empty slot all are empty
abbrev pub is_packed : List (Option (Vec ℕ Global)) → Bool
is_packed [] = true
is_packed (None ∷ slots) = all_empty slots
is_packed (Some line ∷ slots) = is_packed slots
