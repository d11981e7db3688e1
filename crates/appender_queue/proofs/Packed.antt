-- Slots of which the first ones are full.
use Rattle.std.proofs.Common.{◌≡◌, ℕ, ◌<◌, List, [], ◌∷◌, ◌++◌, true, length, take, drop, refl, sym, ap, arith, append_assoc}
use Rattle.std.specs.Prelude.{Option, Some, None, Vec, slice_set, slice_index_or}
use Rattle.std.specs.declared.alloc.Global.{Global}
use Rattle.appender_queue.specs.Inside.Slots.{slot_lines, all_empty, is_packed}

-- empty slots have no lines
empty_lines : (s : List (Option (Vec ℕ Global))) → all_empty s ≡ true → slot_lines s ≡ []
empty_lines [] h = refl
empty_lines (None ∷ s) h = empty_lines s h
empty_lines (Some v ∷ s) h = cc

-- empty slots are packed
empty_packed : (s : List (Option (Vec ℕ Global))) → all_empty s ≡ true → is_packed s ≡ true
empty_packed [] h = refl
empty_packed (None ∷ s) h = h
empty_packed (Some v ∷ s) h = cc

empty_more : (s : List (Option (Vec ℕ Global))) → all_empty s ≡ true → all_empty (s ++ None ∷ []) ≡ true
empty_more [] h = refl
empty_more (None ∷ s) h = empty_more s h
empty_more (Some v ∷ s) h = cc

-- one more empty slot
pub packed_more : (s : List (Option (Vec ℕ Global))) → is_packed s ≡ true → is_packed (s ++ None ∷ []) ≡ true
packed_more [] h = refl
packed_more (None ∷ s) h = empty_more s h
packed_more (Some v ∷ s) h = packed_more s h

pub lines_in_more : (s : List (Option (Vec ℕ Global))) → slot_lines (s ++ None ∷ []) ≡ slot_lines s
lines_in_more [] = refl
lines_in_more (None ∷ s) = lines_in_more s
lines_in_more (Some v ∷ s) = ap (λ t. v.items ∷ t) (lines_in_more s)

-- the first empty slot is filled
pub lines_in_fill : (s : List (Option (Vec ℕ Global))) (v : Vec ℕ Global) → is_packed s ≡ true → length (slot_lines s) < length s
    → slot_lines (slice_set s (length (slot_lines s)) (Some v)) ≡ slot_lines s ++ v.items ∷ []
lines_in_fill [] v h l = absurd (omega (arith, l))
lines_in_fill (None ∷ s) v h l = rw (empty_lines s h) (ap (λ t. v.items ∷ t) (empty_lines s h))
lines_in_fill (Some u ∷ s) v h l =
    let m : length (slot_lines s) < length s = omega (arith, l) in
    ap (λ x. u.items ∷ x) (lines_in_fill s v h m)

pub packed_fill : (s : List (Option (Vec ℕ Global))) (v : Vec ℕ Global) → is_packed s ≡ true → length (slot_lines s) < length s
    → is_packed (slice_set s (length (slot_lines s)) (Some v)) ≡ true
packed_fill [] v h l = absurd (omega (arith, l))
packed_fill (None ∷ s) v h l = rw (empty_lines s h) (empty_packed s h)
packed_fill (Some u ∷ s) v h l =
    let m : length (slot_lines s) < length s = omega (arith, l) in
    packed_fill s v h m

-- an empty slot is put behind the full ones
empty_slot_behind : (s : List (Option (Vec ℕ Global))) → is_packed s ≡ true
    → (slot_lines (take (length (slot_lines s)) s ++ None ∷ drop (length (slot_lines s)) s) ≡ slot_lines s)
    × (is_packed (take (length (slot_lines s)) s ++ None ∷ drop (length (slot_lines s)) s) ≡ true)
empty_slot_behind [] h = (refl, refl)
empty_slot_behind (None ∷ s) h = rw (empty_lines s h) (empty_lines s h, h)
empty_slot_behind (Some u ∷ s) h =
    let t = empty_slot_behind s h in (ap (λ x. u.items ∷ x) t.0, t.1)

-- a row that has a line begins with a full slot
pub first_full : (s : List (Option (Vec ℕ Global))) (d : Option (Vec ℕ Global)) → is_packed s ≡ true → 0 < length (slot_lines s) → slice_index_or s 0 d ≡ None → ⊥
first_full [] d h l e = omega (arith, l)
first_full (None ∷ s) d h l e = let k : 0 < length (slot_lines s) = l in let n = ap length (empty_lines s h) in omega (arith, k, n)
first_full (Some v ∷ s) d h l e = cc

-- the first slot was emptied, and the full slots turned by one
pub first_out : (s : List (Option (Vec ℕ Global))) (n : ℕ) (d : Option (Vec ℕ Global)) (v : Vec ℕ Global) (turned : List (Option (Vec ℕ Global)))
    → is_packed s ≡ true → n ≡ length (slot_lines s) → 0 < n → slice_index_or s 0 d ≡ Some v
    → turned ≡ drop 1 (take n (slice_set s 0 None)) ++ take 1 (take n (slice_set s 0 None))
    → (slot_lines s ≡ v.items ∷ slot_lines (turned ++ drop n (slice_set s 0 None))) × (is_packed (turned ++ drop n (slice_set s 0 None)) ≡ true)
first_out [] n d v turned h e l f t = absurd (omega (arith, e, l))
first_out (None ∷ s) n d v turned h e l f t = cc
first_out (Some u ∷ s) n d v turned h e l f t =
    let b = empty_slot_behind s h in
    let same : u ≡ v = cc in
    let behind : turned ≡ take (length (slot_lines s)) s ++ None ∷ [] = rw e at t in
    rw (e, behind, append_assoc (take (length (slot_lines s)) s) (None ∷ []) (drop (length (slot_lines s)) s), same) (ap (λ x. v.items ∷ x) (sym b.0), b.1)
