-- The history of a worker at its end.
use Rattle.std.proofs.Common.{◌≡◌, ℕ, List, [], ◌∷◌, ◌++◌, Option, ap, sym, ◌∙◌, subst, append_assoc, append-nil}
use Rattle.std.specs.List.{FoldsTo}
use Rattle.appender_worker.specs.Served.{ServesLines}
use Rattle.appender_non_blocking.specs.Inside.Served.{Serves}

-- each take adds its line
lines_taken : {Pass : Type 0} (takes : Pass → List ℕ → Pass → Type 0) (lines_of : Pass → List (List ℕ)) → ((p q : Pass) (line : List ℕ) → takes p line q → lines_of q ≡ lines_of p ++ line ∷ [])
    → (first last : Pass) (lines : List (List ℕ)) → FoldsTo takes first lines last → lines_of last ≡ lines_of first ++ lines
lines_taken takes lines_of one first last [] h = ap lines_of (sym h) ∙ sym (append-nil (lines_of first))
lines_taken takes lines_of one first last (line ∷ lines) h =
    lines_taken takes lines_of one h.0 last lines h.2 ∙ ap (λ t. t ++ lines) (one first h.0 line h.1) ∙ append_assoc (lines_of first) (line ∷ []) lines

-- a worker whose history was empty wrote the lines of its history
pub history_served : {Pass Done : Type 0} {takes : Pass → List ℕ → Pass → Type 0} {closes : Pass → Pass → Type 0} {has_ended : Pass → Type 0} {returns : Pass → Done → Type 0}
    {first : Pass} {done : Done} {old new : Option (List ℕ)} {given_up : ℕ} → Serves takes closes has_ended returns first done old new given_up
    → (lines_of : Pass → List (List ℕ)) (all : List (List ℕ))
    → ((p q : Pass) (line : List ℕ) → takes p line q → lines_of q ≡ lines_of p ++ line ∷ []) → ((p q : Pass) → closes p q → lines_of q ≡ lines_of p)
    → ((p : Pass) → returns p done → all ≡ lines_of p) → lines_of first ≡ [] → ServesLines old new all given_up
history_served {Pass} {Done} {takes} {closes} {has_ended} {returns} {first} {done} {old} {new} {given_up} s lines_of all one close back none =
    let chain = lines_taken takes lines_of one first s.last s.lines s.taken in
    let same : all ≡ s.lines = back s.ended s.returned ∙ close s.last s.ended s.closed ∙ chain ∙ ap (λ t. t ++ s.lines) none in
    subst (λ t. ServesLines old new t given_up) (sym same) s.written
