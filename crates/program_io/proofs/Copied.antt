-- A text that is copied line by line.
use Rattle.std.proofs.Common.{◌≡◌, ℕ, List, [], ◌∷◌, ◌++◌, refl, ap, sym, ◌∙◌, append_assoc, append-nil}
use Rattle.std.specs.Prelude.{Option, Some, None}
use Rattle.std.specs.Io.KnownBytes.{Appends, Consumes, Keeps}

pub appends_nothing : (a : Option (List ℕ)) → Appends a a []
appends_nothing None = tt
appends_nothing (Some xs) = sym (append-nil xs)

pub appends_both : (a b d : Option (List ℕ)) (xs ys : List ℕ) → Appends a b xs → Appends b d ys → Appends a d (xs ++ ys)
appends_both None b d xs ys h k = tt
appends_both (Some a) (Some b) (Some d) xs ys h k = k ∙ ap (λ t. t ++ ys) h ∙ append_assoc a xs ys
appends_both (Some a) (Some b) None xs ys h k = k
appends_both (Some a) None d xs ys h k = absurd h

pub appends_kept : (a b d : Option (List ℕ)) (xs : List ℕ) → Appends a b xs → Keeps b d → Appends a d xs
appends_kept None b d xs h k = tt
appends_kept (Some a) None d xs h k = absurd h
appends_kept (Some a) (Some b) None xs h k = absurd k
appends_kept (Some a) (Some b) (Some d) xs h k = k ∙ h

-- what is known is split where it was read up to
pub split_consumed : (b : Option (List ℕ)) (text piece : List ℕ) → Consumes (Some text) b piece → (rest : List ℕ) × (b ≡ Some rest) × (piece ++ rest ≡ text)
split_consumed None text piece consumed = absurd consumed
split_consumed (Some rest) text piece consumed = (rest, refl, sym consumed)

pub nil_behind : (front back : List ℕ) → front ++ back ≡ [] → back ≡ []
nil_behind [] back e = e
nil_behind (x ∷ front) back e = absurd (cc)
