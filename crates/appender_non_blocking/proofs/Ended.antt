-- What senders leave when they end, one after another.
use Rattle.std.proofs.Common.{◌≡◌, ◌∙◌, ◌+◌, ◌≤◌, ◌++◌, ◌∷◌, [], ℕ, List, length, map, min, refl, ap, sym, arith, append_assoc}
use Rattle.std.proofs.lemmas.List.{map-append}

pub none_left : {A : Type 0} (xs : List A) → length xs ≡ 0 → xs ≡ []
none_left [] is = refl
none_left (x ∷ xs) is = absurd (omega (arith, is))

-- the first one of those that are left has ended
pub one_ended : {A B X : Type 0} (ended more : List A) (left rest : List B) (a : A) (b : B) (f : A → X) (g : B → X) (all : List X)
    → more ≡ ended ++ a ∷ [] → left ≡ b ∷ rest → f a ≡ g b → map f ended ++ map g left ≡ all → map f more ++ map g rest ≡ all
one_ended ended more left rest a b f g all pushed first same is =
    ap (λ t. map f t ++ map g rest) pushed ∙ ap (λ t. t ++ map g rest) (map-append f ended (a ∷ [])) ∙ append_assoc (map f ended) (f a ∷ []) (map g rest)
    ∙ ap (λ x. map f ended ++ x ∷ map g rest) same ∙ ap (λ t. map f ended ++ map g t) (sym first) ∙ is

pub none_merged : (all left : ℕ) → all ≡ 0 → all + left ≡ left
none_merged all left is = omega arith

-- a sum, after one more
pub one_merged : (all one merged left rest sum : ℕ) → merged ≡ all + one → left ≡ rest + one → all + left ≡ sum → merged + rest ≡ sum
one_merged all one merged left rest sum more is same = omega arith

-- a count that stops at the greatest number
pub none_added : (left all most : ℕ) → left ≡ all → min (0 + left) most ≡ min all most
none_added left all most is = omega arith

pub one_added : (old one now left rest all most : ℕ) → now ≡ min (old + one) most → left ≡ rest + one → min (old + left) most ≡ min all most
    → min (now + rest) most ≡ min all most
one_added old one now left rest all most sum more is = omega arith

pub all_added : (now left all most : ℕ) → left ≡ 0 → now ≤ most → min (now + left) most ≡ min all most → now ≡ min all most
all_added now left all most none small is = omega arith
