-- What is after a prefix, and before a suffix.
use Rattle.std.proofs.Common.{◌≡◌, ◌≢◌, ℕ, ◌-◌, false, List, [], ◌∷◌, ◌++◌, length, take, drop, Option, None, Some, Bor, ap, sym, ◌∙◌, append_assoc, eqb}
use Rattle.std.specs.Prelude.{◌==◌, MatchOption}
use Rattle.std.specs.Cmp.Lexicographic.{pointwise}
use Rattle.std.proofs.lemmas.Bool.Decides.{Decides-eqb}
use Rattle.std.proofs.lemmas.List.{append_cancel_left, append_cancel_right}
use Rattle.std.proofs.lemmas.Slice.Eq.{strip_prefix_is, strip_suffix_is}
use Rattle.appender_names.specs.Name.{after_prefix, before_suffix}
use Rattle.appender_names.proofs.Joins.{behind_set, before_set}

pub no_front : (s p : List ℕ) → false ≡ (length p == 0) → pointwise eqb (take (length p) s) p ≡ false → (rest : List ℕ) → s ≢ after_prefix p rest
no_front s p set miss rest e = strip_prefix_is Decides-eqb s p None miss (46 ∷ rest) (e ∙ sym (behind_set p rest set))

pub front_then_dot : (s p t : List ℕ) (r : Option (Bor (List ℕ))) → false ≡ (length p == 0) → s ≡ p ++ t
    → MatchOption r ((rest : List ℕ) → t ≢ (46 ∷ []) ++ rest) (λ x. t ≡ (46 ∷ []) ++ x.now)
    → MatchOption r ((rest : List ℕ) → s ≢ after_prefix p rest) (λ x. s ≡ after_prefix p x.now)
front_then_dot s p t None set is miss = λ rest e. miss rest (append_cancel_left p t (46 ∷ rest) (sym is ∙ e ∙ sym (behind_set p rest set)))
front_then_dot s p t (Some x) set is hit = is ∙ ap (λ u. p ++ u) hit ∙ behind_set p x.now set

pub no_back : (s p : List ℕ) → false ≡ (length p == 0) → pointwise eqb (drop (length s - length p) s) p ≡ false → (rest : List ℕ) → s ≢ before_suffix rest p
no_back s p set miss rest e = strip_suffix_is Decides-eqb s p None miss (rest ++ 46 ∷ []) (e ∙ sym (before_set rest p set) ∙ sym (append_assoc rest (46 ∷ []) p))

pub back_after_dot : (s p t : List ℕ) (r : Option (Bor (List ℕ))) → false ≡ (length p == 0) → s ≡ t ++ p
    → MatchOption r ((rest : List ℕ) → t ≢ rest ++ (46 ∷ [])) (λ x. t ≡ x.now ++ (46 ∷ []))
    → MatchOption r ((rest : List ℕ) → s ≢ before_suffix rest p) (λ x. s ≡ before_suffix x.now p)
back_after_dot s p t None set is miss = λ rest e. miss rest (append_cancel_right t (rest ++ 46 ∷ []) p (sym is ∙ e ∙ sym (before_set rest p set) ∙ sym (append_assoc rest (46 ∷ []) p)))
back_after_dot s p t (Some x) set is hit = is ∙ ap (λ u. u ++ p) hit ∙ append_assoc x.now (46 ∷ []) p ∙ before_set x.now p set
