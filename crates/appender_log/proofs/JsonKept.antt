-- What is kept after visits, and the tokens of a list that is kept.
use Rattle.std.proofs.Common.{◌≡◌, ◌≢◌, ◌∙◌, ℕ, ◌≤◌, List, [], ◌∷◌, ◌++◌, Option, None, IfSome, All, length, map, flat_map, get_or, take, refl, sym, ap, subst, append_assoc, append-nil, take_all}
use Rattle.std.proofs.lemmas.List.{map_push}
use Rattle.std.proofs.lemmas.List.Elements.{All-map}
use Rattle.std.proofs.lemmas.Option.{IfSome_then}
use Rattle.std.specs.List.{FoldsTo, AllZip}
use Rattle.json.specs.Token.{Token}
use Rattle.appender_log.specs.Json.{IsScalar, AreMembers, list_tokens}
use Rattle.appender_log.specs.JsonKept.{scalar_token, member_of, span_of, AddsShown}
use Rattle.appender_log.specs.declared.json_line.Scalar.{Scalar}
use Rattle.appender_log.specs.declared.json_line.Scalar.TheVariants as scalar
use Rattle.appender_log.specs.declared.json_line.Field.{Field}
use Rattle.appender_log.specs.declared.json_line.Span.{Span}

module _ {V A P : Type 0} (kept : V → List A) (shows : A → P → Type 0) where
  visited : (old : V) (ps : List P) (new : V) → FoldsTo (λ v p w. AddsShown shows (kept v) p (kept w)) old ps new
      → (xs : List A) × AllZip shows xs ps × (kept new ≡ kept old ++ xs)
  visited old [] new same = ([], tt, ap kept (sym same) ∙ sym (append-nil (kept old)))
  visited old (p ∷ ps) new steps =
      let first = steps.1 in
      let rest = visited steps.0 ps new steps.2 in
      (first.0 ∷ rest.0, (first.1, rest.1), rest.2 ∙ ap (λ xs. xs ++ rest.0) first.2 ∙ append_assoc (kept old) (first.0 ∷ []) rest.0)

  -- where nothing was kept before
  pub all_visited : (known : Option (List P)) (old new : V) → kept old ≡ []
      → IfSome known (λ ps. FoldsTo (λ v p w. AddsShown shows (kept v) p (kept w)) old ps new) → IfSome known (AllZip shows (kept new))
  all_visited known old new none steps =
      IfSome_then known steps (λ ps h.
      let all = visited old ps new h in
      subst (λ xs. AllZip shows xs ps) (sym (all.2 ∙ ap (λ xs. xs ++ all.0) none)) all.1)

-- one more in a list that is kept
pub one_more : {K A P : Type 0} (view : K → A) (shows : A → P → Type 0) (old : List K) (x : K) (new : List K) (item : P) → new ≡ old ++ x ∷ [] → shows (view x) item
    → AddsShown shows (map view old) item (map view new)
one_more view shows old x new item pushed shown = (view x, shown, ap (map view) pushed ∙ map_push view old x)

scalar_is : (s : Scalar) → IsScalar (scalar_token s)
scalar_is scalar.Null = refl
scalar_is (scalar.Bool b) = refl
scalar_is (scalar.Number n) = refl
scalar_is (scalar.Text s) = refl

pub fields_have_scalars : (fs : List Field) → All (λ m. IsScalar m.1) (map member_of fs)
fields_have_scalars fs = All-map (λ m. IsScalar m.1) member_of fs (λ k d h. scalar_is (get_or fs k d).value)

pub spans_have_members : (ss : List Span) → All (λ s. AreMembers None s.1) (map span_of ss)
spans_have_members ss = All-map (λ s. AreMembers None s.1) span_of ss (λ k d h. (fields_have_scalars (get_or ss k d).fields.items, tt))

module _ {A B : Type 0} (each : A → List Token) (view : B → A) where
  flat_map-map : (xs : List B) → flat_map each (map view xs) ≡ flat_map (λ x. each (view x)) xs
  flat_map-map [] = refl
  flat_map-map (x ∷ xs) = ap (λ ts. each (view x) ++ ts) (flat_map-map xs)

  module _ (name begin end : Token) where
    some_list : (xs : List B) → length xs ≢ 0 → list_tokens name begin end each (map view xs) ≡ name ∷ begin ∷ (flat_map (λ x. each (view x)) xs ++ end ∷ [])
    some_list [] some = absurd (some refl)
    some_list (x ∷ xs) some = ap (λ ts. name ∷ begin ∷ (ts ++ end ∷ [])) (flat_map-map (x ∷ xs))

    -- the brackets, and the items up to a place after the last
    pub list_is_written : (xs : List B) (n : ℕ) (ts : List Token) → length xs ≢ 0 → length xs ≤ n
        → (((ts ++ name ∷ []) ++ begin ∷ []) ++ flat_map (λ x. each (view x)) (take n xs)) ++ end ∷ [] ≡ ts ++ list_tokens name begin end each (map view xs)
    list_is_written xs n ts some all = rw (some_list xs some, take_all n xs all) (simp append_assoc)
