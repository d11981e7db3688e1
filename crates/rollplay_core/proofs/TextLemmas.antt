-- Texts in the form that they have in one line.
use Rattle.std.proofs.Common.{◌≡◌, ◌≢◌, ℕ, ◌<◌, ◌⊎◌, List, [], ◌∷◌, ◌++◌, All, length, get_or, refl, ap, sym, subst, ◌∙◌, arith, append_assoc, inl, inr}
use Rattle.std.proofs.lemmas.Bool.{cases_eq}
use Rattle.std.proofs.lemmas.Grind.{common_steps}
use Rattle.std.proofs.lemmas.List.{append-nil}
use Rattle.std.proofs.lemmas.List.Elements.{All-head, All-tail, All-from_get_or}
use Rattle.rollplay_core.specs.Text.{script_escape, BeginsWithByte, IsEscaped, IsNoEscapedText}

-- a byte that needs no escape
escape_of-plain : (b : ℕ) → b ≢ 10 → b ≢ 92 → script_escape b ≡ b ∷ []
escape_of-plain b n s = grind (arith, common_steps)

-- the byte that an escape denotes
pub escape_of-cases : (b : ℕ) (after behind : List ℕ) → 92 ∷ after ≡ script_escape b ++ behind → (after ≡ 110 ∷ behind) ⊎ (after ≡ 92 ∷ behind)
escape_of-cases b after behind e = elim (cases_eq b 10) [
  | inl ten ↦
      let first : 92 ∷ after ≡ 92 ∷ (110 ∷ behind) = subst (λ (x : ℕ). 92 ∷ after ≡ script_escape x ++ behind) ten e in
      inl (cc)
  | inr not_ten ↦ elim (cases_eq b 92) [
    | inl slash ↦
        let first : 92 ∷ after ≡ 92 ∷ (92 ∷ behind) = subst (λ (x : ℕ). 92 ∷ after ≡ script_escape x ++ behind) slash e in
        inr (cc)
    | inr plain ↦
        let first : 92 ∷ after ≡ b ∷ behind = e ∙ ap (λ x. x ++ behind) (escape_of-plain b not_ten plain) in
        let same : b ≡ 92 = cc in
        absurd (plain same)
  ]
]

-- a byte that isn't a backslash denotes itself
stands_first-plain : (b : ℕ) (rest : List ℕ) → b ≢ 92 → BeginsWithByte b (b ∷ rest) rest
stands_first-plain b rest s = elim (cases_eq b 10) [
  | inl ten ↦ inr (ten, ap (λ x. x ∷ rest) ten)
  | inr not_ten ↦ inl (sym (ap (λ x. x ++ rest) (escape_of-plain b not_ten s)))
]

-- and no other text denotes it
stands_first-rest : (a b : ℕ) (text rest : List ℕ) → b ≢ 92 → BeginsWithByte a (b ∷ text) rest → rest ≡ text
stands_first-rest a b text rest s stands = elim stands [
  | inl e ↦ elim (cases_eq a 10) [
    | inl ten ↦
        let first : b ∷ text ≡ 92 ∷ (110 ∷ rest) = subst (λ (x : ℕ). b ∷ text ≡ script_escape x ++ rest) ten e in
        let same : b ≡ 92 = cc in
        absurd (s same)
    | inr not_ten ↦ elim (cases_eq a 92) [
      | inl slash ↦
          let first : b ∷ text ≡ 92 ∷ (92 ∷ rest) = subst (λ (x : ℕ). b ∷ text ≡ script_escape x ++ rest) slash e in
          let same : b ≡ 92 = cc in
          absurd (s same)
      | inr plain ↦
          let first : b ∷ text ≡ a ∷ rest = e ∙ ap (λ x. x ++ rest) (escape_of-plain a not_ten plain) in
          cc
    ]
  ]
  | inr newline ↦ let first : b ∷ text ≡ 10 ∷ rest = newline.1 in cc
]

apart : (xs ys : List ℕ) → 110 ∷ xs ≡ 92 ∷ ys → ⊥
apart xs ys e = omega (arith, ap (λ (bs : List ℕ). get_or bs 0 0) e)

some_byte : (b : ℕ) (bs : List ℕ) → b ∷ bs ≡ [] → ⊥
some_byte b bs e = cc

-- a text without a backslash denotes itself
front-stands : (before more rest : List ℕ) → All (λ b. b ≢ 92) before → IsEscaped more rest → IsEscaped (before ++ more) (before ++ rest)
front-stands [] more rest plain escaped = escaped
front-stands (b ∷ bs) more rest plain escaped =
    (bs ++ rest, stands_first-plain b (bs ++ rest) (All-head (λ x. x ≢ 92) b bs plain), front-stands bs more rest (All-tail (λ x. x ≢ 92) b bs plain) escaped)

-- and the text after it denotes something
front-leaves : (before rest all : List ℕ) → All (λ b. b ≢ 92) before → IsEscaped all (before ++ rest) → (more : List ℕ) × IsEscaped more rest
front-leaves [] rest all plain escaped = (all, escaped)
front-leaves (b ∷ bs) rest [] plain escaped = absurd (some_byte b (bs ++ rest) escaped)
front-leaves (b ∷ bs) rest (a ∷ as') plain (left, stands, escaped) =
    front-leaves bs rest as' (All-tail (λ x. x ≢ 92) b bs plain)
    (subst (λ (x : List ℕ). IsEscaped as' x) (stands_first-rest a b (bs ++ rest) left (All-head (λ x. x ≢ 92) b bs plain) stands) escaped)

-- after an escape
escape-leaves : (after behind all : List ℕ) (c : ℕ) → 92 ∷ after ≡ script_escape c ++ behind → IsEscaped all (92 ∷ after)
    → (more : List ℕ) × IsEscaped more behind
escape-leaves after behind [] c escape escaped = absurd (some_byte 92 after escaped)
escape-leaves after behind (a ∷ more) c escape (left, stands, escaped) = elim stands [
  | inl e ↦
      let same : left ≡ behind = elim (escape_of-cases a after left e) [
        | inl n ↦ elim (escape_of-cases c after behind escape) [
          | inl m ↦ cc
          | inr m ↦ absurd (apart left behind (sym n ∙ m))
        ]
        | inr n ↦ elim (escape_of-cases c after behind escape) [
          | inl m ↦ absurd (apart behind left (sym m ∙ n))
          | inr m ↦ cc
        ]
      ] in
      (more, subst (λ (x : List ℕ). IsEscaped more x) same escaped)
  | inr newline ↦ absurd (omega (arith, ap (λ (bs : List ℕ). get_or bs 0 0) newline.1))
]

-- a backslash that begins no escape denotes nothing
no_escape : (after all : List ℕ) → ((b : ℕ) (rest : List ℕ) → 92 ∷ after ≢ script_escape b ++ rest) → ¬ (IsEscaped all (92 ∷ after))
no_escape after [] none escaped = some_byte 92 after escaped
no_escape after (a ∷ more) none (left, stands, escaped) = elim stands [
  | inl e ↦ none a left e
  | inr newline ↦ omega (arith, ap (λ (bs : List ℕ). get_or bs 0 0) newline.1)
]

-- The text was resolved up to this rest. The text has a plain form exactly if the rest has one.
pub record IsResolved (text done rest : List ℕ) : Type 0 where
  pub grows : (more : List ℕ) → IsEscaped more rest → IsEscaped (done ++ more) text
  pub leaves : (all : List ℕ) → IsEscaped all text → (more : List ℕ) × IsEscaped more rest

-- before the first escape
pub resolved_none : (text : List ℕ) → IsResolved text [] text
resolved_none text = record { grows = λ more escaped. escaped; leaves = λ all escaped. (all, escaped) }

module _ (text done rest before : List ℕ) (resolved : IsResolved text done rest) where
  module _ (after : List ℕ) (split : rest ≡ before ++ (92 ∷ after)) (plain : (i : ℕ) → i < length before → get_or before i 0 ≢ 92) where
    -- one more escape is resolved
    pub resolved_more : (behind : List ℕ) (c : ℕ) → 92 ∷ after ≡ script_escape c ++ behind → IsResolved text ((done ++ before) ++ (c ∷ [])) behind
    resolved_more behind c escape =
        let front : All (λ b. b ≢ 92) before = All-from_get_or (λ b. b ≢ 92) before 0 plain in
        record {
          grows = λ more escaped.
              let joined : done ++ (before ++ (c ∷ more)) ≡ ((done ++ before) ++ (c ∷ [])) ++ more =
              sym (append_assoc (done ++ before) (c ∷ []) more ∙ append_assoc done before (c ∷ more)) in
              let stands : IsEscaped (before ++ (c ∷ more)) (before ++ (92 ∷ after)) =
              front-stands before (c ∷ more) (92 ∷ after) front (behind, inl escape, escaped) in
              subst (λ (x : List ℕ). IsEscaped x text) joined
              (resolved.grows (before ++ (c ∷ more)) (subst (λ (x : List ℕ). IsEscaped (before ++ (c ∷ more)) x) (sym split) stands));
          leaves = λ all escaped.
              let left = resolved.leaves all escaped in
              let next = front-leaves before (92 ∷ after) left.0 front (subst (λ (x : List ℕ). IsEscaped left.0 x) split left.1) in
              escape-leaves after behind next.0 c escape next.1;
        }

    -- no escape begins with the next backslash
    pub resolved_no_more : ((b : ℕ) (left : List ℕ) → 92 ∷ after ≢ script_escape b ++ left) → IsNoEscapedText text
    resolved_no_more none all escaped =
        let front : All (λ b. b ≢ 92) before = All-from_get_or (λ b. b ≢ 92) before 0 plain in
        let left = resolved.leaves all escaped in
        let next = front-leaves before (92 ∷ after) left.0 front (subst (λ (x : List ℕ). IsEscaped left.0 x) split left.1) in
        no_escape after next.0 none next.1

-- no backslash is left
pub resolved_last : (text done rest : List ℕ) → IsResolved text done rest → ((i : ℕ) → i < length rest → get_or rest i 0 ≢ 92) → IsEscaped (done ++ rest) text
resolved_last text done rest resolved plain =
    let front : All (λ b. b ≢ 92) rest = All-from_get_or (λ b. b ≢ 92) rest 0 plain in
    let stands : IsEscaped (rest ++ []) (rest ++ []) = front-stands rest [] [] front refl in
    let whole : IsEscaped rest rest = subst (λ (x : List ℕ). IsEscaped x x) (append-nil rest) stands in
    resolved.grows rest whole
