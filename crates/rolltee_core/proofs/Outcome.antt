-- What holds whatever an outcome is, and of three words.
use Rattle.std.proofs.Common.{◌≡◌, ◌≤◌, ◌<◌, List, [], ◌∷◌, length, Bool, true, false, OnOk, refl, sym, ap, ◌∙◌, arith, slice_index_or}
use Rattle.std.specs.Prelude.{Result, Ok, Err, IfOk, OnErr}
use Rattle.std.specs.Result.{is_ok}

pub on_err : {A E : Type 0} → (outcome : Result A E) → {P : Type 0} → P → OnErr outcome P
on_err (Ok a) p = tt
on_err (Err e) p = p

pub ok_is : {E : Type 0} → (answer : Result (Unit {0}) E) → is_ok answer ≡ true → answer ≡ Ok tt
ok_is (Ok done) good = refl
ok_is (Err e) good = absurd (let never : false ≡ true = good in cc)

pub ok_both : {A E : Type 0} (P Q : A → Type 0) (outcome : Result A E) → IfOk outcome P → IfOk outcome Q → IfOk outcome (λ a. P a × Q a)
ok_both P Q (Ok a) p q = (p, q)
ok_both P Q (Err e) p q = tt

pub ok_gives : {A E : Type 0} {P : A → Type 0} {Q : Type 0} (outcome : Result A E) → ((a : A) → P a → Q) → IfOk outcome P → OnOk outcome Q
ok_gives (Ok a) each p = each a p
ok_gives (Err e) each p = tt

pub on_ok : {A E : Type 0} {P Q : Type 0} (outcome : Result A E) → (P → Q) → OnOk outcome P → OnOk outcome Q
on_ok (Ok a) each p = each p
on_ok (Err e) each p = tt

pub err_gives : {A E : Type 0} {P Q : Type 0} (outcome : Result A E) → (P → Q) → OnErr outcome P → OnErr outcome Q
err_gives (Ok a) each p = tt
err_gives (Err e) each p = each p

-- a list of three
pub three_items : {A : Type 0} (xs : List A) (a b c : A) → 3 ≤ length xs → length xs < 4 → a ≡ slice_index_or xs 0 a → b ≡ slice_index_or xs 1 b → c ≡ slice_index_or xs 2 c
    → xs ≡ a ∷ b ∷ c ∷ []
three_items [] a b c long short first second third = absurd (omega (arith, long))
three_items (x ∷ []) a b c long short first second third = absurd (omega (arith, long))
three_items (x ∷ y ∷ []) a b c long short first second third = absurd (omega (arith, long))
three_items (x ∷ y ∷ z ∷ []) a b c long short first second third = ap (λ s. s ∷ y ∷ z ∷ []) (sym first) ∙ ap (λ s. a ∷ s ∷ z ∷ []) (sym second) ∙ ap (λ s. a ∷ b ∷ s ∷ []) (sym third)
three_items (x ∷ y ∷ z ∷ w ∷ xs) a b c long short first second third = absurd (omega (arith, short))
