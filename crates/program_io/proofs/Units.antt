-- Numbers of bytes.
use Rattle.std.proofs.Common.{◌≡◌, ◌<◌, ◌≤◌, ◌*◌, ◌^◌, ℕ, List, sym, ap, subst, ◌∙◌, arith}
use Rattle.std.proofs.lemmas.Nat.{mul-le}
use Rattle.std.specs.Prelude.{Option, None, Some, MatchOption, SomeIff}
use Rattle.std.specs.Str.Parse.{digits_value}
use Rattle.program_io.specs.declared.options.Kind.TheVariants.{Bytes, Count}
use Rattle.program_io.specs.Options.{split_unit, IsByteCount, IsPositiveNumber, IsNoValue}

-- without a number before the unit
pub no_digits : (text digits : List ℕ) (unit : ℕ) → (digits, unit) ≡ split_unit text → 1 ≤ unit → IsNoValue Count digits → IsNoValue Bytes text
no_digits text digits unit split from_one none n fits (count, is_count, value) =
    let some = mul-le count 1 count unit (omega arith) from_one in
    let value_is : n ≡ count * unit = value ∙ ap (λ (s : List ℕ × ℕ). count * s.1) (sym split) in
    none count (omega (arith, some, value_is, fits)) (subst (λ (s : List ℕ × ℕ). IsPositiveNumber s.0 count) (sym split) is_count)

-- a number times its unit, or none if that has more than 64 bits
pub product_is : (text digits : List ℕ) (count unit : ℕ) (product : Option ℕ) → (digits, unit) ≡ split_unit text → IsPositiveNumber digits count
    → SomeIff product (count * unit < 2 ^ 64) (count * unit) → MatchOption product (IsNoValue Bytes text) (IsByteCount text)
product_is text digits count unit (Some n) split number is =
    (count, subst (λ (s : List ℕ × ℕ). IsPositiveNumber s.0 count) split number, is.1 ∙ ap (λ (s : List ℕ × ℕ). count * s.1) split)
product_is text digits count unit None split number over = λ n fits (other, is, value).
    let counts : other ≡ count = is.value ∙ ap (λ (s : List ℕ × ℕ). digits_value 10 s.0) (sym split) ∙ sym number.value in
    let value_is : n ≡ count * unit = value ∙ ap (λ k. k * (split_unit text).1) counts ∙ ap (λ (s : List ℕ × ℕ). count * s.1) (sym split) in
    over (subst (λ m. m < 2 ^ 64) value_is fits)
