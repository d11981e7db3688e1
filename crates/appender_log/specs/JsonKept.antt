-- What is kept of a record until its line is written.
use Rattle.std.specs.Prelude.{◌≡◌, List, [], ◌∷◌, ◌++◌, string_bytes, map, Result, OnOk}
use Rattle.json.specs.Token.{Token, string, number, boolean, null}
use Rattle.json.specs.Written.{Written}
use Rattle.appender_log.specs.Json as json
use Rattle.appender_log.specs.declared.json_line.Scalar.{Scalar}
use Rattle.appender_log.specs.declared.json_line.Scalar.TheVariants as scalar
use Rattle.appender_log.specs.declared.json_line.Field.{Field}
use Rattle.appender_log.specs.declared.json_line.Span.{Span}

abbrev pub scalar_token : Scalar → Token
scalar_token scalar.Null = null
scalar_token (scalar.Bool b) = boolean b
scalar_token (scalar.Number n) = number (string_bytes n.text)
scalar_token (scalar.Text s) = string (string_bytes s)

abbrev pub member_of : Field → json.Member
member_of f = (string_bytes f.key, scalar_token f.value)

abbrev pub span_of : Span → json.Span
span_of s = (string_bytes s.name, map member_of s.fields.items)

-- one more that shows the item
abbrev pub AddsShown : {A P : Type 0} → (A → P → Type 0) → List A → P → List A → Type 0
AddsShown {A} shows old item new = (x : A) × shows x item × (new ≡ old ++ x ∷ [])

-- a writer gets these tokens if it does not fail
abbrev pub PutsTokens : {E : Type 0} → Result (Unit {0}) E → Written → Written → List Token → Type 0
PutsTokens r old new ts = OnOk r ((new.before ≡ old.before) × (new.tokens ≡ old.tokens ++ ts))
