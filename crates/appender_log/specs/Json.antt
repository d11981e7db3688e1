-- Records as JSON (RFC 8259), each an object on a line of its own.
use Rattle.std.specs.Prelude.{◌≡◌, ◌&&◌, ℕ, ℤ, List, [], ◌∷◌, ◌++◌, Option, None, IfSome, IsTrue, All, IsUtf8, flat_map, codes}
use Rattle.std.specs.List.{AllZip}
use Rattle.std.specs.Option.{option_map_or}
use Rattle.appender_log.specs.Time.{time_text}
use Rattle.json.specs.Token.{Token, begin_object, end_object, begin_array, end_array, key, string, number, boolean, null}
use Rattle.json.specs.Lex.{tokens}
use Rattle.json.specs.Print.{begins, ends, print}
use Rattle.log.specs.declared.level.Level.{Level}
use Rattle.log.specs.declared.record.Record.{Record}
use Rattle.log.specs.Level.{level_name}
use Rattle.log.specs.Record.{metadata_level, metadata_target, record_metadata, record_args, record_key_values, record_spans}
use Rattle.log.specs.Kv.{Pair, bool_text}
use Rattle.log.specs.Span.{Scope}

-- a name and the token of its value; a span's name and its fields
abbrev pub Member : Type 0
Member = List ℕ × Token

abbrev pub Span : Type 0
Span = List ℕ × List Member

-- a token that is a whole value
abbrev pub IsScalar : Token → Type 0
IsScalar t = IsTrue (begins t && ends t)

-- the token shows what `{}` writes for a value
abbrev pub ShowsText : Token → List ℕ → Type 0
ShowsText (string s) text = s ≡ text
ShowsText (number s) text = s ≡ text
ShowsText (boolean b) text = bool_text b ≡ text
ShowsText null text = codes "None" ≡ text
ShowsText _ text = ⊥

abbrev pub ShowsPair : Member → Pair → Type 0
ShowsPair m pair = (m.0 ≡ pair.0) × ShowsText m.1 pair.1

abbrev pub ShowsScope : Span → Scope → Type 0
ShowsScope span scope = (span.0 ≡ scope.0) × AllZip ShowsPair span.1 scope.1

-- members with scalars, which show these pairs if they are known
abbrev pub AreMembers : Option (List Pair) → List Member → Type 0
AreMembers known ms = All (λ m. IsScalar m.1) ms × IfSome known (AllZip ShowsPair ms)

-- spans with members, which show these scopes if they are known
abbrev pub AreSpans : Option (List Scope) → List Span → Type 0
AreSpans known spans = All (λ s. AreMembers None s.1) spans × IfSome known (AllZip ShowsScope spans)

-- `"name":"text"`; `"name":value`
abbrev pub text_tokens : List ℕ → List ℕ → List Token
text_tokens name text = key name ∷ string text ∷ []

abbrev pub member_tokens : Member → List Token
member_tokens m = key m.0 ∷ m.1 ∷ []

-- a name and a list between brackets, or nothing if the list is empty
abbrev pub list_tokens : {A : Type 0} → Token → Token → Token → (A → List Token) → List A → List Token
list_tokens name begin end each [] = []
list_tokens name begin end each (x ∷ xs) = name ∷ begin ∷ [] ++ flat_map each (x ∷ xs) ++ end ∷ []

-- `"fields":{"rows":3}`; `{"name":"request","fields":{"id":7}}`; `"spans":[..]`
abbrev pub fields_tokens : List Member → List Token
fields_tokens = list_tokens (key (codes "fields")) begin_object end_object member_tokens

abbrev pub span_tokens : Span → List Token
span_tokens s = begin_object ∷ [] ++ text_tokens (codes "name") s.0 ++ fields_tokens s.1 ++ end_object ∷ []

abbrev pub spans_tokens : List Span → List Token
spans_tokens = list_tokens (key (codes "spans")) begin_array end_array span_tokens

abbrev pub time_tokens : Option ℤ → List Token
time_tokens nanos = option_map_or (λ n. text_tokens (codes "timestamp") (time_text n)) nanos []

abbrev pub record_tokens : Option ℤ → Level → List ℕ → List ℕ → List Span → List Member → List Token
record_tokens nanos level target message spans fields =
    begin_object ∷ [] ++ time_tokens nanos ++ text_tokens (codes "level") (level_name level) ++ text_tokens (codes "target") target
    ++ text_tokens (codes "message") message ++ spans_tokens spans ++ fields_tokens fields ++ end_object ∷ []

-- these tokens as JSON, and a newline
pub record IsJsonLine (ts : List Token) (line : List ℕ) : Type 0 where
  pub json : List ℕ
  pub is_line : line ≡ json ++ codes "\n"
  pub is_printed : json ≡ print ts
  -- what a JSON reader finds
  pub reads_back : tokens json ≡ ts
  pub is_utf8 : IsUtf8 json

-- the line of a record with this time, if it has one, this level and this target; it shows the text, the scopes and the
-- pairs that are known
pub record ShowsRecord (nanos : Option ℤ) (level : Level) (target : List ℕ) (text : Option (List ℕ)) (scopes : Option (List Scope)) (pairs : Option (List Pair))
    (line : List ℕ) : Type 0 where
  pub message : List ℕ
  pub spans : List Span
  pub fields : List Member
  pub shows_text : IfSome text (λ t. message ≡ t)
  pub shows_scopes : AreSpans scopes spans
  pub shows_pairs : AreMembers pairs fields
  pub is_json : IsJsonLine (record_tokens nanos level target message spans fields) line

-- the same of a record, where the first three arguments are the members of `D`, `K` and `S`
abbrev pub IsRecordJson : {D K S : Type 0} → (D → Option (List ℕ)) → (K → Option (List Pair)) → (S → Option (List Scope)) → Option ℤ → Record D K S → List ℕ → Type 0
IsRecordJson output pairs scopes nanos r =
    ShowsRecord nanos (metadata_level (record_metadata r)) (metadata_target (record_metadata r)) (output (record_args r)) (scopes (record_spans r))
    (pairs (record_key_values r))
