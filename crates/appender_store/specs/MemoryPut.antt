-- What may be put into a folder in memory.
use Rattle.std.specs.Prelude.{◌≡◌, ℕ, if◌then◌else◌, List, Option, None, Some, is_some, Result, MatchResult, unwrap_or}
use Rattle.std.specs.FinMap as fin
use Rattle.appender_names.specs.Name.{is_entry}
use Rattle.appender_store.specs.Content.{NameMap}
use Rattle.appender_store.specs.declared.store.put.PutError.{PutError}
use Rattle.appender_store.specs.declared.store.put.PutError.TheVariants.{Name, Used, Memory}

-- why nothing can be put under a name
abbrev pub put_refusal : NameMap → List ℕ → Option PutError
put_refusal names n = if is_entry n then (if is_some (fin.get names n) then Some Used else None) else Some Name

-- The result of a put: its refusal, and `Memory` only where there is none.
abbrev pub AnswersPut : NameMap → List ℕ → Result (Unit {0}) PutError → Type 0
AnswersPut names n result = MatchResult result (λ _. put_refusal names n ≡ None) (λ e. e ≡ unwrap_or (put_refusal names n) Memory)
