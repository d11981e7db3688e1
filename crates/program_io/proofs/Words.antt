-- Words of which none begins with a dash.
use Rattle.std.proofs.Common.{◌≡◌, ◌≢◌, ◌⊎◌, ℕ, zero, suc, length, List, [], ◌∷◌, ◌++◌, false, inl, inr, refl, arith, sym, ap, ap₂, subst, ◌∙◌, append_assoc, append-nil, map, string_bytes}
use Rattle.std.proofs.lemmas.List.{map-append}
use Rattle.std.specs.Prelude.{String}
use Rattle.std.specs.declared.alloc.Global.{Global}
use Rattle.program_io.specs.Options.{begins_with_dash}
use Rattle.program_io.specs.Options.{AddsArgument, AreDefaults, AreUndashed, IsPlain, IsRead, ReadsWord, ReadsWords}
use Rattle.program_io.specs.declared.options.Next.{Next}
use Rattle.program_io.specs.declared.options.Next.TheVariants.{Any, Value, Argument, Help, Version}
use Rattle.program_io.specs.declared.options.OptionName.{OptionName}
use Rattle.program_io.specs.declared.options.Reading.{Reading}
use Rattle.program_io.specs.declared.options.Request.{Request}
use Rattle.program_io.specs.declared.options.Request.TheVariants.{Help as AsksHelp, Version as AsksVersion, Run}

-- the words before the rest were taken as arguments
record PlainSoFar (words rest : List (String Global)) (r : Reading) : Type 0 where
  pub taken : List (String Global)
  pub split : words ≡ taken ++ rest
  pub options : AreDefaults r.options
  pub texts : map string_bytes r.arguments.items ≡ map string_bytes taken
  pub any : r.next ≡ Any

undashed_at : (taken : List (String Global)) (word : String Global) (rest : List (String Global)) → AreUndashed (taken ++ (word ∷ rest))
    → begins_with_dash (string_bytes word) ≡ false
undashed_at [] word rest all = all.0
undashed_at (first ∷ taken) word rest all = undashed_at taken word rest all.1

plain_word : (word : String Global) (old new : Reading) → begins_with_dash (string_bytes word) ≡ false → old.next ≡ Any
    → ReadsWord old.next (string_bytes word) old new → AddsArgument (string_bytes word) old new
plain_word word old new undashed any takes =
    elim (subst (λ next. ReadsWord next (string_bytes word) old new) any takes) [
      | inl dashed ↦ absurd (cc)
      | inr adds ↦ adds.1
    ]

plain_so_far : (words : List (String Global)) (k : ℕ) (rest : List (String Global)) (r : Reading) → AreUndashed words
    → ReadsWords words k rest r → PlainSoFar words rest r
plain_so_far words zero rest r all reached = record {
  taken = [];
  split = sym reached.0;
  options = reached.1;
  texts = ap (map string_bytes) reached.2;
  any = reached.3;
}
plain_so_far words (suc k) rest r all (word, before, reached, takes) =
    let so : PlainSoFar words (word ∷ rest) before = plain_so_far words k (word ∷ rest) before all reached in
    let undashed = undashed_at so.taken word rest (subst AreUndashed so.split all) in
    let adds = plain_word word before r undashed so.any takes in
    record {
      taken = so.taken ++ (word ∷ []);
      split = so.split ∙ sym (append_assoc so.taken (word ∷ []) rest);
      options = subst AreDefaults (sym adds.options) so.options;
      texts = ap (map string_bytes) adds.arguments ∙ map-append string_bytes before.arguments.items (adds.argument ∷ [])
          ∙ ap₂ (λ a b. a ++ (b ∷ [])) so.texts adds.bytes ∙ sym (map-append string_bytes so.taken (word ∷ []));
      any = adds.next ∙ so.any;
    }

pub plain_request : (words : List (String Global)) (request : Request) → AreUndashed words → IsRead words request → IsPlain words request
plain_request words AsksHelp all (k, rest, r, reached, asks) =
    let so = plain_so_far words k rest r all reached in absurd (cc)
plain_request words AsksVersion all (k, rest, r, reached, asks) =
    let so = plain_so_far words k rest r all reached in absurd (cc)
plain_request words (Run options arguments) all (k, r, reached, options_are, arguments_are, at_end) =
    let so = plain_so_far words k [] r all reached in (
      subst AreDefaults options_are so.options,
      ap (λ v. map string_bytes v.items) (sym arguments_are) ∙ so.texts ∙ ap (map string_bytes) (sym (so.split ∙ append-nil so.taken)),
    )

-- reading goes on after the word
abbrev pub GoesOn : Next → Type 0
GoesOn Help = ⊥
GoesOn Version = ⊥
GoesOn next = Unit {0}

pub open_next : (next : Next) → next ≢ Help → next ≢ Version → GoesOn next
open_next Any h v = tt
open_next (Value name) h v = tt
open_next Argument h v = tt
open_next Help h v = h refl
open_next Version h v = v refl

-- one more word was read
pub next_reached : (words before after : List (String Global)) (word : String Global) (old new : Reading)
    → (k : ℕ) × ReadsWords words k before old → before ≡ word ∷ after → ReadsWord old.next (string_bytes word) old new → (k : ℕ) × ReadsWords words k after new
next_reached words before after word old new (k, reached) split takes =
    (suc k, (word, old, subst (λ rest. ReadsWords words k rest old) split reached, takes))

-- what the next word may be at the end
ends_with : (next : Next) → GoesOn next → ((name : OptionName) → next ≢ Value name) → (next ≡ Any) ⊎ (next ≡ Argument)
ends_with Any on value = inl refl
ends_with Argument on value = inr refl
ends_with (Value name) on value = absurd (value name refl)
ends_with Help on value = absurd on
ends_with Version on value = absurd on

pub no_words : (words : List (String Global)) → length words ≡ 0 → words ≡ []
no_words [] e = refl
no_words (word ∷ words) e = absurd (omega (arith, e))

pub at_end : (words rest : List (String Global)) (r : Reading) → (k : ℕ) × ReadsWords words k rest r → length rest ≡ 0 → GoesOn r.next
    → ((name : OptionName) → r.next ≢ Value name) → IsRead words (Run r.options r.arguments)
at_end words rest r (k, reached) empty on value =
    (k, r, subst (λ rest. ReadsWords words k rest r) (no_words rest empty) reached, refl, refl, ends_with r.next on value)
