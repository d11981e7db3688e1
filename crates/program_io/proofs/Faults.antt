-- Words that faults name.
use Rattle.std.proofs.Common.{◌≡◌, ℕ, Bor, length, zero, suc, List, [], ◌∷◌, inl, inr, refl, sym, ap, subst, ◌∙◌, string_bytes, rules}
use Rattle.std.proofs.lemmas.List.Elements.{Contains-append_right}
use Rattle.std.specs.Prelude.{String, Contains}
use Rattle.std.specs.declared.alloc.Global.{Global}
use Rattle.program_io.specs.Options.{option_word, IsFaultOf, IsNextAfter, IsWrong, IsWrongOption, NamesSomeWord, ReadsWord, ReadsWords, Rejects}
use Rattle.program_io.specs.declared.options.Next.{Next}
use Rattle.program_io.specs.declared.options.Next.TheVariants.{Any, Value, Argument, Help, Version}
use Rattle.program_io.proofs.Words.{no_words}
use Rattle.program_io.specs.declared.options.OptionError.{OptionError}
use Rattle.program_io.specs.declared.options.OptionError.TheVariants.{Missing}
use Rattle.program_io.specs.declared.options.Options.{Options}
use Rattle.program_io.specs.declared.options.OptionFault.{OptionFault}
use Rattle.program_io.specs.declared.options.OptionFault.TheVariants.{Unknown, Wrong, Memory as NoMemory}
use Rattle.program_io.specs.declared.options.Reading.{Reading}
use Rattle.program_io.specs.declared.options.OptionName.{OptionName}

-- what is left is of the words
contained : (words : List (String Global)) (k : ℕ) (rest : List (String Global)) (r : Reading) (word : String Global) → ReadsWords words k rest r
    → Contains rest word → Contains words word
contained words zero rest r word reached within = subst (λ all. Contains all word) reached.0 within
contained words (suc k) rest r word (last, before, reached, takes) within =
    contained words k (last ∷ rest) before word reached (Contains-append_right (last ∷ []) rest word within)

next_word : (words : List (String Global)) (k : ℕ) (word : String Global) (rest : List (String Global)) (r : Reading)
    → ReadsWords words k (word ∷ rest) r → Contains words word
next_word words k word rest r reached = contained words k (word ∷ rest) r word reached (0, search rules, refl)

value_after : (next : Next) (name : OptionName) (word : List ℕ) (old new : Reading) → old.next ≡ next → ReadsWord next word old new
    → new.next ≡ Value name → word ≡ option_word name
value_after Any name word old new at (inl (dashed, inl (next, is_next, after))) value =
    let next_is : next ≡ Value name = sym (ap (λ (r : Reading). r.next) after) ∙ value in
    (subst (IsNextAfter word) next_is is_next).0
value_after Any name word old new at (inl (dashed, inr (other, given, is_set, sets, after))) value =
    let same = ap (λ (r : Reading). r.next) after in absurd (cc)
value_after Any name word old new at (inr (undashed, adds)) value =
    let same = adds.next in absurd (cc)
value_after (Value other) name word old new at (undashed, sets, after) value =
    let same = ap (λ (r : Reading). r.next) after in absurd (cc)
value_after Argument name word old new at takes value = let same = takes.next in absurd (cc)
value_after Help name word old new at takes value = let same = takes.next in absurd (cc)
value_after Version name word old new at takes value = let same = takes.next in absurd (cc)

option_given : (words : List (String Global)) (k : ℕ) (rest : List (String Global)) (r : Reading) (name : OptionName) → ReadsWords words k rest r
    → r.next ≡ Value name → (word : String Global) × Contains words word × (string_bytes word ≡ option_word name)
option_given words zero rest r name reached value = absurd (cc)
option_given words (suc k) rest r name (word, before, reached, takes) value =
    (word, next_word words k word rest before reached, value_after before.next name (string_bytes word) before r refl takes value)

names_option : (words : List (String Global)) (k : ℕ) (rest : List (String Global)) (r : Reading) (name : OptionName) (reason : OptionError → Type 0)
    (fault : OptionFault) → ReadsWords words k rest r → r.next ≡ Value name → IsWrong name reason fault → NamesSomeWord words fault
names_option words k rest r name reason (Unknown text) reached value wrong = absurd wrong
names_option words k rest r name reason (Wrong word error) reached value wrong =
    let given = option_given words k rest r name reached value in (given.0, given.1, inl (given.2 ∙ sym wrong.0))
names_option words k rest r name reason NoMemory reached value wrong = tt

names_word : (words : List (String Global)) (word : String Global) (o : Options) (fault : OptionFault) → Contains words word
    → IsWrongOption (string_bytes word) o fault → NamesSomeWord words fault
names_word words word o (Unknown text) contained wrong = (word, contained, wrong.0)
names_word words word o (Wrong name error) contained (option, value, inl (is_flag, flag), name_is, reason) =
    (word, contained, inl (is_flag ∙ sym name_is))
names_word words word o (Wrong name error) contained (option, value, inr (word_is, valued), name_is, reason) =
    (word, contained, inr (value, rw name_is word_is))
names_word words word o NoMemory contained wrong = tt

names_rejected : (next : Next) (words : List (String Global)) (k : ℕ) (word : String Global) (rest : List (String Global)) (r : Reading) (fault : OptionFault)
    → r.next ≡ next → ReadsWords words k (word ∷ rest) r → Rejects next (string_bytes word) r.options fault → NamesSomeWord words fault
names_rejected (Value name) words k word rest r fault at reached (inl (dashed, wrong)) =
    names_option words k (word ∷ rest) r name _ fault reached at wrong
names_rejected (Value name) words k word rest r fault at reached (inr (undashed, wrong)) =
    names_option words k (word ∷ rest) r name _ fault reached at wrong
names_rejected Any words k word rest r fault at reached wrong =
    names_word words word r.options fault (next_word words k word rest r reached) wrong
names_rejected Argument words k word rest r fault at reached memory = subst (NamesSomeWord words) (sym memory) tt
names_rejected Help words k word rest r fault at reached memory = subst (NamesSomeWord words) (sym memory) tt
names_rejected Version words k word rest r fault at reached memory = subst (NamesSomeWord words) (sym memory) tt

-- a fault names one of the words
pub names_some : (words : List (String Global)) (fault : OptionFault) → IsFaultOf words fault → NamesSomeWord words fault
names_some words fault (inl (k, word, rest, r, reached, rejects)) = names_rejected r.next words k word rest r fault refl reached rejects
names_some words fault (inr (k, r, name, reached, value, wrong)) =
    names_option words k [] r name (λ reason. reason ≡ Missing) fault reached value wrong

-- the next word is rejected
pub fault_of_word : (words before after : List (String Global)) (word : String Global) (r : Reading) (fault : OptionFault)
    → (k : ℕ) × ReadsWords words k before r → before ≡ word ∷ after → Rejects r.next (string_bytes word) r.options fault → IsFaultOf words fault
fault_of_word words before after word r fault (k, reached) split rejects =
    inl (k, word, after, r, subst (λ rest. ReadsWords words k rest r) split reached, rejects)

-- the last option has no value
pub fault_at_end : (words rest : List (String Global)) (r : Reading) (name : OptionName) (word : Bor (List ℕ)) → (k : ℕ) × ReadsWords words k rest r
    → length rest ≡ 0 → r.next ≡ Value name → word.now ≡ option_word name → IsFaultOf words (Wrong word Missing)
fault_at_end words rest r name word (k, reached) empty value word_is =
    inr (k, r, name, subst (λ rest. ReadsWords words k rest r) (no_words rest empty) reached, value, (word_is, refl))
