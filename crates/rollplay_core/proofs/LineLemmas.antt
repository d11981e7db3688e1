-- A line is read in one way.
use Rattle.std.proofs.Common.{◌≡◌, ℕ, List, [], ◌∷◌, ◌++◌, ◌≢◌, get_or, lit<, Option, None, Some, codes, if◌then◌else◌, refl, ap, sym, subst, ◌∙◌, inl, inr, unwrap_or}
use Rattle.std.specs.List.{All, AllByRecursion}
use Rattle.std.specs.Str.{bytes_eq}
use Rattle.std.proofs.lemmas.List.{append_cancel_left}
use Rattle.std.proofs.lemmas.List.Elements.{All-cons}
use Rattle.rollplay_core.specs.declared.line.ScriptLine.{ScriptLine}
use Rattle.rollplay_core.specs.Words.{tail_of, TakesWord, HasNoWord, TakesWordOf, TakesNoWordOf}
use Rattle.rollplay_core.specs.Text.{IsNoEscapedText}
use Rattle.rollplay_core.specs.Line.{LineKind, rotation, prefix, suffix, link, maximum, byte_limit, by_name, continues, created, file, folder, link_at, absent, failing, shortened, start, see, put, write, flush, queue, offer, shut, add, drop, work, first_word, log_kinds, folder_kinds, run_kinds, queue_kinds, HasArguments, IsNotOf, BeginsWith, ContinuesWith, TakesText}

-- the text after a word determines what is left
tail_of-once : (r s : Option (List ℕ)) → tail_of r ≡ tail_of s → r ≡ s
tail_of-once None None e = refl
tail_of-once None (Some s) e = absurd (cc)
tail_of-once (Some r) None e = absurd (cc)
tail_of-once (Some r) (Some s) e = cc

-- one word can be taken from what is left of a line
pub takes_once : (old : Option (List ℕ)) (v w : List ℕ) (r s : Option (List ℕ)) → TakesWord old v r → TakesWord old w s → (v ≡ w) × (r ≡ s)
takes_once None v w r s a b = absurd a.first
takes_once (Some line) v w r s a b =
    let word : v ≡ w = a.first ∙ sym b.first in
    let joined : w ++ tail_of r ≡ w ++ tail_of s = ap (λ x. x ++ tail_of r) (sym word) ∙ (sym a.rest ∙ b.rest) in
    (word, tail_of-once r s (append_cancel_left w _ _ joined))

pub takes_none : (old : Option (List ℕ)) (w : List ℕ) (r : Option (List ℕ)) → TakesWord old w r → HasNoWord old → ⊥
takes_none None w r a none = a.first
takes_none (Some line) w r a none = a.some (a.first ∙ none)

-- the kind that a first word is of
abbrev kind_from : List ℕ → Option LineKind
kind_from word =
    if bytes_eq word (codes "rotation") then Some rotation else (
    if bytes_eq word (codes "prefix") then Some prefix else (
    if bytes_eq word (codes "suffix") then Some suffix else (
    if bytes_eq word (codes "link") then Some link else (
    if bytes_eq word (codes "max") then Some maximum else (
    if bytes_eq word (codes "bytes") then Some byte_limit else (
    if bytes_eq word (codes "by-name") then Some by_name else (
    if bytes_eq word (codes "continue") then Some continues else (
    if bytes_eq word (codes "created") then Some created else (
    if bytes_eq word (codes "file") then Some file else (
    if bytes_eq word (codes "folder") then Some folder else (
    if bytes_eq word (codes "link-at") then Some link_at else (
    if bytes_eq word (codes "absent") then Some absent else (
    if bytes_eq word (codes "fail") then Some failing else (
    if bytes_eq word (codes "short") then Some shortened else (
    if bytes_eq word (codes "start") then Some start else (
    if bytes_eq word (codes "see") then Some see else (
    if bytes_eq word (codes "put") then Some put else (
    if bytes_eq word (codes "write") then Some write else (
    if bytes_eq word (codes "flush") then Some flush else (
    if bytes_eq word (codes "queue") then Some queue else (
    if bytes_eq word (codes "offer") then Some offer else (
    if bytes_eq word (codes "shut") then Some shut else (
    if bytes_eq word (codes "add") then Some add else (
    if bytes_eq word (codes "drop") then Some drop else (
    if bytes_eq word (codes "work") then Some work else None)))))))))))))))))))))))))

first_word-tells : (k : LineKind) → kind_from (first_word k) ≡ Some k
first_word-tells rotation = refl
first_word-tells prefix = refl
first_word-tells suffix = refl
first_word-tells link = refl
first_word-tells maximum = refl
first_word-tells byte_limit = refl
first_word-tells by_name = refl
first_word-tells continues = refl
first_word-tells created = refl
first_word-tells file = refl
first_word-tells folder = refl
first_word-tells link_at = refl
first_word-tells absent = refl
first_word-tells failing = refl
first_word-tells shortened = refl
first_word-tells start = refl
first_word-tells see = refl
first_word-tells put = refl
first_word-tells write = refl
first_word-tells flush = refl
first_word-tells queue = refl
first_word-tells offer = refl
first_word-tells shut = refl
first_word-tells add = refl
first_word-tells drop = refl
first_word-tells work = refl

one_kind : (j k : LineKind) → first_word j ≡ first_word k → j ≡ k
one_kind j k e =
    let some : Some j ≡ Some k = sym (first_word-tells j) ∙ (ap kind_from e ∙ first_word-tells k) in
    ap (λ (o : Option LineKind). unwrap_or o j) some

-- the text after a first word belongs to the one kind that has this word
goes_on_as : (word : List ℕ) (rest : Option (List ℕ)) (line : ScriptLine) (left : Option (List ℕ)) (j k : LineKind) → word ≡ first_word j → word ≡ first_word k → HasArguments k rest line left → HasArguments j rest line left
goes_on_as word rest line left j k own other arguments =
    subst (λ (i : LineKind). HasArguments i rest line left) (one_kind k j (sym other ∙ own)) arguments

module _ (word : List ℕ) (rest : Option (List ℕ)) where
  -- if the word is that of a kind, and no arguments of this kind follow, no arguments of any kind follow
  pub none_behind : (kinds : List LineKind) (j : LineKind) → word ≡ first_word j
      → ((line : ScriptLine) (left : Option (List ℕ)) → ¬ HasArguments j rest line left) → All (IsNotOf word rest) kinds
  none_behind kinds j own none n d lt = λ other line left arguments.
      none line left (goes_on_as word rest line left j (get_or kinds n d) own other arguments)

  -- if the word is of none of these kinds, the other kinds decide
  pub none_unless : (kinds others : List LineKind) → AllByRecursion (λ k. word ≢ first_word k) kinds → All (IsNotOf word rest) others
      → All (IsNotOf word rest) (kinds ++ others)
  none_unless [] others not none = none
  none_unless (k ∷ kinds) others not none =
      All-cons (IsNotOf word rest) k (kinds ++ others) (λ own. absurd (not.0 own)) (none_unless kinds others not.1 none)

  -- these are all the kinds
  pub none_at_all : All (IsNotOf word rest) (log_kinds ++ folder_kinds ++ run_kinds ++ queue_kinds) → (k : LineKind) → IsNotOf word rest k
  none_at_all none rotation = none 0 rotation (lit< tt)
  none_at_all none prefix = none 1 prefix (lit< tt)
  none_at_all none suffix = none 2 suffix (lit< tt)
  none_at_all none link = none 3 link (lit< tt)
  none_at_all none maximum = none 4 maximum (lit< tt)
  none_at_all none byte_limit = none 5 byte_limit (lit< tt)
  none_at_all none by_name = none 6 by_name (lit< tt)
  none_at_all none continues = none 7 continues (lit< tt)
  none_at_all none created = none 8 created (lit< tt)
  none_at_all none file = none 9 file (lit< tt)
  none_at_all none folder = none 10 folder (lit< tt)
  none_at_all none link_at = none 11 link_at (lit< tt)
  none_at_all none absent = none 12 absent (lit< tt)
  none_at_all none failing = none 13 failing (lit< tt)
  none_at_all none shortened = none 14 shortened (lit< tt)
  none_at_all none start = none 15 start (lit< tt)
  none_at_all none see = none 16 see (lit< tt)
  none_at_all none put = none 17 put (lit< tt)
  none_at_all none write = none 18 write (lit< tt)
  none_at_all none flush = none 19 flush (lit< tt)
  none_at_all none queue = none 20 queue (lit< tt)
  none_at_all none offer = none 21 offer (lit< tt)
  none_at_all none shut = none 22 shut (lit< tt)
  none_at_all none add = none 23 add (lit< tt)
  none_at_all none drop = none 24 drop (lit< tt)
  none_at_all none work = none 25 work (lit< tt)

pub continues_with : (word : List ℕ) (rest : Option (List ℕ)) (k : LineKind) → word ≡ first_word k → (line : ScriptLine) (left : Option (List ℕ)) → HasArguments k rest line left → ContinuesWith word rest line left
continues_with word rest k is line left arguments = record { kind = k; is = is; arguments = arguments }

-- a line begins with the word of its kind
pub begins_with : (old : Option (List ℕ)) (word : List ℕ) (rest : Option (List ℕ)) → TakesWord old word rest → (k : LineKind) → word ≡ first_word k
    → (line : ScriptLine) (left : Option (List ℕ)) → HasArguments k rest line left → BeginsWith old line left
begins_with old word rest taken k is line left arguments =
    record { kind = k; rest = rest; word = subst (λ (w : List ℕ). TakesWord old w rest) is taken; arguments = arguments }

module _ (old : Option (List ℕ)) (word : List ℕ) (rest : Option (List ℕ)) (taken : TakesWord old word rest) (line : ScriptLine) (left : Option (List ℕ)) (begins : BeginsWith old line left) where
  -- the text after the first word belongs to the word's kind
  pub arguments_of : (k : LineKind) → word ≡ first_word k → HasArguments k rest line left
  arguments_of k is =
      let once = takes_once old (first_word begins.kind) word begins.rest rest begins.word taken in
      let kind : begins.kind ≡ k = one_kind begins.kind k (once.0 ∙ is) in
      subst (λ (j : LineKind). HasArguments j rest line left) kind
      (subst (λ (r : Option (List ℕ)). HasArguments begins.kind r line left) once.1 begins.arguments)

-- a word of a kind was taken, and none of that kind could be
pub takes_no : (P Q : List ℕ → Type 0) (old r s : Option (List ℕ)) → TakesWordOf P old r → TakesNoWordOf Q old s → ((w : List ℕ) → P w → Q w) → ⊥
takes_no P Q old r s takes none to = elim none [
  | inl no_word ↦ takes_none old takes.word r takes.taken no_word
  | inr other ↦ other.2 (to other.0 (subst P (takes_once old takes.word other.0 r s takes.taken other.1).0 takes.kind))
]

-- a text was there, and no text could be
pub no_text : (old new : Option (List ℕ)) (text : List ℕ) → TakesText old text new → IsNoEscapedText (unwrap_or old []) → ⊥
no_text old new text takes none = none text takes.text

-- what is left after the arguments of a kind
left_once : (k : LineKind) (rest : Option (List ℕ)) (l m : ScriptLine) (r s : Option (List ℕ)) → HasArguments k rest l r → HasArguments k rest m s → r ≡ s
left_once rotation rest l m r s a b = (takes_once rest a.2.word b.2.word r s a.2.taken b.2.taken).1
left_once prefix rest l m r s a b = a.2.all ∙ sym b.2.all
left_once suffix rest l m r s a b = a.2.all ∙ sym b.2.all
left_once link rest l m r s a b = a.2.all ∙ sym b.2.all
left_once maximum rest l m r s a b = (takes_once rest a.2.word b.2.word r s a.2.taken b.2.taken).1
left_once byte_limit rest l m r s a b = (takes_once rest a.2.word b.2.word r s a.2.taken b.2.taken).1
left_once by_name rest l m r s a b = a.1 ∙ sym b.1
left_once continues rest l m r s a b = a.1 ∙ sym b.1
left_once created rest l m r s a b = (takes_once rest a.2.word b.2.word r s a.2.taken b.2.taken).1
left_once file rest l m r s a b = a.3.2.all ∙ sym b.3.2.all
left_once folder rest l m r s a b = (takes_once rest a.0.now b.0.now r s a.2 b.2).1
left_once link_at rest l m r s a b =
    let behind = (takes_once rest a.0.now b.0.now a.3.0 b.3.0 a.3.1 b.3.1).1 in
    (takes_once b.3.0 a.1.now b.1.now r s (subst (λ (o : Option (List ℕ)). TakesWord o a.1.now r) behind a.3.2) b.3.2).1
left_once absent rest l m r s a b = a.1 ∙ sym b.1
left_once failing rest l m r s a b = (takes_once rest a.2.word b.2.word r s a.2.taken b.2.taken).1
left_once shortened rest l m r s a b =
    let behind = (takes_once rest a.3.1.word b.3.1.word a.3.0 b.3.0 a.3.1.taken b.3.1.taken).1 in
    (takes_once b.3.0 a.3.2.word b.3.2.word r s (subst (λ (o : Option (List ℕ)). TakesWord o a.3.2.word r) behind a.3.2.taken) b.3.2.taken).1
left_once start rest l m r s a b = (takes_once rest a.2.word b.2.word r s a.2.taken b.2.taken).1
left_once see rest l m r s a b = (takes_once rest a.2.word b.2.word r s a.2.taken b.2.taken).1
left_once put rest l m r s a b = a.3.2.all ∙ sym b.3.2.all
left_once write rest l m r s a b = a.2.all ∙ sym b.2.all
left_once flush rest l m r s a b = a.1 ∙ sym b.1
left_once queue rest l m r s a b =
    let behind = (takes_once rest a.3.1.word b.3.1.word a.3.0 b.3.0 a.3.1.taken b.3.1.taken).1 in
    (takes_once b.3.0 a.3.2.word b.3.2.word r s (subst (λ (o : Option (List ℕ)). TakesWord o a.3.2.word r) behind a.3.2.taken) b.3.2.taken).1
left_once offer rest l m r s a b = a.3.2.all ∙ sym b.3.2.all
left_once shut rest l m r s a b = a.1 ∙ sym b.1
left_once add rest l m r s a b = a.1 ∙ sym b.1
left_once drop rest l m r s a b = a.1 ∙ sym b.1
left_once work rest l m r s a b = (takes_once rest a.2.word b.2.word r s a.2.taken b.2.taken).1

-- what is left after a line
pub begins_once : (old : Option (List ℕ)) (l m : ScriptLine) (r s : Option (List ℕ)) → BeginsWith old l r → BeginsWith old m s → r ≡ s
begins_once old l m r s a b =
    left_once b.kind b.rest l m r s (arguments_of old (first_word b.kind) b.rest b.word l r a b.kind refl) b.arguments
