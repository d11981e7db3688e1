-- Wrong runs that the headline refuses.
use Rattle.std.proofs.Common.{◌≡◌, ◌≢◌, ◌∙◌, ◌⊎◌, ℕ, zero, suc, ℤ, pos, Any, Vec, map, MatchResult, MatchBool, ◌+◌, ◌-◌, ◌^◌, ◌<◌, ◌≤◌, Bool, true, false, if◌then◌else◌, nat_le, min, List, [], ◌∷◌, ◌++◌, length, Option, None, Some, Result, Ok, Err, inl, inr, refl, ap, sym, subst, arith}
use Rattle.std.specs.FinMap as fin
use Rattle.std.specs.Option.{option_map_or}
use Rattle.std.specs.IoError.{error_kind}
use Rattle.std.specs.declared.alloc.Global.{Global}
use Rattle.std.specs.declared.io.Error.{Error}
use Rattle.std.specs.declared.io.ErrorKind.{ErrorKind}
use Rattle.std.specs.declared.io.ErrorKind.TheVariants.{OutOfMemory}
use Rattle.std.specs.Str.{bytes_eq}
use Rattle.std.proofs.lemmas.Int.{ints}
use Rattle.std.proofs.lemmas.List.Elements.{All-cons, All-nil}
use Rattle.std.proofs.lemmas.Slice.Eq.{bytes_eq-Decides}
use Rattle.appender_store.specs.Content.{ForbidsList, Entry, File, Link, IsFile, NameMap, body_at}
use Rattle.appender_store.specs.Folder.{HasCause, IsOneMore, listed_row, NotedCounts, NoticeMessage, NotedList, NotedRemove, NotedFlush, NotedOpen, next_count}
use Rattle.appender_store.specs.Notes.{Notes}
use Rattle.appender_store.specs.declared.store.Listed.{Listed}
use Rattle.appender_store.specs.MemoryState.{AppendLimits, MemoryState, TakesBytes, count_taken}
use Rattle.appender_store.specs.declared.store.Folder.{Ghosts}
use Rattle.appender_retain.specs.Survival.{name_survives}
use Rattle.appender_rolling.specs.Config.{Config, naming_of, log_files_of, is_limited}
use Rattle.appender_rolling.specs.Opening.{file_name_of, FindsNumber, ListsNumbers, IsFirstNumber, IsListed, HasEntry}
use Rattle.appender_rolling.specs.declared.rolling.setup.Stamp.{Stamp}
use Rattle.appender_names.specs.declared.error.InitError.{InitError}
use Rattle.appender_names.specs.declared.error.InitError.TheVariants.{Directory, File as NoFile, Symlink, Moment, Name, Memory, Limit}
use Rattle.appender_names.specs.Name.{NamesArePeriods, reading_at}
use Rattle.appender_names.specs.Rotation.{IsMoment, period_of}
use Rattle.appender_names.proofs.NameLaws.{reads_as_start}
use Rattle.appender_names.proofs.Reading.{reads_reading}
use Rattle.appender_rolling.specs.Roller.{written_count}
use Rattle.appender_replay.specs.Headline.{FileCall, Try, Opens, Removes, MakesFolder, MakesLink, FailsByCall, FailsTry, by_kind, bytes_taken, written_to_name, kept_entry, Calls, Flushes, CallsLead, CallsFile, IsOld, of_no_byte, NotesNothing, HasFault, begins, calls, notes, opens, fails, uses}
use Rattle.appender_replay.specs.Inside.Refused.{FlushesNothing, limited, WritesTwice, LosesByte, WritesOutOfOrder, TakesOutOfOrder, ShutdownTakesNoPlace, NeverPrunes, FollowsClockBack, ChangesOtherNames, LosesFile, ReusesNumber, TakesNothing, NotesNoFault, RemovesLaterFile, RemovesAtFailure, LacksLink, LinksElsewhere, one_file, linked, hourly, hourly_by_name}
use Rattle.appender_replay.specs.declared.replay.whole.Reply.{Reply}
use Rattle.appender_replay.specs.declared.replay.whole.Reply.TheVariants.{Accepted, Full, NoMemory, Took}

abbrev first_byte : List ℕ → ℕ
first_byte [] = 0
first_byte (n ∷ ns) = n

abbrev ticket_of : Reply → ℕ
ticket_of (Took k) = k
ticket_of r = 0

pub writes_twice : {S F : Type 0} (kind : Ghosts S F) → WritesTwice kind
writes_twice kind line items limit room first last holds law =
    let all : ◌≡◌ {A = List ℕ} (120 ∷ 121 ∷ 120 ∷ 121 ∷ []) (120 ∷ 121 ∷ []) = sym holds.now ∙ (law.folder.content holds.is_known).bytes _ holds.body holds.created holds.at ∙ rw (holds.empty, items) refl in
    let both : ◌≡◌ {A = List ℕ} (120 ∷ 121 ∷ 120 ∷ 121 ∷ []) (120 ∷ 121 ∷ []) = all in
    cc

pub loses_byte : {S F : Type 0} (kind : Ghosts S F) → LosesByte kind
loses_byte kind line items limit room first last holds law =
    let all : ◌≡◌ {A = List ℕ} (120 ∷ []) (120 ∷ 121 ∷ []) = sym holds.now ∙ (law.folder.content holds.is_known).bytes _ holds.body holds.created holds.at ∙ rw (holds.empty, items) refl in
    let both : ◌≡◌ {A = List ℕ} (120 ∷ []) (120 ∷ 121 ∷ []) = all in
    cc

pub writes_out_of_order : {S F : Type 0} (kind : Ghosts S F) → WritesOutOfOrder kind
writes_out_of_order kind x y is_x is_y limit room first last holds law =
    let all : ◌≡◌ {A = List ℕ} (121 ∷ 120 ∷ []) (120 ∷ 121 ∷ []) = sym holds.now ∙ (law.folder.content holds.is_known).bytes _ holds.body holds.created holds.at ∙ simp (holds.empty, is_x, is_y) refl in
    let head : ◌≡◌ {A = ℕ} 121 120 = ap first_byte all in
    absurd (omega arith)

pub takes_out_of_order : {S F : Type 0} (kind : Ghosts S F) → TakesOutOfOrder kind
takes_out_of_order kind limit c number room x y first last law = let same : ◌≡◌ {A = ℕ} 2 1 = ap ticket_of law.replies.1.2 in absurd (omega arith)

pub shutdown_takes_no_place : {S F : Type 0} (kind : Ghosts S F) → ShutdownTakesNoPlace kind
shutdown_takes_no_place kind c number room line first last law = elim law.replies.1 [
  | inl none ↦ let both : ◌≡◌ {A = Reply} (Accepted 1) NoMemory = none.0 in cc
  | inr is ↦ let both : ◌≡◌ {A = Reply} (Accepted 1) Full = is in cc
]

abbrev stamp_at : ℤ → Stamp
stamp_at m = record { moment = m; number = 0 }

-- the opening of the first file
abbrev opened_first : Try
opened_first = record { stamp = stamp_at (pos 0); opened = true; calls = [] }

too_many : (n : ℕ) → nat_le (n + 2) 1 ≡ false
too_many n = grind arith

pub never_prunes : {S F : Type 0} (kind : Ghosts S F) → NeverPrunes kind
never_prunes kind limit room first last b created is_known there lists removes few_lists few_removes was is law =
    let gone : name_survives (log_files_of (one_file 1) (Some (file_name_of (one_file 1) (stamp_at (pos 0))))) 1 (kind.content first).names (97 ∷ 98 ∷ []) ≡ false = rw was (too_many _) in
    let names = (law.folder.content is_known).names (inl refl) (inr (record { lists = rw there (omega (arith, lists)); removes = removes; below = (few_lists, few_removes) })) in
    let none : fin.get (kind.content last).names (97 ∷ 98 ∷ []) ≡ None =
    names.2.others (97 ∷ 98 ∷ []) (λ e. let both : ◌≡◌ {A = List ℕ} (97 ∷ 98 ∷ []) (97 ∷ []) = e in cc) (λ e. let both : ◌≡◌ {A = List ℕ} (97 ∷ 98 ∷ []) [] = e in cc) ∙ rw (names.1, gone) refl in
    let both : ◌≡◌ {A = Option Entry} (Some (File b (Some created))) None = sym is ∙ none in
    cc

-- the names of both hours differ
names_differ : NamesArePeriods (naming_of hourly) → bytes_eq (file_name_of hourly (stamp_at (pos 3600))) (file_name_of hourly (stamp_at (pos 0))) ≡ false
names_differ law = by (bytes_eq (file_name_of hourly (stamp_at (pos 3600))) (file_name_of hourly (stamp_at (pos 0)))) refl
  where
    by : (b : Bool) → bytes_eq (file_name_of hourly (stamp_at (pos 3600))) (file_name_of hourly (stamp_at (pos 0))) ≡ b → b ≡ false
    by false e = refl
    by true e =
        let same : file_name_of hourly (stamp_at (pos 3600)) ≡ file_name_of hourly (stamp_at (pos 0)) = (bytes_eq-Decides _ _).0 e in
        let is : pos 3600 ≡ pos 0 = ((law (pos 3600) (pos 0) (pos 3600) (pos 0) 0 0 (omega (arith, ints), omega (arith, ints)) (omega (arith, ints), omega (arith, ints)) refl refl (omega arith) (omega arith)).0 same).0 in
        absurd (omega (arith, ints))

-- nothing was written to a name that the newest file does not have, if nothing was before it
other_file : (name : List ℕ) (s t : Stamp) (writes : List FileCall) → bytes_eq (file_name_of hourly s) name ≡ false
    → written_to_name hourly name (record { stamp = s; opened = true; calls = writes } ∷ record { stamp = t; opened = true; calls = [] } ∷ []) ≡ []
other_file name s t writes apart = by (bytes_eq (file_name_of hourly t) name)
  where
    by : (b : Bool) → ([] ++ (if b then [] else [])) ++ (if bytes_eq (file_name_of hourly s) name then bytes_taken writes else []) ≡ []
    by true = rw apart refl
    by false = rw apart refl

pub follows_clock_back : {S F : Type 0} (kind : Ghosts S F) → NamesArePeriods (naming_of hourly) → FollowsClockBack kind
follows_clock_back kind law x y is_x is_y limit room first last holds head =
    let wrote : List ℕ → FileCall = λ bytes. record { latest = pos 3600; flush = false; bytes = bytes; answer = Ok 1 } in
    let none = other_file (file_name_of hourly (stamp_at (pos 0))) (stamp_at (pos 3600)) (stamp_at (pos 0)) (wrote y.items ∷ wrote x.items ∷ []) (names_differ law) in
    let all : ◌≡◌ {A = List ℕ} (121 ∷ []) [] = sym holds.now ∙ (head.folder.content holds.is_known).bytes _ holds.body holds.created holds.at ∙ ap (λ (xs : List ℕ). body_at (kind.content first) holds.body ++ xs) none ∙ rw holds.empty refl in
    let both : ◌≡◌ {A = List ℕ} (121 ∷ []) [] = all in
    cc

other_byte : ◌≢◌ {A = List ℕ} (98 ∷ []) (97 ∷ [])
other_byte e = let same : ◌≡◌ {A = ℕ} 98 97 = ap first_byte e in absurd (omega arith)

some_byte : ◌≢◌ {A = List ℕ} (98 ∷ []) []
some_byte e = let both : ◌≡◌ {A = List ℕ} (98 ∷ []) [] = e in cc

same_body : (b c : ℕ) (t u : Option ℤ) → ◌≡◌ {A = Option Entry} (Some (File c u)) (Some (File b t)) → b ≡ c
same_body b c t u e = cc

pub changes_other_names : {S F : Type 0} (kind : Ghosts S F) → ChangesOtherNames kind
changes_other_names kind limit room first last b c t u is_known was is differs law =
    let apart : Try → Type 0 = λ t. 98 ∷ [] ≢ file_name_of (one_file 1) t.stamp in
    elim ((law.folder.content is_known).others (98 ∷ []) (All-cons apart opened_first [] other_byte (All-nil apart)) some_byte) [
      | inl same ↦ differs (same_body b c t u (sym is ∙ same ∙ was))
      | inr gone ↦ let both : ◌≡◌ {A = Option Entry} (Some (File c u)) None = sym is ∙ gone.0 in cc
    ]

pub loses_file : {S F : Type 0} (kind : Ghosts S F) → LosesFile kind
loses_file kind x y limit room first last is_known gone law = subst IsFile gone ((law.folder.content is_known).open_file (inr refl) (stamp_at (pos 0)) refl)

-- the name of an hour's file reads as that hour
hour_reads : (h : ℤ) → IsMoment h → period_of hourly.rotation h ≡ Some h → reading_at (naming_of hourly) (file_name_of hourly (stamp_at h)) ≡ Some (h, 0)
hour_reads h is_moment starts = reads_reading (naming_of hourly) (file_name_of hourly (stamp_at h)) h 0 (reads_as_start (naming_of hourly) h h 0 is_moment starts (omega arith))

pub removes_later_file : {S F : Type 0} (kind : Ghosts S F) → NamesArePeriods (naming_of hourly) → RemovesLaterFile kind
removes_later_file kind names limit room first last b t is_known was gone law =
    let own : List ℕ = file_name_of hourly (stamp_at (pos 0)) in
    let later : List ℕ = file_name_of hourly (stamp_at (pos 3600)) in
    let own_read = hour_reads (pos 0) (omega (arith, ints), omega (arith, ints)) refl in
    let later_read = hour_reads (pos 3600) (omega (arith, ints), omega (arith, ints)) refl in
    let differs : later ≢ own = λ same. (let both : true ≡ false = sym ((bytes_eq-Decides later own).1 same) ∙ names_differ names in cc) in
    let some : ◌≢◌ {A = List ℕ} later [] = λ e. (let both : ◌≡◌ {A = List ℕ} later [] = e in cc) in
    let apart : Try → Type 0 = λ t. later ≢ file_name_of hourly_by_name t.stamp in
    elim ((law.folder.content is_known).others later (All-cons apart opened_first [] differs (All-nil apart)) some) [
      | inl same ↦ let both : ◌≡◌ {A = Option Entry} (Some (File b t)) None = sym was ∙ sym same ∙ gone in cc
      | inr (free, old) ↦ absurd (not_old own_read later_read differs some was (only old))
    ]
  where
    tries : List Try
    tries = opened_first ∷ []

    entries : NameMap
    entries = (kind.content first).names

    later_name : List ℕ
    later_name = file_name_of hourly (stamp_at (pos 3600))

    own_name : List ℕ
    own_name = file_name_of hourly (stamp_at (pos 0))

    only : Any (IsOld hourly_by_name tries entries later_name) tries → IsOld hourly_by_name tries entries later_name opened_first
    only (zero, one, lt, at, old) = subst (IsOld hourly_by_name tries entries later_name) (sym at) old
    only (suc k, one, lt, at, old) = absurd (omega (arith, lt))

    -- the name of a later hour survives, whatever it leads to
    not_old : reading_at (naming_of hourly) own_name ≡ Some (pos 0, 0) → reading_at (naming_of hourly) later_name ≡ Some (pos 3600, 0) → later_name ≢ own_name → later_name ≢ []
        → fin.get entries later_name ≡ Some (File b t) → IsOld hourly_by_name tries entries later_name opened_first → ⊥
    not_old own_read later_read differs some was old =
        let survives : name_survives (log_files_of hourly_by_name (Some own_name)) 2 old.names later_name ≡ true = elim (old.had later_name) [
          | inl same ↦ rw (same, was, own_read, later_read) refl
          | inr (inl none) ↦ rw none refl
          | inr (inr rest) ↦ elim rest [
            | inl (zero, one, lt, at, is) ↦ absurd (differs (is ∙ ap (λ (e : Try). file_name_of hourly_by_name e.stamp) (sym at)))
            | inl (suc k, one, lt, at, is) ↦ absurd (omega (arith, lt))
            | inr is_link ↦ absurd (some is_link)
          ]
        ] in
        let both : true ≡ false = sym survives ∙ old.falls in
        cc

pub removes_at_failure : {S F : Type 0} (kind : Ghosts S F) → RemovesAtFailure kind
removes_at_failure kind x limit room first last name is_known there lists removes few_lists few_removes not_first not_next unlinked kept gone law =
    let names = (law.folder.content is_known).names (inr refl) (inr (record { lists = rw there (omega (arith, lists)); removes = removes; below = (few_lists, few_removes) })) in
    kept (ap (λ (m : NameMap). kept_entry hourly_by_name (stamp_at (pos 0)) m name) (sym names.1.1) ∙ sym (names.1.2.others name not_first unlinked) ∙ sym (names.2.others name not_next unlinked) ∙ gone)

link_set : ◌≢◌ {A = List ℕ} (108 ∷ []) []
link_set e = let both : ◌≡◌ {A = List ℕ} (108 ∷ []) [] = e in cc

link_apart : ◌≢◌ {A = List ℕ} (108 ∷ []) (97 ∷ [])
link_apart e = let same : ◌≡◌ {A = ℕ} 108 97 = ap first_byte e in absurd (omega arith)

pub lacks_link : {S F : Type 0} (kind : Ghosts S F) → LacksLink kind
lacks_link kind limit room first last is_known lacks law = elim (((law.folder.content is_known).names (inl refl) (inl refl)).2.link link_set) [
  | inl made ↦ lacks made
  | inr missing ↦ let both : false ≡ true = missing.0 in cc
]

same_target : (a b : List ℕ) → ◌≡◌ {A = Option Entry} (Some (Link a)) (Some (Link b)) → a ≡ b
same_target a b e = cc

-- nothing is kept of a name that led to nothing
none_kept : (t : Bool) (o : Option Entry) → o ≡ None → (if t then o else None) ≡ None
none_kept true o none = none
none_kept false o none = refl

pub links_elsewhere : {S F : Type 0} (kind : Ghosts S F) → LinksElsewhere kind
links_elsewhere kind limit room first last target is_known other free at law =
    let names = (law.folder.content is_known).names (inl refl) (inl refl) in
    let before : fin.get names.0 (108 ∷ []) ≡ None = ap (λ (m : NameMap). fin.get m (108 ∷ [])) names.1 ∙ free in
    elim (names.2.link link_set) [
      | inl made ↦ other (same_target target (97 ∷ []) (sym at ∙ made))
      | inr missing ↦ elim (missing.1 link_apart) [
        | inl kept ↦
            let none : kept_entry (linked true) (stamp_at (pos 0)) names.0 (108 ∷ []) ≡ None = none_kept (name_survives (log_files_of (linked true) (Some (97 ∷ []))) 0 names.0 (108 ∷ [])) (fin.get names.0 (108 ∷ [])) before in
            let both : ◌≡◌ {A = Option Entry} (Some (Link target)) None = sym at ∙ kept ∙ none in cc
        | inr gone ↦ let both : ◌≡◌ {A = Option Entry} (Some (Link target)) None = sym at ∙ gone.1 in cc
      ]
    ]

-- two that note nothing
quiet_on : {S F : Type 0} (kind : Ghosts S F) (s t u : S) → NotesNothing kind s t → NotesNothing kind t u → NotesNothing kind s u
quiet_on kind s t u one two = (two.0 ∙ one.0, omega (arith, one.1, two.1))

-- what fails a try notes nothing
try_quiet : {S F : Type 0} (kind : Ghosts S F) (c : Config) (m : Stamp) (error : InitError) (s t : S) → FailsTry kind c m error s t → NotesNothing kind s t
try_quiet kind c m error s t how = elim how.after [ inl same ↦ rw same how.quiet | inr removes ↦ quiet_on kind s how.failed t how.quiet removes.2 ]

-- calls lose no notice of a listing
lists_rise : {S F : Type 0} (kind : Ghosts S F) (c : Config) (first last : S) (ts : List Try) (h : Option F) → CallsLead kind c first ts h last → min (kind.noted first).lists (2 ^ 64 - 1) ≤ (kind.noted last).lists
lists_rise kind c first last tries now begins = omega arith
lists_rise kind c first last tries now (calls ts h old new lead call quiet) = let before = lists_rise kind c first old ts h lead in let same = ap (λ (n : NotedCounts). n.lists) quiet.0 in omega (arith, before, same)
lists_rise kind c first last tries now (notes ts h old failed new lead call quiet (notice, fault, noted)) =
    by notice noted (let least = lists_rise kind c first old ts h lead in let same = ap (λ (n : NotedCounts). n.lists) quiet.0 in omega (arith, least, same))
  where
    by : (notice : NoticeMessage) → Notes kind failed notice new → min (kind.noted first).lists (2 ^ 64 - 1) ≤ (kind.noted failed).lists → min (kind.noted first).lists (2 ^ 64 - 1) ≤ (kind.noted new).lists
    by (NotedList error) noted before = let more = ap (λ (n : NotedCounts). n.lists) noted.noted in omega (arith, before, more)
    by (NotedRemove name error) noted before = let same = ap (λ (n : NotedCounts). n.lists) noted.noted in omega (arith, before, same)
    by (NotedFlush error) noted before = let same = ap (λ (n : NotedCounts). n.lists) noted.noted in omega (arith, before, same)
    by (NotedOpen error) noted before = let same = ap (λ (n : NotedCounts). n.lists) noted.noted in omega (arith, before, same)
lists_rise kind c first last tries now (opens ts g old new m file lead call quiet) = let before = lists_rise kind c first old ts g lead in let same = ap (λ (n : NotedCounts). n.lists) quiet.0 in omega (arith, before, same)
lists_rise kind c first last tries now (fails ts h old failed new m error lead how noted) =
    let before = lists_rise kind c first old ts h lead in
    let quiet = ap (λ (n : NotedCounts). n.lists) (try_quiet kind c m error old failed how).0 in
    let same = ap (λ (n : NotedCounts). n.lists) noted.noted in
    omega (arith, before, quiet, same)
lists_rise kind c first last tries now (uses t ts file after old new e lead call quiet) = let before = lists_rise kind c first old (t ∷ ts) (Some file) lead in let same = ap (λ (n : NotedCounts). n.lists) quiet.0 in omega (arith, before, same)

pub reuses_number : {S F : Type 0} (kind : Ghosts S F) → ReusesNumber kind
reuses_number kind limit room past first last name entry k is_known lists below had in_it law = by asks.answer refl asks.number_is
  where
    asks : ListsNumbers kind limited (pos 0) first 0 law.folder.listed
    asks = law.folder.finds.calls refl

    by : (answer : Result (Vec Listed Global) Error) → asks.answer ≡ answer
        → MatchResult answer (λ all. IsFirstNumber limited (pos 0) (IsListed (map listed_row all.items)) 0 × (law.folder.listed ≡ asks.listed)) (λ fault. (◌≡◌ {A = ℕ} 0 0) × Notes kind asks.listed (NotedList fault) law.folder.listed) → ⊥
    by (Ok all) is found =
        let first_number : IsFirstNumber limited (pos 0) (HasEntry (kind.content first)) 0 = asks.number_in (rw is refl) is_known in
        elim (first_number.above name entry k (inl had) in_it) [
          | inl less ↦ absurd (omega (arith, less))
          | inr (inl most) ↦ absurd (omega (arith, most))
          | inr (inr last_file) ↦ let both : true ≡ false = sym last_file.1.continues in cc
        ]
    by (Err fault) is (number, noted) =
        let more : (kind.noted law.folder.listed).lists ≡ next_count (kind.noted first).lists = ap (λ (n : NotedCounts). n.lists) noted.noted ∙ ap (λ (n : NotedCounts). next_count n.lists) asks.noted in
        let rise = lists_rise kind limited law.folder.listed last _ _ law.folder.calls.1 in
        absurd (omega (arith, lists, below, more, rise))

-- What the relations of folders in memory say of the limits of appends, and of the number of calls.
module _ {S F : Type 0} (kind : Ghosts S F) (state : S → MemoryState) where
  -- a call counts, and the limits of appends stay
  abbrev pub IsCall : S → S → Type 0
  IsCall old new = ((state new).calls ≡ next_count (state old).calls) × ((state new).shortened ≡ (state old).shortened)

  module _ (counts : (old new : S) → Calls kind old new → IsCall old new) (noting : (old new : S) (notice : NoticeMessage) → kind.note_gives old notice new → ((state new).calls ≡ (state old).calls) × ((state new).shortened ≡ (state old).shortened))
      (takes : (old new : S) (file after : F) (bytes : List ℕ) (answer : Result ℕ Error) → kind.append_gives old file bytes answer new after → TakesBytes bytes (state old) answer (state new)) where
    -- each write that took nothing was given nothing
    abbrev NoneShort : List FileCall → Type 0
    NoneShort [] = Unit {0}
    NoneShort (e ∷ earlier) = (e.flush ≡ false → e.answer ≡ Ok 0 → length e.bytes ≡ 0) × NoneShort earlier

    abbrev NoneShortIn : List Try → Type 0
    NoneShortIn [] = Unit {0}
    NoneShortIn (t ∷ earlier) = NoneShort t.calls × NoneShortIn earlier

    takes_all : (old new : S) (bytes : List ℕ) (answer : Result ℕ Error) → (state old).shortened ≡ fin.empty → TakesBytes bytes (state old) answer (state new) → by_kind answer ≡ Ok 0 → length bytes ≡ 0
    takes_all old new bytes (Ok n) none does is =
        let zero : n ≡ 0 = ap written_count is in
        let all : count_taken (state old) (length bytes) ≡ length bytes =
        ap (λ (limits : AppendLimits). option_map_or (λ (limit : ℕ). min limit (length bytes)) (fin.get limits (next_count (state old).calls)) (length bytes)) none
        ∙ ap (λ (o : Option ℕ). option_map_or (λ (limit : ℕ). min limit (length bytes)) o (length bytes)) (fin.get-empty _ _) in
        sym all ∙ sym does.takes ∙ zero
    takes_all old new bytes (Err fault) none does is = absurd (let both : ◌≡◌ {A = Result ℕ ErrorKind} (Err (error_kind fault)) (Ok 0) = is in cc)

    -- how many openings, writes and flushes these tries had
    abbrev made : List Try → ℕ
    made [] = 0
    made (t ∷ earlier) = made earlier + (if t.opened then 1 else 0) + length t.calls

    -- as many calls count, and none was short
    record IsMade (first : S) (ts : List Try) (last : S) : Type 0 where
      calls : min ((state first).calls + made ts) (2 ^ 64 - 1) ≤ (state last).calls
      whole : (state first).shortened ≡ fin.empty → ((state last).shortened ≡ fin.empty) × NoneShortIn ts

    call_made : (first old new : S) (ts : List Try) → IsCall old new → IsMade first ts old → IsMade first ts new
    call_made first old new ts call before = record { calls = let least = before.calls in omega (arith, least, call.0); whole = λ none. (call.1 ∙ (before.whole none).0, (before.whole none).1) }

    note_made : (first old new : S) (ts : List Try) (notice : NoticeMessage) → kind.note_gives old notice new → IsMade first ts old → IsMade first ts new
    note_made first old new ts notice call before = record { calls = let least = before.calls in omega (arith, least, (noting old new notice call).0); whole = λ none. ((noting old new notice call).1 ∙ (before.whole none).0, (before.whole none).1) }

    reason_made : (c : Config) (first old new : S) (ts : List Try) (m : Stamp) (error : InitError) → FailsByCall kind c m old new error → IsMade first ts old → IsMade first ts new
    reason_made c first old new ts m (Directory fault) (call, cause) before = call_made first old new ts (counts old new (MakesFolder (Err fault) call)) before
    reason_made c first old new ts m (NoFile fault) (call, cause) before = call_made first old new ts (counts old new (Opens (file_name_of c m) (Err fault) call)) before
    reason_made c first old new ts m (Symlink fault) (required, call, cause) before = call_made first old new ts (counts old new (MakesLink c.link (file_name_of c m) (Err fault) call)) before
    reason_made c first old new ts m Memory same before = rw same before
    reason_made c first old new ts m Moment never before = absurd never
    reason_made c first old new ts m (Name fault) never before = absurd never
    reason_made c first old new ts m Limit never before = absurd never

    try_made : (c : Config) (first old new : S) (ts : List Try) (m : Stamp) (error : InitError) → FailsTry kind c m error old new → IsMade first ts old → IsMade first ts new
    try_made c first old new ts m error how before =
        let failed = reason_made c first old how.failed ts m error how.reason before in
        elim how.after [ inl same ↦ rw same failed | inr removes ↦ call_made first how.failed new ts (counts how.failed new (Removes (file_name_of c m) removes.0 removes.1)) failed ]

    use_made : (first old new : S) (t : Try) (ts : List Try) (file after : F) (e : FileCall) → CallsFile kind e file old after new → IsMade first (t ∷ ts) old → IsMade first (record t { calls = e ∷ t.calls } ∷ ts) new
    use_made first old new t ts file after e call before = by e.flush refl call
      where
        made_more : IsCall old new → ((state first).shortened ≡ fin.empty → e.flush ≡ false → e.answer ≡ Ok 0 → length e.bytes ≡ 0) → IsMade first (record t { calls = e ∷ t.calls } ∷ ts) new
        made_more one whole = record {
          calls = let least = before.calls in omega (arith, least, one.0);
          whole = λ none. (one.1 ∙ (before.whole none).0, ((whole none, (before.whole none).1.0), (before.whole none).1.1));
        }

        by : (flush : Bool) → e.flush ≡ flush → MatchBool flush ((answer : Result (Unit {0}) Error) × (e.answer ≡ by_kind (of_no_byte answer)) × kind.flush_gives old file answer new after)
            ((answer : Result ℕ Error) × (e.answer ≡ by_kind answer) × kind.append_gives old file e.bytes answer new after) → IsMade first (record t { calls = e ∷ t.calls } ∷ ts) new
        by true is (answer, shown, gives) = made_more (counts old new (Flushes file after answer gives)) (λ none no. absurd (let both : true ≡ false = sym is ∙ no in cc))
        by false is (answer, shown, gives) =
            let does = takes old new file after e.bytes answer gives in
            made_more (does.called.calls, does.called.shortened) (λ none no zero. takes_all old new e.bytes answer (before.whole none).0 does (sym shown ∙ zero))

    all_made : (c : Config) (first last : S) (ts : List Try) (h : Option F) → CallsLead kind c first ts h last → IsMade first ts last
    all_made c first last tries now begins = record { calls = omega arith; whole = λ none. (none, tt) }
    all_made c first last tries now (calls ts h old new lead call quiet) = call_made first old new ts (counts old new call) (all_made c first old ts h lead)
    all_made c first last tries now (notes ts h old failed new lead call quiet (notice, fault, noted)) = note_made first failed new ts notice noted.call (call_made first old failed ts (counts old failed call) (all_made c first old ts h lead))
    all_made c first last tries now (opens ts g old new m file lead call quiet) =
        let before = all_made c first old ts g lead in
        let one = counts old new (Opens (file_name_of c m) (Ok file) call) in
        record { calls = let least = before.calls in omega (arith, least, one.0); whole = λ none. (one.1 ∙ (before.whole none).0, (tt, (before.whole none).1)) }
    all_made c first last tries now (fails ts h old failed new m error lead how noted) =
        let before = note_made first failed new ts (NotedOpen error) noted.call (try_made c first old failed ts m error how (all_made c first old ts h lead)) in
        record { calls = let least = before.calls in omega (arith, least); whole = λ none. ((before.whole none).0, (tt, (before.whole none).1)) }
    all_made c first last tries now (uses t ts file after old new e lead call quiet) = use_made first old new t ts file after e call (all_made c first old (t ∷ ts) (Some file) lead)

    pub takes_nothing : TakesNothing kind state
    takes_nothing line items limit room first last none law =
        let same : law.folder.listed ≡ first = (law.folder.finds.none refl).1 in
        let so = (all_made (one_file 0) law.folder.listed last _ _ law.folder.calls.1).whole (ap (λ (s : S). (state s).shortened) same ∙ none) in
        let long : length line.items ≡ 2 = rw items refl in
        let empty = so.1.0.0 refl refl in
        absurd (omega (arith, long, empty))

    pub flushes_nothing : FlushesNothing kind state
    flushes_nothing line limit room first last below few law =
        let same : (state law.folder.listed).calls ≡ (state first).calls = ap (λ (s : S). (state s).calls) (law.folder.finds.none refl).1 in
        let least = (all_made (one_file 0) law.folder.listed last _ _ law.folder.calls.1).calls in
        absurd (omega (arith, below, few, same, least))

-- A removal that needs no memory, and fails, counts a failure. So does each notice of one.
module _ {S F : Type 0} (kind : Ghosts S F) (removes : (old new : S) (name : List ℕ) (fault : Error) → kind.remove_gives old name (Err fault) new → IsOneMore (kind.failures old) (kind.failures new) ⊎ (error_kind fault ≢ OutOfMemory)) where
  -- no failure is lost, and a notice of a removal is of one
  record IsCounted (first last : S) : Type 0 where
    rise : kind.failures first ≤ kind.failures last
    caused : (kind.noted last).removes ≡ (kind.noted first).removes ⊎ (kind.failures first < kind.failures last)

  counted_quiet : (first old new : S) → NotesNothing kind old new → IsCounted first old → IsCounted first new
  counted_quiet first old new quiet before = record {
    rise = omega (arith, before.rise, quiet.1);
    caused = elim before.caused [ inl same ↦ inl (ap (λ (n : NotedCounts). n.removes) quiet.0 ∙ same) | inr more ↦ inr (omega (arith, more, quiet.1)) ];
  }

  -- a notice of another kind
  counted_note : (first old new : S) → kind.failures new ≡ kind.failures old → (kind.noted new).removes ≡ (kind.noted old).removes → IsCounted first old → IsCounted first new
  counted_note first old new same removed before = record {
    rise = omega (arith, before.rise, same);
    caused = elim before.caused [ inl none ↦ inl (removed ∙ none) | inr more ↦ inr (omega (arith, more, same)) ];
  }

  module _ (first : S) (below : kind.failures first < 2 ^ 64 - 1) where
    found : (c : Config) (m : ℤ) (number : ℕ) (listed : S) → FindsNumber kind c m first number listed → IsCounted first listed
    found c m number listed finds = by (is_limited c) refl
      where
        asked : (asks : ListsNumbers kind c m first number listed) (answer : Result (Vec Listed Global) Error) → HasCause kind.is_known (ForbidsList (kind.content first)) (kind.failures first) (kind.failures asks.listed) answer
            → MatchResult answer (λ all. IsFirstNumber c m (IsListed (map listed_row all.items)) number × (listed ≡ asks.listed)) (λ fault. (number ≡ 0) × Notes kind asks.listed (NotedList fault) listed) → IsCounted first listed
        asked asks (Ok all) cause is = rw is.1 (record { rise = omega (arith, cause); caused = inl (ap (λ (n : NotedCounts). n.removes) asks.noted) })
        asked asks (Err fault) cause is = record {
          rise = let same = is.1.failures in elim cause [ inl one ↦ omega (arith, one, same, below) | inr none ↦ omega (arith, none.0, same) ];
          caused = inl (ap (λ (n : NotedCounts). n.removes) is.1.noted ∙ ap (λ (n : NotedCounts). n.removes) asks.noted);
        }

        by : (limited : Bool) → is_limited c ≡ limited → IsCounted first listed
        by false none = rw (finds.none none).1 (record { rise = omega arith; caused = inl refl })
        by true limited = let asks = finds.calls limited in asked asks asks.answer asks.cause asks.number_is

    counted : (c : Config) (listed last : S) (ts : List Try) (h : Option F) → IsCounted first listed → CallsLead kind c listed ts h last → IsCounted first last
    counted c listed last tries now so begins = so
    counted c listed last tries now so (calls ts h old new lead call quiet) = counted_quiet first old new quiet (counted c listed old ts h so lead)
    counted c listed last tries now so (opens ts g old new m file lead call quiet) = counted_quiet first old new quiet (counted c listed old ts g so lead)
    counted c listed last tries now so (uses t ts file after old new e lead call quiet) = counted_quiet first old new quiet (counted c listed old (t ∷ ts) (Some file) so lead)
    counted c listed last tries now so (fails ts h old failed new m error lead how noted) =
        counted_note first failed new noted.failures (ap (λ (n : NotedCounts). n.removes) noted.noted) (counted_quiet first old failed (try_quiet kind c m error old failed how) (counted c listed old ts h so lead))
    counted c listed last tries now so (notes ts h old failed new lead call quiet (notice, fault, noted)) =
        by notice fault noted (counted c listed old ts h so lead) (counted_quiet first old failed quiet (counted c listed old ts h so lead))
      where
        by : (notice : NoticeMessage) → HasFault kind old failed notice → Notes kind failed notice new → IsCounted first old → IsCounted first failed → IsCounted first new
        by (NotedList fault) why noted early before = counted_note first failed new noted.failures (ap (λ (n : NotedCounts). n.removes) noted.noted) before
        by (NotedFlush fault) why noted early before = counted_note first failed new noted.failures (ap (λ (n : NotedCounts). n.removes) noted.noted) before
        by (NotedOpen error) why noted early before = absurd why
        by (NotedRemove name fault) why noted early before =
            let one : IsOneMore (kind.failures old) (kind.failures failed) = elim why.1 [
              | inl more ↦ more
              | inr (same, inl memory) ↦ elim (removes old failed name fault why.0) [ inl more ↦ more | inr never ↦ absurd (never memory) ]
              | inr (same, inr forbidden) ↦ absurd forbidden.1
            ] in
            let kept = noted.failures in
            let early_rise = early.rise in
            let more : kind.failures first < kind.failures new = omega (arith, one, kept, early_rise, below) in
            record { rise = omega (arith, more); caused = inr more }

  pub notes_no_fault : NotesNoFault kind
  notes_no_fault limit c moment number room past first last below same differs law = elim (counted first below c law.folder.listed last _ _ (found first below c moment number law.folder.listed law.folder.finds) law.folder.calls.1).caused [
    | inl none ↦ differs none
    | inr more ↦ absurd (omega (arith, same, more))
  ]
