-- The calls of a folder that a run makes.
use Rattle.std.proofs.Common.{◌≡◌, ◌∙◌, ◌⊎◌, ℕ, zero, suc, ℤ, ◌^◌, ◌<◌, Bool, true, false, List, [], ◌∷◌, map, filter_map, Option, None, Some, Result, Ok, Err, MatchResult, Vec, inl, inr, refl, sym, subst, arith}
use Rattle.std.specs.declared.alloc.Global.{Global}
use Rattle.std.specs.declared.io.Error.{Error}
use Rattle.std.specs.declared.io.ErrorKind.{ErrorKind}
use Rattle.appender_names.specs.declared.error.InitError.{InitError}
use Rattle.appender_names.specs.declared.error.InitError.TheVariants.{Directory, File, Symlink, Moment, Name, Memory, Limit}
use Rattle.appender_store.specs.Folder.{HasCause, NoticeMessage, NotedFlush, NotedList, NotedRemove, listed_row}
use Rattle.appender_store.specs.Notes.{Notes}
use Rattle.appender_store.proofs.Rising.{cause_rises}
use Rattle.appender_store.specs.Content.{ForbidsList, ForbidsOpen, ForbidsRemove, ForbidsRemoveLink}
use Rattle.appender_store.specs.declared.store.Folder.{Ghosts}
use Rattle.appender_store.specs.declared.store.Listed.{Listed}
use Rattle.appender_retain.specs.Rank.{LogFiles}
use Rattle.appender_retain.specs.Pruning.{Prunes, PrunesListed, RemovesEach, RemovesFile, RemovesPlanned, listed_name_at}
use Rattle.appender_rolling.specs.Config.{Config, log_files_of, max_before, max_after}
use Rattle.appender_rolling.specs.Opening.{file_name_of, OpensDirectly, RefusesDirectly, MakesFolder, OpensInNewFolder, OpensNamedFile, TriesRemoveLink, BlocksLink, LinksTo, FailsToLink, TriesLink, RemovesEmpty, RemovesNewFile, OpensFile, RefusesFile}
use Rattle.appender_rolling.specs.Roller.{Rolling, SwitchesFile, KeepsFile, ClosesLast, Writes, Flushes}
use Rattle.appender_rolling.specs.declared.rolling.setup.Stamp.{Stamp}
use Rattle.appender_replay.specs.Headline.{Try, FailsByCall, FailsTry, by_kind, of_no_byte, Calls, CallsLead, NotesNothing, HasFault, calls, notes, opens, fails, uses, Lists, Removes, Opens, MakesFolder as MakesFolderCall, RemovesLink, MakesLink, Flushes as FlushesFile}

module _ {S F : Type 0} (kind : Ghosts S F) (failures_fit : (s : S) → kind.failures s < 2 ^ 64) (config : Config) (first : S) where
  -- calls that are none of the open file lead from one folder to the other
  abbrev pub Goes : S → S → Type 0
  Goes s t = (ts : List Try) (h : Option F) → CallsLead kind config first ts h s → CallsLead kind config first ts h t

  pub goes_same : (s t : S) → t ≡ s → Goes s t
  goes_same s t same ts h lead = subst (CallsLead kind config first ts h) (sym same) lead

  pub goes_on : (s t u : S) → Goes s t → Goes t u → Goes s u
  goes_on s t u f g ts h lead = g ts h (f ts h lead)

  by_call : (s t : S) → Calls kind s t → NotesNothing kind s t → Goes s t
  by_call s t call quiet ts h lead = calls ts h s t lead call quiet

  -- a call with a cause for its fault
  quietly : {T : Type 0} (forbidden : Type 0) (answer : Result T Error) (s t : S) → HasCause kind.is_known forbidden (kind.failures s) (kind.failures t) answer → kind.noted t ≡ kind.noted s → NotesNothing kind s t
  quietly forbidden answer s t cause same = (same, cause_rises kind.is_known forbidden (kind.failures s) (kind.failures t) answer (failures_fit s) cause)

  -- one that counts no failure
  uncounted : (s t : S) → kind.failures t ≡ kind.failures s → kind.noted t ≡ kind.noted s → NotesNothing kind s t
  uncounted s t failures same = (same, omega (arith, failures))

  -- one that failed, and its notice
  with_notice : (notice : NoticeMessage) (s t u : S) → Calls kind s t → NotesNothing kind s t → HasFault kind s t notice → Notes kind t notice u → Goes s u
  with_notice notice s t u call quiet fault noted ts h lead = notes ts h s t u lead call quiet (notice, fault, noted)

  refused_quietly : (name : List ℕ) (s : S) (fault : Error) (t : S) → RefusesDirectly kind name s fault t → Goes s t
  refused_quietly name s fault t none = by_call s t (Opens name (Err fault) none.call) (quietly {T = F} (ForbidsOpen name (kind.content s)) (Err fault) s t none.cause none.noted)

  opened_quietly : (name : List ℕ) (s : S) (file : F) (t : S) → OpensDirectly kind name s file t → Goes s t
  opened_quietly name s file t o = by_call s t (Opens name (Ok file) o.call) (uncounted s t o.failures o.noted)

  made_quietly : (s t : S) → MakesFolder kind s t → Goes s t
  made_quietly s t makes = by_call s t (MakesFolderCall (Ok tt) makes.call) (uncounted s t makes.failures makes.noted)

  unlinked_quietly : (link : List ℕ) (s t : S) → TriesRemoveLink kind link s t → Goes s t
  unlinked_quietly link s t removes = by_call s t (RemovesLink link removes.answer removes.call) (quietly (ForbidsRemoveLink link (kind.content s)) removes.answer s t removes.cause removes.noted)

  -- ---- retention

  file_goes : (name : List ℕ) (s t : S) → RemovesFile kind name s t → Goes s t
  file_goes name s t r = by r.answer r.call r.cause r.notes
    where
      by : (answer : Result (Unit {0}) Error) → kind.remove_gives s name answer r.after → HasCause kind.is_known ⊥ (kind.failures s) (kind.failures r.after) answer
          → MatchResult answer (λ _. t ≡ r.after) (λ fault. Notes kind r.after (NotedRemove name fault) t) → Goes s t
      by (Ok value) call cause same = goes_on s r.after t (by_call s r.after (Removes name (Ok value) call) (quietly ⊥ (Ok value) s r.after cause r.noted)) (goes_same r.after t same)
      by (Err fault) call cause noted =
          with_notice (NotedRemove name fault) s r.after t (Removes name (Err fault) call) (quietly {T = Unit {0}} ⊥ (Err fault) s r.after cause r.noted) (call, cause) noted

  each_goes : (names : List (List ℕ)) (s t : S) → RemovesEach kind names s t → Goes s t
  each_goes [] s t same = goes_same s t same
  each_goes (name ∷ names) s t (between, file, each) = goes_on s between t (file_goes name s between file) (each_goes names between t each)

  listed_goes : (log : LogFiles) (max : ℕ) (s t : S) → PrunesListed kind log max s t → Goes s t
  listed_goes log max s t p = by p.answer p.call p.cause p.goes_on
    where
      by : (answer : Result (Vec Listed Global) Error) → kind.list_gives s answer p.listed → HasCause kind.is_known (ForbidsList (kind.content s)) (kind.failures s) (kind.failures p.listed) answer
          → MatchResult answer (λ all. RemovesPlanned kind log max (map listed_row all.items) p.listed t) (λ fault. Notes kind p.listed (NotedList fault) t) → Goes s t
      by (Ok all) call cause (inl (gone, plan, each)) =
          goes_on s p.listed t (by_call s p.listed (Lists (Ok all) call) (quietly (ForbidsList (kind.content s)) (Ok all) s p.listed cause p.noted))
          (each_goes (filter_map (listed_name_at (map listed_row all.items)) gone) p.listed t each)
      by (Ok all) call cause (inr (fault, memory, noted)) =
          with_notice (NotedList fault) s p.listed t (Lists (Ok all) call) (quietly (ForbidsList (kind.content s)) (Ok all) s p.listed cause p.noted) (inl memory) noted
      by (Err fault) call cause noted =
          with_notice (NotedList fault) s p.listed t (Lists (Err fault) call) (quietly {T = Vec Listed Global} (ForbidsList (kind.content s)) (Err fault) s p.listed cause p.noted) (inr (call, cause)) noted

  prunes_go : (log : LogFiles) (max : ℕ) (s t : S) → Prunes kind log max s t → Goes s t
  prunes_go log zero s t p = goes_same s t (p.none refl)
  prunes_go log (suc max) s t p = listed_goes log (suc max) s t (p.calls (λ none. absurd (omega arith)))

  -- ---- the file

  gets_go : (name : List ℕ) (s : S) (file : F) (t : S) → OpensNamedFile kind name s file t → Goes s t
  gets_go name s file t gets = by gets.calls
    where
      by : OpensDirectly kind name s file t ⊎ OpensInNewFolder kind name s file t → Goes s t
      by (inl o) = opened_quietly name s file t o
      by (inr made) =
          goes_on s made.refused t (refused_quietly name s made.fault made.refused made.first)
          (goes_on made.refused made.ready t (made_quietly made.refused made.ready made.makes) (opened_quietly name made.ready file t made.second))

  -- ---- the link

  links_go : (link name : List ℕ) (s t : S) → LinksTo kind link name s t → Goes s t
  links_go [] name s t same = goes_same s t same
  links_go (b ∷ bs) name s t relinks =
      goes_on s relinks.freed t (unlinked_quietly (b ∷ bs) s relinks.freed relinks.removes)
      (by_call relinks.freed t (MakesLink (b ∷ bs) name (Ok tt) relinks.call) (uncounted relinks.freed t relinks.failures (relinks.noted ∙ sym relinks.removes.noted)))

  -- the link was not made, from this folder on
  abbrev LinkFails : List ℕ → List ℕ → S → Error → S → Type 0
  LinkFails link name s fault t = (freed : S) × Goes s freed × kind.make_link_gives freed link name (Err fault) t × HasCause {T = Unit {0}} kind.is_known (Unit {0}) (kind.failures freed) (kind.failures t) (Err fault) × NotesNothing kind freed t

  links_not : (link name : List ℕ) (s : S) (fault : Error) (t : S) → FailsToLink kind link name s fault t → LinkFails link name s fault t
  links_not [] name s fault t never = absurd never
  links_not (b ∷ bs) name s fault t not = (
    not.freed,
    unlinked_quietly (b ∷ bs) s not.freed not.removes,
    not.call,
    elim not.cause [ inl one ↦ inl one | inr (same, inl memory) ↦ inr (same, inl memory) | inr (same, inr forbidden) ↦ inr (same, inr (forbidden.0, tt)) ],
    quietly {T = Unit {0}} (BlocksLink kind (b ∷ bs) s not.freed) (Err fault) not.freed t not.cause (not.noted ∙ sym not.removes.noted),
  )

  tries_go : (c : Config) (name : List ℕ) (s t : S) → TriesLink kind c name s t → Goes s t
  tries_go c name s t (inl links) = links_go c.link name s t links
  tries_go c name s t (inr (optional, fault, not)) = let it = links_not c.link name s fault t not in goes_on s it.0 t it.1 (by_call it.0 t (MakesLink c.link name (Err fault) it.2) it.4)

  -- the file of this name may be removed
  abbrev MayRemove : List ℕ → S → S → Type 0
  MayRemove name s t = (t ≡ s) ⊎ ((answer : Result (Unit {0}) Error) × kind.remove_gives s name answer t × NotesNothing kind s t)

  removes_empty : (name : List ℕ) (file : F) (s t : S) → RemovesEmpty kind name file s t → MayRemove name s t
  removes_empty name file s t asks = by asks.answer refl
    where
      by : (answer : Option ℕ) → asks.answer ≡ answer → MayRemove name s t
      by None is = inl (asks.other (λ same. absurd (let both : ◌≡◌ {A = Option ℕ} None (Some 0) = sym is ∙ same in cc)))
      by (Some zero) is = let tries = asks.empty is in inr (tries.answer, tries.call, quietly (ForbidsRemove name (kind.content s)) tries.answer s t tries.cause tries.noted)
      by (Some (suc n)) is = inl (asks.other (λ same. absurd (let both : ◌≡◌ {A = Option ℕ} (Some (suc n)) (Some 0) = sym is ∙ same in cc)))

  removes_new : (c : Config) (name : List ℕ) (made : Bool) (file : F) (s t : S) → RemovesNewFile kind c name made file s t → MayRemove name s t
  removes_new c name made file s t removes = by c.by_name made refl refl
    where
      by : (by_name m : Bool) → c.by_name ≡ by_name → made ≡ m → MayRemove name s t
      by false m is_by is_made = inl (removes.other (inl is_by))
      by true false is_by is_made = inl (removes.other (inr is_made))
      by true true is_by is_made = removes_empty name file s t (removes.new_file is_by is_made)

  -- ---- an opening, and a refused one

  -- they open this file for a try
  abbrev Opened : Stamp → F → S → S → Type 0
  Opened m file s t = (ts : List Try) (h : Option F) → CallsLead kind config first ts h s → CallsLead kind config first (record { stamp = m; opened = true; calls = [] } ∷ ts) (Some file) t

  opened_by : (m : Stamp) (s : S) (file : F) (t : S) → OpensDirectly kind (file_name_of config m) s file t → Opened m file s t
  opened_by m s file t o ts h lead = opens ts h s t m file lead o.call (uncounted s t o.failures o.noted)

  gets_opened : (m : Stamp) (s : S) (file : F) (t : S) → OpensNamedFile kind (file_name_of config m) s file t → Opened m file s t
  gets_opened m s file t gets = by gets.calls
    where
      by : OpensDirectly kind (file_name_of config m) s file t ⊎ OpensInNewFolder kind (file_name_of config m) s file t → Opened m file s t
      by (inl o) = opened_by m s file t o
      by (inr made) = λ ts h lead. opened_by m made.ready file t made.second ts h
          (made_quietly made.refused made.ready made.makes ts h (refused_quietly (file_name_of config m) s made.fault made.refused made.first ts h lead))

  pub opens_go : (m : Stamp) (s : S) (file : F) (t : S) → OpensFile kind config (file_name_of config m) s file t → Opened m file s t
  opens_go m s file t o ts h lead =
      let name : List ℕ = file_name_of config m in
      let log : LogFiles = log_files_of config (Some name) in
      goes_on o.unlinked o.linked t (tries_go config name o.unlinked o.linked o.links) (prunes_go log (max_after config) o.linked t o.prunes_last) _ _
      (gets_opened m o.pruned file o.unlinked o.gets ts h (prunes_go log (max_before config) s o.pruned o.prunes ts h lead))

  -- calls lead to one that fails the try
  abbrev Refused : Stamp → InitError → S → S → Type 0
  Refused m error s t = (from : S) × Goes s from × FailsTry kind config m error from t

  -- a call that failed, as it was noted by nothing
  at_once : (m : Stamp) (error : InitError) (from t : S) → FailsByCall kind config m from t error → NotesNothing kind from t → FailsTry kind config m error from t
  at_once m error from t reason quiet = record { failed = t; reason = reason; quiet = quiet; after = inl refl }

  refuses_go : (m : Stamp) (s : S) (error : InitError) (t : S) → RefusesFile kind config (file_name_of config m) s error t → Refused m error s t
  refuses_go m s (Directory fault) t (pruned, prunes, none) = (
    none.refused,
    goes_on s pruned none.refused (prunes_go (log_files_of config (Some (file_name_of config m))) (max_before config) s pruned prunes) (refused_quietly (file_name_of config m) pruned none.first_fault none.refused none.first),
    at_once m (Directory fault) none.refused t (none.call, none.cause) (quietly {T = Unit {0}} ⊥ (Err fault) none.refused t none.cause (none.noted ∙ sym none.first.noted)),
  )
  refuses_go m s (File fault) t (pruned, prunes, none) = (
    none.ready,
    goes_on s pruned none.ready (prunes_go (log_files_of config (Some (file_name_of config m))) (max_before config) s pruned prunes)
        (goes_on pruned none.refused none.ready (refused_quietly (file_name_of config m) pruned none.first_fault none.refused none.first) (made_quietly none.refused none.ready none.makes)),
    at_once m (File fault) none.ready t (none.second.call, none.second.cause) (quietly {T = F} (ForbidsOpen (file_name_of config m) (kind.content none.ready)) (Err fault) none.ready t none.second.cause none.second.noted),
  )
  refuses_go m s (Symlink fault) t (required, pruned, unlinked, file, left, prunes, gets, not, removes) =
      let it = links_not config.link (file_name_of config m) unlinked fault left not in (
        it.0,
        goes_on s pruned it.0 (prunes_go (log_files_of config (Some (file_name_of config m))) (max_before config) s pruned prunes) (goes_on pruned unlinked it.0 (gets_go (file_name_of config m) pruned file unlinked gets) it.1),
        record { failed = left; reason = (required, it.2, it.3); quiet = it.4; after = removes_new config (file_name_of config m) (kind.made_file unlinked) file left t removes },
      )
  refuses_go m s Memory t same = (s, goes_same s s refl, at_once m Memory s t same (rw same (refl, omega arith)))
  refuses_go m s Moment t (pruned, prunes, never) = absurd never
  refuses_go m s (Name fault) t (pruned, prunes, never) = absurd never
  refuses_go m s Limit t (pruned, prunes, never) = absurd never

  closes_go : (s : S) (file : F) (t : S) → ClosesLast kind s file t → Goes s t
  closes_go s file t closes = by closes.answer closes.call closes.cause closes.notes
    where
      by : (answer : Result (Unit {0}) Error) → kind.flush_gives s file answer closes.flushed closes.closed → HasCause kind.is_known ⊥ (kind.failures s) (kind.failures closes.flushed) answer
          → MatchResult answer (λ _. t ≡ closes.flushed) (λ fault. Notes kind closes.flushed (NotedFlush fault) t) → Goes s t
      by (Ok value) call cause same =
          goes_on s closes.flushed t (by_call s closes.flushed (FlushesFile file closes.closed (Ok value) call) (quietly ⊥ (Ok value) s closes.flushed cause closes.noted)) (goes_same closes.flushed t same)
      by (Err fault) call cause noted =
          with_notice (NotedFlush fault) s closes.flushed t (FlushesFile file closes.closed (Err fault) call) (quietly {T = Unit {0}} ⊥ (Err fault) s closes.flushed cause closes.noted) (file, closes.closed, call) noted

  pub switches_go : (s : Stamp) (m : ℤ) (len : ℕ) (old new : Rolling S F) → old.config ≡ config → (w : SwitchesFile kind m len old new) → w.at_stamp ≡ s → Opened s new.file old.folder new.folder
  switches_go s m len old new same w it ts h lead =
      let o : OpensFile kind config (file_name_of config s) old.folder new.file w.ready = rw (← same, ← it) w.opens in
      closes_go w.ready old.file new.folder w.closes _ _ (opens_go s old.folder new.file w.ready o ts h lead)

  pub failure_goes : (s : Stamp) (m : ℤ) (len : ℕ) (old new : Rolling S F) → old.config ≡ config → (k : KeepsFile kind m len old new) → k.at_stamp ≡ s → (ts : List Try) (h : Option F)
      → CallsLead kind config first ts h old.folder → CallsLead kind config first (record { stamp = s; opened = false; calls = [] } ∷ ts) h new.folder
  failure_goes s m len old new same k is ts h lead =
      let refuses : RefusesFile kind config (file_name_of config s) old.folder k.reason k.refused = rw (← same, ← is) k.refuses in
      let it = refuses_go s old.folder k.reason k.refused refuses in
      fails ts h it.0 k.refused new.folder s k.reason (it.1 ts h lead) it.2 k.notes

  -- ---- writes and flushes

  pub write_goes : (l : ℤ) (bytes : List ℕ) (shown : Result ℕ ErrorKind) (answer : Result ℕ Error) (old new : Rolling S F) → shown ≡ by_kind answer → Writes kind bytes answer old new
      → (t : Try) (ts : List Try) → CallsLead kind config first (t ∷ ts) (Some old.file) old.folder
      → CallsLead kind config first (record t { calls = record { latest = l; flush = false; bytes = bytes; answer = shown } ∷ t.calls } ∷ ts) (Some new.file) new.folder
  write_goes l bytes shown answer old new is w t ts lead =
      uses t ts old.file new.file old.folder new.folder (record { latest = l; flush = false; bytes = bytes; answer = shown }) lead (answer, is, w.call) (quietly ⊥ answer old.folder new.folder w.cause w.stays.noted)

  pub flush_goes : (l : ℤ) (shown : Result ℕ ErrorKind) (answer : Result (Unit {0}) Error) (old new : Rolling S F) → shown ≡ by_kind (of_no_byte answer) → Flushes kind answer old new
      → (t : Try) (ts : List Try) → CallsLead kind config first (t ∷ ts) (Some old.file) old.folder
      → CallsLead kind config first (record t { calls = record { latest = l; flush = true; bytes = []; answer = shown } ∷ t.calls } ∷ ts) (Some new.file) new.folder
  flush_goes l shown answer old new is w t ts lead =
      uses t ts old.file new.file old.folder new.folder (record { latest = l; flush = true; bytes = []; answer = shown }) lead (answer, is, w.call) (quietly ⊥ answer old.folder new.folder w.cause w.stays.noted)
