-- The names that an attempt leaves.
use Rattle.std.proofs.Common.{◌≡◌, ◌≢◌, ◌∙◌, ◌||◌, ℕ, ℤ, Bool, true, false, if◌then◌else◌, List, [], ◌∷◌, Option, None, Some, is_some, inl, inr, refl, sym, ap, subst}
use Rattle.std.specs.Prelude.{◌==◌, option_and_then}
use Rattle.std.specs.FinMap as fin
use Rattle.appender_retain.specs.Rank.{LogFiles, rank_of, rank_survives}
use Rattle.appender_store.specs.Content.{Content, NameMap, Entry, File, Link, OpensBody, IsSound}
use Rattle.appender_store.specs.Folder.{entry_row}
use Rattle.appender_store.specs.NameLaws.{NameLaws}
use Rattle.appender_retain.specs.Survival.{RemovesOnlyOld, KeepsSurvivors, name_rank, name_ranks, name_survives}
use Rattle.appender_rolling.specs.Config.{Config, log_files_of, max_before, max_after}
use Rattle.appender_rolling.specs.Opening.{MayRemoveLink, MayRemoveNew, ChangesLink, MayChangeLink, SparesOpened}

-- a file's name is not that of a link that was made
no_file : (target : List ℕ) (x : ℕ) (t : Option ℤ) → ¬ (◌≡◌ {A = Option Entry} (Some (Link target)) (Some (File x t)))
no_file target x t e = cc

pub none_of : (o : Option Entry) → is_some o ≡ false → o ≡ None
none_of None e = refl
none_of (Some x) e = absurd (let both : true ≡ false = e in cc)

either_none : (t : Bool) (o : Option Entry) → o ≡ None → (if t then o else None) ≡ None
either_none true o e = e
either_none false o e = refl

-- a folder that isn't there has no name, before retention and after
pub nothing_survives : (log : LogFiles) (max : ℕ) (old new : Content) → IsSound old → old.there ≡ false → RemovesOnlyOld log max old new → KeepsSurvivors log max old new
nothing_survives log max old new sound gone took name =
    let none : fin.get old.names name ≡ None = none_of (fin.get old.names name) (sound.absent gone name) in
    let now : fin.get new.names name ≡ None = elim (took.names name) [ inl same ↦ same ∙ none | inr w ↦ w.0 ] in
    now ∙ sym (either_none (name_survives log max old.names name) (fin.get old.names name) none)

-- a name that nothing has survives
none_survives : (log : LogFiles) (max : ℕ) (names : NameMap) (name : List ℕ) → fin.get names name ≡ None → name_survives log max names name ≡ true
none_survives log max names name at =
    let none : name_rank log names name ≡ None = ap (option_and_then (λ (e : Entry). rank_of log (0, entry_row (name, e)))) at in
    ap (rank_survives max (name_ranks log names)) none ∙ either (max == 0)
  where
    either : (b : Bool) → (b || true) ≡ true
    either true = refl
    either false = refl

-- what takes only what doesn't survive, and that is nothing, leaves exactly the survivors
all_keep : (log : LogFiles) (max : ℕ) (old new : Content) → ((name : List ℕ) → name_survives log max old.names name ≡ true) → RemovesOnlyOld log max old new → KeepsSurvivors log max old new
all_keep log max old new all took name = elim (took.names name) [
  | inl same ↦ same ∙ sym (ap (λ (t : Bool). if t then fin.get old.names name else None) (all name))
  | inr gone ↦ absurd (let both : true ≡ false = sym (all name) ∙ gone.1 in cc)
]

-- so it is without a maximum
pub unlimited_keep : (log : LogFiles) (max : ℕ) (old new : Content) → max ≡ 0 → RemovesOnlyOld log max old new → KeepsSurvivors log max old new
unlimited_keep log max old new none took = all_keep log max old new (λ name. rw none refl) took

-- and last, if the folder was absent before the opening
pub nothing_survives_last : (c : Config) (name : List ℕ) (old linked new : Content) → IsSound old → old.there ≡ false → SparesOpened c name old linked new → RemovesOnlyOld (log_files_of c (Some name)) (max_after c) linked new → KeepsSurvivors (log_files_of c (Some name)) (max_after c) linked new
nothing_survives_last c name old linked new sound gone spares took =
    all_keep (log_files_of c (Some name)) (max_after c) linked new (λ other. spares.same other ∙ none_survives (log_files_of c (Some name)) (max_after c) old.names other (none_of (fin.get old.names other) (sound.absent gone other))) took

-- what retention before the opening and after it leave is what the maximum leaves
pub either_leaves : (c : Config) (log : LogFiles) (names : NameMap) (name : List ℕ) (v : Option Entry) → (if name_survives log (max_after c) names name then (if name_survives log (max_before c) names name then v else None) else None) ≡ (if name_survives log c.max_files names name then v else None)
either_leaves c log names name v = by c.by_name
  where
    by : (t : Bool) → (if name_survives log (if t then c.max_files else 0) names name then (if name_survives log (if t then 0 else c.max_files) names name then v else None) else None) ≡ (if name_survives log c.max_files names name then v else None)
    by true = refl
    by false = refl

pub left_by : (c : Config) (log : LogFiles) (before linked after : NameMap) (name : List ℕ) → fin.get after name ≡ (if name_survives log (max_after c) linked name then fin.get linked name else None) → name_survives log (max_after c) linked name ≡ name_survives log (max_after c) before name
    → fin.get linked name ≡ (if name_survives log (max_before c) before name then fin.get before name else None) → fin.get after name ≡ (if name_survives log c.max_files before name then fin.get before name else None)
left_by c log before linked after name left same pruned =
    left ∙ ap (λ (t : Bool). if t then fin.get linked name else None) same
    ∙ ap (λ (o : Option Entry). if name_survives log (max_after c) before name then o else None) pruned
    ∙ either_leaves c log before name (fin.get before name)

module _ (maps : NameLaws) where
  added_name : (names : NameMap) (name : List ℕ) (entry : Entry) → fin.get (fin.insert names name entry) name ≡ Some entry
  added_name names name entry = elim (maps.additions names name entry name) [ inl own ↦ own.1 | inr other ↦ absurd (other.0 refl) ]

  added_other : (names : NameMap) (name : List ℕ) (entry : Entry) (n : List ℕ) → n ≢ name → fin.get (fin.insert names name entry) n ≡ fin.get names n
  added_other names name entry n ne = elim (maps.additions names name entry n) [ inl own ↦ absurd (ne own.0) | inr other ↦ other.1 ]

  pub removed_name : (names : NameMap) (name : List ℕ) → fin.get (fin.remove names name) name ≡ None
  removed_name names name = elim (maps.removals names name name) [ inl own ↦ own.1 | inr other ↦ absurd (other.0 refl) ]

  removed_other : (names : NameMap) (name n : List ℕ) → n ≢ name → fin.get (fin.remove names name) n ≡ fin.get names n
  removed_other names name n ne = elim (maps.removals names name n) [ inl own ↦ absurd (ne own.0) | inr other ↦ other.1 ]

  -- a name that an opening makes leads to its body
  pub leads_to : (m : List ℕ) (old new : Content) (c : ℕ) → OpensBody m old new c → (t : Option ℤ) × (fin.get new.names m ≡ Some (File c t))
  leads_to m old new c (there, inl (t, at, same)) = (t, subst (λ (d : Content). fin.get d.names m ≡ Some (File c t)) (sym same) at)
  leads_to m old new c (there, inr (t, free, number, after)) = (t, subst (λ (d : Content). fin.get d.names m ≡ Some (File c t)) (sym after) (added_name old.names m (File c t)))

  pub opened_other : (m : List ℕ) (old new : Content) (c : ℕ) (n : List ℕ) → OpensBody m old new c → n ≢ m → fin.get new.names n ≡ fin.get old.names n
  opened_other m old new c n (there, inl (t, at, same)) ne = ap (λ (d : Content). fin.get d.names n) same
  opened_other m old new c n (there, inr (t, free, number, after)) ne = ap (λ (d : Content). fin.get d.names n) after ∙ added_other old.names m (File c t) n ne

  pub unremoved_other : (c : Config) (name : List ℕ) (old left new : Content) (n : List ℕ) → MayRemoveNew c name old left new → n ≢ name → fin.get new.names n ≡ fin.get left.names n
  unremoved_other c name old left new n (inl same) ne = ap (λ (d : Content). fin.get d.names n) same
  unremoved_other c name old left new n (inr (by_name, free, removes)) ne = ap (λ (d : Content). fin.get d.names n) removes.after ∙ removed_other left.names name n ne

  pub freed_other : (link : List ℕ) (old freed : Content) (n : List ℕ) → MayRemoveLink link old freed → n ≢ link → fin.get freed.names n ≡ fin.get old.names n
  freed_other link old freed n (inl same) ne = ap (λ (d : Content). fin.get d.names n) same
  freed_other link old freed n (inr removes) ne = ap (λ (d : Content). fin.get d.names n) removes.after ∙ removed_other old.names link n ne

  linked_other : (link name : List ℕ) (old new : Content) (n : List ℕ) → ChangesLink link name old new → (n ≡ link → link ≡ []) → fin.get new.names n ≡ fin.get old.names n
  linked_other [] name old new n same unset = ap (λ (d : Content). fin.get d.names n) same
  linked_other (b ∷ bs) name old new n (freed, frees, makes) unset =
      let ne : n ≢ b ∷ bs = λ is. let both : ◌≡◌ {A = List ℕ} (b ∷ bs) [] = unset is in cc in
      ap (λ (d : Content). fin.get d.names n) makes.after ∙ added_other freed.names (b ∷ bs) (Link name) n ne ∙ freed_other (b ∷ bs) old freed n frees ne

  pub linked_name : (link name : List ℕ) (old new : Content) → ChangesLink link name old new → link ≢ [] → fin.get new.names link ≡ Some (Link name)
  linked_name [] name old new same is_set = absurd (is_set refl)
  linked_name (b ∷ bs) name old new (freed, frees, makes) is_set = ap (λ (d : Content). fin.get d.names (b ∷ bs)) makes.after ∙ added_name freed.names (b ∷ bs) (Link name)

  apart_from_link : (link name : List ℕ) (old new : Content) (m : List ℕ) (x : ℕ) (t : Option ℤ) → ChangesLink link name old new → fin.get old.names m ≡ Some (File x t) → m ≡ link → link ≡ []
  apart_from_link [] name old new m x t same at is = refl
  apart_from_link (b ∷ bs) name old new m x t (freed, inl same, makes) at is =
      absurd (let taken : fin.get freed.names (b ∷ bs) ≡ Some (File x t) = ap (λ (d : Content). fin.get d.names (b ∷ bs)) same ∙ ap (fin.get old.names) (sym is) ∙ at in
      let both : ◌≡◌ {A = Option Entry} None (Some (File x t)) = sym makes.was_free ∙ taken in cc)
  apart_from_link (b ∷ bs) name old new m x t (freed, inr removes, makes) at is =
      absurd (no_file removes.was_there.0 x t (sym removes.was_there.1 ∙ ap (fin.get old.names) (sym is) ∙ at))

  -- what is not the link stays
  pub tried_other : (c : Config) (name : List ℕ) (old new : Content) (n : List ℕ) → MayChangeLink c name old new → (n ≡ c.link → c.link ≡ []) → fin.get new.names n ≡ fin.get old.names n
  tried_other c name old new n (inl changes) unset = linked_other c.link name old new n changes unset
  tried_other c name old new n (inr (optional, is_set, frees)) unset = freed_other c.link old new n frees (λ is. is_set (unset is))

  -- and so does each file
  pub tried_file : (c : Config) (name : List ℕ) (old new : Content) (m : List ℕ) (x : ℕ) (t : Option ℤ) → MayChangeLink c name old new → fin.get old.names m ≡ Some (File x t) → fin.get new.names m ≡ Some (File x t)
  tried_file c name old new m x t (inl changes) at = linked_other c.link name old new m changes (apart_from_link c.link name old new m x t changes at) ∙ at
  tried_file c name old new m x t (inr (optional, is_set, inl same)) at = ap (λ (d : Content). fin.get d.names m) same ∙ at
  tried_file c name old new m x t (inr (optional, is_set, inr removes)) at =
      freed_other c.link old new m (inr removes) (λ is. no_file removes.was_there.0 x t (sym removes.was_there.1 ∙ ap (fin.get old.names) (sym is) ∙ at)) ∙ at
