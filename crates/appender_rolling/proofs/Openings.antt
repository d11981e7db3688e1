-- The parts of an opening make the whole.
use Rattle.std.proofs.Common.{◌≡◌, ◌≢◌, ◌∙◌, ◌⊎◌, ◌||◌, ◌&&◌, ℕ, ℤ, pos, ◌+ℤ◌, ◌*ℤ◌, ◌+◌, ◌-◌, ◌^◌, ◌<◌, ◌≤◌, if◌then◌else◌, Bool, true, false, List, [], ◌∷◌, Option, None, Some, Result, Ok, Err, IsTrue, arith, ap, inl, inr, refl, sym, subst}
use Rattle.std.specs.Prelude.{◌==◌, IsSome, OnErr, OnOk, IfErr, option_and_then}
use Rattle.std.specs.declared.io.Error.{Error}
use Rattle.std.specs.FinMap as fin
use Rattle.appender_names.specs.Name.{reading_at}
use Rattle.appender_names.specs.Rotation.{is_moment, period_of}
use Rattle.appender_names.proofs.Periods.{has_start}
use Rattle.appender_names.proofs.Reading.{reading_reads}
use Rattle.appender_retain.specs.Rank.{LogFiles, key_by_name, rank_of, rank_survives}
use Rattle.appender_store.specs.declared.store.Folder.{Ghosts}
use Rattle.appender_store.specs.Content.{Content, NameMap, Entry, File, Link, Folder, RemovesLink, after_make_folder, IsLink, ForbidsMakeLink, ForbidsRemoveLink}
use Rattle.appender_store.specs.Folder.{NotedCounts, HasCause, IsOneMore, entry_row}
use Rattle.appender_retain.specs.Survival.{OpeningsAddOne, LinksAddNone, NamesAreKept, SurvivorsStay, SameSurvive, RemovesOnlyOld, candidates_in, name_ranks, name_survives}
use Rattle.appender_retain.specs.Pruning.{Prunes, IsQuiet}
use Rattle.appender_rolling.specs.Config.{Config, naming_of, log_files_of, max_before, max_after, uncounted}
use Rattle.appender_rolling.specs.Opening.{OpensNamedFile, MayRemoveLink, TriesRemoveLink, IsFileOrFolder, BlocksLink, ReplacesLink, FailsToReplaceLink, LinksTo, FailsToLink, TriesLink, ChangesLink, MayChangeLink, HasDatedName, OpensFile, KeepsMaximum, SparesOpened}
use Rattle.appender_store.specs.NameLaws.{NameLaws}
use Rattle.appender_rolling.proofs.Kept.{removed_name, keeps_tried}
use Rattle.appender_rolling.proofs.Refusals.{may_remove as fails_may_remove}

-- what follows from a forbidden call follows from its cause
weaker_cause : (is_known : Bool) (P Q : Type 0) (old new : ℕ) (fault : Error) → (IsTrue is_known → P → Q) → HasCause {T = Unit {0}} is_known P old new (Err fault) → HasCause {T = Unit {0}} is_known Q old new (Err fault)
weaker_cause is_known P Q old new fault f (inl risen) = inl risen
weaker_cause is_known P Q old new fault f (inr (same, inl memory)) = inr (same, inl memory)
weaker_cause is_known P Q old new fault f (inr (same, inr (t, p))) = inr (same, inr (t, f t p))

any_entry : (o : Option Entry) → IsSome o → IsFileOrFolder o ⊎ IsLink o
any_entry None some = absurd (let both : false ≡ true = some in cc)
any_entry (Some (File b t)) some = inl tt
any_entry (Some (Link target)) some = inr tt
any_entry (Some Folder) some = inl tt

-- a link is no candidate
freed_candidates : (log : LogFiles) (link : List ℕ) (old new : Content) → LinksAddNone log → MayRemoveLink link old new → candidates_in log new ≤ candidates_in log old
freed_candidates log link old new law (inl same) = omega (arith, ap (candidates_in log) same)
freed_candidates log link old new law (inr removes) = law.removed link old new removes

linked_candidates : (log : LogFiles) (link name : List ℕ) (old new : Content) → LinksAddNone log → ChangesLink link name old new → candidates_in log new ≤ candidates_in log old
linked_candidates log [] name old new law same = omega (arith, ap (candidates_in log) same)
linked_candidates log (b ∷ bs) name old new law (freed, frees, makes) = omega (arith, freed_candidates log (b ∷ bs) old freed law frees, law.made (b ∷ bs) name freed new makes)

tried_candidates : (log : LogFiles) (config : Config) (name : List ℕ) (old new : Content) → LinksAddNone log → MayChangeLink config name old new → candidates_in log new ≤ candidates_in log old
tried_candidates log config name old new law (inl changes) = linked_candidates log config.link name old new law changes
tried_candidates log config name old new law (inr (optional, is_set, frees)) = freed_candidates log config.link old new law frees

-- what an opening needs to know of retention
pub record RetentionLaws (log : LogFiles) : Type 0 where
  pub one : OpeningsAddOne log
  pub none : LinksAddNone log
  pub kept : log.by_name ≡ true → NamesAreKept log
  pub stay : log.by_name ≡ true → SurvivorsStay log

-- without a maximum all survive
pub all_survive : (log : LogFiles) (max : ℕ) → max ≡ 0 → (names : NameMap) (name : List ℕ) → name_survives log max names name ≡ true
all_survive log max none names name = rw none refl

-- what survives is there
spared : (log : LogFiles) (max : ℕ) (old new : Content) (name : List ℕ) → RemovesOnlyOld log max old new → name_survives log max old.names name ≡ true → fin.get new.names name ≡ fin.get old.names name
spared log max old new name took is = elim (took.names name) [
  | inl same ↦ same
  | inr gone ↦ absurd (let both : true ≡ false = sym is ∙ gone.1 in cc)
]

-- a link survives
link_survives : (log : LogFiles) (max : ℕ) (names : NameMap) (link : List ℕ) → IsLink (fin.get names link) → name_survives log max names link ≡ true
link_survives log max names link is = ap (rank_survives max (name_ranks log names)) (no_rank (fin.get names link) is) ∙ either (max == 0)
  where
    no_rank : (o : Option Entry) → IsLink o → option_and_then (λ (e : Entry). rank_of log (0, entry_row (link, e))) o ≡ None
    no_rank None never = absurd never
    no_rank (Some (File b t)) never = absurd never
    no_rank (Some (Link target)) is = refl
    no_rank (Some Folder) never = absurd never

    either : (b : Bool) → (b || true) ≡ true
    either true = refl
    either false = refl

-- what is not the name of a log file has no key
undated_keyless : (config : Config) (name : List ℕ) → (¬ HasDatedName config name) → key_by_name (naming_of config) name ≡ None
undated_keyless config name undated = by (reading_at (naming_of config) name) refl
  where
    by : (o : Option (ℤ × ℕ)) → reading_at (naming_of config) name ≡ o → key_by_name (naming_of config) name ≡ None
    by None e = rw e refl
    by (Some key) e = at (period_of config.rotation key.0) refl
      where
        unstarted : (b : Bool) → (if b && false then Some ((key.0 *ℤ pos 1000000) +ℤ pos key.1) else None) ≡ None
        unstarted true = refl
        unstarted false = refl

        at : (p : Option ℤ) → period_of config.rotation key.0 ≡ p → key_by_name (naming_of config) name ≡ None
        at None none = rw (e, none) (unstarted (is_moment key.0))
        at (Some p) some = absurd (undated (has_start config.rotation key.0 p some, (key.0, (key.1, reading_reads (naming_of config) name key e))))

-- a link changes no other name's survival
freed_same : (log : LogFiles) → SurvivorsStay log → (link : List ℕ) (old new : Content) → MayRemoveLink link old new → SameSurvive log old new
freed_same log stay link old new (inl same) max other = ap (λ (c : Content). name_survives log max c.names other) same
freed_same log stay link old new (inr removes) max other = stay.removed link old new removes max other

linked_same : (log : LogFiles) → SurvivorsStay log → (link name : List ℕ) (old new : Content) → ChangesLink link name old new → SameSurvive log old new
linked_same log stay [] name old new same max other = ap (λ (c : Content). name_survives log max c.names other) same
linked_same log stay (b ∷ bs) name old new (freed, frees, makes) max other = stay.made (b ∷ bs) name freed new makes max other ∙ freed_same log stay (b ∷ bs) old freed frees max other

tried_same : (log : LogFiles) → SurvivorsStay log → (config : Config) (name : List ℕ) (old new : Content) → MayChangeLink config name old new → SameSurvive log old new
tried_same log stay config name old new (inl changes) = linked_same log stay config.link name old new changes
tried_same log stay config name old new (inr (optional, is_set, frees)) = freed_same log stay config.link old new frees

module _ {S F : Type 0} (kind : Ghosts S F) where
  -- ---- the link

  may_remove : (link : List ℕ) (old freed : S) → IsTrue kind.is_known → TriesRemoveLink kind link old freed → MayRemoveLink link (kind.content old) (kind.content freed)
  may_remove link old freed is_known removes = by removes.answer removes.ok removes.err
    where
      by : (answer : Result (Unit {0}) Error) → OnOk answer (IsTrue kind.is_known → RemovesLink link (kind.content old) (kind.content freed)) → OnErr answer (kind.content freed ≡ kind.content old) → MayRemoveLink link (kind.content old) (kind.content freed)
      by (Ok u) ok err = inr (ok is_known)
      by (Err e) ok err = inl err

  module _ (maps : NameLaws) (link name : List ℕ) (old freed new : S) (there : IsTrue kind.is_known → (kind.content old).there ≡ true) (removes : TriesRemoveLink kind link old freed) where
    abbrev Forbidden : Type 0
    Forbidden = BlocksLink kind link old freed

    -- the cause of a link that isn't made
    link_cause : (fault : Error) → HasCause {T = Unit {0}} kind.is_known (ForbidsMakeLink link (kind.content freed)) (kind.failures freed) (kind.failures new) (Err fault)
        → HasCause {T = Unit {0}} kind.is_known Forbidden (kind.failures freed) (kind.failures new) (Err fault)
    link_cause fault cause = by removes.answer removes.ok removes.err removes.memory
      where
        weaker : (IsTrue kind.is_known → ForbidsMakeLink link (kind.content freed) → Forbidden) → HasCause {T = Unit {0}} kind.is_known Forbidden (kind.failures freed) (kind.failures new) (Err fault)
        weaker f = weaker_cause kind.is_known (ForbidsMakeLink link (kind.content freed)) Forbidden (kind.failures freed) (kind.failures new) fault f cause

        by : (answer : Result (Unit {0}) Error) → OnOk answer (IsTrue kind.is_known → RemovesLink link (kind.content old) (kind.content freed)) → OnErr answer (kind.content freed ≡ kind.content old) → OnErr answer (IsOneMore (kind.failures old) (kind.failures freed) ⊎ (IsTrue kind.is_known × ForbidsRemoveLink link (kind.content old)))
            → HasCause {T = Unit {0}} kind.is_known Forbidden (kind.failures freed) (kind.failures new) (Err fault)
        by (Ok u) ok err memory = weaker free
          where
            free : IsTrue kind.is_known → ForbidsMakeLink link (kind.content freed) → Forbidden
            free is_known (inl absent) = absurd (let both : true ≡ false = sym (there is_known) ∙ ap (λ (c : Content). c.there) (sym (ok is_known).after) ∙ absent in cc)
            free is_known (inr some) = absurd (let gone : fin.get (kind.content freed).names link ≡ None = ap (λ (c : Content). fin.get c.names link) (ok is_known).after ∙ removed_name maps (kind.content old).names link in let both : false ≡ true = rw gone at some in cc)
        by (Err e) ok err (inl risen) = weaker stayed
          where
            stayed : IsTrue kind.is_known → ForbidsMakeLink link (kind.content freed) → Forbidden
            stayed t (inl absent) = absurd (let both : true ≡ false = sym (there t) ∙ ap (λ (c : Content). c.there) (sym err) ∙ absent in cc)
            stayed t (inr some) = elim (any_entry (fin.get (kind.content old).names link) (subst (λ (c : Content). IsSome (fin.get c.names link)) err some)) [
              | inl other ↦ inl other
              | inr old_link ↦ inr (old_link, risen)
            ]
        by (Err e) ok err (inr (is_known, inl absent)) = absurd (let both : true ≡ false = sym (there is_known) ∙ absent in cc)
        by (Err e) ok err (inr (is_known, inr none)) = weaker in_use
          where
            in_use : IsTrue kind.is_known → ForbidsMakeLink link (kind.content freed) → Forbidden
            in_use t (inl absent) = absurd (let both : true ≡ false = sym (there t) ∙ ap (λ (c : Content). c.there) (sym err) ∙ absent in cc)
            in_use t (inr some) = elim (any_entry (fin.get (kind.content old).names link) (subst (λ (c : Content). IsSome (fin.get c.names link)) err some)) [
              | inl other ↦ inl other
              | inr old_link ↦ absurd (none old_link)
            ]

    pub links_not : (answer : Result (Unit {0}) Error) → kind.make_link_gives freed link name answer new → OnErr answer (kind.content new ≡ kind.content freed) → HasCause kind.is_known (ForbidsMakeLink link (kind.content freed)) (kind.failures freed) (kind.failures new) answer → kind.noted new ≡ kind.noted freed
        → IfErr answer (λ fault. FailsToReplaceLink kind link name old fault new)
    links_not (Ok u) call err cause noted = tt
    links_not (Err fault) call err cause noted = record {
      freed = freed;
      removes = removes;
      call = call;
      cause = link_cause fault cause;
      content = λ is_known. subst (λ (c : Content). MayRemoveLink link (kind.content old) c) (sym err) (may_remove link old freed is_known removes);
      noted = noted ∙ removes.noted;
    }

  -- ---- the whole

  pub links_unset : (link name : List ℕ) (s : S) → link ≡ [] → LinksTo kind link name s s
  links_unset [] name s e = refl
  links_unset (b ∷ bs) name s e = absurd (let both : ◌≡◌ {A = List ℕ} (b ∷ bs) [] = e in cc)

  pub links_set : (link name : List ℕ) (old new : S) → link ≢ [] → ReplacesLink kind link name old new → LinksTo kind link name old new
  links_set [] name old new is_set relinks = absurd (is_set refl)
  links_set (b ∷ bs) name old new is_set relinks = relinks

  linked_to : (link name : List ℕ) (old new : S) → IsTrue kind.is_known → LinksTo kind link name old new → ChangesLink link name (kind.content old) (kind.content new)
  linked_to [] name old new is_known same = ap kind.content same
  linked_to (b ∷ bs) name old new is_known relinks = let w = relinks.content is_known in (kind.content relinks.freed, w.0, w.1)

  -- a link that was refused is set
  was_set : (link name : List ℕ) (old : S) (fault : Error) (new : S) → FailsToLink kind link name old fault new → link ≢ []
  was_set [] name old fault new never = absurd never
  was_set (b ∷ bs) name old fault new links_not = λ e. let both : ◌≡◌ {A = List ℕ} (b ∷ bs) [] = e in cc

  tried_to : (config : Config) (name : List ℕ) (old new : S) → IsTrue kind.is_known → TriesLink kind config name old new → MayChangeLink config name (kind.content old) (kind.content new)
  tried_to config name old new is_known (inl links) = inl (linked_to config.link name old new is_known links)
  tried_to config name old new is_known (inr (optional, fault, links_not)) =
      inr (optional, was_set config.link name old fault new links_not, fails_may_remove kind config config.link name old fault new is_known links_not)

  links_noted : (link name : List ℕ) (old new : S) → LinksTo kind link name old new → kind.noted new ≡ kind.noted old
  links_noted [] name old new same = ap kind.noted same
  links_noted (b ∷ bs) name old new relinks = relinks.noted

  links_not_noted : (link name : List ℕ) (old : S) (fault : Error) (new : S) → FailsToLink kind link name old fault new → kind.noted new ≡ kind.noted old
  links_not_noted [] name old fault new never = absurd never
  links_not_noted (b ∷ bs) name old fault new links_not = links_not.noted

  tries_noted : (config : Config) (name : List ℕ) (old new : S) → TriesLink kind config name old new → kind.noted new ≡ kind.noted old
  tries_noted config name old new (inl links) = links_noted config.link name old new links
  tries_noted config name old new (inr (optional, fault, links_not)) = links_not_noted config.link name old fault new links_not

  quiet_from : (a b : NotedCounts) → b.lists ≡ a.lists → b.removes ≡ a.removes → b.lists < 2 ^ 64 - 1 → b.removes < 2 ^ 64 - 1 → IsQuiet a b
  quiet_from a b lists removes low lower = record { lists = lists; removes = removes; below = (low, lower) }

  module _ (maps : NameLaws) (config : Config) (name : List ℕ) (laws : RetentionLaws (log_files_of config (Some name))) (old pruned unlinked linked new : S) (file : F)
      (prunes : Prunes kind (log_files_of config (Some name)) (max_before config) old pruned) (gets : OpensNamedFile kind name pruned file unlinked)
      (links : TriesLink kind config name unlinked linked) (prunes_last : Prunes kind (log_files_of config (Some name)) (max_after config) linked new) where
    abbrev log : LogFiles
    log = log_files_of config (Some name)

    noted : kind.noted linked ≡ kind.noted pruned
    noted = tries_noted config name unlinked linked links ∙ gets.noted

    -- by name nothing was removed before the opening, else nothing after it
    unpruned : config.by_name ≡ true → pruned ≡ old
    unpruned by_name = prunes.none (ap (λ (t : Bool). if t then 0 else config.max_files) by_name)

    unpruned_last : config.by_name ≡ false → new ≡ linked
    unpruned_last by_parts = prunes_last.none (ap (λ (t : Bool). if t then config.max_files else 0) by_parts)

    at_most : KeepsMaximum kind config name old new
    at_most quiet is_known some = by config.by_name refl
      where
        by : (t : Bool) → config.by_name ≡ t → candidates_in log (kind.content new) + uncounted config ≤ config.max_files
        by false is =
            let same : new ≡ linked = unpruned_last is in
            let max : max_before config ≡ config.max_files = ap (λ (t : Bool). if t then 0 else config.max_files) is in
            let all : uncounted config ≡ 0 = ap (λ (t : Bool). if t then 1 else 0) is in
            let as_pruned : kind.noted new ≡ kind.noted pruned = ap kind.noted same ∙ noted in
            let before = prunes.fewer (subst (λ (n : NotedCounts). IsQuiet (kind.noted old) n) as_pruned quiet) is_known (omega (arith, max, some)) in
            let more = laws.one name (after_make_folder (kind.content pruned)) (kind.content unlinked) (kind.body file) (gets.opens is_known) in
            let still = tried_candidates log config name (kind.content unlinked) (kind.content linked) laws.none (tried_to config name unlinked linked is_known links) in
            rw same (omega (arith, before, more, still, max, all))
        by true is =
            let max : max_after config ≡ config.max_files = ap (λ (t : Bool). if t then config.max_files else 0) is in
            let as_old : kind.noted linked ≡ kind.noted old = noted ∙ ap kind.noted (unpruned is) in
            let left = prunes_last.fewer (subst (λ (n : NotedCounts). IsQuiet n (kind.noted new)) (sym as_old) quiet) is_known (omega (arith, max, some)) in
            let one : uncounted config ≡ 1 = ap (λ (t : Bool). if t then 1 else 0) is in
            omega (arith, left, one, max)

    quiet_both : IsQuiet (kind.noted old) (kind.noted new) → IsQuiet (kind.noted old) (kind.noted pruned) × IsQuiet (kind.noted linked) (kind.noted new)
    quiet_both quiet = by config.by_name refl
      where
        by : (t : Bool) → config.by_name ≡ t → IsQuiet (kind.noted old) (kind.noted pruned) × IsQuiet (kind.noted linked) (kind.noted new)
        by false is =
            let same : kind.noted new ≡ kind.noted linked = ap kind.noted (unpruned_last is) in
            let as_pruned : kind.noted new ≡ kind.noted pruned = same ∙ noted in
            (subst (λ (n : NotedCounts). IsQuiet (kind.noted old) n) as_pruned quiet, quiet_from (kind.noted linked) (kind.noted new) (ap (λ (n : NotedCounts). n.lists) same) (ap (λ (n : NotedCounts). n.removes) same) quiet.below.0 quiet.below.1)
        by true is =
            let same : kind.noted pruned ≡ kind.noted old = ap kind.noted (unpruned is) in
            let lists : (kind.noted pruned).lists ≡ (kind.noted old).lists = ap (λ (n : NotedCounts). n.lists) same in
            let removes : (kind.noted pruned).removes ≡ (kind.noted old).removes = ap (λ (n : NotedCounts). n.removes) same in (
              quiet_from (kind.noted old) (kind.noted pruned) lists removes (let low = quiet.below.0 in let is = quiet.lists in omega (arith, lists, low, is)) (let low = quiet.below.1 in let is = quiet.removes in omega (arith, removes, low, is)),
              subst (λ (n : NotedCounts). IsQuiet n (kind.noted new)) (sym (noted ∙ same)) quiet,
            )

    spares : IsTrue kind.is_known → SparesOpened config name (kind.content old) (kind.content linked) (kind.content new)
    spares is_known = record {
      file = spared log (max_after config) (kind.content linked) (kind.content new) name last (own config.by_name refl);
      link = λ which. spared log (max_after config) (kind.content linked) (kind.content new) config.link last (elim which [
        | inl is_link ↦ link_survives log (max_after config) (kind.content linked).names config.link is_link
        | inr undated ↦ undated_survives undated config.by_name refl
      ]);
      same = λ other. same other config.by_name refl;
    }
      where
        last : RemovesOnlyOld log (max_after config) (kind.content linked) (kind.content new)
        last = prunes_last.only_old is_known

        changes : MayChangeLink config name (kind.content unlinked) (kind.content linked)
        changes = tried_to config name unlinked linked is_known links

        undated_survives : (¬ HasDatedName config config.link) → (t : Bool) → config.by_name ≡ t → name_survives log (max_after config) (kind.content linked).names config.link ≡ true
        undated_survives undated false is = all_survive log (max_after config) (ap (λ (t : Bool). if t then config.max_files else 0) is) (kind.content linked).names config.link
        undated_survives undated true is = (laws.kept is).others config.link (undated_keyless config config.link undated) (max_after config) (kind.content linked).names

        own : (t : Bool) → config.by_name ≡ t → name_survives log (max_after config) (kind.content linked).names name ≡ true
        own false is = all_survive log (max_after config) (ap (λ (t : Bool). if t then config.max_files else 0) is) (kind.content linked).names name
        own true is = (laws.kept is).opened name refl (max_after config) (kind.content linked).names

        same : (other : List ℕ) (t : Bool) → config.by_name ≡ t → name_survives log (max_after config) (kind.content linked).names other ≡ name_survives log (max_after config) (kind.content old).names other
        same other false is =
            let none : max_after config ≡ 0 = ap (λ (t : Bool). if t then config.max_files else 0) is in
            all_survive log (max_after config) none (kind.content linked).names other ∙ sym (all_survive log (max_after config) none (kind.content old).names other)
        same other true is =
            let stay = laws.stay is in
            tried_same log stay config name (kind.content unlinked) (kind.content linked) changes (max_after config) other
            ∙ stay.opened name (after_make_folder (kind.content pruned)) (kind.content unlinked) (kind.body file) refl (gets.opens is_known) (max_after config) other
            ∙ ap (λ (s : S). name_survives log (max_after config) (kind.content s).names other) (unpruned is)

    pub opens_file : OpensFile kind config name old file new
    opens_file = record {
      pruned = pruned;
      unlinked = unlinked;
      linked = linked;
      prunes = prunes;
      gets = gets;
      links = links;
      prunes_last = prunes_last;
      changes_link = λ is_known. tried_to config name unlinked linked is_known links;
      body_is_there = λ is_known.
          rw (prunes_last.only_old is_known).bodies ((keeps_tried maps config name (kind.content unlinked) (kind.content linked) (tried_to config name unlinked linked is_known links)).keeps.more (kind.body file) (gets.body_is_there is_known));
      spares = spares;
      noted = noted;
      quiet = quiet_both;
      at_most = at_most;
    }
