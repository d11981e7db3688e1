-- The names that the attempts of a run leave, one after another.
use Rattle.std.proofs.Common.{◌≡◌, ◌≢◌, ◌∙◌, ◌⊎◌, ℕ, suc, ℤ, ◌<◌, ◌≤◌, nat_le, Bool, true, false, List, [], ◌∷◌, ◌++◌, length, map, All, Any, Contains, Option, None, Some, is_some, inl, inr, refl, sym, ap, subst, arith}
use Rattle.std.specs.Prelude.{if◌then◌else◌, MatchOption}
use Rattle.std.specs.FinMap as fin
use Rattle.std.proofs.lemmas.List.{length-set}
use Rattle.std.proofs.lemmas.List.Elements.{All-head, All-tail, All-nil, All-cons, All-contains}
use Rattle.std.proofs.lemmas.Slice.Eq.{bytes_eq-Decides}
use Rattle.std.specs.Str.{bytes_eq}
use Rattle.appender_store.specs.Content.{Content, NameMap, Entry, File, Link, OpensBody, IsSound, IsLink, after_make_folder, body_at}
use Rattle.appender_store.specs.NameLaws.{NameLaws}
use Rattle.appender_retain.specs.Pruning.{IsQuiet}
use Rattle.appender_retain.specs.Rank.{LogFiles}
use Rattle.appender_retain.specs.Survival.{RemovesOnlyOld, KeepsSurvivors, name_survives}
use Rattle.appender_rolling.specs.Config.{Config, log_files_of, max_before, max_after}
use Rattle.appender_rolling.specs.Kept.{OpeningPartsKeepBodies}
use Rattle.appender_rolling.specs.declared.rolling.setup.Stamp.{Stamp}
use Rattle.appender_rolling.specs.Opening.{file_name_of, IsRefusalEffect, MayRemoveLink, MayRemoveNew}
use Rattle.appender_replay.specs.Run.{Attempt, WrittenAttempt, try_of, open_body, Carried, OnlyAttemptsChange, Succeeded, AttemptDoes, EachOf}
use Rattle.appender_replay.specs.Headline.{Try, IsOld, bytes_taken, NamesAfterOpening, NamesAfterFailure, NamesAfterTries, kept_entry}
use Rattle.appender_replay.proofs.NamesLeft.{linked_name, nothing_survives, nothing_survives_last, unlimited_keep, either_leaves, left_by, leads_to, removed_name, opened_other, freed_other, unremoved_other, tried_other, tried_file}

pub carried_names : (o : Option ℕ) (bytes : List ℕ) (old new : Content) → Carried o bytes old new → new.names ≡ old.names
carried_names None bytes old new is = ap (λ (d : Content). d.names) is
carried_names (Some b) bytes old new is = ap (λ (d : Content). d.names) is

-- ---- bodies

-- no body goes
abbrev pub HasAll : Content → Content → Type 0
HasAll old new = (x : ℕ) → x < length old.bodies → x < length new.bodies

carried_bodies : (o : Option ℕ) (bytes : List ℕ) (old new : Content) → Carried o bytes old new → HasAll old new
carried_bodies None bytes old new is x lt = rw is lt
carried_bodies (Some b) bytes old new is x lt = rw (is, length-set old.bodies b (body_at old b ++ bytes)) lt

module _ (parts : OpeningPartsKeepBodies) (c : Config) where
  tried_bodies : (a : Attempt) → AttemptDoes c a → HasAll a.before a.after
  tried_bodies a did = by a.body did
    where
      by : (o : Option ℕ) → MatchOption o (IsRefusalEffect c (file_name_of c a.stamp) a.before a.after) (Succeeded c a) → HasAll a.before a.after
      by None did = (parts.refusal c (file_name_of c a.stamp) a.before a.after did).keeps.more
      by (Some b) did = λ x lt.
          (parts.retention (log_files_of c (Some (file_name_of c a.stamp))) (max_after c) did.linked a.after did.only_old_last).keeps.more x
          ((parts.link c (file_name_of c a.stamp) did.unlinked did.linked did.links).keeps.more x
          ((parts.opening (file_name_of c a.stamp) (after_make_folder did.pruned) did.unlinked b did.opens).keeps.more x
          ((parts.folder did.pruned).keeps.more x ((parts.retention (log_files_of c (Some (file_name_of c a.stamp))) (max_before c) a.before did.pruned did.only_old).keeps.more x lt))))

  pub leads_bodies : (attempts : List WrittenAttempt) (first last : Content) → OnlyAttemptsChange c attempts first last → HasAll first last
  leads_bodies [] first last leads x lt = rw leads lt
  leads_bodies ((a, writes) ∷ earlier) first last leads x lt =
      carried_bodies (open_body ((a, writes) ∷ earlier)) (bytes_taken writes) a.after last leads.2 x (tried_bodies a leads.1 x (leads_bodies earlier first a.before leads.0 x lt))

at_least : (m n : ℕ) → ((x : ℕ) → x < m → x < n) → m ≤ n
at_least m n more = by (nat_le m n) refl
  where
    by : (t : Bool) → nat_le m n ≡ t → m ≤ n
    by true e = grind arith
    by false e = let short : n < m = grind arith in let never : n < n = more n short in absurd (omega arith)

-- without a maximum every name survives
all_survive : (log : LogFiles) (max : ℕ) (names : NameMap) (name : List ℕ) → max ≡ 0 → name_survives log max names name ≡ true
all_survive log max names name none = rw none refl

-- ---- exactly the survivors

module _ (maps : NameLaws) (c : Config) where
  -- Why an attempt left exactly the survivors: there is no maximum, or it noted nothing, or the folder was absent.
  abbrev pub PrunesAll : Attempt → Type 0
  PrunesAll a = (c.max_files ≡ 0) ⊎ (IsQuiet a.noted_before a.noted_after ⊎ ((a.before.there ≡ false) × IsSound a.before))

  pub none_before : c.max_files ≡ 0 → max_before c ≡ 0
  none_before none = by c.by_name
    where
      by : (t : Bool) → (if t then 0 else c.max_files) ≡ 0
      by true = refl
      by false = none

  pub none_after : c.max_files ≡ 0 → max_after c ≡ 0
  none_after none = by c.by_name
    where
      by : (t : Bool) → (if t then c.max_files else 0) ≡ 0
      by true = none
      by false = refl

  pruned_is : (a : Attempt) (b : ℕ) (did : Succeeded c a b) → PrunesAll a → KeepsSurvivors (log_files_of c (Some (file_name_of c a.stamp))) (max_before c) a.before did.pruned
  pruned_is a b did (inl none) = unlimited_keep (log_files_of c (Some (file_name_of c a.stamp))) (max_before c) a.before did.pruned (none_before none) did.only_old
  pruned_is a b did (inr (inl quiet)) = did.survivors quiet
  pruned_is a b did (inr (inr absent)) = nothing_survives (log_files_of c (Some (file_name_of c a.stamp))) (max_before c) a.before did.pruned absent.1 absent.0 did.only_old

  left_is : (a : Attempt) (b : ℕ) (did : Succeeded c a b) → PrunesAll a → KeepsSurvivors (log_files_of c (Some (file_name_of c a.stamp))) (max_after c) did.linked a.after
  left_is a b did (inl none) = unlimited_keep (log_files_of c (Some (file_name_of c a.stamp))) (max_after c) did.linked a.after (none_after none) did.only_old_last
  left_is a b did (inr (inl quiet)) = did.survivors_last quiet
  left_is a b did (inr (inr absent)) = nothing_survives_last c (file_name_of c a.stamp) a.before did.linked a.after absent.1 absent.0 did.spares did.only_old_last

  module _ (n : ℕ) (a : Attempt) (b : ℕ) (did : Succeeded c a b) (all : PrunesAll a) (more : (x : ℕ) → x < n → x < length a.before.bodies) where
    abbrev own : List ℕ
    own = file_name_of c a.stamp

    abbrev Own : Type 0
    Own = (b : ℕ) × (t : Option ℤ) × (fin.get a.after.names own ≡ Some (File b t)) × ((kept_entry c a.stamp a.before.names own ≡ Some (File b t)) ⊎ ((kept_entry c a.stamp a.before.names own ≡ None) × (n ≤ b)))

    abbrev log : LogFiles
    log = log_files_of c (Some own)

    stays : (x : ℕ) (t : Option ℤ) → fin.get did.unlinked.names own ≡ Some (File x t) → fin.get a.after.names own ≡ Some (File x t)
    stays x t at = did.spares.file ∙ tried_file maps c own did.unlinked did.linked own x t did.links at

    -- what was removed last was not the file
    own_survives : (x : ℕ) (t : Option ℤ) → fin.get did.unlinked.names own ≡ Some (File x t) → name_survives log (max_after c) a.before.names own ≡ true
    own_survives x t at = sym (did.spares.same own) ∙ by (name_survives log (max_after c) did.linked.names own) refl
      where
        by : (s : Bool) → name_survives log (max_after c) did.linked.names own ≡ s → s ≡ true
        by true e = refl
        by false e = absurd (
            let now : fin.get a.after.names own ≡ None = left_is a b did all own ∙ ap (λ (s : Bool). if s then fin.get did.linked.names own else None) e in
            let both : ◌≡◌ {A = Option Entry} None (Some (File x t)) = sym now ∙ stays x t at in cc)

    own_is : (x : ℕ) (t : Option ℤ) → fin.get did.unlinked.names own ≡ Some (File x t) → fin.get did.pruned.names own ≡ kept_entry c a.stamp a.before.names own
    own_is x t at =
        pruned_is a b did all own
        ∙ sym (ap (λ (s : Bool). if s then (if name_survives log (max_before c) a.before.names own then fin.get a.before.names own else None) else None) (own_survives x t at))
        ∙ either_leaves c log a.before.names own (fin.get a.before.names own)

    own_name : OpensBody own (after_make_folder did.pruned) did.unlinked b → Own
    own_name (there, inl (t, at, same)) =
        let now : fin.get did.unlinked.names own ≡ Some (File b t) = subst (λ (d : Content). fin.get d.names own ≡ Some (File b t)) (sym same) at in
        (b, t, stays b t now, inl (sym (own_is b t now) ∙ at))
    own_name (there, inr (t, free, number, after)) =
        let to = leads_to maps own (after_make_folder did.pruned) did.unlinked b (there, inr (t, free, number, after)) in
        let size : length did.pruned.bodies ≡ length a.before.bodies = ap length did.only_old.bodies in
        let least : n ≤ length a.before.bodies = at_least n (length a.before.bodies) more in (
          b,
          to.0,
          stays b to.0 to.1,
          inr (sym (own_is b to.0 to.1) ∙ free, omega arith),
        )

    -- what is left of a name that the opening does not change
    left : (name : List ℕ) → fin.get did.linked.names name ≡ fin.get did.pruned.names name → fin.get a.after.names name ≡ kept_entry c a.stamp a.before.names name
    left name same = left_by c log a.before.names did.linked.names a.after.names name (left_is a b did all name) (did.spares.same name) (same ∙ pruned_is a b did all name)

    -- a link that was not made
    link_kept : c.link ≢ own → MayRemoveLink c.link did.unlinked did.linked
        → (fin.get a.after.names c.link ≡ kept_entry c a.stamp a.before.names c.link) ⊎ (IsLink (fin.get a.before.names c.link) × (fin.get a.after.names c.link ≡ None))
    link_kept apart (inl same) = inl (left c.link (ap (λ (d : Content). fin.get d.names c.link) same ∙ opened_other maps own (after_make_folder did.pruned) did.unlinked b c.link did.opens apart))
    link_kept apart (inr removes) = inr (
      elim (did.only_old.names c.link) [
        | inl same ↦ subst IsLink (sym there ∙ same) tt
        | inr gone ↦ absurd (let both : ◌≡◌ {A = Option Entry} None (Some (Link removes.was_there.0)) = sym gone.0 ∙ there in cc)
      ],
      elim (did.only_old_last.names c.link) [ inl same ↦ same ∙ none | inr gone ↦ gone.0 ],
    )
      where
        there : fin.get did.pruned.names c.link ≡ Some (Link removes.was_there.0)
        there = sym (opened_other maps own (after_make_folder did.pruned) did.unlinked b c.link did.opens apart) ∙ removes.was_there.1

        none : fin.get did.linked.names c.link ≡ None
        none = ap (λ (d : Content). fin.get d.names c.link) removes.after ∙ removed_name maps did.unlinked.names c.link

    pub leaves : NamesAfterOpening c n a.stamp a.before.names a.after.names
    leaves = record {
      own = own_name did.opens;
      link = λ is_set. elim did.links [
        | inl changes ↦
            let made : fin.get did.linked.names c.link ≡ Some (Link own) = linked_name maps c.link own did.unlinked did.linked changes is_set in
            inl (did.spares.link (inl (subst IsLink (sym made) tt)) ∙ made)
        | inr (optional, set, frees) ↦ inr (optional, λ apart. link_kept apart frees)
      ];
      others = λ name not_own not_link. left name (tried_other maps c own did.unlinked did.linked name did.links (λ same. absurd (not_link same)) ∙ opened_other maps own (after_make_folder did.pruned) did.unlinked b name did.opens not_own);
    }

  -- ---- attempts that failed

  module _ (n : ℕ) (s : Stamp) (none : max_before c ≡ 0) (old new : Content) (little : IsRefusalEffect c (file_name_of c s) old new) (more : (x : ℕ) → x < n → x < length old.bodies) where
    abbrev failed_name : List ℕ
    failed_name = file_name_of c s

    unpruned : (name : List ℕ) → fin.get little.pruned.names name ≡ fin.get old.names name
    unpruned name =
        let all : name_survives (log_files_of c (Some failed_name)) (max_before c) old.names name ≡ true = all_survive (log_files_of c (Some failed_name)) (max_before c) old.names name none in
        unlimited_keep (log_files_of c (Some failed_name)) (max_before c) old little.pruned none little.only_old name ∙ ap (λ (b : Bool). if b then fin.get old.names name else None) all

    abbrev Kept : List ℕ → Type 0
    Kept name = fin.get new.names name ≡ fin.get old.names name

    abbrev OwnAfter : Type 0
    OwnAfter = Kept failed_name ⊎ ((fin.get old.names failed_name ≡ None) × ((b : ℕ) × (t : Option ℤ) × (fin.get new.names failed_name ≡ Some (File b t)) × (n ≤ b)))

    -- the file that was opened is not that of the link
    not_link : (unlinked left : Content) (b : ℕ) (t : Option ℤ) → fin.get unlinked.names failed_name ≡ Some (File b t) → MayRemoveLink c.link unlinked left → fin.get left.names failed_name ≡ Some (File b t)
    not_link unlinked left b t at (inl same) = ap (λ (d : Content). fin.get d.names failed_name) same ∙ at
    not_link unlinked left b t at (inr removes) =
        let apart : failed_name ≢ c.link = λ is.
        (let both : ◌≡◌ {A = Option Entry} (Some (Link removes.was_there.0)) (Some (File b t)) = sym removes.was_there.1 ∙ ap (fin.get unlinked.names) (sym is) ∙ at in cc) in
        freed_other maps c.link unlinked left failed_name (inr removes) apart ∙ at

    own_after : (unlinked : Content) (b : ℕ) (left : Content) → OpensBody failed_name (after_make_folder little.pruned) unlinked b → MayRemoveLink c.link unlinked left → MayRemoveNew c failed_name old left new → OwnAfter
    own_after unlinked b left (there, inl (t, at, same)) frees removes =
        let was : fin.get old.names failed_name ≡ Some (File b t) = sym (unpruned failed_name) ∙ at in
        let now : fin.get left.names failed_name ≡ Some (File b t) = not_link unlinked left b t (ap (λ (d : Content). fin.get d.names failed_name) same ∙ at) frees in
        elim removes [
          | inl same_left ↦ inl (ap (λ (d : Content). fin.get d.names failed_name) same_left ∙ now ∙ sym was)
          | inr (by_name, free, gone) ↦ absurd (let both : ◌≡◌ {A = Option Entry} None (Some (File b t)) = sym free ∙ was in cc)
        ]
    own_after unlinked b left (there, inr (t, free, number, after)) frees removes =
        let was : fin.get old.names failed_name ≡ None = sym (unpruned failed_name) ∙ free in
        let to = leads_to maps failed_name (after_make_folder little.pruned) unlinked b (there, inr (t, free, number, after)) in
        let now : fin.get left.names failed_name ≡ Some (File b to.0) = not_link unlinked left b to.0 to.1 frees in
        let size : length little.pruned.bodies ≡ length old.bodies = ap length little.only_old.bodies in
        let least : n ≤ length old.bodies = at_least n (length old.bodies) more in
        elim removes [
          | inl same_left ↦ inr (was, (b, to.0, ap (λ (d : Content). fin.get d.names failed_name) same_left ∙ now, omega arith))
          | inr (by_name, unused, gone) ↦ inl (ap (λ (d : Content). fin.get d.names failed_name) gone.after ∙ removed_name maps left.names failed_name ∙ sym was)
        ]

    own_left : OwnAfter
    own_left = elim little.rest [
      | inl same ↦ inl (ap (λ (d : Content). fin.get d.names failed_name) same ∙ unpruned failed_name)
      | inr (inl same) ↦ inl (ap (λ (d : Content). fin.get d.names failed_name) same ∙ unpruned failed_name)
      | inr (inr (unlinked, b, left, opens, frees, removes)) ↦ own_after unlinked b left opens frees removes
    ]

    abbrev LinkAfter : Type 0
    LinkAfter = Kept c.link ⊎ (IsLink (fin.get old.names c.link) × (fin.get new.names c.link ≡ None))

    is_link : (o : Option Entry) (target : List ℕ) → o ≡ Some (Link target) → IsLink o
    is_link o target e = subst IsLink (sym e) tt

    link_left : c.link ≢ failed_name → LinkAfter
    link_left apart = elim little.rest [
      | inl same ↦ inl (ap (λ (d : Content). fin.get d.names c.link) same ∙ unpruned c.link)
      | inr (inl same) ↦ inl (ap (λ (d : Content). fin.get d.names c.link) same ∙ unpruned c.link)
      | inr (inr (unlinked, b, left, opens, frees, removes)) ↦
          let before : fin.get unlinked.names c.link ≡ fin.get old.names c.link = opened_other maps failed_name (after_make_folder little.pruned) unlinked b c.link opens apart ∙ unpruned c.link in
          let after : fin.get new.names c.link ≡ fin.get left.names c.link = unremoved_other maps c failed_name old left new c.link removes apart in
          elim frees [
            | inl same ↦ inl (after ∙ ap (λ (d : Content). fin.get d.names c.link) same ∙ before)
            | inr gone ↦ inr (
              is_link (fin.get old.names c.link) gone.was_there.0 (sym before ∙ gone.was_there.1),
              after ∙ ap (λ (d : Content). fin.get d.names c.link) gone.after ∙ removed_name maps unlinked.names c.link,
            )
          ]
    ]

    others_left : (name : List ℕ) → name ≢ failed_name → name ≢ c.link → Kept name
    others_left name not_own unlinked_name = elim little.rest [
      | inl same ↦ ap (λ (d : Content). fin.get d.names name) same ∙ unpruned name
      | inr (inl same) ↦ ap (λ (d : Content). fin.get d.names name) same ∙ unpruned name
      | inr (inr (unlinked, b, left, opens, frees, removes)) ↦
          unremoved_other maps c failed_name old left new name removes not_own ∙ freed_other maps c.link unlinked left name frees unlinked_name
          ∙ opened_other maps failed_name (after_make_folder little.pruned) unlinked b name opens not_own ∙ unpruned name
    ]

    fails : NamesAfterFailure c n s old.names new.names
    fails = record { own = own_left; link = link_left; others = others_left }

  -- the attempt left exactly the survivors, and succeeded or removed nothing
  abbrev pub LeavesAll : Attempt → Type 0
  LeavesAll a = ((is_some a.body ≡ true) ⊎ (max_before c ≡ 0)) × PrunesAll a

  all_leave : (parts : OpeningPartsKeepBodies) (n : ℕ) (attempts : List WrittenAttempt) (first last : Content) → ((x : ℕ) → x < n → x < length first.bodies)
      → OnlyAttemptsChange c attempts first last → EachOf LeavesAll attempts → NamesAfterTries c n (map try_of attempts) first.names last.names
  all_leave parts n [] first last more leads all = ap (λ (d : Content). d.names) leads
  all_leave parts n ((a, writes) ∷ earlier) first last more leads all =
      by a.body refl leads.1 all.0.0 (all_leave parts n earlier first a.before more leads.0 all.1)
    where
      names : last.names ≡ a.after.names
      names = carried_names (open_body ((a, writes) ∷ earlier)) (bytes_taken writes) a.after last leads.2

      grown : (x : ℕ) → x < n → x < length a.before.bodies
      grown x lt = leads_bodies parts c earlier first a.before leads.0 x (more x lt)

      by : (o : Option ℕ) → a.body ≡ o → MatchOption o (IsRefusalEffect c (file_name_of c a.stamp) a.before a.after) (Succeeded c a) → (is_some o ≡ true) ⊎ (max_before c ≡ 0)
          → NamesAfterTries c n (map try_of earlier) first.names a.before.names → NamesAfterTries c n (record { stamp = a.stamp; opened = is_some o; calls = writes } ∷ map try_of earlier) first.names last.names
      by None is little (inl some) before = absurd (let both : false ≡ true = some in cc)
      by None is little (inr none) before =
          (a.before.names, before, subst (λ (m : NameMap). NamesAfterFailure c n a.stamp a.before.names m) (sym names) (fails n a.stamp none a.before a.after little grown))
      by (Some b) is did fine before =
          (a.before.names, before, subst (λ (m : NameMap). NamesAfterOpening c n a.stamp a.before.names m) (sym names) (leaves n a b did all.0.1 grown))

  pub names_lead : (parts : OpeningPartsKeepBodies) (attempts : List WrittenAttempt) (first last : Content) → OnlyAttemptsChange c attempts first last → EachOf LeavesAll attempts
      → NamesAfterTries c (length first.bodies) (map try_of attempts) first.names last.names
  names_lead parts attempts first last leads all = all_leave parts (length first.bodies) attempts first last (λ x lt. lt) leads all

  -- ---- other names

  -- what retention takes before the opening or after it, it takes with the maximum
  falls_before : (log : LogFiles) (names : NameMap) (name : List ℕ) → name_survives log (max_before c) names name ≡ false → name_survives log c.max_files names name ≡ false
  falls_before log names name = by c.by_name
    where
      by : (t : Bool) → name_survives log (if t then 0 else c.max_files) names name ≡ false → name_survives log c.max_files names name ≡ false
      by true falls = absurd (let both : true ≡ false = falls in cc)
      by false falls = falls

  falls_after : (log : LogFiles) (names : NameMap) (name : List ℕ) → name_survives log (max_after c) names name ≡ false → name_survives log c.max_files names name ≡ false
  falls_after log names name = by c.by_name
    where
      by : (t : Bool) → name_survives log (if t then c.max_files else 0) names name ≡ false → name_survives log c.max_files names name ≡ false
      by true falls = falls
      by false falls = absurd (let both : true ≡ false = falls in cc)

  -- a name leads to what it led to, or it is removed and did not survive
  abbrev MayGo : Stamp → List ℕ → NameMap → NameMap → Type 0
  MayGo s name old new = (fin.get new name ≡ fin.get old name) ⊎ ((fin.get new name ≡ None) × (name_survives (log_files_of c (Some (file_name_of c s))) c.max_files old name ≡ false))

  module _ (s : Stamp) (name : List ℕ) (not_own : name ≢ file_name_of c s) (not_link : name ≢ c.link) where
    abbrev file : List ℕ
    file = file_name_of c s

    then_same : (old between new : NameMap) → MayGo s name old between → fin.get new name ≡ fin.get between name → MayGo s name old new
    then_same old between new (inl same) is = inl (is ∙ same)
    then_same old between new (inr gone) is = inr (is ∙ gone.0, gone.1)

    pruned_may : (old new : Content) → RemovesOnlyOld (log_files_of c (Some file)) (max_before c) old new → MayGo s name old.names new.names
    pruned_may old new only = elim (only.names name) [ inl same ↦ inl same | inr gone ↦ inr (gone.0, falls_before (log_files_of c (Some file)) old.names name gone.1) ]

    little_may : (old new : Content) → IsRefusalEffect c file old new → MayGo s name old.names new.names
    little_may old new little = then_same old.names little.pruned.names new.names (pruned_may old little.pruned little.only_old) (elim little.rest [
      | inl same ↦ ap (λ (d : Content). fin.get d.names name) same
      | inr (inl same) ↦ ap (λ (d : Content). fin.get d.names name) same
      | inr (inr (unlinked, b, left, opens, frees, removes)) ↦
          unremoved_other maps c file old left new name removes not_own ∙ freed_other maps c.link unlinked left name frees not_link
          ∙ opened_other maps file (after_make_folder little.pruned) unlinked b name opens not_own
    ])

    succeeded_may : (a : Attempt) (b : ℕ) → s ≡ a.stamp → Succeeded c a b → MayGo s name a.before.names a.after.names
    succeeded_may a b is did =
        let own : List ℕ = file_name_of c a.stamp in
        let log : LogFiles = log_files_of c (Some own) in
        let apart : name ≢ own = λ same. not_own (same ∙ ap (file_name_of c) (sym is)) in
        let linked : fin.get did.linked.names name ≡ fin.get did.pruned.names name =
        tried_other maps c own did.unlinked did.linked name did.links (λ same. absurd (not_link same)) ∙ opened_other maps own (after_make_folder did.pruned) did.unlinked b name did.opens apart in
        let only_old : RemovesOnlyOld (log_files_of c (Some file)) (max_before c) a.before did.pruned = subst (λ (x : Stamp). RemovesOnlyOld (log_files_of c (Some (file_name_of c x))) (max_before c) a.before did.pruned) (sym is) did.only_old in
        elim (did.only_old_last.names name) [
          | inl same ↦ then_same a.before.names did.pruned.names a.after.names (pruned_may a.before did.pruned only_old) (same ∙ linked)
          | inr gone ↦ inr (
            gone.0,
            subst (λ (x : Stamp). name_survives (log_files_of c (Some (file_name_of c x))) c.max_files a.before.names name ≡ false) (sym is)
                (falls_after log a.before.names name (sym (did.spares.same name) ∙ gone.1)),
          )
        ]

  tried_may : (a : Attempt) (name : List ℕ) → AttemptDoes c a → name ≢ file_name_of c a.stamp → name ≢ c.link → MayGo a.stamp name a.before.names a.after.names
  tried_may a name did not_own not_link = by a.body did
    where
      by : (o : Option ℕ) → MatchOption o (IsRefusalEffect c (file_name_of c a.stamp) a.before a.after) (Succeeded c a) → MayGo a.stamp name a.before.names a.after.names
      by None did = little_may a.stamp name not_own not_link a.before a.after did
      by (Some b) did = succeeded_may a.stamp name not_own not_link a b refl did

  module _ (tries : List Try) where
    abbrev IsOther : List ℕ → Try → Type 0
    IsOther name t = name ≢ file_name_of c t.stamp

    -- the name of some try's file, or of none
    some_file : (name : List ℕ) (ts : List Try) → Any (λ (t : Try). name ≡ file_name_of c t.stamp) ts ⊎ All (IsOther name) ts
    some_file name [] = inr (All-nil (IsOther name))
    some_file name (t ∷ ts) = by (bytes_eq name (file_name_of c t.stamp)) refl (some_file name ts)
      where
        by : (d : Bool) → bytes_eq name (file_name_of c t.stamp) ≡ d → Any (λ (t : Try). name ≡ file_name_of c t.stamp) ts ⊎ All (IsOther name) ts → Any (λ (t : Try). name ≡ file_name_of c t.stamp) (t ∷ ts) ⊎ All (IsOther name) (t ∷ ts)
        by true e rest = inl (0, t, omega arith, refl, (bytes_eq-Decides name (file_name_of c t.stamp)).0 e)
        by false e (inl (k, found, lt, at, same)) = inl (suc k, found, omega (arith, lt), at, same)
        by false e (inr all) = inr (All-cons (IsOther name) t ts (λ same. (let both : true ≡ false = sym ((bytes_eq-Decides name (file_name_of c t.stamp)).1 same) ∙ e in cc)) all)

    abbrev MayGoOf : NameMap → NameMap → List ℕ → Type 0
    MayGoOf first last name = (fin.get last name ≡ fin.get first name) ⊎ ((fin.get last name ≡ None) × Any (IsOld c tries first name) tries)

    -- what a folder has after some attempts it had at first, or has from the run
    had : (first now : NameMap) → ((name : List ℕ) → All (IsOther name) tries → name ≢ c.link → MayGoOf first now name)
        → (n : List ℕ) → (fin.get now n ≡ fin.get first n) ⊎ (fin.get now n ≡ None) ⊎ Any (λ (e : Try). n ≡ file_name_of c e.stamp) tries ⊎ (n ≡ c.link)
    had first now stay n = by (bytes_eq n c.link) refl (some_file n tries)
      where
        by : (d : Bool) → bytes_eq n c.link ≡ d → Any (λ (t : Try). n ≡ file_name_of c t.stamp) tries ⊎ All (IsOther n) tries
            → (fin.get now n ≡ fin.get first n) ⊎ (fin.get now n ≡ None) ⊎ Any (λ (e : Try). n ≡ file_name_of c e.stamp) tries ⊎ (n ≡ c.link)
        by true e which = inr (inr (inr ((bytes_eq-Decides n c.link).0 e)))
        by false e (inl some) = inr (inr (inl some))
        by false e (inr all) = elim (stay n all (λ same. (let both : true ≡ false = sym ((bytes_eq-Decides n c.link).1 same) ∙ e in cc))) [ inl same ↦ inl same | inr gone ↦ inr (inl gone.0) ]

    pub others_stay : (attempts : List WrittenAttempt) (first last : Content) → OnlyAttemptsChange c attempts first last → All (Contains tries) (map try_of attempts)
        → (name : List ℕ) → All (IsOther name) tries → name ≢ c.link → MayGoOf first.names last.names name
    others_stay [] first last leads all name others not_link = inl (ap (λ (d : Content). fin.get d.names name) leads)
    others_stay ((a, writes) ∷ earlier) first last leads all name others not_link =
        let t : Try = try_of (a, writes) in
        let at : Contains tries t = All-head (Contains tries) t (map try_of earlier) all in
        let before = others_stay earlier first a.before leads.0 (All-tail (Contains tries) t (map try_of earlier) all) in
        let names : last.names ≡ a.after.names = carried_names (open_body ((a, writes) ∷ earlier)) (bytes_taken writes) a.after last leads.2 in
        elim (tried_may a name leads.1 (All-contains (IsOther name) tries t others at) not_link) [
          | inl same ↦ elim (before name others not_link) [
            | inl kept ↦ inl (ap (λ (m : NameMap). fin.get m name) names ∙ same ∙ kept)
            | inr gone ↦ inr (ap (λ (m : NameMap). fin.get m name) names ∙ same ∙ gone.0, gone.1)
          ]
          | inr gone ↦ inr (
            ap (λ (m : NameMap). fin.get m name) names ∙ gone.0,
            (
              at.0,
              t,
              at.1,
              at.2,
              record {
                names = a.before.names;
                had = had first.names a.before.names before;
                falls = gone.1;
              },
            ),
          )
        ]
