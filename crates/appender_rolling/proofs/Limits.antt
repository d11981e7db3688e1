-- Why an opening is refused.
use Rattle.std.proofs.Common.{◌≡◌, ◌≢◌, ◌∙◌, ◌⊎◌, if◌then◌else◌, ℕ, Bool, true, false, List, [], ◌∷◌, ◌++◌, length, get_or, Option, None, Some, Result, Ok, Err, IsTrue, ℤ, inl, inr, refl, sym, ap, subst}
use Rattle.std.specs.Prelude.{is_none, OnOk}
use Rattle.std.specs.FinMap as fin
use Rattle.std.specs.declared.io.Error.{Error}
use Rattle.appender_names.specs.declared.error.InitError.{InitError}
use Rattle.appender_names.specs.declared.error.InitError.TheVariants.{Directory, File as NoFile, Symlink, Memory, Moment, Name, Limit}
use Rattle.appender_store.specs.Content.{Content, NameMap, Entry, File, Link, IsFile, IsLink, IsLinkOrFolder, OpensBody, Removes, ForbidsRemove, after_make_folder, body_at}
use Rattle.appender_store.specs.NameLaws.{NameLaws}
use Rattle.appender_store.specs.Folder.{HasCause}
use Rattle.appender_store.specs.declared.store.Folder.{Ghosts}
use Rattle.appender_retain.specs.Rank.{LogFiles}
use Rattle.appender_retain.specs.Survival.{RemovesOnlyOld, name_survives}
use Rattle.appender_retain.specs.Pruning.{Prunes}
use Rattle.appender_rolling.specs.Config.{Config, log_files_of, max_before, max_after}
use Rattle.appender_rolling.specs.Opening.{OpensNamedFile, MayRemoveLink, ChangesLink, MayChangeLink, TriesRemoveLink, TriesRemove, RemovesNewFile, MayRemoveNew, BlocksLink, FailsToLink, OpensFile, RefusesFile, IsRefusalEffect, IsFileOrFolder}
use Rattle.appender_rolling.proofs.Kept.{removed_name}
use Rattle.appender_rolling.proofs.Openings.{all_survive}
use Rattle.appender_rolling.proofs.Refusals.{may_remove, unpruned, refuses_little}
use Rattle.appender_rolling.specs.Limits.{RemovesOnlyOldNames, KeepsEachFile, LeavesNames, FailsByItself, FailsToRemove, HasReason}

module _ (maps : NameLaws) where
  -- an opening changes what no other name leads to
  opened_else : (name : List ℕ) (old new : Content) (b : ℕ) → OpensBody name old new b → (m : List ℕ) → (m ≡ name) ⊎ (fin.get new.names m ≡ fin.get old.names m)
  opened_else name old new b (there, inl (t, own, same)) m = inr (ap (λ (c : Content). fin.get c.names m) same)
  opened_else name old new b (there, inr (t, free, number, after)) m = elim (maps.additions old.names name (File b t) m) [
    | inl own ↦ inl own.0
    | inr other ↦ inr (ap (λ (c : Content). fin.get c.names m) after ∙ other.1)
  ]

  -- what retention leaves under a name, it found there
  found : (P : Option Entry → Type 0) → ¬ P None → (log : LogFiles) (max : ℕ) (old pruned : Content) → RemovesOnlyOld log max old pruned → (name : List ℕ) → P (fin.get pruned.names name) → P (fin.get old.names name)
  found P none log max old pruned took name is = elim (took.names name) [
    | inl same ↦ subst P same is
    | inr gone ↦ absurd (none (subst P gone.0 is))
  ]

  module _ {S F : Type 0} (kind : Ghosts S F) (c : Config) where
    fails : (T P : Type 0) (is_known : Bool) (old : ℕ) (fault : Error) (new : ℕ) → HasCause {T = T} is_known P old new (Err fault) → FailsByItself old fault new ⊎ (IsTrue is_known × P)
    fails T P is_known old fault new (inl risen) = inl (inl risen)
    fails T P is_known old fault new (inr (same, inl memory)) = inl (inr memory)
    fails T P is_known old fault new (inr (same, inr forbidden)) = inr forbidden

    link_has_reason : (link name : List ℕ) (old pruned unlinked : S) (file : F) (left : S) (fault : Error) (new : S) → c.link_optional ≡ false → c.link ≡ link → Prunes kind (log_files_of c (Some name)) (max_before c) old pruned → OpensNamedFile kind name pruned file unlinked → FailsToLink kind link name unlinked fault left
        → RemovesNewFile kind c name (kind.made_file unlinked) file left new → HasReason kind c name old (Symlink fault) new
    link_has_reason [] name old pruned unlinked file left fault new required is prunes gets never removes = absurd never
    link_has_reason (b ∷ bs) name old pruned unlinked file left fault new required is prunes gets links_not removes = (
      required,
      pruned,
      file,
      unlinked,
      links_not.freed,
      left,
      prunes,
      gets,
      subst (λ (l : List ℕ). TriesRemoveLink kind l unlinked links_not.freed) (sym is) links_not.removes,
      subst (λ (l : List ℕ). kind.make_link_gives links_not.freed l name (Err fault) left) (sym is) links_not.call,
      removes,
      elim (fails (Unit {0}) (BlocksLink kind (b ∷ bs) unlinked links_not.freed) kind.is_known (kind.failures links_not.freed) fault (kind.failures left) links_not.cause) [
        | inl itself ↦ inl itself
        | inr (is_known, inl other) ↦ inr (is_known, elim (before is_known IsFileOrFolder (λ never. never) other) [ inl own ↦ inl own | inr there ↦ inr (inl there) ])
        | inr (is_known, inr (old_link, risen)) ↦ inr (is_known, elim (before is_known IsLink (λ never. never) old_link) [ inl own ↦ inl own | inr there ↦ inr (inr (there, risen)) ])
      ],
    )
      where
        -- what has the link's name was there before, unless it is the file that was opened
        before : IsTrue kind.is_known → (P : Option Entry → Type 0) → ¬ P None → P (fin.get (kind.content unlinked).names (b ∷ bs)) → (c.link ≡ name) ⊎ P (fin.get (kind.content old).names c.link)
        before is_known P none there = elim (opened_else name (after_make_folder (kind.content pruned)) (kind.content unlinked) (kind.body file) (gets.opens is_known) (b ∷ bs)) [
          | inl own ↦ inl (is ∙ own)
          | inr same ↦ inr (subst (λ (l : List ℕ). P (fin.get (kind.content old).names l)) (sym is)
              (found P none (log_files_of c (Some name)) (max_before c) (kind.content old) (kind.content pruned) (prunes.only_old is_known) (b ∷ bs) (subst P same there)))
        ]

    pub refusal_has_reason : (name : List ℕ) (old : S) (error : InitError) (new : S) → RefusesFile kind c name old error new → HasReason kind c name old error new
    refusal_has_reason name old (Directory fault) new (pruned, prunes, none) = (
      none.refused,
      (pruned, none.first_fault, prunes, none.first),
      none.call,
      elim (fails (Unit {0}) ⊥ kind.is_known (kind.failures none.refused) fault (kind.failures new) none.cause) [
        | inl itself ↦ itself
        | inr forbidden ↦ absurd forbidden.1
      ],
    )
    refusal_has_reason name old (NoFile fault) new (pruned, prunes, none) = (
      none.refused,
      none.ready,
      (pruned, none.first_fault, prunes, none.first),
      none.makes,
      none.second.call,
      elim (fails F (IsLinkOrFolder (fin.get (kind.content pruned).names name)) kind.is_known (kind.failures none.ready) fault (kind.failures new) none.cause) [
        | inl itself ↦ inl itself
        | inr forbidden ↦ inr (forbidden.0, found IsLinkOrFolder (λ never. never) (log_files_of c (Some name)) (max_before c) (kind.content old) (kind.content pruned) (prunes.only_old forbidden.0) name forbidden.1)
      ],
    )
    refusal_has_reason name old (Symlink fault) new (required, pruned, unlinked, file, left, prunes, gets, links_not, removes) = link_has_reason c.link name old pruned unlinked file left fault new required refl prunes gets links_not removes
    refusal_has_reason name old Memory new same = same
    refusal_has_reason name old Moment new (pruned, prunes, never) = never
    refusal_has_reason name old (Name fault) new (pruned, prunes, never) = never
    refusal_has_reason name old Limit new (pruned, prunes, never) = never

-- ---- what is taken

-- what retention takes with fewer files kept, or none, it takes with the maximum
weaker_before : (c : Config) (log : LogFiles) (names : NameMap) (name : List ℕ) → name_survives log (max_before c) names name ≡ false → name_survives log c.max_files names name ≡ false
weaker_before c log names name = by c.by_name
  where
    by : (t : Bool) → name_survives log (if t then 0 else c.max_files) names name ≡ false → name_survives log c.max_files names name ≡ false
    by true falls = absurd (let both : true ≡ false = falls in cc)
    by false falls = falls

weaker_after : (c : Config) (log : LogFiles) (names : NameMap) (name : List ℕ) → name_survives log (max_after c) names name ≡ false → name_survives log c.max_files names name ≡ false
weaker_after c log names name = by c.by_name
  where
    by : (t : Bool) → name_survives log (if t then c.max_files else 0) names name ≡ false → name_survives log c.max_files names name ≡ false
    by true falls = falls
    by false falls = absurd (let both : true ≡ false = falls in cc)

new_is_empty : (bodies : List (List ℕ)) → get_or (bodies ++ [] ∷ []) (length bodies) [] ≡ []
new_is_empty [] = refl
new_is_empty (b ∷ bodies) = new_is_empty bodies

some_entry : (d e : Entry) → ◌≡◌ {A = Option Entry} (Some d) (Some e) → d ≡ e
some_entry d e same = let both : ◌≡◌ {A = Option Entry} (Some d) (Some e) = same in cc

module _ (maps : NameLaws) where
  added_name : (names : NameMap) (name : List ℕ) (entry : Entry) → fin.get (fin.insert names name entry) name ≡ Some entry
  added_name names name entry = elim (maps.additions names name entry name) [ inl own ↦ own.1 | inr other ↦ absurd (other.0 refl) ]

  -- what an opening finds, it leaves
  stays_opened : (name : List ℕ) (old new : Content) (b : ℕ) → OpensBody name old new b → (m : List ℕ) (e : Entry) → fin.get old.names m ≡ Some e → fin.get new.names m ≡ Some e
  stays_opened name old new b (there, inl (t, own, same)) m e at = ap (λ (c : Content). fin.get c.names m) same ∙ at
  stays_opened name old new b (there, inr (t, free, number, after)) m e at = elim (maps.additions old.names name (File b t) m) [
    | inl own ↦ absurd (let both : ◌≡◌ {A = Option Entry} None (Some e) = sym free ∙ ap (fin.get old.names) (sym own.0) ∙ at in cc)
    | inr other ↦ ap (λ (c : Content). fin.get c.names m) after ∙ other.1 ∙ at
  ]

  -- so does the removal of a link, but for the link
  stays_freed : (link : List ℕ) (old new : Content) → MayRemoveLink link old new → (m : List ℕ) (e : Entry) → fin.get old.names m ≡ Some e → (fin.get new.names m ≡ Some e) ⊎ ((m ≡ link) × IsLink (Some e))
  stays_freed link old new (inl same) m e at = inl (ap (λ (c : Content). fin.get c.names m) same ∙ at)
  stays_freed link old new (inr removes) m e at = elim (maps.removals old.names link m) [
    | inl own ↦ inr (own.0, (let is : Link removes.was_there.0 ≡ e = some_entry (Link removes.was_there.0) e (sym removes.was_there.1 ∙ ap (fin.get old.names) (sym own.0) ∙ at) in subst (λ (x : Entry). IsLink (Some x)) is tt))
    | inr other ↦ inl (ap (λ (c : Content). fin.get c.names m) removes.after ∙ other.1 ∙ at)
  ]

  -- a name that led to something is not that of a new file
  stays_removed : (c : Config) (name : List ℕ) (old left new : Content) → MayRemoveNew c name old left new → (m : List ℕ) (e : Entry) → fin.get old.names m ≡ Some e → fin.get left.names m ≡ Some e → fin.get new.names m ≡ Some e
  stays_removed c name old left new (inl same) m e was at = ap (λ (d : Content). fin.get d.names m) same ∙ at
  stays_removed c name old left new (inr (by_name, free, removes)) m e was at = elim (maps.removals left.names name m) [
    | inl own ↦ absurd (let both : ◌≡◌ {A = Option Entry} None (Some e) = sym free ∙ ap (fin.get old.names) (sym own.0) ∙ was in cc)
    | inr other ↦ ap (λ (d : Content). fin.get d.names m) removes.after ∙ other.1 ∙ at
  ]

  stays_linked : (link name : List ℕ) (old new : Content) → ChangesLink link name old new → (m : List ℕ) (e : Entry) → fin.get old.names m ≡ Some e → (fin.get new.names m ≡ Some e) ⊎ ((m ≡ link) × IsLink (Some e))
  stays_linked [] name old new same m e at = inl (ap (λ (c : Content). fin.get c.names m) same ∙ at)
  stays_linked (b ∷ bs) name old new (freed, frees, makes) m e at = elim (stays_freed (b ∷ bs) old freed frees m e at) [
    | inl still ↦ elim (maps.additions freed.names (b ∷ bs) (Link name) m) [
      | inl own ↦ absurd (let both : ◌≡◌ {A = Option Entry} None (Some e) = sym makes.was_free ∙ ap (fin.get freed.names) (sym own.0) ∙ still in cc)
      | inr other ↦ inl (ap (λ (c : Content). fin.get c.names m) makes.after ∙ other.1 ∙ still)
    ]
    | inr gone ↦ inr gone
  ]

  stays_tried : (c : Config) (name : List ℕ) (old new : Content) → MayChangeLink c name old new → (m : List ℕ) (e : Entry) → fin.get old.names m ≡ Some e → (fin.get new.names m ≡ Some e) ⊎ ((m ≡ c.link) × IsLink (Some e))
  stays_tried c name old new (inl changes) = stays_linked c.link name old new changes
  stays_tried c name old new (inr (optional, is_set, frees)) = stays_freed c.link old new frees

  module _ {S F : Type 0} (kind : Ghosts S F) (c : Config) where
    pub opening_takes_little : (name : List ℕ) (old : S) (file : F) (new : S) → OpensFile kind c name old file new → IsTrue kind.is_known → RemovesOnlyOldNames c c.max_files name (kind.content old) (kind.content new)
    opening_takes_little name old file new o is_known m e at =
        elim ((o.prunes.only_old is_known).names m) [
          | inl same ↦
              let opened : fin.get (kind.content o.unlinked).names m ≡ Some e = stays_opened name (after_make_folder (kind.content o.pruned)) (kind.content o.unlinked) (kind.body file) (o.gets.opens is_known) m e (same ∙ at) in
              elim (stays_tried c name (kind.content o.unlinked) (kind.content o.linked) (o.changes_link is_known) m e opened) [
                | inl still ↦ elim ((o.prunes_last.only_old is_known).names m) [
                  | inl left ↦ inl (left ∙ still)
                  | inr gone ↦ inr (inl (weaker_after c (log_files_of c (Some name)) (kind.content old).names m (sym ((o.spares is_known).same m) ∙ gone.1)))
                ]
                | inr link ↦ inr (inr link)
              ]
          | inr gone ↦ inr (inl (weaker_before c (log_files_of c (Some name)) (kind.content old).names m gone.1))
        ]

    pub refusal_takes_little : (name : List ℕ) (old new : Content) → IsRefusalEffect c name old new → RemovesOnlyOldNames c (max_before c) name old new
    refusal_takes_little name old new little m e at =
        elim (little.only_old.names m) [
          | inl same ↦ elim little.rest [
            | inl is ↦ inl (ap (λ (d : Content). fin.get d.names m) is ∙ same ∙ at)
            | inr (inl is) ↦ inl (ap (λ (d : Content). fin.get d.names m) is ∙ same ∙ at)
            | inr (inr (unlinked, b, left, opens, frees, removes)) ↦
                elim (stays_freed c.link unlinked left frees m e (stays_opened name (after_make_folder little.pruned) unlinked b opens m e (same ∙ at))) [
                  | inl still ↦ inl (stays_removed c name old left new removes m e at still)
                  | inr link ↦ inr (inr link)
                ]
          ]
          | inr gone ↦ inr (inl gone.1)
        ]

    -- by name a refused opening removes no file
    pub refusal_keeps_files : (name : List ℕ) (old new : Content) → c.by_name ≡ true → IsRefusalEffect c name old new → KeepsEachFile old new
    refusal_keeps_files name old new by_name little m b t at =
        elim (refusal_takes_little name old new little m (File b t) at) [
          | inl still ↦ still
          | inr (inl gone) ↦
              let none : max_before c ≡ 0 = ap (λ (t : Bool). if t then 0 else c.max_files) by_name in
              absurd (let both : true ≡ false = sym (all_survive (log_files_of c (Some name)) (max_before c) none old.names m) ∙ gone in cc)
          | inr (inr link) ↦ absurd link.1
        ]

    -- ---- by name a refused opening leaves no new file

    -- a plain file is no link
    file_stays : (link name : List ℕ) (unlinked left : Content) → MayRemoveLink link unlinked left → (b : ℕ) (t : Option ℤ) → fin.get unlinked.names name ≡ Some (File b t) → fin.get left.names name ≡ Some (File b t)
    file_stays link name unlinked left frees b t at = elim (stays_freed link unlinked left frees name (File b t) at) [
      | inl still ↦ still
      | inr link ↦ absurd link.1
    ]

    freed_bodies : (link : List ℕ) (unlinked left : Content) → MayRemoveLink link unlinked left → left.bodies ≡ unlinked.bodies
    freed_bodies link unlinked left (inl same) = ap (λ (d : Content). d.bodies) same
    freed_bodies link unlinked left (inr removes) = ap (λ (d : Content). d.bodies) removes.after

    freed_there : (link : List ℕ) (unlinked left : Content) → MayRemoveLink link unlinked left → left.there ≡ unlinked.there
    freed_there link unlinked left (inl same) = ap (λ (d : Content). d.there) same
    freed_there link unlinked left (inr removes) = ap (λ (d : Content). d.there) removes.after

    abbrev LeavesOwn : List ℕ → S → S → Type 0
    LeavesOwn name old new =
        (fin.get (kind.content new).names name ≡ fin.get (kind.content old).names name)
        ⊎ ((fin.get (kind.content old).names name ≡ None) × FailsToRemove kind name new)

    -- the call that removes the new file succeeded, or failed by itself
    tried_leaves : (name : List ℕ) (b : ℕ) (t : Option ℤ) (old left new : S) → IsTrue kind.is_known → (kind.content left).there ≡ true → fin.get (kind.content left).names name ≡ Some (File b t) → fin.get (kind.content old).names name ≡ None → TriesRemove kind name left new → LeavesOwn name old new
    tried_leaves name b t old left new is_known there at free tries = by tries.answer tries.call tries.ok tries.cause
      where
        itself : (fault : Error) → HasCause {T = Unit {0}} kind.is_known (ForbidsRemove name (kind.content left)) (kind.failures left) (kind.failures new) (Err fault) → FailsByItself (kind.failures left) fault (kind.failures new)
        itself fault (inl risen) = inl risen
        itself fault (inr (same, inl memory)) = inr memory
        itself fault (inr (same, inr (known, inl absent))) = absurd (let both : true ≡ false = sym there ∙ absent in cc)
        itself fault (inr (same, inr (known, inr none))) = absurd (none (subst IsFile (sym at) tt))

        by : (answer : Result (Unit {0}) Error) → kind.remove_gives left name answer new → OnOk answer (IsTrue kind.is_known → Removes name (kind.content left) (kind.content new)) → HasCause kind.is_known (ForbidsRemove name (kind.content left)) (kind.failures left) (kind.failures new) answer → LeavesOwn name old new
        by (Ok u) call ok cause = inl (ap (λ (d : Content). fin.get d.names name) (ok is_known).after ∙ removed_name maps (kind.content left).names name ∙ sym free)
        by (Err fault) call ok cause = inr (free, (left, fault, call, itself fault cause))

    linked_not_leaves : (name : List ℕ) (old unlinked left : S) (file : F) (new : S) → c.by_name ≡ true → IsTrue kind.is_known → OpensBody name (after_make_folder (kind.content old)) (kind.content unlinked) (kind.body file)
        → kind.made_file unlinked ≡ is_none (fin.get (kind.content old).names name) → MayRemoveLink c.link (kind.content unlinked) (kind.content left) → RemovesNewFile kind c name (kind.made_file unlinked) file left new → LeavesOwn name old new
    linked_not_leaves name old unlinked left file new by_name is_known (there, inl (t, own, same)) made frees removes =
        let kept : new ≡ left = removes.other (inr (made ∙ ap is_none own)) in
        inl (ap (λ (s : S). fin.get (kind.content s).names name) kept
        ∙ file_stays c.link name (kind.content unlinked) (kind.content left) frees (kind.body file) t (ap (λ (d : Content). fin.get d.names name) same ∙ own)
        ∙ sym own)
    linked_not_leaves name old unlinked left file new by_name is_known (there, inr (t, free, number, after)) made frees removes =
        let asks = removes.new_file by_name (made ∙ ap is_none free) in
        let bodies : (kind.content left).bodies ≡ (kind.content old).bodies ++ [] ∷ [] = freed_bodies c.link (kind.content unlinked) (kind.content left) frees ∙ ap (λ (d : Content). d.bodies) after in
        let holds : body_at (kind.content left) (kind.body file) ≡ [] = ap (λ (all : List (List ℕ)). get_or all (kind.body file) []) bodies ∙ ap (λ (b : ℕ). get_or ((kind.content old).bodies ++ [] ∷ []) b []) number ∙ new_is_empty (kind.content old).bodies in
        let empty : asks.answer ≡ Some 0 = asks.known is_known ∙ ap (λ (bytes : List ℕ). Some (length bytes)) holds in
        let is_there : (kind.content left).there ≡ true = freed_there c.link (kind.content unlinked) (kind.content left) frees ∙ ap (λ (d : Content). d.there) after in
        tried_leaves name (kind.body file) t old left new is_known is_there
        (file_stays c.link name (kind.content unlinked) (kind.content left) frees (kind.body file) t (ap (λ (d : Content). fin.get d.names name) after ∙ added_name (kind.content old).names name (File (kind.body file) t)))
        free (asks.empty empty)

    own_stays : (name : List ℕ) (old : S) (error : InitError) (new : S) → c.by_name ≡ true → IsTrue kind.is_known → RefusesFile kind c name old error new → LeavesOwn name old new
    own_stays name old (Directory fault) new by_name is_known (pruned, prunes, none) =
        inl (ap (λ (d : Content). fin.get d.names name) none.content ∙ ap (λ (s : S). fin.get (kind.content s).names name) (unpruned kind c (log_files_of c (Some name)) old pruned prunes by_name))
    own_stays name old (NoFile fault) new by_name is_known (pruned, prunes, none) =
        inl (ap (λ (d : Content). fin.get d.names name) (none.content is_known) ∙ ap (λ (s : S). fin.get (kind.content s).names name) (unpruned kind c (log_files_of c (Some name)) old pruned prunes by_name))
    own_stays name old (Symlink fault) new by_name is_known (required, pruned, unlinked, file, left, prunes, gets, links_not, removes) =
        let same : pruned ≡ old = unpruned kind c (log_files_of c (Some name)) old pruned prunes by_name in
        linked_not_leaves name old unlinked left file new by_name is_known
        (subst (λ (s : S). OpensBody name (after_make_folder (kind.content s)) (kind.content unlinked) (kind.body file)) same (gets.opens is_known))
        (subst (λ (s : S). kind.made_file unlinked ≡ is_none (fin.get (kind.content s).names name)) same (gets.made is_known))
        (may_remove kind c c.link name unlinked fault left is_known links_not) removes
    own_stays name old Memory new by_name is_known same = inl (ap (λ (s : S). fin.get (kind.content s).names name) same)
    own_stays name old Moment new by_name is_known (pruned, prunes, never) = absurd never
    own_stays name old (Name fault) new by_name is_known (pruned, prunes, never) = absurd never
    own_stays name old Limit new by_name is_known (pruned, prunes, never) = absurd never

    abbrev LeavesOther : List ℕ → Content → Content → Type 0
    LeavesOther m old new = (fin.get new.names m ≡ fin.get old.names m) ⊎ ((m ≡ c.link) × IsLink (fin.get old.names m) × (fin.get new.names m ≡ None))

    freed_leaves : (old unlinked left new : Content) (m : List ℕ) → fin.get unlinked.names m ≡ fin.get old.names m → MayRemoveLink c.link unlinked left → fin.get new.names m ≡ fin.get left.names m → LeavesOther m old new
    freed_leaves old unlinked left new m before (inl same) after = inl (after ∙ ap (λ (d : Content). fin.get d.names m) same ∙ before)
    freed_leaves old unlinked left new m before (inr removes) after = elim (maps.removals unlinked.names c.link m) [
      | inl own ↦ inr (
        own.0,
        subst IsLink (sym (sym before ∙ ap (fin.get unlinked.names) own.0 ∙ removes.was_there.1)) tt,
        after ∙ ap (λ (d : Content). fin.get d.names m) removes.after ∙ own.1,
      )
      | inr other ↦ inl (after ∙ ap (λ (d : Content). fin.get d.names m) removes.after ∙ other.1 ∙ before)
    ]

    unremoved : (name : List ℕ) (old left new : Content) → MayRemoveNew c name old left new → (m : List ℕ) → m ≢ name → fin.get new.names m ≡ fin.get left.names m
    unremoved name old left new (inl same) m other = ap (λ (d : Content). fin.get d.names m) same
    unremoved name old left new (inr (by_name, free, removes)) m other = elim (maps.removals left.names name m) [
      | inl own ↦ absurd (other own.0)
      | inr apart ↦ ap (λ (d : Content). fin.get d.names m) removes.after ∙ apart.1
    ]

    other_stays : (name : List ℕ) (old new : Content) → c.by_name ≡ true → IsRefusalEffect c name old new → (m : List ℕ) → m ≢ name → LeavesOther m old new
    other_stays name old new by_name little m other =
        let none : max_before c ≡ 0 = ap (λ (t : Bool). if t then 0 else c.max_files) by_name in
        let pruned : fin.get little.pruned.names m ≡ fin.get old.names m = elim (little.only_old.names m) [
          | inl same ↦ same
          | inr gone ↦ absurd (let both : true ≡ false = sym (all_survive (log_files_of c (Some name)) (max_before c) none old.names m) ∙ gone.1 in cc)
        ] in
        elim little.rest [
          | inl is ↦ inl (ap (λ (d : Content). fin.get d.names m) is ∙ pruned)
          | inr (inl is) ↦ inl (ap (λ (d : Content). fin.get d.names m) is ∙ pruned)
          | inr (inr (unlinked, b, left, opens, frees, removes)) ↦
              let opened : fin.get unlinked.names m ≡ fin.get little.pruned.names m = elim (opened_else maps name (after_make_folder little.pruned) unlinked b opens m) [
                | inl own ↦ absurd (other own)
                | inr same ↦ same
              ] in
              freed_leaves old unlinked left new m (opened ∙ pruned) frees (unremoved name old left new removes m other)
        ]

    pub refusal_leaves_names : (name : List ℕ) (old : S) (error : InitError) (new : S) → c.by_name ≡ true → RefusesFile kind c name old error new → IsTrue kind.is_known → LeavesNames kind c name old new
    refusal_leaves_names name old error new by_name refuses is_known = record {
      others = other_stays name (kind.content old) (kind.content new) by_name (refuses_little kind c name old error new is_known refuses);
      own = own_stays name old error new by_name is_known refuses;
    }
