-- What each part of an opening keeps.
use Rattle.std.proofs.Common.{◌≡◌, ◌⊎◌, ℕ, ℤ, List, [], ◌∷◌, ◌++◌, length-append, get_or, Option, None, Some, arith, inl, inr, refl, ap, sym, ◌∙◌, zero, suc}
use Rattle.std.specs.FinMap as fin
use Rattle.appender_retain.specs.Rank.{LogFiles}
use Rattle.appender_store.specs.Content.{Content, NameMap, Entry, File, Link, after_make_folder, OpensBody, MakesLink}
use Rattle.appender_store.specs.NameLaws.{NameLaws, RemovalsTakeOneName, AdditionsAddOneName}
use Rattle.appender_retain.specs.Survival.{RemovesOnlyOld}
use Rattle.appender_rolling.specs.Config.{Config, log_files_of, max_before}
use Rattle.appender_rolling.specs.Opening.{MayRemoveLink, ChangesLink, MayChangeLink, MayRemoveNew, IsRefusalEffect}
use Rattle.appender_rolling.specs.Kept.{KeepsBodies, HadFile, AddsNoFile, AddsNoOtherFile, OpeningPartsKeepBodies}

same_file : (a b : ℕ) (t u : Option ℤ) → File a t ≡ File b u → a ≡ b
same_file a b t u e = cc

no_file : (target : List ℕ) (x : ℕ) (t : Option ℤ) → ¬ (Link target ≡ File x t)
no_file target x t e = cc

nothing_new : (bodies : List (List ℕ)) (x : ℕ) → get_or (bodies ++ [] ∷ []) x [] ≡ get_or bodies x []
nothing_new [] zero = refl
nothing_new [] (suc x) = refl
nothing_new (b ∷ bodies) zero = refl
nothing_new (b ∷ bodies) (suc x) = nothing_new bodies x

-- ---- one after another

keeps_all : (c : Content) → AddsNoFile c c
keeps_all c = record { keeps = record { bytes = λ x. refl; more = λ x lt. lt; names = λ x lt m t h. h }; stay = λ m x t h. h }

keeps_on : (a b c : Content) → KeepsBodies a b → KeepsBodies b c → KeepsBodies a c
keeps_on a b c k l = record {
  bytes = λ x. l.bytes x ∙ k.bytes x;
  more = λ x lt. l.more x (k.more x lt);
  names = λ x lt m t h. k.names x lt m t (l.names x (k.more x lt) m t h);
}

files_on : (a b c : Content) → AddsNoFile a b → AddsNoFile b c → AddsNoFile a c
files_on a b c k l = record { keeps = keeps_on a b c k.keeps l.keeps; stay = λ m x t h. k.stay m x t (l.stay m x t h) }

others_on : (name : List ℕ) (a b c : Content) → AddsNoOtherFile name a b → AddsNoOtherFile name b c → AddsNoOtherFile name a c
others_on name a b c k l = record { keeps = keeps_on a b c k.keeps l.keeps; stay = λ m ne x t h. k.stay m ne x t (l.stay m ne x t h) }

and_others : (name : List ℕ) (a b : Content) → AddsNoFile a b → AddsNoOtherFile name a b
and_others name a b k = record { keeps = k.keeps; stay = λ m ne. k.stay m }

-- names changed alone, and no file got one
names_alone : (old new : Content) → new.bodies ≡ old.bodies → ((m : List ℕ) → HadFile m old new) → AddsNoFile old new
names_alone old new same stay = record {
  keeps = record {
    bytes = λ x. ap (λ (bodies : List (List ℕ)). get_or bodies x []) same;
    more = λ x lt. rw same lt;
    names = λ x lt m t h. stay m x t h;
  };
  stay = stay;
}

-- ---- each part

keeps_pruned : (log : LogFiles) (max : ℕ) (old new : Content) → RemovesOnlyOld log max old new → AddsNoFile old new
keeps_pruned log max old new took = names_alone old new took.bodies (λ m x t h. elim (took.names m) [
  | inl same ↦ sym same ∙ h
  | inr gone ↦ absurd (let both : ◌≡◌ {A = Option Entry} None (Some (File x t)) = sym gone.0 ∙ h in cc)
])

keeps_made : (c : Content) → AddsNoFile c (after_make_folder c)
keeps_made c = names_alone c (after_make_folder c) refl (λ m x t h. h)

-- the laws of the store, as they are told by a call
pub maps : RemovalsTakeOneName → AdditionsAddOneName → NameLaws
maps removals additions = record { removals = removals; additions = additions }

module _ (maps : NameLaws) where
  pub removed_name : (names : NameMap) (name : List ℕ) → fin.get (fin.remove names name) name ≡ None
  removed_name names name = elim (maps.removals names name name) [ inl own ↦ own.1 | inr other ↦ absurd (other.0 refl) ]

  -- what is there after a removal was there before
  was_there : (names : NameMap) (name m : List ℕ) (e : Entry) → fin.get (fin.remove names name) m ≡ Some e → fin.get names m ≡ Some e
  was_there names name m e h = elim (maps.removals names name m) [
    | inl own ↦ absurd (let both : ◌≡◌ {A = Option Entry} None (Some e) = sym own.1 ∙ h in cc)
    | inr other ↦ sym other.1 ∙ h
  ]

  -- and what is there after an addition was there before, or is what was added
  there_or_added : (names : NameMap) (name : List ℕ) (entry : Entry) (m : List ℕ) (e : Entry) → fin.get (fin.insert names name entry) m ≡ Some e → ((m ≡ name) × (entry ≡ e)) ⊎ (fin.get names m ≡ Some e)
  there_or_added names name entry m e h = elim (maps.additions names name entry m) [
    | inl own ↦ inl (own.0, (let both : ◌≡◌ {A = Option Entry} (Some entry) (Some e) = sym own.1 ∙ h in cc))
    | inr other ↦ inr (sym other.1 ∙ h)
  ]

  keeps_opened : (name : List ℕ) (old new : Content) (b : ℕ) → OpensBody name old new b → AddsNoOtherFile name old new
  keeps_opened name old new b (there, inl (t, at, same)) = rw same (and_others name old old (keeps_all old))
  keeps_opened name old new b (there, inr (u, free, number, after)) = rw after (record {
    keeps = record {
      bytes = nothing_new old.bodies;
      more = λ x lt. let more = length-append old.bodies ([] ∷ []) in omega arith;
      names = λ x lt m t h. elim (there_or_added old.names name (File b u) m (File x t) h) [
        | inl added ↦ absurd (let same : b ≡ x = same_file b x u t added.1 in omega (arith, number))
        | inr before ↦ before
      ];
    };
    stay = λ m ne x t h. elim (there_or_added old.names name (File b u) m (File x t) h) [
      | inl added ↦ absurd (ne added.0)
      | inr before ↦ before
    ];
  })

  keeps_freed : (link : List ℕ) (old new : Content) → MayRemoveLink link old new → AddsNoFile old new
  keeps_freed link old new (inl same) = rw same (keeps_all old)
  keeps_freed link old new (inr removes) =
      rw removes.after (names_alone old (record old { names = fin.remove old.names link }) refl (λ m x t h. was_there old.names link m (File x t) h))

  keeps_link : (link target : List ℕ) (old new : Content) → MakesLink link target old new → AddsNoFile old new
  keeps_link link target old new makes =
      rw makes.after (names_alone old (record old { names = fin.insert old.names link (Link target) }) refl (λ m x t h. elim (there_or_added old.names link (Link target) m (File x t) h) [
        | inl added ↦ absurd (no_file target x t added.1)
        | inr before ↦ before
      ]))

  keeps_linked : (link name : List ℕ) (old new : Content) → ChangesLink link name old new → AddsNoFile old new
  keeps_linked [] name old new same = rw same (keeps_all old)
  keeps_linked (b ∷ bs) name old new (freed, frees, makes) = files_on old freed new (keeps_freed (b ∷ bs) old freed frees) (keeps_link (b ∷ bs) name freed new makes)

  pub keeps_tried : (config : Config) (name : List ℕ) (old new : Content) → MayChangeLink config name old new → AddsNoFile old new
  keeps_tried config name old new (inl changes) = keeps_linked config.link name old new changes
  keeps_tried config name old new (inr (optional, is_set, frees)) = keeps_freed config.link old new frees

  keeps_removed : (config : Config) (name : List ℕ) (old left new : Content) → MayRemoveNew config name old left new → AddsNoFile left new
  keeps_removed config name old left new (inl same) = rw same (keeps_all left)
  keeps_removed config name old left new (inr (by_name, free, removes)) =
      rw removes.after (names_alone left (record left { names = fin.remove left.names name }) refl (λ m x t h. was_there left.names name m (File x t) h))

  pub keeps_little : (config : Config) (name : List ℕ) (old new : Content) → IsRefusalEffect config name old new → AddsNoOtherFile name old new
  keeps_little config name old new little =
      let pruned = keeps_pruned (log_files_of config (Some name)) (max_before config) old little.pruned little.only_old in
      let made = files_on old little.pruned (after_make_folder little.pruned) pruned (keeps_made little.pruned) in
      elim little.rest [
        | inl same ↦ rw same (and_others name old little.pruned pruned)
        | inr (inl is) ↦ rw is (and_others name old (after_make_folder little.pruned) made)
        | inr (inr (unlinked, b, left, opens, frees, removes)) ↦
            others_on name old (after_make_folder little.pruned) new (and_others name old (after_make_folder little.pruned) made)
            (others_on name (after_make_folder little.pruned) unlinked new (keeps_opened name (after_make_folder little.pruned) unlinked b opens)
            (and_others name unlinked new (files_on unlinked left new (keeps_freed config.link unlinked left frees) (keeps_removed config name old left new removes))))
      ]

  pub parts_keep : OpeningPartsKeepBodies
  parts_keep = record {
    retention = keeps_pruned;
    folder = keeps_made;
    opening = keeps_opened;
    link = keeps_tried;
    refusal = keeps_little;
  }
