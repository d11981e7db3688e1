-- What a refused opening leaves.
use Rattle.std.proofs.Common.{◌≡◌, ◌≢◌, ◌∙◌, if◌then◌else◌, ℕ, zero, suc, ℤ, Bool, true, false, List, [], ◌∷◌, Option, None, Some, Result, Ok, Err, ap, inl, inr, refl, sym, IsTrue}
use Rattle.std.specs.Prelude.{is_none, OnOk, OnErr}
use Rattle.std.specs.FinMap as fin
use Rattle.std.specs.declared.io.Error.{Error}
use Rattle.appender_names.specs.declared.error.InitError.{InitError}
use Rattle.appender_names.specs.declared.error.InitError.TheVariants.{Directory, File, Symlink, Moment, Name, Memory, Limit}
use Rattle.appender_store.specs.Content.{Content, Entry, Removes}
use Rattle.appender_store.specs.declared.store.Folder.{Ghosts}
use Rattle.appender_retain.specs.Rank.{LogFiles}
use Rattle.appender_retain.specs.Survival.{RemovesOnlyOld}
use Rattle.appender_retain.specs.Pruning.{Prunes}
use Rattle.appender_rolling.specs.Config.{Config, log_files_of, max_before, stamp}
use Rattle.appender_rolling.specs.Opening.{file_name_of, MayOpen, FindsNumber, MayRemoveLink, FailsToLink, TriesRemove, RemovesEmpty, RemovesNewFile, MayRemoveNew, RefusesFile, IsRefusalEffect}
use Rattle.appender_rolling.specs.Roller.{OpensNoRoller}

takes_nothing : (log : LogFiles) (max : ℕ) (c : Content) → RemovesOnlyOld log max c c
takes_nothing log max c = record { there = refl; bodies = refl; names = λ name. inl refl }

pub is_free : (o : Option Entry) → is_none o ≡ true → o ≡ None
is_free None is = refl
is_free (Some e) is = absurd (let both : false ≡ true = is in cc)

module _ {S F : Type 0} (kind : Ghosts S F) (config : Config) where
  pub may_remove : (link name : List ℕ) (old : S) (fault : Error) (new : S) → IsTrue kind.is_known → FailsToLink kind link name old fault new → MayRemoveLink link (kind.content old) (kind.content new)
  may_remove [] name old fault new is_known never = absurd never
  may_remove (b ∷ bs) name old fault new is_known links_not = links_not.content is_known

  -- by name retention does nothing before an opening
  pub unpruned : (log : LogFiles) (old pruned : S) → Prunes kind log (max_before config) old pruned → config.by_name ≡ true → pruned ≡ old
  unpruned log old pruned prunes by_name = prunes.none (ap (λ (t : Bool). if t then 0 else config.max_files) by_name)

  -- an open file that is removed has the name of a new one
  may_remove_tried : (name : List ℕ) (old left new : S) → IsTrue kind.is_known → config.by_name ≡ true → fin.get (kind.content old).names name ≡ None → TriesRemove kind name left new → MayRemoveNew config name (kind.content old) (kind.content left) (kind.content new)
  may_remove_tried name old left new is_known by_name free removes = by removes.answer removes.ok removes.err
    where
      by : (answer : Result (Unit {0}) Error) → OnOk answer (IsTrue kind.is_known → Removes name (kind.content left) (kind.content new)) → OnErr answer (kind.content new ≡ kind.content left) → MayRemoveNew config name (kind.content old) (kind.content left) (kind.content new)
      by (Ok u) ok err = inr (by_name, free, ok is_known)
      by (Err e) ok err = inl err

  may_remove_empty : (name : List ℕ) (file : F) (old left new : S) → IsTrue kind.is_known → config.by_name ≡ true → fin.get (kind.content old).names name ≡ None → RemovesEmpty kind name file left new → MayRemoveNew config name (kind.content old) (kind.content left) (kind.content new)
  may_remove_empty name file old left new is_known by_name free asks = by asks.answer refl
    where
      by : (answer : Option ℕ) → asks.answer ≡ answer → MayRemoveNew config name (kind.content old) (kind.content left) (kind.content new)
      by None is = inl (ap kind.content (asks.other (λ same. absurd (let both : ◌≡◌ {A = Option ℕ} None (Some 0) = sym is ∙ same in cc))))
      by (Some zero) is = may_remove_tried name old left new is_known by_name free (asks.empty is)
      by (Some (suc n)) is = inl (ap kind.content (asks.other (λ same. absurd (let both : ◌≡◌ {A = Option ℕ} (Some (suc n)) (Some 0) = sym is ∙ same in cc))))

  may_remove_new : (name : List ℕ) (made : Bool) (file : F) (old left new : S) → IsTrue kind.is_known → (config.by_name ≡ true → made ≡ true → fin.get (kind.content old).names name ≡ None) → RemovesNewFile kind config name made file left new → MayRemoveNew config name (kind.content old) (kind.content left) (kind.content new)
  may_remove_new name made file old left new is_known free removes = by config.by_name made refl refl
    where
      by : (by_name m : Bool) → config.by_name ≡ by_name → made ≡ m → MayRemoveNew config name (kind.content old) (kind.content left) (kind.content new)
      by false m is_by is_made = inl (ap kind.content (removes.other (inl is_by)))
      by true false is_by is_made = inl (ap kind.content (removes.other (inr is_made)))
      by true true is_by is_made = may_remove_empty name file old left new is_known is_by (free is_by is_made) (removes.new_file is_by is_made)

  -- it changes little
  pub refuses_little : (name : List ℕ) (old : S) (e : InitError) (new : S) → IsTrue kind.is_known → RefusesFile kind config name old e new → IsRefusalEffect config name (kind.content old) (kind.content new)
  refuses_little name old (Directory fault) new is_known (pruned, prunes, none) = record { pruned = kind.content pruned; only_old = prunes.only_old is_known; rest = inl none.content }
  refuses_little name old (File fault) new is_known (pruned, prunes, none) = record { pruned = kind.content pruned; only_old = prunes.only_old is_known; rest = inr (inl (none.content is_known)) }
  refuses_little name old (Symlink fault) new is_known (required, pruned, unlinked, file, left, prunes, gets, links_not, removes) = record {
    pruned = kind.content pruned;
    only_old = prunes.only_old is_known;
    rest = inr (inr (
      kind.content unlinked,
      kind.body file,
      kind.content left,
      gets.opens is_known,
      may_remove config.link name unlinked fault left is_known links_not,
      may_remove_new name (kind.made_file unlinked) file old left new is_known free removes,
    ));
  }
    where
      free : config.by_name ≡ true → kind.made_file unlinked ≡ true → fin.get (kind.content old).names name ≡ None
      free by_name made =
          ap (λ (s : S). fin.get (kind.content s).names name) (sym (unpruned (log_files_of config (Some name)) old pruned prunes by_name))
          ∙ is_free (fin.get (kind.content pruned).names name) (sym (gets.made is_known) ∙ made)
  refuses_little name old Memory new is_known same = record { pruned = kind.content old; only_old = takes_nothing (log_files_of config (Some name)) (max_before config) (kind.content old); rest = inl (ap kind.content same) }
  refuses_little name old Moment new is_known (pruned, prunes, never) = absurd never
  refuses_little name old (Name fault) new is_known (pruned, prunes, never) = absurd never
  refuses_little name old Limit new is_known (pruned, prunes, never) = absurd never

  -- and is that of a roller, whose checks were passed
  pub refuses_roller : (m : ℤ) (old listed : S) (number : ℕ) (e : InitError) (new : S) → MayOpen config m → FindsNumber kind config m old number listed
      → e ≢ Memory → RefusesFile kind config (file_name_of config (stamp m number)) listed e new → OpensNoRoller kind config m old e new
  refuses_roller m old listed number (Directory fault) new may finds some refuses = (may, (number, listed, finds, refuses))
  refuses_roller m old listed number (File fault) new may finds some refuses = (may, (number, listed, finds, refuses))
  refuses_roller m old listed number (Symlink fault) new may finds some refuses = (may, (number, listed, finds, refuses))
  refuses_roller m old listed number Memory new may finds some refuses = absurd (some refl)
  refuses_roller m old listed number Moment new may finds some (pruned, prunes, never) = absurd never
  refuses_roller m old listed number (Name fault) new may finds some (pruned, prunes, never) = absurd never
  refuses_roller m old listed number Limit new may finds some (pruned, prunes, never) = absurd never
