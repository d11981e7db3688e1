-- What an opening removes at most, and why one is refused.
use Rattle.std.specs.Prelude.{◌≡◌, ◌≢◌, ◌⊎◌, ℕ, ℤ, false, List, Option, None, Some, Err, IsTrue}
use Rattle.std.specs.FinMap as fin
use Rattle.std.specs.IoError.{error_kind}
use Rattle.std.specs.declared.io.Error.{Error}
use Rattle.std.specs.declared.io.ErrorKind.TheVariants.{OutOfMemory}
use Rattle.appender_names.specs.declared.error.InitError.{InitError}
use Rattle.appender_names.specs.declared.error.InitError.TheVariants.{Directory, File as NoFile, Symlink, Memory}
use Rattle.appender_store.specs.declared.store.Folder.{Ghosts}
use Rattle.appender_store.specs.Content.{Content, Entry, File, IsLink, IsLinkOrFolder}
use Rattle.appender_store.specs.Folder.{IsOneMore}
use Rattle.appender_retain.specs.Survival.{name_survives}
use Rattle.appender_rolling.specs.Config.{Config, log_files_of, max_before}
use Rattle.appender_retain.specs.Pruning.{Prunes}
use Rattle.appender_rolling.specs.Opening.{RefusesDirectly, MakesFolder, OpensNamedFile, TriesRemoveLink, RemovesNewFile, IsFileOrFolder}

-- Every name leads to what it led to, but those that don't survive retention before this file is opened, and a link under the name of
-- the link that is set. `max` is how many log files are kept; with 0 only the link is removed.
abbrev pub RemovesOnlyOldNames : Config → ℕ → List ℕ → Content → Content → Type 0
RemovesOnlyOldNames c max file old new =
    (name : List ℕ) (e : Entry) → fin.get old.names name ≡ Some e
    → (fin.get new.names name ≡ Some e)
    ⊎ (name_survives (log_files_of c (Some file)) max old.names name ≡ false)
    ⊎ ((name ≡ c.link) × IsLink (Some e))

-- every name that led to a file leads to it
abbrev pub KeepsEachFile : Content → Content → Type 0
KeepsEachFile old new = (name : List ℕ) (body : ℕ) (created : Option ℤ) → fin.get old.names name ≡ Some (File body created) → fin.get new.names name ≡ Some (File body created)

-- the call counted a failure, or memory was refused
abbrev pub FailsByItself : ℕ → Error → ℕ → Type 0
FailsByItself old fault new = IsOneMore old new ⊎ (error_kind fault ≡ OutOfMemory)

-- The call that removed the file of this name failed by itself, or was refused memory.
abbrev pub FailsToRemove : {S F : Type 0} → Ghosts S F → List ℕ → S → Type 0
FailsToRemove kind name new = (left : _) × (fault : Error) × kind.remove_gives left name (Err fault) new × FailsByItself (kind.failures left) fault (kind.failures new)

-- Each name but the file's leads to what it led to, or was that of the link and led to a link. So does the file's, unless it led to nothing, and the
-- new file could not be removed.
pub record LeavesNames {S F : Type 0} (kind : Ghosts S F) (c : Config) (file : List ℕ) (old new : S) : Type 0 where
  pub others : (name : List ℕ) → name ≢ file
      → (fin.get (kind.content new).names name ≡ fin.get (kind.content old).names name)
      ⊎ ((name ≡ c.link) × IsLink (fin.get (kind.content old).names name) × (fin.get (kind.content new).names name ≡ None))
  pub own : (fin.get (kind.content new).names file ≡ fin.get (kind.content old).names file)
      ⊎ ((fin.get (kind.content old).names file ≡ None) × FailsToRemove kind file new)

-- retention, and a first opening that was refused, led to this folder
abbrev pub RefusesFirstOpening : {S F : Type 0} → Ghosts S F → Config → List ℕ → S → S → Type 0
RefusesFirstOpening kind c name old refused =
    (pruned : _) × (fault : Error) × Prunes kind (log_files_of c (Some name)) (max_before c) old pruned × RefusesDirectly kind name pruned fault refused

-- Why an opening is refused, by the calls that led from the folder before it to the one after: the call whose fault is returned failed by
-- itself or was refused memory; or what had the name before leaves no place for the file, or for the link; or there was no memory
-- for the name, and no call.
abbrev pub HasReason : {S F : Type 0} → Ghosts S F → Config → List ℕ → S → InitError → S → Type 0
HasReason kind c name old (Directory fault) new =
    (refused : _) × RefusesFirstOpening kind c name old refused × kind.make_folder_gives refused (Err fault) new
    × FailsByItself (kind.failures refused) fault (kind.failures new)
HasReason kind c name old (NoFile fault) new =
    (refused : _) × (ready : _) × RefusesFirstOpening kind c name old refused × MakesFolder kind refused ready × kind.open_gives ready name (Err fault) new
    × (FailsByItself (kind.failures ready) fault (kind.failures new) ⊎ (IsTrue kind.is_known × IsLinkOrFolder (fin.get (kind.content old).names name)))
HasReason {S} {F} kind c name old (Symlink fault) new =
    (c.link_optional ≡ false) × (pruned : S) × (file : F) × (unlinked : S) × (freed : S) × (left : S)
    × Prunes kind (log_files_of c (Some name)) (max_before c) old pruned × OpensNamedFile kind name pruned file unlinked × TriesRemoveLink kind c.link unlinked freed
    × kind.make_link_gives freed c.link name (Err fault) left × RemovesNewFile kind c name (kind.made_file unlinked) file left new
    × (FailsByItself (kind.failures freed) fault (kind.failures left)
    ⊎ (IsTrue kind.is_known × ((c.link ≡ name) ⊎ IsFileOrFolder (fin.get (kind.content old).names c.link)
    ⊎ (IsLink (fin.get (kind.content old).names c.link) × IsOneMore (kind.failures unlinked) (kind.failures freed)))))
HasReason kind c name old Memory new = new ≡ old
HasReason kind c name old error new = ⊥
