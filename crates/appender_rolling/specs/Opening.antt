-- The opening of a log file: old ones are removed, the file is opened in a folder that is made if it is absent, and the link
-- is made to it. By name old ones are removed last. `kind` has the ghost members of a kind of folder.
use Rattle.std.specs.Prelude.{◌≡◌, ◌≢◌, ◌⊎◌, ℕ, ◌+◌, ◌-◌, ◌<◌, ◌≤◌, ℤ, true, false, map, Vec, Bool, MatchResult, IsOk, List, [], ◌∷◌, length, Option, None, Some, is_none, Result, Ok, Err, OnOk, OnErr, IsTrue}
use Rattle.std.specs.Option.{option_map_or}
use Rattle.std.specs.declared.io.Error.{Error}
use Rattle.std.specs.FinMap as fin
use Rattle.appender_names.specs.declared.error.InitError.{InitError}
use Rattle.appender_names.specs.declared.error.InitError.TheVariants.{Directory, File, Symlink, Moment, Name, Memory, Limit}
use Rattle.appender_names.specs.declared.error.NameFault.{NameFault}
use Rattle.appender_names.specs.declared.error.NameFault.TheVariants.{Link as LinkName, Clash}
use Rattle.appender_names.specs.Rotation.{IsMoment, IsNever, period_of}
use Rattle.appender_names.specs.Archive.{before_ending}
use Rattle.appender_names.specs.Name.{IsAllowed, IsPartFault, IsEntry, IsNumberIn, Reads, name_at}
use Rattle.appender_store.specs.declared.store.Folder.{Ghosts}
use Rattle.appender_store.specs.Content.{Content, Entry, File as PlainFile, Link, Folder, OpensBody, Removes, RemovesLink, MakesLink, after_make_folder, body_at, IsLink, IsLinkOrFolder, ForbidsOpen, ForbidsRemove, ForbidsRemoveLink, ForbidsList}
use Rattle.appender_store.specs.Folder.{HasCause, IsOneMore, Row, NotedList, listed_row, entry_row}
use Rattle.appender_store.specs.declared.store.Kind.{Kind}
use Rattle.appender_store.specs.declared.store.Kind.TheVariants.{File as ListedFile, Other as ListedOther}
use Rattle.appender_store.specs.Notes.{Notes}
use Rattle.appender_store.specs.declared.store.Listed.{Listed}
use Rattle.std.specs.declared.alloc.Global.{Global}
use Rattle.std.specs.List.{Contains}
use Rattle.appender_rolling.specs.declared.rolling.setup.Stamp.{Stamp}
use Rattle.appender_retain.specs.Survival.{RemovesOnlyOld, candidates_in, name_survives}
use Rattle.appender_retain.specs.Pruning.{Prunes, IsQuiet}
use Rattle.appender_rolling.specs.Config.{Config, naming_of, log_files_of, is_limited, max_before, max_after, uncounted, MayLimit, stamp, last_of}

-- the name of the file with this stamp; without a limit of bytes the number of a stamp is 0
abbrev pub file_name_of : Config → Stamp → List ℕ
file_name_of c s = name_at (naming_of c) s.moment s.number

-- a link that is set has the name of an entry of a folder
abbrev pub LinksEntry : Config → Type 0
LinksEntry c = c.link ≢ [] → IsEntry c.link

-- prefix, suffix and link, if it is set, make names of entries of a folder
pub record NamesEntries (c : Config) : Type 0 where
  pub files : IsAllowed c.rotation c.prefix c.suffix
  pub link : LinksEntry c

abbrev pub ReadsAsDate : Config → List ℕ → Type 0
ReadsAsDate c name = (s : ℤ) × Reads (naming_of c) name s

-- a name that reads as a date, which under NEVER log files don't have
abbrev pub HasDatedName : Config → List ℕ → Type 0
HasDatedName c name = (¬ IsNever c.rotation) × ReadsAsDate c name

-- a link is set whose name is that of the first file, or, unless the rotation is NEVER, one that reads as a date
pub record LinkClashes (c : Config) (m : ℤ) : Type 0 where
  pub is_set : c.link ≢ []
  pub clashes : (c.link ≡ file_name_of c (stamp m 0)) ⊎ HasDatedName c c.link

-- a log with this configuration can be opened at this moment
pub record MayOpen (config : Config) (m : ℤ) : Type 0 where
  pub allowed : NamesEntries config
  pub may_limit : MayLimit config
  pub in_range : IsMoment m
  pub apart : ¬ LinkClashes config m

-- Before any call: what every opening needs was made of the configuration, and the first file's name.
pub record IsReady (config : Config) (m : ℤ) (setup : Config) (name : List ℕ) : Type 0 where
  pub may_open : MayOpen config m
  pub setup_is : setup ≡ config
  pub name_is : name ≡ file_name_of config (stamp m 0)

-- a name that is not allowed, and why
abbrev pub IsNameFault : Config → ℤ → NameFault → Type 0
IsNameFault c m LinkName = ¬ LinksEntry c
IsNameFault c m Clash = NamesEntries c × MayLimit c × IsMoment m × LinkClashes c m
IsNameFault c m fault = IsPartFault c.rotation c.prefix c.suffix fault

-- No roller was opened, for this reason. The checks come in this order: names, limit, moment, memory, the name of the link.
abbrev pub IsNotReady : Config → ℤ → InitError → Type 0
IsNotReady config m (Name fault) = IsNameFault config m fault
IsNotReady config m Limit = NamesEntries config × (is_limited config ≡ true) × IsNever config.rotation
IsNotReady config m Moment = NamesEntries config × MayLimit config × (¬ IsMoment m)
IsNotReady config m Memory = NamesEntries config × MayLimit config × IsMoment m
IsNotReady config m error = ⊥

-- ---- the number of the first file

-- A plain file whose name reads as the start of the moment's period, as the log's own names do, is continued if the log continues its last file.
pub record IsLastFile (c : Config) (m : ℤ) (name : List ℕ) (kind : Kind) : Type 0 where
  pub continues : c.continues ≡ true
  pub plain : kind ≡ ListedFile
  pub own : (start : ℤ) × (period_of c.rotation m ≡ Some start) × Reads (naming_of c) name start

-- One above the greatest number that one of these has in the period of m, 0 if none has one there, and at most 999999. A file that is continued
-- counts its number itself.
pub record IsNextNumber (c : Config) (m : ℤ) (IsThere : List ℕ → Kind → Type 0) (number : ℕ) : Type 0 where
  pub at_most : number ≤ 999999
  pub above : (name : List ℕ) (kind : Kind) (k : ℕ) → IsThere name kind → IsNumberIn (naming_of c) m name k
      → (k < number) ⊎ (number ≡ 999999) ⊎ ((k ≡ number) × IsLastFile c m name kind)
  pub least : (number ≡ 0) ⊎ ((name : List ℕ) × (kind : Kind) × (k : ℕ) × IsThere name kind × IsNumberIn (naming_of c) m name k
      × (((number ≡ k + 1) × (¬ (IsLastFile c m name kind))) ⊎ ((k ≡ 999999) × (number ≡ 999999)) ⊎ ((number ≡ k) × IsLastFile c m name kind)))

-- Names that are taken: those of entries, and by name those of which an entry is an archive, as if something else than a file had them.
abbrev pub IsTaken : Config → (List ℕ → Kind → Type 0) → List ℕ → Kind → Type 0
IsTaken c IsThere name kind =
    IsThere name kind
    ⊎ ((archive : List ℕ) × (its : Kind) × (c.by_name ≡ true) × (kind ≡ ListedOther) × IsThere archive its × (before_ending archive ≡ Some name))

-- the next number by the names that are taken
abbrev pub IsFirstNumber : Config → ℤ → (List ℕ → Kind → Type 0) → ℕ → Type 0
IsFirstNumber c m IsThere number = IsNextNumber c m (IsTaken c IsThere) number

-- a listed entry has this name and is of this kind
abbrev pub IsListed : List Row → List ℕ → Kind → Type 0
IsListed rows name kind = (row : Row) × Contains rows row × (row.0 ≡ Some name) × (row.1 ≡ kind)

-- the name leads to something of this kind
abbrev pub HasEntry : Content → List ℕ → Kind → Type 0
HasEntry c name kind = (e : Entry) × (fin.get c.names name ≡ Some e) × ((entry_row (name, e)).1 ≡ kind)

-- The folder was listed, and this is the first number by what was listed, and so by what the folder holds. If the listing was
-- refused, the folder noted it, and the number is 0.
pub record ListsNumbers {S F : Type 0} (kind : Ghosts S F) (c : Config) (m : ℤ) (old : S) (number : ℕ) (new : S) : Type 0 where
  pub answer : Result (Vec Listed Global) Error
  pub listed : S
  pub call : kind.list_gives old answer listed
  pub cause : HasCause kind.is_known (ForbidsList (kind.content old)) (kind.failures old) (kind.failures listed) answer
  pub there : OnOk answer (IsTrue kind.is_known → (kind.content old).there ≡ true)
  pub content : kind.content listed ≡ kind.content old
  pub noted : kind.noted listed ≡ kind.noted old
  pub number_is : MatchResult answer (λ all. IsFirstNumber c m (IsListed (map listed_row all.items)) number × (new ≡ listed))
      (λ fault. (number ≡ 0) × Notes kind listed (NotedList fault) new)
  pub number_in : IsOk answer → IsTrue kind.is_known → IsFirstNumber c m (HasEntry (kind.content old)) number

-- The number of the first file that is opened. Without a limit of bytes it is 0, and no call is made.
pub record FindsNumber {S F : Type 0} (kind : Ghosts S F) (config : Config) (m : ℤ) (old : S) (number : ℕ) (new : S) : Type 0 where
  pub none : is_limited config ≡ false → (number ≡ 0) × (new ≡ old)
  pub calls : is_limited config ≡ true → ListsNumbers kind config m old number new
  pub number_is : number ≤ last_of config
  pub content : kind.content new ≡ kind.content old

-- The length of the open file was asked for, and this is how many bytes of the limit it leaves: none if the length can't be told.
pub record LeavesRoom {S F : Type 0} (kind : Ghosts S F) (max : ℕ) (folder : S) (file : F) (room : ℕ) : Type 0 where
  pub answer : Option ℕ
  pub call : kind.length_gives folder file answer
  pub known : IsTrue kind.is_known → answer ≡ Some (length (body_at (kind.content folder) (kind.body file)))
  pub room_is : room ≡ option_map_or (λ (held : ℕ). max - held) answer 0

-- How many bytes of the limit are left of the first file when it is opened. What it holds counts if the log continues its last file.
pub record IsFirstRoom {S F : Type 0} (kind : Ghosts S F) (config : Config) (folder : S) (file : F) (room : ℕ) : Type 0 where
  pub anew : config.continues ≡ false → room ≡ config.max_bytes
  pub continued : config.continues ≡ true → LeavesRoom kind config.max_bytes folder file room
  pub at_most : room ≤ config.max_bytes

-- ---- the file

-- one call opened the file of this name
pub record OpensDirectly {S F : Type 0} (kind : Ghosts S F) (name : List ℕ) (old : S) (file : F) (new : S) : Type 0 where
  pub call : kind.open_gives old name (Ok file) new
  pub opens : IsTrue kind.is_known → OpensBody name (kind.content old) (kind.content new) (kind.body file)
  pub body_is_there : IsTrue kind.is_known → kind.body file < length (kind.content new).bodies
  pub made : IsTrue kind.is_known → kind.made_file new ≡ is_none (fin.get (kind.content old).names name)
  pub failures : kind.failures new ≡ kind.failures old
  pub noted : kind.noted new ≡ kind.noted old

-- one call refused it, and nothing changed
pub record RefusesDirectly {S F : Type 0} (kind : Ghosts S F) (name : List ℕ) (old : S) (fault : Error) (new : S) : Type 0 where
  pub call : kind.open_gives old name (Err fault) new
  pub content : kind.content new ≡ kind.content old
  pub cause : HasCause {T = F} kind.is_known (ForbidsOpen name (kind.content old)) (kind.failures old) (kind.failures new) (Err fault)
  pub noted : kind.noted new ≡ kind.noted old

-- a call made the folder, if it was absent
pub record MakesFolder {S F : Type 0} (kind : Ghosts S F) (old new : S) : Type 0 where
  pub call : kind.make_folder_gives old (Ok tt) new
  pub content : IsTrue kind.is_known → kind.content new ≡ after_make_folder (kind.content old)
  pub failures : kind.failures new ≡ kind.failures old
  pub noted : kind.noted new ≡ kind.noted old

-- a first call was refused, the folder made, and a second call opened the file
pub record OpensInNewFolder {S F : Type 0} (kind : Ghosts S F) (name : List ℕ) (old : S) (file : F) (new : S) : Type 0 where
  pub fault : Error
  pub refused : S
  pub ready : S
  pub first : RefusesDirectly kind name old fault refused
  pub makes : MakesFolder kind refused ready
  pub second : OpensDirectly kind name ready file new

-- The file of this name was opened: in the folder as it was, or in the folder made, which is the same if it existed.
pub record OpensNamedFile {S F : Type 0} (kind : Ghosts S F) (name : List ℕ) (old : S) (file : F) (new : S) : Type 0 where
  pub calls : OpensDirectly kind name old file new ⊎ OpensInNewFolder kind name old file new
  pub opens : IsTrue kind.is_known → OpensBody name (after_make_folder (kind.content old)) (kind.content new) (kind.body file)
  pub body_is_there : IsTrue kind.is_known → kind.body file < length (kind.content new).bodies
  pub made : IsTrue kind.is_known → kind.made_file new ≡ is_none (fin.get (kind.content old).names name)
  pub noted : kind.noted new ≡ kind.noted old

-- The folder could not be made, and nothing changed: the call failed by itself, or memory was refused.
pub record FailsToMakeFolder {S F : Type 0} (kind : Ghosts S F) (name : List ℕ) (old : S) (fault : Error) (new : S) : Type 0 where
  pub first_fault : Error
  pub refused : S
  pub first : RefusesDirectly kind name old first_fault refused
  pub call : kind.make_folder_gives refused (Err fault) new
  pub cause : HasCause {T = Unit {0}} kind.is_known ⊥ (kind.failures refused) (kind.failures new) (Err fault)
  pub content : kind.content new ≡ kind.content old
  pub noted : kind.noted new ≡ kind.noted old

-- The file could not be opened though the folder was made: the second call failed by itself, memory was refused, or what has
-- the name is a link or a folder.
pub record FailsToOpenFile {S F : Type 0} (kind : Ghosts S F) (name : List ℕ) (old : S) (fault : Error) (new : S) : Type 0 where
  pub first_fault : Error
  pub refused : S
  pub ready : S
  pub first : RefusesDirectly kind name old first_fault refused
  pub makes : MakesFolder kind refused ready
  pub second : RefusesDirectly kind name ready fault new
  pub cause : HasCause {T = F} kind.is_known (IsLinkOrFolder (fin.get (kind.content old).names name)) (kind.failures ready) (kind.failures new) (Err fault)
  pub content : IsTrue kind.is_known → kind.content new ≡ after_make_folder (kind.content old)
  pub noted : kind.noted new ≡ kind.noted old

-- the file of this name was not opened, for this reason
abbrev pub FailsToOpen : {S F : Type 0} → Ghosts S F → List ℕ → S → InitError → S → Type 0
FailsToOpen kind name old (Directory fault) new = FailsToMakeFolder kind name old fault new
FailsToOpen kind name old (File fault) new = FailsToOpenFile kind name old fault new
FailsToOpen kind name old _ new = ⊥

-- ---- the link

-- a link of this name was removed, or all is as it was
abbrev pub MayRemoveLink : List ℕ → Content → Content → Type 0
MayRemoveLink link old new = (new ≡ old) ⊎ RemovesLink link old new

-- a call removed the link, and its refusal was ignored
pub record TriesRemoveLink {S F : Type 0} (kind : Ghosts S F) (link : List ℕ) (old new : S) : Type 0 where
  pub answer : Result (Unit {0}) Error
  pub call : kind.remove_link_gives old link answer new
  pub ok : OnOk answer (IsTrue kind.is_known → RemovesLink link (kind.content old) (kind.content new))
  pub err : OnErr answer (kind.content new ≡ kind.content old)
  pub cause : HasCause kind.is_known (ForbidsRemoveLink link (kind.content old)) (kind.failures old) (kind.failures new) answer
  pub memory : OnErr answer (IsOneMore (kind.failures old) (kind.failures new) ⊎ (IsTrue kind.is_known × ForbidsRemoveLink link (kind.content old)))
  pub noted : kind.noted new ≡ kind.noted old

-- the name leads to a plain file or to a folder
abbrev pub IsFileOrFolder : Option Entry → Type 0
IsFileOrFolder None = ⊥
IsFileOrFolder (Some (PlainFile b t)) = Unit {0}
IsFileOrFolder (Some (Link target)) = ⊥
IsFileOrFolder (Some Folder) = Unit {0}

-- The link leads to this name now, in place of what link stood there.
pub record ReplacesLink {S F : Type 0} (kind : Ghosts S F) (link name : List ℕ) (old new : S) : Type 0 where
  pub freed : S
  pub removes : TriesRemoveLink kind link old freed
  pub call : kind.make_link_gives freed link name (Ok tt) new
  pub failures : kind.failures new ≡ kind.failures freed
  pub content : IsTrue kind.is_known → MayRemoveLink link (kind.content old) (kind.content freed) × MakesLink link name (kind.content freed) (kind.content new)
  pub noted : kind.noted new ≡ kind.noted old

-- what has the link's name leaves no place for it: a plain file or a folder, or the old link, whose removal failed by itself
abbrev pub BlocksLink : {S F : Type 0} → Ghosts S F → List ℕ → S → S → Type 0
BlocksLink kind link old freed =
    IsFileOrFolder (fin.get (kind.content old).names link)
    ⊎ (IsLink (fin.get (kind.content old).names link) × IsOneMore (kind.failures old) (kind.failures freed))

-- The link could not be made, and at most the old one is removed: the call failed by itself, memory was refused, or what has the
-- name leaves no place.
pub record FailsToReplaceLink {S F : Type 0} (kind : Ghosts S F) (link name : List ℕ) (old : S) (fault : Error) (new : S) : Type 0 where
  pub freed : S
  pub removes : TriesRemoveLink kind link old freed
  pub call : kind.make_link_gives freed link name (Err fault) new
  pub cause : HasCause {T = Unit {0}} kind.is_known (BlocksLink kind link old freed) (kind.failures freed) (kind.failures new) (Err fault)
  pub content : IsTrue kind.is_known → MayRemoveLink link (kind.content old) (kind.content new)
  pub noted : kind.noted new ≡ kind.noted old

-- if a link is set, it leads to this name now
abbrev pub LinksTo : {S F : Type 0} → Ghosts S F → List ℕ → List ℕ → S → S → Type 0
LinksTo kind [] name old new = new ≡ old
LinksTo kind (b ∷ bs) name old new = ReplacesLink kind (b ∷ bs) name old new

-- a link is set, and could not be made to lead to this name
abbrev pub FailsToLink : {S F : Type 0} → Ghosts S F → List ℕ → List ℕ → S → Error → S → Type 0
FailsToLink kind [] name old fault new = ⊥
FailsToLink kind (b ∷ bs) name old fault new = FailsToReplaceLink kind (b ∷ bs) name old fault new

-- If a link is set, it leads to this name now; or it is optional, and could not be made to lead there.
abbrev pub TriesLink : {S F : Type 0} → Ghosts S F → Config → List ℕ → S → S → Type 0
TriesLink kind config name old new =
    LinksTo kind config.link name old new
    ⊎ ((config.link_optional ≡ true) × (fault : Error) × FailsToLink kind config.link name old fault new)

-- ---- a new file whose link was refused

-- a call removed the file of this name, and its refusal was ignored
pub record TriesRemove {S F : Type 0} (kind : Ghosts S F) (name : List ℕ) (old new : S) : Type 0 where
  pub answer : Result (Unit {0}) Error
  pub call : kind.remove_gives old name answer new
  pub ok : OnOk answer (IsTrue kind.is_known → Removes name (kind.content old) (kind.content new))
  pub err : OnErr answer (kind.content new ≡ kind.content old)
  pub cause : HasCause kind.is_known (ForbidsRemove name (kind.content old)) (kind.failures old) (kind.failures new) answer
  pub noted : kind.noted new ≡ kind.noted old

-- The open file of this name is removed if its length is 0.
pub record RemovesEmpty {S F : Type 0} (kind : Ghosts S F) (name : List ℕ) (file : F) (old new : S) : Type 0 where
  pub answer : Option ℕ
  pub call : kind.length_gives old file answer
  pub known : IsTrue kind.is_known → answer ≡ Some (length (body_at (kind.content old) (kind.body file)))
  pub empty : answer ≡ Some 0 → TriesRemove kind name old new
  pub other : answer ≢ Some 0 → new ≡ old

-- By name, the open file is removed if its opening made it and its length is 0. Else no call is made.
pub record RemovesNewFile {S F : Type 0} (kind : Ghosts S F) (config : Config) (name : List ℕ) (made : Bool) (file : F) (old new : S) : Type 0 where
  pub new_file : config.by_name ≡ true → made ≡ true → RemovesEmpty kind name file old new
  pub other : (config.by_name ≡ false) ⊎ (made ≡ false) → new ≡ old

-- The same of the content: nothing is removed, or by name a name that led to nothing before the opening.
abbrev pub MayRemoveNew : Config → List ℕ → Content → Content → Content → Type 0
MayRemoveNew config name old left new = (new ≡ left) ⊎ ((config.by_name ≡ true) × (fin.get old.names name ≡ None) × Removes name left new)

-- ---- all of it

-- If neither List nor Remove was noted, there are no more log files than the maximum, if one is set. By name the file of this name is one more
-- than those that are counted, and later ones aren't.
abbrev pub KeepsMaximum : {S F : Type 0} → Ghosts S F → Config → List ℕ → S → S → Type 0
KeepsMaximum kind config name old new =
    IsQuiet (kind.noted old) (kind.noted new) → IsTrue kind.is_known → 0 < config.max_files → candidates_in (log_files_of config (Some name)) (kind.content new) + uncounted config ≤ config.max_files

-- what the link did to the content, if one is set
abbrev pub ChangesLink : List ℕ → List ℕ → Content → Content → Type 0
ChangesLink [] name old new = new ≡ old
ChangesLink (b ∷ bs) name old new = (freed : Content) × MayRemoveLink (b ∷ bs) old freed × MakesLink (b ∷ bs) name freed new

-- what the try to make it did, if it may fail
abbrev pub MayChangeLink : Config → List ℕ → Content → Content → Type 0
MayChangeLink config name old new =
    ChangesLink config.link name old new
    ⊎ ((config.link_optional ≡ true) × (config.link ≢ []) × MayRemoveLink config.link old new)

-- What was removed after the file of this name was opened is what would have been removed before. The file and the link are not, nor is
-- what else has the link's name, unless that reads as a log file's.
pub record SparesOpened (config : Config) (name : List ℕ) (old linked new : Content) : Type 0 where
  pub file : fin.get new.names name ≡ fin.get linked.names name
  pub link : IsLink (fin.get linked.names config.link) ⊎ (¬ HasDatedName config config.link) → fin.get new.names config.link ≡ fin.get linked.names config.link
  pub same : (other : List ℕ) → name_survives (log_files_of config (Some name)) (max_after config) linked.names other ≡ name_survives (log_files_of config (Some name)) (max_after config) old.names other

-- Old log files were removed, the file of this name was opened, and the link, if one is set, leads to it, unless it is optional and could not
-- be made. By name they were removed last.
pub record OpensFile {S F : Type 0} (kind : Ghosts S F) (config : Config) (name : List ℕ) (old : S) (file : F) (new : S) : Type 0 where
  pub pruned : S
  pub unlinked : S
  pub linked : S
  pub prunes : Prunes kind (log_files_of config (Some name)) (max_before config) old pruned
  pub gets : OpensNamedFile kind name pruned file unlinked
  pub links : TriesLink kind config name unlinked linked
  pub prunes_last : Prunes kind (log_files_of config (Some name)) (max_after config) linked new
  pub changes_link : IsTrue kind.is_known → MayChangeLink config name (kind.content unlinked) (kind.content linked)
  pub body_is_there : IsTrue kind.is_known → kind.body file < length (kind.content new).bodies
  pub spares : IsTrue kind.is_known → SparesOpened config name (kind.content old) (kind.content linked) (kind.content new)
  pub noted : kind.noted linked ≡ kind.noted pruned
  -- if the opening noted neither List nor Remove, neither of the two noted one
  pub quiet : IsQuiet (kind.noted old) (kind.noted new) → IsQuiet (kind.noted old) (kind.noted pruned) × IsQuiet (kind.noted linked) (kind.noted new)
  pub at_most : KeepsMaximum kind config name old new

-- It was not, for this reason. Without memory for the name no call was made; else old log files were removed, but none by name. If a
-- link that isn't optional was refused the file stays, but by name an empty file that this opening made is removed.
abbrev pub RefusesFile : {S F : Type 0} → Ghosts S F → Config → List ℕ → S → InitError → S → Type 0
RefusesFile kind config name old Memory new = new ≡ old
RefusesFile {S} {F} kind config name old (Symlink fault) new =
    (config.link_optional ≡ false) × (pruned : S) × (unlinked : S) × (file : F) × (left : S) × Prunes kind (log_files_of config (Some name)) (max_before config) old pruned
    × OpensNamedFile kind name pruned file unlinked × FailsToLink kind config.link name unlinked fault left
    × RemovesNewFile kind config name (kind.made_file unlinked) file left new
RefusesFile kind config name old error new =
    (pruned : _) × Prunes kind (log_files_of config (Some name)) (max_before config) old pruned × FailsToOpen kind name pruned error new

-- All that a refusal can leave: old log files are removed, but none by name, the folder is made, the name leads to a file, the link is removed.
-- By name the file may be removed again if its name led to nothing before.
pub record IsRefusalEffect (config : Config) (name : List ℕ) (old new : Content) : Type 0 where
  pub pruned : Content
  pub only_old : RemovesOnlyOld (log_files_of config (Some name)) (max_before config) old pruned
  pub rest : (new ≡ pruned) ⊎ (new ≡ after_make_folder pruned)
      ⊎ ((unlinked : Content) × (b : ℕ) × (left : Content) × OpensBody name (after_make_folder pruned) unlinked b × MayRemoveLink config.link unlinked left
      × MayRemoveNew config name old left new)
