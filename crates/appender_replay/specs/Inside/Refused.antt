-- Wrong runs. The headline by itself refuses each of them.
use Rattle.std.specs.Prelude.{Bool, false, None, ◌≡◌, ◌≢◌, IsTrue, ℕ, ◌+◌, ◌-◌, ◌^◌, ◌<◌, ℤ, pos, true, List, [], ◌∷◌, Option, Some, Ok, Vec}
use Rattle.std.specs.declared.alloc.Global.{Global}
use Rattle.std.specs.FinMap as fin
use Rattle.appender_names.specs.Name.{IsNumberIn}
use Rattle.appender_names.specs.Rotation.{rotation_of}
use Rattle.appender_names.specs.declared.rotation.RotationKind.TheVariants.{Hourly, Never}
use Rattle.appender_store.specs.Content.{File, Link, body_at}
use Rattle.appender_store.specs.declared.store.Folder.{Ghosts}
use Rattle.appender_store.specs.declared.store.Kind.{Kind}
use Rattle.appender_store.specs.MemoryState.{MemoryState}
use Rattle.appender_queue.specs.declared.queue.Shut.TheVariants.{Sent}
use Rattle.appender_rolling.specs.Config.{Config, naming_of}
use Rattle.appender_rolling.specs.declared.rolling.Switch.TheVariants.{None as Stayed, Opened as Switched, Failed as SwitchFailed}
use Rattle.appender_rolling.specs.Opening.{file_name_of, HasEntry}
use Rattle.appender_replay.specs.Headline.{Headline, kept_entry}
use Rattle.appender_replay.specs.Record.{StepWithReply}
use Rattle.appender_replay.specs.declared.replay.whole.Step.TheVariants.{Offer, Shut, Work}
use Rattle.appender_replay.specs.declared.replay.whole.Reply.TheVariants.{Accepted, Shut as DidShut, Took, TookEmpty, Wrote, Flushed}

-- one file for all time, whose name is `a`, with a maximum of files
abbrev pub one_file : ℕ → Config
one_file max = record { rotation = rotation_of Never; prefix = 97 ∷ []; suffix = []; link = []; link_optional = false; max_files = max; by_name = false; max_bytes = 0; continues = false }

-- a file each hour, with the prefix `a`
abbrev pub hourly : Config
hourly = record { rotation = rotation_of Hourly; prefix = 97 ∷ []; suffix = []; link = []; link_optional = false; max_files = 0; by_name = false; max_bytes = 0; continues = false }

-- the file of this name has a body that was empty at first, and these bytes at the end
pub record FileContains {S F : Type 0} (kind : Ghosts S F) (name bytes : List ℕ) (first last : S) : Type 0 where
  pub is_known : IsTrue kind.is_known
  pub body : ℕ
  pub created : Option ℤ
  pub at : fin.get (kind.content last).names name ≡ Some (File body created)
  pub empty : body_at (kind.content first) body ≡ []
  pub now : body_at (kind.content last) body ≡ bytes

-- after these steps the file of this name can't hold these bytes
abbrev pub NeverContains : {S F : Type 0} → Ghosts S F → Config → List StepWithReply → List ℕ → List ℕ → Type 0
NeverContains {S} {F} kind c past name bytes =
    (limit room : ℕ) (first last : S) → FileContains kind name bytes first last → Headline kind limit c (pos 0) 0 room past first last → ⊥

-- The line `xy` is written whole. The file holds it twice, or it lacks a byte.
abbrev pub one_line_run : Vec ℕ Global → List StepWithReply
one_line_run line = (Work (pos 0), Wrote Stayed (Ok 2)) ∷ (Work (pos 0), Took 1) ∷ (Offer 0 line, Accepted 1) ∷ []

abbrev pub WritesTwice : {S F : Type 0} → Ghosts S F → Type 0
WritesTwice {S} {F} kind = (line : Vec ℕ Global) → line.items ≡ 120 ∷ 121 ∷ [] → NeverContains kind (one_file 0) (one_line_run line) (97 ∷ []) (120 ∷ 121 ∷ 120 ∷ 121 ∷ [])

abbrev pub LosesByte : {S F : Type 0} → Ghosts S F → Type 0
LosesByte {S} {F} kind = (line : Vec ℕ Global) → line.items ≡ 120 ∷ 121 ∷ [] → NeverContains kind (one_file 0) (one_line_run line) (97 ∷ []) (120 ∷ [])

-- the lines `x` and `y` are written, and the file holds `y` first
abbrev pub WritesOutOfOrder : {S F : Type 0} → Ghosts S F → Type 0
WritesOutOfOrder {S} {F} kind = (x y : Vec ℕ Global) → x.items ≡ 120 ∷ [] → y.items ≡ 121 ∷ []
    → NeverContains kind (one_file 0)
    ((Work (pos 0), Wrote Stayed (Ok 1)) ∷ (Work (pos 0), Took 2) ∷ (Work (pos 0), Wrote Stayed (Ok 1)) ∷ (Work (pos 0), Took 1) ∷ (Offer 0 y, Accepted 2) ∷ (Offer 0 x, Accepted 1) ∷ [])
    (97 ∷ []) (121 ∷ 120 ∷ [])

-- the second of two lines is taken first
abbrev pub TakesOutOfOrder : {S F : Type 0} → Ghosts S F → Type 0
TakesOutOfOrder {S} {F} kind = (limit : ℕ) (c : Config) (number room : ℕ) (x y : Vec ℕ Global) (first last : S)
    → Headline kind limit c (pos 0) number room ((Work (pos 0), Took 2) ∷ (Offer 0 y, Accepted 2) ∷ (Offer 0 x, Accepted 1) ∷ []) first last → ⊥

-- a queue of one place accepts a line after the shutdown was sent
abbrev pub ShutdownTakesNoPlace : {S F : Type 0} → Ghosts S F → Type 0
ShutdownTakesNoPlace {S} {F} kind = (c : Config) (number room : ℕ) (line : Vec ℕ Global) (first last : S)
    → Headline kind 1 c (pos 0) number room ((Offer 0 line, Accepted 1) ∷ (Shut, DidShut Sent) ∷ []) first last → ⊥

-- With a maximum of one file, the log file `ab` is still there, and no listing or removal was noted as failed.
abbrev pub NeverPrunes : {S F : Type 0} → Ghosts S F → Type 0
NeverPrunes {S} {F} kind = (limit room : ℕ) (first last : S) (b : ℕ) (created : ℤ) → IsTrue kind.is_known → (kind.content first).there ≡ true
    → (kind.noted last).lists ≡ (kind.noted first).lists → (kind.noted last).removes ≡ (kind.noted first).removes
    → (kind.noted last).lists < 2 ^ 64 - 1 → (kind.noted last).removes < 2 ^ 64 - 1
    → fin.get (kind.content first).names (97 ∷ 98 ∷ []) ≡ Some (File b (Some created)) → fin.get (kind.content last).names (97 ∷ 98 ∷ []) ≡ Some (File b (Some created))
    → Headline kind limit (one_file 1) (pos 0) 0 room [] first last → ⊥

-- `x` is written at 01:00:00, and `y` at 00:59:59 to the file of 00 o'clock
abbrev pub FollowsClockBack : {S F : Type 0} → Ghosts S F → Type 0
FollowsClockBack {S} {F} kind = (x y : Vec ℕ Global) → x.items ≡ 120 ∷ [] → y.items ≡ 121 ∷ []
    → NeverContains kind hourly
    ((Work (pos 3599), Wrote Stayed (Ok 1)) ∷ (Work (pos 0), Took 2) ∷ (Work (pos 3600), Wrote Switched (Ok 1)) ∷ (Work (pos 0), Took 1) ∷ (Offer 0 y, Accepted 2) ∷ (Offer 0 x, Accepted 1) ∷ [])
    (file_name_of hourly (record { moment = pos 0; number = 0 })) (121 ∷ [])

-- the file `b`, which is no log's, is replaced by another
abbrev pub ChangesOtherNames : {S F : Type 0} → Ghosts S F → Type 0
ChangesOtherNames {S} {F} kind = (limit room : ℕ) (first last : S) (b c : ℕ) (t u : Option ℤ) → IsTrue kind.is_known
    → fin.get (kind.content first).names (98 ∷ []) ≡ Some (File b t) → fin.get (kind.content last).names (98 ∷ []) ≡ Some (File c u) → (b ≡ c → ⊥)
    → Headline kind limit (one_file 1) (pos 0) 0 room [] first last → ⊥

-- `x` is written, and then an attempt to open the next file fails. The name of the file that has `x` leads to nothing, without a maximum.
abbrev pub LosesFile : {S F : Type 0} → Ghosts S F → Type 0
LosesFile {S} {F} kind = (x y : Vec ℕ Global) (limit room : ℕ) (first last : S) → IsTrue kind.is_known
    → fin.get (kind.content last).names (file_name_of hourly (record { moment = pos 0; number = 0 })) ≡ None
    → Headline kind limit hourly (pos 0) 0 room
    ((Work (pos 3600), Wrote SwitchFailed (Ok 1)) ∷ (Work (pos 0), Took 2) ∷ (Work (pos 0), Wrote Stayed (Ok 1)) ∷ (Work (pos 0), Took 1) ∷ (Offer 0 y, Accepted 2) ∷ (Offer 0 x, Accepted 1) ∷ [])
    first last → ⊥

-- a file each hour, of at most 10 bytes
abbrev pub limited : Config
limited = record hourly { max_bytes = 10 }

-- The first number is 0, though an entry had one in that period, and no listing was noted as failed. A removal may have been.
abbrev pub ReusesNumber : {S F : Type 0} → Ghosts S F → Type 0
ReusesNumber {S} {F} kind = (limit room : ℕ) (past : List StepWithReply) (first last : S) (name : List ℕ) (entry : Kind) (k : ℕ) → IsTrue kind.is_known
    → (kind.noted last).lists ≡ (kind.noted first).lists → (kind.noted last).lists < 2 ^ 64 - 1
    → HasEntry (kind.content first) name entry → IsNumberIn (naming_of limited) (pos 0) name k
    → Headline kind limit limited (pos 0) 0 room past first last → ⊥

-- The line `xy` is given up, since its write took nothing, though no append was to be short.
abbrev pub TakesNothing : {S F : Type 0} → Ghosts S F → (S → MemoryState) → Type 0
TakesNothing {S} {F} kind state = (line : Vec ℕ Global) → line.items ≡ 120 ∷ 121 ∷ [] → (limit room : ℕ) (first last : S) → (state first).shortened ≡ fin.empty
    → Headline kind limit (one_file 0) (pos 0) 0 room ((Work (pos 0), Wrote Stayed (Ok 0)) ∷ (Work (pos 0), Took 1) ∷ (Offer 0 line, Accepted 1) ∷ []) first last → ⊥

-- The line `xy` is written and flushed, and the folder had fewer than three calls: that which opens the file, the write and the flush.
abbrev pub FlushesNothing : {S F : Type 0} → Ghosts S F → (S → MemoryState) → Type 0
FlushesNothing {S} {F} kind state = (line : Vec ℕ Global) (limit room : ℕ) (first last : S) → (state last).calls < 2 ^ 64 - 1 → (state last).calls < (state first).calls + 3
    → Headline kind limit (one_file 0) (pos 0) 0 room ((Work (pos 0), Flushed (Ok tt)) ∷ (Work (pos 0), TookEmpty) ∷ one_line_run line) first last → ⊥

-- Remove is noted, though no call failed.
abbrev pub NotesNoFault : {S F : Type 0} → Ghosts S F → Type 0
NotesNoFault {S} {F} kind = (limit : ℕ) (c : Config) (moment : ℤ) (number room : ℕ) (past : List StepWithReply) (first last : S) → kind.failures first < 2 ^ 64 - 1
    → kind.failures last ≡ kind.failures first → (kind.noted last).removes ≢ (kind.noted first).removes → Headline kind limit c moment number room past first last → ⊥

-- by name, of at most two files
abbrev pub hourly_by_name : Config
hourly_by_name = record hourly { max_files = 2; by_name = true }

-- The file of 00 o'clock is opened, and that of 01 o'clock, which was there, is gone.
abbrev pub RemovesLaterFile : {S F : Type 0} → Ghosts S F → Type 0
RemovesLaterFile {S} {F} kind = (limit room : ℕ) (first last : S) (b : ℕ) (t : Option ℤ) → IsTrue kind.is_known
    → fin.get (kind.content first).names (file_name_of hourly_by_name (record { moment = pos 3600; number = 0 })) ≡ Some (File b t)
    → fin.get (kind.content last).names (file_name_of hourly_by_name (record { moment = pos 3600; number = 0 })) ≡ None
    → Headline kind limit hourly_by_name (pos 0) 0 room [] first last → ⊥

-- An attempt fails, and a file that retention had left is gone, though no listing or removal was noted as failed.
abbrev pub RemovesAtFailure : {S F : Type 0} → Ghosts S F → Type 0
RemovesAtFailure {S} {F} kind = (x : Vec ℕ Global) (limit room : ℕ) (first last : S) (name : List ℕ) → IsTrue kind.is_known → (kind.content first).there ≡ true
    → (kind.noted last).lists ≡ (kind.noted first).lists → (kind.noted last).removes ≡ (kind.noted first).removes
    → (kind.noted last).lists < 2 ^ 64 - 1 → (kind.noted last).removes < 2 ^ 64 - 1
    → name ≢ file_name_of hourly_by_name (record { moment = pos 0; number = 0 }) → name ≢ file_name_of hourly_by_name (record { moment = pos 3600; number = 0 }) → name ≢ []
    → kept_entry hourly_by_name (record { moment = pos 0; number = 0 }) (kind.content first).names name ≢ None → fin.get (kind.content last).names name ≡ None
    → Headline kind limit hourly_by_name (pos 0) 0 room ((Work (pos 3600), Wrote SwitchFailed (Ok 1)) ∷ (Work (pos 0), Took 1) ∷ (Offer 0 x, Accepted 1) ∷ []) first last → ⊥

-- one file for all time, with the link `l`
abbrev pub linked : Bool → Config
linked optional = record (one_file 0) { link = 108 ∷ []; link_optional = optional }

-- The log was opened, and its link, which is not optional, is not there.
abbrev pub LacksLink : {S F : Type 0} → Ghosts S F → Type 0
LacksLink {S} {F} kind = (limit room : ℕ) (first last : S) → IsTrue kind.is_known
    → fin.get (kind.content last).names (108 ∷ []) ≢ Some (Link (97 ∷ [])) → Headline kind limit (linked false) (pos 0) 0 room [] first last → ⊥

-- An optional link that was not there leads to another file.
abbrev pub LinksElsewhere : {S F : Type 0} → Ghosts S F → Type 0
LinksElsewhere {S} {F} kind = (limit room : ℕ) (first last : S) (target : List ℕ) → IsTrue kind.is_known → target ≢ 97 ∷ []
    → fin.get (kind.content first).names (108 ∷ []) ≡ None → fin.get (kind.content last).names (108 ∷ []) ≡ Some (Link target)
    → Headline kind limit (linked true) (pos 0) 0 room [] first last → ⊥
