-- What a replay of steps over a roller returns, and how it reads as a run.
use Rattle.std.specs.Prelude.{◌≡◌, ◌≢◌, ◌⊎◌, ◌<◌, ℕ, ℤ, IsTrue, List, [], ◌∷◌, filter, Option, None, Some, Result}
use Rattle.std.specs.List.{filter_map}
use Rattle.std.specs.declared.io.Error.{Error}
use Rattle.appender_store.specs.Content.{after_append}
use Rattle.appender_store.specs.declared.store.Folder.{Ghosts}
use Rattle.appender_names.specs.Rotation.{is_moment, next_of, period_of}
use Rattle.appender_rolling.specs.Config.{Config}
use Rattle.appender_rolling.specs.Roller.{Rolling, OpensRoller, OpensNoRoller, ChecksClockOnly, Writes, Puts, Flushes, written_count}
use Rattle.appender_replay.specs.Headline.{Files, by_kind, open_stamp}
use Rattle.appender_replay.specs.Run.{Attempt, FileLaw, greatest}
use Rattle.appender_replay.specs.declared.replay.RollStep.{RollStep}
use Rattle.appender_replay.specs.declared.replay.RollStep.TheVariants.{See, Put, Write, Flush}
use Rattle.appender_replay.specs.declared.replay.RollReply.{RollReply}
use Rattle.appender_replay.specs.declared.replay.ReplayError.{ReplayError}
use Rattle.appender_replay.specs.declared.replay.ReplayError.TheVariants.{Memory as OutOfMemory, Init}
use Rattle.appender_replay.specs.declared.replay.RollReply.TheVariants.{Saw, Put as DidPut, Wrote, Flushed}

-- ---- steps

-- a step with its reply
abbrev pub RollStepWithReply : Type 0
RollStepWithReply = RollStep × RollReply

-- What one step does to a roller, and its reply, whose faults show only their kinds.
abbrev pub RollStepDoes : {S F : Type 0} → Ghosts S F → RollStepWithReply → Rolling S F → Rolling S F → Type 0
RollStepDoes kind (See m, Saw switch) old new = ChecksClockOnly kind m switch old new
RollStepDoes kind (Put m bytes, DidPut switch shown) old new = (answer : Result ℕ Error) × (shown ≡ by_kind answer) × Puts kind m bytes.items switch answer old new
RollStepDoes kind (Write bytes, Wrote shown) old new = (answer : Result ℕ Error) × (shown ≡ by_kind answer) × Writes kind bytes.items answer old new
RollStepDoes kind (Flush, Flushed shown) old new = (answer : Result (Unit {0}) Error) × (shown ≡ by_kind answer) × Flushes kind answer old new
RollStepDoes kind t old new = ⊥

-- the steps of a run with their replies, the newest first
abbrev pub with_replies_onto : {S R : Type 0} → List (S × R) → List S → List R → List (S × R)
with_replies_onto past [] replies = past
with_replies_onto past (s ∷ steps) [] = past
with_replies_onto past (s ∷ steps) (r ∷ replies) = with_replies_onto ((s, r) ∷ past) steps replies

abbrev pub with_replies : {S R : Type 0} → List S → List R → List (S × R)
with_replies = with_replies_onto []

-- one step after another leads from the old state to the new, as of a roller, where a step may depend on those before it
abbrev pub LeadsTo : {X T : Type 0} → (List T → T → X → X → Type 0) → List T → X → X → Type 0
LeadsTo does [] old new = new ≡ old
LeadsTo {X} does (t ∷ earlier) old new = (between : X) × LeadsTo does earlier old between × does earlier t between new

-- a roller was opened over the folder, for its first file with this number and this room, and the steps lead from it to this one
pub record RunsFrom {S F T : Type 0} (kind : Ghosts S F) (does : List T → T → Rolling S F → Rolling S F → Type 0) (config : Config) (start : ℤ) (number room : ℕ) (folder : S) (past : List T) (last : Rolling S F) : Type 0 where
  pub first : Rolling S F
  pub opens : OpensRoller kind config start folder first
  pub number_is : opens.number ≡ number
  pub room_is : first.room ≡ room
  pub runs : LeadsTo does past first last

-- these are the rollers before and after one of the steps
abbrev pub IsStepOf : {X T : Type 0} (does : List T → T → X → X → Type 0) (past : List T) (first last : X) → LeadsTo does past first last → X → X → Type 0
IsStepOf does [] first last runs old new = ⊥
IsStepOf does (t ∷ past) first last (between, runs, is) old new = ((old ≡ between) × (new ≡ last)) ⊎ IsStepOf does past first between runs old new

-- What was seen of the attempt by these rollers, before and after the step that made it: its stamp is the newest after it, and was not before. The
-- step's own write comes after the attempt.
pub record SawAttempt {S F : Type 0} (kind : Ghosts S F) (old new : Rolling S F) (a : Attempt) : Type 0 where
  pub made : new.last ≡ a.stamp
  pub fresh : old.last ≢ a.stamp
  pub before : a.before ≡ kind.content old.folder
  pub noted_before : a.noted_before ≡ kind.noted old.folder
  pub bytes : List ℕ
  pub after : IsTrue kind.is_known → kind.content new.folder ≡ after_append a.after (kind.body new.file) bytes
  pub noted_after : a.noted_after ≡ kind.noted new.folder

-- what was seen of the opening, by the folder before it and the roller after it
pub record SawOpening {S F : Type 0} (kind : Ghosts S F) (listed : S) (first : Rolling S F) (a : Attempt) : Type 0 where
  pub made : first.last ≡ a.stamp
  pub before : a.before ≡ kind.content listed
  pub noted_before : a.noted_before ≡ kind.noted listed
  pub after : a.after ≡ kind.content first.folder
  pub noted_after : a.noted_after ≡ kind.noted first.folder

-- the attempt was seen in a run, at its opening or at a step
abbrev pub IsSeen : {S F T : Type 0} (kind : Ghosts S F) (does : List T → T → Rolling S F → Rolling S F → Type 0) (listed : S) (past : List T) (first last : Rolling S F) → LeadsTo does past first last → Attempt → Type 0
IsSeen {S} {F} {T} kind does listed past first last runs a =
    SawOpening kind listed first a ⊎ ((old new : Rolling S F) × IsStepOf does past first last runs old new × SawAttempt kind old new a)

-- What the account of the files says of the roller after a run, and the laws of files and notices: its configuration, the latest moment, which
-- is the greatest of the range that was read, the newest try and the open file, and when the next begins. Files follow if the folder's content is known.
pub record RollerFollows {S F T : Type 0} (kind : Ghosts S F) (does : List T → T → Rolling S F → Rolling S F → Type 0) (read : T → Option ℤ) (config : Config) (start : ℤ) (number room : ℕ) (folder : S) (past : List T) (last : Rolling S F) (f : Files) : Type 0 where
  pub config_is : last.config ≡ config
  pub latest_is : f.latest ≡ greatest start (filter is_moment (filter_map read past))
  pub newest_is : last.last ≡ f.newest.stamp
  pub in_its_period : period_of config.rotation f.newest.stamp.moment ≡ period_of config.rotation f.latest
  pub boundary_is : last.boundary ≡ next_of config.rotation f.latest
  pub opened_is : open_stamp (f.newest ∷ f.earlier) ≡ Some last.opened
  pub files : IsTrue kind.is_known → (run : RunsFrom kind does config start number room folder past last)
      → FileLaw config (f.newest ∷ f.earlier) (kind.content folder) (kind.content last.folder) (IsSeen kind does run.opens.listed past run.first last run.runs) (kind.body last.file)
  -- notices are noted only at attempts, for any kind of folder
  pub notices : (run : RunsFrom kind does config start number room folder past last) (old new : Rolling S F)
      → IsStepOf does past run.first last run.runs old new → new.last ≡ old.last → kind.noted new.folder ≡ kind.noted old.folder

-- what a step of a roller without a queue does, whatever came before it
abbrev pub RollDoes : {S F : Type 0} → Ghosts S F → List RollStepWithReply → RollStepWithReply → Rolling S F → Rolling S F → Type 0
RollDoes kind earlier t old new = RollStepDoes kind t old new

-- No step was run: without memory for the replies the folder was not touched, else no roller was opened over it.
abbrev pub IsNotRun : {S F : Type 0} → Ghosts S F → Config → ℤ → S → ReplayError S → Type 0
IsNotRun kind config start folder (OutOfMemory back) = back ≡ folder
IsNotRun kind config start folder (Init error back) = OpensNoRoller kind config start folder error back

-- room for the replies can be refused only where there is a step
abbrev pub HasSteps : {S : Type 0} → ℕ → ReplayError S → Type 0
HasSteps n (OutOfMemory back) = 0 < n
HasSteps n (Init error back) = Unit {0}

-- ---- the clock

-- the moment that a step reads, if it reads the clock
abbrev pub read_by : RollStepWithReply → Option ℤ
read_by (See m, Saw switch) = Some m
read_by (Put m bytes, DidPut switch answer) = Some m
read_by t = None

-- no step wrote without a check of the clock
abbrev pub ChecksBeforeWrites : List RollStepWithReply → Type 0
ChecksBeforeWrites [] = Unit {0}
ChecksBeforeWrites ((Write bytes, Wrote answer) ∷ earlier) = (written_count answer ≡ 0) × ChecksBeforeWrites earlier
ChecksBeforeWrites (t ∷ earlier) = ChecksBeforeWrites earlier
