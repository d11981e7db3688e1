-- The headline of a run of a roller without a queue, over the same account of the files.
use Rattle.std.specs.Prelude.{◌≡◌, ◌↔◌, ℕ, ◌≤◌, ℤ, true, false, List, [], ◌∷◌, length, None}
use Rattle.appender_store.specs.declared.store.Folder.{Ghosts}
use Rattle.appender_rolling.specs.Config.{Config}
use Rattle.appender_rolling.specs.Roller.{written_count}
use Rattle.appender_rolling.specs.declared.rolling.Switch.TheVariants.{None as Stayed}
use Rattle.appender_replay.specs.Start.{Start, start_of}
use Rattle.appender_replay.specs.Headline.{Files, FolderFollows, files_at_opening, due_file, files_after_check, files_after_call, of_no_byte}
use Rattle.appender_replay.specs.declared.replay.RollStep.{RollStep}
use Rattle.appender_replay.specs.declared.replay.RollStep.TheVariants.{See, Put, Write, Flush}
use Rattle.appender_replay.specs.declared.replay.RollReply.{RollReply}
use Rattle.appender_replay.specs.declared.replay.RollReply.TheVariants.{Saw, Put as DidPut, Wrote, Flushed}

-- The reply to a step. A check of the clock and a put tell whether a file was due; no step takes more bytes than it was given.
abbrev pub RollReplies : Config → Files → RollStep × RollReply → Type 0
RollReplies c f (See m, Saw switch) = (switch ≡ Stayed) ↔ (due_file c f m 0 ≡ None)
RollReplies c f (Put m bytes, DidPut switch answer) =
    (written_count answer ≤ length bytes.items) × ((switch ≡ Stayed) ↔ (due_file c f m (length bytes.items) ≡ None))
RollReplies c f (Write bytes, Wrote answer) = written_count answer ≤ length bytes.items
RollReplies c f (Flush, Flushed answer) = Unit {0}
RollReplies c f t = ⊥

abbrev pub roll_after : Config → Files → RollStep × RollReply → Files
roll_after c f (See m, Saw switch) = files_after_check c m 0 switch f
roll_after c f (Put m bytes, DidPut switch answer) = files_after_call false bytes.items answer (files_after_check c m (length bytes.items) switch f)
roll_after c f (Write bytes, Wrote answer) = files_after_call false bytes.items answer f
roll_after c f (Flush, Flushed answer) = files_after_call true [] (of_no_byte answer) f
roll_after c f t = f

abbrev pub roll_account : Config → Start → List (RollStep × RollReply) → Files
roll_account c start [] = files_at_opening start
roll_account c start (t ∷ past) = roll_after c (roll_account c start past) t

abbrev pub RollFollows : Config → Start → List (RollStep × RollReply) → Type 0
RollFollows c start [] = Unit {0}
RollFollows c start (t ∷ past) = RollFollows c start past × RollReplies c (roll_account c start past) t

pub record RollHeadline {S F : Type 0} (kind : Ghosts S F) (c : Config) (moment : ℤ) (number room : ℕ) (past : List (RollStep × RollReply)) (first last : S) : Type 0 where
  pub replies : RollFollows c (start_of c moment number room) past
  pub folder : FolderFollows kind c (start_of c moment number room) (roll_account c (start_of c moment number room) past) first last
