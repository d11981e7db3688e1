-- The headlines of runs: each reply is the one that the account demands, and the folder keeps what the account says.
use Rattle.std.proofs.Common.{◌≡◌, ◌∙◌, ℕ, ℤ, ◌≤◌, Bool, false, List, [], ◌∷◌, length, take, filter, filter_map, Result, refl, ap, sym, subst}
use Rattle.std.specs.declared.io.Error.{Error}
use Rattle.std.specs.declared.io.ErrorKind.{ErrorKind}
use Rattle.appender_names.specs.Rotation.{is_moment}
use Rattle.appender_queue.specs.declared.queue.Shut.TheVariants.{Sent}
use Rattle.appender_store.specs.declared.store.Folder.{Ghosts}
use Rattle.appender_rolling.specs.Config.{Config}
use Rattle.appender_rolling.specs.Roller.{Rolling, OpensRoller, Writes, written_count}
use Rattle.appender_replay.specs.Start.{Start, start_of}
use Rattle.appender_replay.specs.Run.{KeepsToLimit, greatest}
use Rattle.appender_replay.specs.Replay.{RollStepWithReply, RollDoes, RollStepDoes, RollerFollows, RunsFrom, LeadsTo, ChecksBeforeWrites, read_by}
use Rattle.appender_replay.specs.Record.{StepWithReply, RollerDoes, WorkerDoes, read_in}
use Rattle.appender_replay.specs.Inside.Steps.{Parts}
use Rattle.appender_replay.specs.Headline as head
use Rattle.appender_replay.specs.Headline.{RunAccount, Files, Headline, account, by_kind, of_no_byte, later_moment}
use Rattle.appender_replay.specs.RollHeadline.{RollHeadline, RollReplies, RollFollows, roll_account}
use Rattle.appender_replay.specs.declared.replay.RollStep.TheVariants.{See, Put, Write, Flush}
use Rattle.appender_replay.specs.declared.replay.RollReply.TheVariants.{Saw, Put as DidPut, Wrote as RollWrote, Flushed as RollFlushed}
use Rattle.appender_replay.specs.declared.replay.whole.Step.TheVariants.{Offer, Shut, Work}
use Rattle.appender_replay.specs.declared.replay.whole.Reply.TheVariants.{Accepted, Shut as DidShut, Wrote, Flushed}
use Rattle.appender_replay.proofs.Clocks.{RollerIs, check_latest, latest_more, switches_if_due}
use Rattle.appender_replay.proofs.Runs.{Grounds, StepsTo, run_roller, follows, count_by_kind, steps_check, steps_put, steps_write, steps_flush, steps_nothing}
use Rattle.appender_replay.proofs.Bounds.{limit_begins, limit_checks, limit_puts, limit_stays, limit_flushes}
use Rattle.appender_replay.proofs.Accounts.{SwitchesIfDue, Leads, steps, stands, rolls}
use Rattle.appender_replay.proofs.Keeping.{keeps}

-- ---- a roller alone

module _ (c : Config) (start : Start) where
  roll_latest : (past : List RollStepWithReply) → (roll_account c start past).latest ≡ greatest start.stamp.moment (filter is_moment (filter_map read_by past))
  roll_latest [] = refl
  roll_latest ((See m, Saw switch) ∷ past) = check_latest c m 0 switch (roll_account c start past) ∙ ap (λ (l : ℤ). later_moment l m) (roll_latest past) ∙ sym (latest_more start.stamp.moment m (filter_map read_by past))
  roll_latest ((Put m bytes, DidPut switch answer) ∷ past) = check_latest c m (length bytes.items) switch (roll_account c start past) ∙ ap (λ (l : ℤ). later_moment l m) (roll_latest past) ∙ sym (latest_more start.stamp.moment m (filter_map read_by past))
  roll_latest ((Write bytes, RollWrote answer) ∷ past) = roll_latest past
  roll_latest ((Flush, RollFlushed answer) ∷ past) = roll_latest past
  roll_latest ((See m, _) ∷ past) = roll_latest past
  roll_latest ((Put m bytes, _) ∷ past) = roll_latest past
  roll_latest ((Write bytes, _) ∷ past) = roll_latest past
  roll_latest ((Flush, _) ∷ past) = roll_latest past

  pub roll_limit : (past : List RollStepWithReply) → ChecksBeforeWrites past → KeepsToLimit c (roll_account c start past)
  roll_limit [] all = limit_begins c start
  roll_limit ((See m, Saw switch) ∷ past) all = limit_checks c m 0 switch (roll_account c start past) (roll_limit past all)
  roll_limit ((Put m bytes, DidPut switch answer) ∷ past) all = limit_puts c m bytes.items switch answer (roll_account c start past) (roll_limit past all)
  roll_limit ((Write bytes, RollWrote answer) ∷ past) all = limit_stays c false bytes.items answer (roll_account c start past) (ap (λ (n : ℕ). take n bytes.items) all.0) (roll_limit past all.1)
  roll_limit ((Flush, RollFlushed answer) ∷ past) all = limit_flushes c (of_no_byte answer) (roll_account c start past) (roll_limit past all)
  roll_limit ((See m, _) ∷ past) all = roll_limit past all
  roll_limit ((Put m bytes, _) ∷ past) all = roll_limit past all
  roll_limit ((Write bytes, _) ∷ past) all = roll_limit past all
  roll_limit ((Flush, _) ∷ past) all = roll_limit past all

  module _ {S F : Type 0} (kind : Ghosts S F) (grounds : Grounds kind c) where
    roll_steps : (folder listed : S) (past : List RollStepWithReply) (t : RollStepWithReply) (old new : Rolling S F) → RollDoes kind past t old new → StepsTo kind c grounds folder listed (roll_account c start past) (roll_account c start (t ∷ past)) old new
    roll_steps folder listed past (See m, Saw switch) old new checks = steps_check kind c grounds folder listed (roll_account c start past) m 0 switch old new checks
    roll_steps folder listed past (Put m bytes, DidPut switch shown) old new (answer, is, puts) = steps_put kind c grounds folder listed (roll_account c start past) m bytes.items switch shown answer old new is puts
    roll_steps folder listed past (Write bytes, RollWrote shown) old new (answer, is, writes) = steps_write kind c grounds folder listed (roll_account c start past) bytes.items shown answer old new is writes
    roll_steps folder listed past (Flush, RollFlushed shown) old new (answer, is, flushes) = steps_flush kind c grounds folder listed (roll_account c start past) shown answer old new is flushes
    roll_steps folder listed past (See m, _) old new does = absurd does
    roll_steps folder listed past (Put m bytes, _) old new does = absurd does
    roll_steps folder listed past (Write bytes, _) old new does = absurd does
    roll_steps folder listed past (Flush, _) old new does = absurd does

    bound : (bytes : List ℕ) (shown : Result ℕ ErrorKind) (answer : Result ℕ Error) (old new : Rolling S F) → shown ≡ by_kind answer → Writes kind bytes answer old new → written_count shown ≤ length bytes
    bound bytes shown answer old new is writes = subst (λ (n : ℕ). n ≤ length bytes) (sym (count_by_kind answer shown is)) writes.bound

    roll_replies : (f : Files) (t : RollStepWithReply) (old new : Rolling S F) → RollerIs c f old → RollStepDoes kind t old new → RollReplies c f t
    roll_replies f (See m, Saw switch) old new so checks = switches_if_due c grounds.laws kind f m 0 switch old new so checks
    roll_replies f (Put m bytes, DidPut switch shown) old new so (answer, is, puts) =
        (bound bytes.items shown answer puts.between new is puts.writes, switches_if_due c grounds.laws kind f m (length bytes.items) switch old puts.between so puts.looks)
    roll_replies f (Write bytes, RollWrote shown) old new so (answer, is, writes) = bound bytes.items shown answer old new is writes
    roll_replies f (Flush, RollFlushed shown) old new so does = tt
    roll_replies f (See m, _) old new so does = absurd does
    roll_replies f (Put m bytes, _) old new so does = absurd does
    roll_replies f (Write bytes, _) old new so does = absurd does
    roll_replies f (Flush, _) old new so does = absurd does

module _ {S F : Type 0} (kind : Ghosts S F) (c : Config) (grounds : Grounds kind c) (moment : ℤ) (number room : ℕ) (folder : S) where
  abbrev start : Start
  start = start_of c moment number room

  module _ (first : Rolling S F) (o : OpensRoller kind c moment folder first) (number_is : o.number ≡ number) (room_is : first.room ≡ room) where
    roll_follows : (past : List RollStepWithReply) (last : Rolling S F) → LeadsTo (RollDoes kind) past first last → RollFollows c start past
    roll_follows [] last runs = tt
    roll_follows (t ∷ past) last (old, runs, is) =
        let so = run_roller kind c grounds (RollDoes kind) (roll_account c start) moment number room folder (roll_steps c start kind grounds folder) refl first o number_is room_is past old runs in
        (roll_follows past old runs, roll_replies c start kind grounds (roll_account c start past) t old last so is)

  pub roll_headline : (past : List RollStepWithReply) (last : Rolling S F) → RunsFrom kind (RollDoes kind) c moment number room folder past last → RollHeadline kind c moment number room past folder last.folder
  roll_headline past last run = record {
    replies = roll_follows run.first run.opens run.number_is run.room_is past last run.runs;
    folder = keeps kind c grounds (RollDoes kind) (roll_account c start) moment number room folder (roll_steps c start kind grounds folder) refl past last run;
  }

  pub roll_roller : (past : List RollStepWithReply) (last : Rolling S F) → RunsFrom kind (RollDoes kind) c moment number room folder past last
      → RollerFollows kind (RollDoes kind) read_by c moment number room folder past last (roll_account c start past)
  roll_roller past last run = follows kind c grounds (RollDoes kind) (roll_account c start) moment number room folder (roll_steps c start kind grounds folder) refl read_by past last (roll_latest c start past) run

-- ---- a queue, a worker and a roller

module _ (c : Config) (start : Start) where
  run_latest : (past : List StepWithReply) → (account c start past).files.latest ≡ greatest start.stamp.moment (filter is_moment (filter_map read_in past))
  run_latest [] = refl
  run_latest ((Work m, Wrote switch answer) ∷ past) =
      let a : RunAccount = account c start past in
      check_latest c m (length a.rest) switch a.files ∙ ap (λ (l : ℤ). later_moment l m) (run_latest past) ∙ sym (latest_more start.stamp.moment m (filter_map read_in past))
  run_latest ((Work m, Flushed answer) ∷ past) = run_latest past
  run_latest ((Offer label line, Accepted k) ∷ past) = run_latest past
  run_latest ((Shut, DidShut Sent) ∷ past) = run_latest past
  run_latest ((s, r) ∷ past) = run_latest past

  pub run_limit : (past : List StepWithReply) → KeepsToLimit c (account c start past).files
  run_limit [] = limit_begins c start
  run_limit ((Work m, Wrote switch answer) ∷ past) = let a : RunAccount = account c start past in limit_puts c m a.rest switch answer a.files (run_limit past)
  run_limit ((Work m, Flushed answer) ∷ past) = limit_flushes c (of_no_byte answer) (account c start past).files (run_limit past)
  run_limit ((Offer label line, Accepted k) ∷ past) = run_limit past
  run_limit ((Shut, DidShut Sent) ∷ past) = run_limit past
  run_limit ((s, r) ∷ past) = run_limit past

  module _ {S F : Type 0} (kind : Ghosts S F) (grounds : Grounds kind c) where
    run_steps : (folder listed : S) (past : List StepWithReply) (t : StepWithReply) (old new : Rolling S F) → WorkerDoes kind c start past t old new → StepsTo kind c grounds folder listed (account c start past).files (account c start (t ∷ past)).files old new
    run_steps folder listed past (Work m, Wrote switch shown) old new (answer, is, puts) = steps_put kind c grounds folder listed (account c start past).files m (account c start past).rest switch shown answer old new is puts
    run_steps folder listed past (Work m, Flushed shown) old new (answer, is, flushes) = steps_flush kind c grounds folder listed (account c start past).files shown answer old new is flushes
    run_steps folder listed past (Offer label line, Accepted k) old new same = steps_nothing kind c grounds folder listed (account c start past).files old new same
    run_steps folder listed past (Shut, DidShut Sent) old new same = steps_nothing kind c grounds folder listed (account c start past).files old new same
    run_steps folder listed past (s, r) old new same = steps_nothing kind c grounds folder listed (account c start past).files old new same

    due_of : (a : RunAccount) (t : StepWithReply) (old new : Rolling S F) → RollerIs c a.files old → RollerDoes kind a.rest t old new → SwitchesIfDue c a t
    due_of a (Work m, Wrote switch shown) old new so (answer, is, puts) = switches_if_due c grounds.laws kind a.files m (length a.rest) switch old puts.between so puts.looks
    due_of a (s, r) old new so does = tt

-- Queue, worker and roller after these steps, from a roller that was opened over the folder.
module _ {S F : Type 0} (kind : Ghosts S F) (c : Config) (limit : ℕ) (lossy : Bool) (moment : ℤ) (number room : ℕ) (folder : S) where
  pub record GoesFrom (past : List StepWithReply) (last : Parts S F) : Type 0 where
    pub first : Rolling S F
    pub opens : OpensRoller kind c moment folder first
    pub number_is : opens.number ≡ number
    pub room_is : first.room ≡ room
    pub leads : Leads kind limit lossy first past last

  abbrev run_start : Start
  run_start = start_of c moment number room

  pub goes_runs : (past : List StepWithReply) (last : Parts S F) → GoesFrom past last → RunsFrom kind (WorkerDoes kind c run_start) c moment number room folder past last.roller
  goes_runs past last so = record { first = so.first; opens = so.opens; number_is = so.number_is; room_is = so.room_is; runs = rolls kind limit lossy c run_start so.first past last so.leads }

  module _ (grounds : Grounds kind c) where
    abbrev files_of : List StepWithReply → Files
    files_of past = (account c run_start past).files

    run_follows : (first : Rolling S F) (o : OpensRoller kind c moment folder first) → o.number ≡ number → first.room ≡ room → (past : List StepWithReply) (last : Parts S F) → Leads kind limit lossy first past last → head.Follows limit c run_start past
    run_follows first o number_is room_is [] last leads = tt
    run_follows first o number_is room_is (t ∷ past) last (between, earlier, does) =
        let a : RunAccount = account c run_start past in
        let so = run_roller kind c grounds (WorkerDoes kind c run_start) files_of moment number room folder (run_steps c run_start kind grounds folder) refl first o number_is room_is past between.roller (rolls kind limit lossy c run_start first past between earlier) in
        let step = steps kind limit lossy c past a between last (stands kind limit lossy c run_start first past between earlier) t does in
        (run_follows first o number_is room_is past between earlier, step.gets (due_of c run_start kind grounds a t between.roller last.roller so step.rolls))

    pub headline : (past : List StepWithReply) (last : Parts S F) → GoesFrom past last → Headline kind limit c moment number room past folder last.roller.folder
    headline past last so = record {
      replies = run_follows so.first so.opens so.number_is so.room_is past last so.leads;
      folder = keeps kind c grounds (WorkerDoes kind c run_start) files_of moment number room folder (run_steps c run_start kind grounds folder) refl past last.roller (goes_runs past last so);
    }

    pub whole_roller : (past : List StepWithReply) (last : Parts S F) → GoesFrom past last → RollerFollows kind (WorkerDoes kind c run_start) read_in c moment number room folder past last.roller (account c run_start past).files
    whole_roller past last so =
        follows kind c grounds (WorkerDoes kind c run_start) files_of moment number room folder (run_steps c run_start kind grounds folder) refl read_in past last.roller (run_latest c run_start past) (goes_runs past last so)
