-- What one step does to queue, worker and roller, by the contracts of the three.
use Rattle.std.specs.Prelude.{◌≡◌, ◌≢◌, ◌⊎◌, ℕ, ◌+◌, ℤ, if◌then◌else◌, List, [], Result, Ok, Err, slice_index_or}
use Rattle.std.specs.declared.io.Error.{Error}
use Rattle.std.specs.declared.io.ErrorKind.{ErrorKind}
use Rattle.appender_worker.specs.Core.{Core, Taking, Writing, Over, Answer, Wrote as DidWrite, Interrupted, Failed, Found, Line, Last, Nothing, after_took, after_wrote, after_flushed}
use Rattle.appender_worker.specs.CoreReplies.{is_interruption}
use Rattle.appender_queue.specs.Queue.{Queue, is_open, has_room, take_case, saturating_next, one_less, after_offer, after_shut, after_take}
use Rattle.appender_queue.specs.QueueReplies.{shut_reply}
use Rattle.appender_queue.specs.declared.queue.Refused.{Refused}
use Rattle.appender_queue.specs.declared.queue.Refused.TheVariants.{Full as RefusedFull, Closed as RefusedClosed}
use Rattle.appender_queue.specs.declared.queue.Taken.{Taken}
use Rattle.appender_queue.specs.declared.queue.Taken.TheVariants.{Line as TakenLine, Shutdown as TakenShutdown, Gone as TakenGone, Empty as TakenEmpty}
use Rattle.appender_store.specs.declared.store.Folder.{Ghosts}
use Rattle.appender_replay.specs.Record.{StepWithReply}
use Rattle.appender_replay.specs.Headline.{by_kind}
use Rattle.appender_rolling.specs.Roller.{Rolling, Puts, Flushes}
use Rattle.appender_replay.specs.declared.replay.whole.Step.TheVariants.{Offer, Shut, AddSender, DropSender, Work}
use Rattle.appender_replay.specs.declared.replay.whole.Reply.{Reply}
use Rattle.appender_replay.specs.declared.replay.whole.Reply.TheVariants.{Accepted, Full, Closed, NoMemory, Shut as DidShut, Senders, Took, TookShutdown, TookGone, TookEmpty, Wrote, Flushed, Ended}

-- a queue's answers as replies
abbrev pub offered_reply : Result ℕ Refused → Reply
offered_reply (Ok ticket) = Accepted ticket
offered_reply (Err (RefusedFull line)) = Full
offered_reply (Err (RefusedClosed line)) = Closed

abbrev pub taken_reply : Taken → Reply
taken_reply (TakenLine ticket line) = Took ticket
taken_reply TakenShutdown = TookShutdown
taken_reply TakenGone = TookGone
taken_reply TakenEmpty = TookEmpty

-- The reply to an offer for whose copy there was memory: the next ticket exactly if the queue is open and has room.
abbrev pub run_offer_reply : Queue → Reply
run_offer_reply q = if is_open q then (if has_room q then Accepted (q.accepted + 1) else Full) else Closed

-- the reply to a take: a line is the first accepted one that was not handed
abbrev pub run_take_reply : Queue → Reply
run_take_reply q = take_case q TookGone (Took (q.handed + 1)) TookShutdown TookGone TookEmpty

-- a write's answer as the worker gets it
abbrev pub written_answer : Result ℕ ErrorKind → Answer
written_answer (Ok n) = DidWrite n
written_answer (Err kind) = if is_interruption kind then Interrupted else Failed

-- what the worker sees of the reply to a take
abbrev pub take_finds : Queue → Found
take_finds q = take_case q Last (Line (slice_index_or q.lines 0 [])) Last Last Nothing

-- queue, worker and roller of a run
pub record Parts (S F : Type 0) : Type 0 where
  pub queue : Queue
  pub worker : Core
  pub roller : Rolling S F

abbrev pub parts : {S F : Type 0} → Queue → Core → Rolling S F → Parts S F
parts queue worker roller = record { queue = queue; worker = worker; roller = roller }

-- an offer of a copy, for which memory may be refused unless it is empty
abbrev pub OffersCopy : Queue → List ℕ → Reply → Queue → Type 0
OffersCopy old line reply new =
    ((reply ≡ NoMemory) × (line ≢ []) × (new ≡ old)) ⊎ ((reply ≡ run_offer_reply old) × (new ≡ after_offer old line))

-- the worker's step
abbrev pub WorkDoes : {S F : Type 0} → Ghosts S F → Core → ℤ → Reply → Parts S F → Parts S F → Type 0
WorkDoes kind (Taking waits) m reply old new =
    (reply ≡ run_take_reply old.queue)
    × (new.queue ≡ after_take old.queue waits)
    × (new.worker ≡ after_took (Taking waits) (take_finds old.queue))
    × (new.roller ≡ old.roller)
WorkDoes kind Over m reply old new =
    (reply ≡ Ended) × (new.queue ≡ old.queue) × (new.worker ≡ Over) × (new.roller ≡ old.roller)
WorkDoes kind (Writing rest repeats) m (Wrote switch shown) old new =
    (answer : Result ℕ Error) × (shown ≡ by_kind answer) × Puts kind m rest switch answer old.roller new.roller
    × (new.queue ≡ old.queue)
    × (new.worker ≡ after_wrote (Writing rest repeats) (written_answer shown))
WorkDoes kind (Writing rest repeats) m reply old new = ⊥
WorkDoes kind core m (Flushed shown) old new =
    (answer : Result (Unit {0}) Error) × (shown ≡ by_kind answer) × Flushes kind answer old.roller new.roller
    × (new.queue ≡ old.queue)
    × (new.worker ≡ after_flushed core)
WorkDoes kind core m reply old new = ⊥

abbrev pub RunStepDoes : {S F : Type 0} → Ghosts S F → StepWithReply → Parts S F → Parts S F → Type 0
RunStepDoes kind (Offer label line, reply) old new =
    OffersCopy old.queue line.items reply new.queue × (new.worker ≡ old.worker) × (new.roller ≡ old.roller)
RunStepDoes kind (Shut, reply) old new =
    (reply ≡ DidShut (shut_reply old.queue)) × (new.queue ≡ after_shut old.queue)
    × (new.worker ≡ old.worker) × (new.roller ≡ old.roller)
RunStepDoes kind (AddSender, reply) old new =
    (reply ≡ Senders (saturating_next old.queue.senders)) × (new.queue ≡ record old.queue { senders = saturating_next old.queue.senders })
    × (new.worker ≡ old.worker) × (new.roller ≡ old.roller)
RunStepDoes kind (DropSender, reply) old new =
    (reply ≡ Senders (one_less old.queue.senders)) × (new.queue ≡ record old.queue { senders = one_less old.queue.senders })
    × (new.worker ≡ old.worker) × (new.roller ≡ old.roller)
RunStepDoes kind (Work m, reply) old new = WorkDoes kind old.worker m reply old new
