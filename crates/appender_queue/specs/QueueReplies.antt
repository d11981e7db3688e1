-- The replies of a queue.
use Rattle.std.specs.Prelude.{◌≡◌, ℕ, ◌+◌, [], true, false, not, ◌&&◌, ◌||◌, ◌==◌, if◌then◌else◌, Result, Ok, Err, Vec, slice_index_or}
use Rattle.std.specs.declared.alloc.Global.{Global}
use Rattle.appender_queue.specs.Queue.{Queue, has_room, is_open, is_sent, has_line, queued_of, left_of}
use Rattle.appender_queue.specs.declared.queue.Counts.{Counts}
use Rattle.appender_queue.specs.declared.queue.Refused.{Refused}
use Rattle.appender_queue.specs.declared.queue.Refused.TheVariants.{Full, Closed}
use Rattle.appender_queue.specs.declared.queue.Shut.{Shut}
use Rattle.appender_queue.specs.declared.queue.Shut.TheVariants.{Sent as ShutSent, Already, Full as ShutFull, Closed as ShutClosed}
use Rattle.appender_queue.specs.declared.queue.Taken.{Taken}
use Rattle.appender_queue.specs.declared.queue.Taken.TheVariants.{Line, Shutdown, Gone, Empty}

-- to an offer: the next ticket, or the very line given back
abbrev pub offer_reply : Queue → Vec ℕ Global → Result ℕ Refused
offer_reply q line =
    if is_open q then (if has_room q then Ok (q.accepted + 1) else Err (Full line)) else Err (Closed line)

-- to a shutdown
abbrev pub shut_reply : Queue → Shut
shut_reply q =
    if q.closed then ShutClosed else if is_sent q.shutdown then Already else if has_room q then ShutSent else ShutFull

-- to a take: the first line, with the ticket after that of the last one handed, if a line is before the shutdown;
-- else the shutdown; else `Gone` if no sender is left; else `Empty`
abbrev pub IsTakeReply : Queue → Taken → Type 0
IsTakeReply q (Line ticket line) =
    (q.closed ≡ false) × (has_line q ≡ true) × (ticket ≡ q.handed + 1) × (line.items ≡ slice_index_or q.lines 0 [])
IsTakeReply q Shutdown = (q.closed ≡ false) × (has_line q ≡ false) × (is_sent q.shutdown ≡ true)
IsTakeReply q Gone =
    (q.closed || (not (has_line q) && (not (is_sent q.shutdown) && (q.senders == 0)))) ≡ true
IsTakeReply q Empty =
    (q.closed ≡ false) × (has_line q ≡ false) × (is_sent q.shutdown ≡ false) × ((q.senders == 0) ≡ false)

-- the counts of a queue
abbrev pub queue_counts : Queue → Counts
queue_counts q = record { accepted = q.accepted; handed = q.handed; queued = queued_of q; left = left_of q; dropped = q.dropped }
