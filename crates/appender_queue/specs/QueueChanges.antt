-- What calls of a queue change, by their replies.
use Rattle.std.specs.Prelude.{◌≡◌, ℕ, ◌+◌, List, length, true, false, Some, None, Result, Ok, Err}
use Rattle.appender_queue.specs.Queue.{Queue, after_acceptance}
use Rattle.appender_queue.specs.declared.queue.Refused.{Refused}
use Rattle.appender_queue.specs.declared.queue.Shut.{Shut}
use Rattle.appender_queue.specs.declared.queue.Shut.TheVariants.{Sent, Already, Full, Closed}
use Rattle.appender_queue.specs.declared.queue.Taken.{Taken}
use Rattle.appender_queue.specs.declared.queue.Taken.TheVariants.{Line, Shutdown, Gone, Empty}

-- what an offer leaves: an accepted line is the last one and has the next ticket, and a refused one changes at most the
-- count of dropped lines
abbrev pub OfferChanges : Queue → Queue → List ℕ → Result ℕ Refused → Type 0
OfferChanges q new line (Ok ticket) = (ticket ≡ q.accepted + 1) × (new ≡ after_acceptance q line)
OfferChanges q new line (Err refused) = new ≡ record q { dropped = new.dropped }

-- what an offer from a place leaves: the same, but for the last tickets, of which there are as many as before
abbrev pub OfferFromChanges : Queue → Queue → List ℕ → Result ℕ Refused → Type 0
OfferFromChanges q new line (Ok ticket) =
    (ticket ≡ q.accepted + 1) × (new ≡ record (after_acceptance q line) { last_tickets = new.last_tickets })
    × (length new.last_tickets ≡ length q.last_tickets)
OfferFromChanges q new line (Err refused) = new ≡ record q { dropped = new.dropped }

-- what a shutdown leaves: only Sent changes the queue
abbrev pub ShutChanges : Queue → Queue → Shut → Type 0
ShutChanges q new Sent = (q.shutdown ≡ None) × (new ≡ record q { shutdown = Some q.accepted })
ShutChanges q new Already = new ≡ q
ShutChanges q new Full = new ≡ q
ShutChanges q new Closed = new ≡ q

-- what a take leaves of counts and shutdown: a line raises the handed ones to its ticket, and the queue is closed
-- exactly after Shutdown and Gone
abbrev pub TakeChanges : Queue → Queue → Taken → Type 0
TakeChanges q new (Line ticket line) =
    (new.handed ≡ ticket) × (ticket ≡ q.handed + 1) × (new.accepted ≡ q.accepted) × (new.shutdown ≡ q.shutdown)
    × (q.closed ≡ false) × (new.closed ≡ false)
TakeChanges q new Shutdown =
    (new.handed ≡ q.handed) × (new.accepted ≡ q.accepted) × (new.shutdown ≡ q.shutdown) × (q.closed ≡ false) × (new.closed ≡ true)
TakeChanges q new Gone =
    (new.handed ≡ q.handed) × (new.accepted ≡ q.accepted) × (new.shutdown ≡ q.shutdown) × (new.closed ≡ true)
TakeChanges q new Empty =
    (new.handed ≡ q.handed) × (new.accepted ≡ q.accepted) × (new.shutdown ≡ q.shutdown) × (q.closed ≡ false) × (new.closed ≡ false)
