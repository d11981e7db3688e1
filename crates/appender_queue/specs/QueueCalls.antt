-- The reply of each call of a queue, and the queue after it. The queue that it leaves is lawful.
use Rattle.std.specs.Prelude.{◌≡◌, ◌≢◌, ℕ, ◌<◌, Bool, length, IfOk, Result, Vec}
use Rattle.std.specs.declared.alloc.Global.{Global}
use Rattle.appender_queue.specs.Queue.{Queue, IsLawful, after_offer, after_offer_from, last_ticket_of, after_shut, after_take, saturating_next, one_less}
use Rattle.appender_queue.specs.QueueReplies.{offer_reply, shut_reply, IsTakeReply, queue_counts}
use Rattle.appender_queue.specs.declared.queue.Counts.{Counts}
use Rattle.appender_queue.specs.declared.queue.Refused.{Refused}
use Rattle.appender_queue.specs.declared.queue.Shut.{Shut}
use Rattle.appender_queue.specs.declared.queue.Taken.{Taken}

-- an offer of a line
pub record Offers (old : Queue) (line : Vec ℕ Global) (result : Result ℕ Refused) (new : Queue) : Type 0 where
  pub reply : result ≡ offer_reply old line
  pub after : new ≡ after_offer old line.items
  pub lawful : IsLawful new

-- an offer of a line from a place
pub record OffersFrom (old : Queue) (place : ℕ) (line : Vec ℕ Global) (result : Result ℕ Refused) (new : Queue) : Type 0 where
  pub reply : result ≡ offer_reply old line
  pub after : new ≡ after_offer_from old place line.items
  pub lawful : IsLawful new
  -- the ticket is greater than the last one of the place
  pub rises : IfOk result (λ ticket. last_ticket_of old place < ticket)
  -- and becomes the last one
  pub sets : IfOk result (λ ticket. place < length old.last_tickets → last_ticket_of new place ≡ ticket)
  -- only of this place
  pub others : (other : ℕ) → other ≢ place → last_ticket_of new other ≡ last_ticket_of old other

-- a shutdown
pub record Shuts (old : Queue) (result : Shut) (new : Queue) : Type 0 where
  pub reply : result ≡ shut_reply old
  pub after : new ≡ after_shut old
  pub lawful : IsLawful new

-- a take, by a worker that waits or not
pub record Takes (old : Queue) (waits : Bool) (result : Taken) (new : Queue) : Type 0 where
  pub reply : IsTakeReply old result
  pub after : new ≡ after_take old waits
  pub lawful : IsLawful new

-- one more sender
pub record AddsSender (old : Queue) (result : ℕ) (new : Queue) : Type 0 where
  pub reply : result ≡ new.senders
  pub after : new ≡ record old { senders = saturating_next old.senders }
  pub lawful : IsLawful new

-- one sender less
pub record DropsSender (old : Queue) (result : ℕ) (new : Queue) : Type 0 where
  pub reply : result ≡ new.senders
  pub after : new ≡ record old { senders = one_less old.senders }
  pub lawful : IsLawful new

-- the counts, of a queue that stays as it is
pub record ReadsCounts (q : Queue) (result : Counts) : Type 0 where
  pub reply : result ≡ queue_counts q
  pub lawful : IsLawful q
