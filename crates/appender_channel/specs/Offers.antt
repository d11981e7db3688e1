-- One offer under the lock.
use Rattle.std.specs.Prelude.{◌≡◌, ℕ, List, Option, Some, None, Result, Ok, Err, Vec}
use Rattle.std.specs.declared.alloc.Global.{Global}
use Rattle.appender_channel.specs.declared.pace.Pace.{Pace}
use Rattle.appender_queue.specs.Queue.{Queue, after_offer, after_offer_from}
use Rattle.appender_queue.specs.QueueReplies.{offer_reply}
use Rattle.appender_queue.specs.declared.queue.Refused.{Refused}

-- the second reply is the first one, with a pace beside the ticket
abbrev pub AddsPace : Result ℕ Refused → Result (ℕ × Pace) Refused → Type 0
AddsPace (Ok ticket) (Ok paced) = paced.0 ≡ ticket
AddsPace (Err refused) (Err paced) = paced ≡ refused
AddsPace (Ok ticket) (Err paced) = ⊥
AddsPace (Err refused) (Ok paced) = ⊥

-- the queue after an offer, from the sender's place if it has one
abbrev pub after_offer_at : Queue → Option ℕ → List ℕ → Queue
after_offer_at q None line = after_offer q line
after_offer_at q (Some place) line = after_offer_from q place line

-- the queue answers and is left as by its own offer, from the sender's place if it has one
pub record OffersWithPace (old : Queue) (place : Option ℕ) (line : Vec ℕ Global) (result : Result (ℕ × Pace) Refused) (new : Queue) : Type 0 where
  pub reply : AddsPace (offer_reply old line) result
  pub after : new ≡ after_offer_at old place line.items
