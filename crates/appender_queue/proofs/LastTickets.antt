-- Offers that change no last ticket.
use Rattle.std.proofs.Common.{◌≡◌, ℕ, ◌+◌, ◌≤◌, List, Bool, true, false, ◌&&◌, length, refl}
use Rattle.std.proofs.lemmas.List.{set_past}
use Rattle.std.specs.Prelude.{if◌then◌else◌, Ok, Err, Vec, slice_set}
use Rattle.std.specs.declared.alloc.Global.{Global}
use Rattle.appender_queue.specs.Queue.{Queue, is_open, has_room, after_acceptance, after_refusal, after_offer, after_offer_from}
use Rattle.appender_queue.specs.QueueReplies.{offer_reply}
use Rattle.appender_queue.specs.declared.queue.Refused.{Refused}

same_last_tickets : (accepts : Bool) (q : Queue) (line tickets : List ℕ) → (accepts ≡ true → tickets ≡ q.last_tickets)
    → (if accepts then record (after_acceptance q line) { last_tickets = tickets } else after_refusal q)
    ≡ (if accepts then after_acceptance q line else after_refusal q)
same_last_tickets true q line tickets h = rw (h refl) refl
same_last_tickets false q line tickets h = refl

left_by_offers : (accepts lossy : Bool) (q kept : Queue) (line : List ℕ) → kept.last_tickets ≡ q.last_tickets
    → (if accepts then after_acceptance q line else if lossy then kept else q).last_tickets ≡ q.last_tickets
left_by_offers true lossy q kept line h = refl
left_by_offers false true q kept line h = h
left_by_offers false false q kept line h = refl

refusal : (opened roomy : Bool) (k : ℕ) (full closed e : Refused)
    → (if opened then (if roomy then Ok k else Err full) else Err closed) ≡ Err e → (opened && roomy) ≡ false
refusal true true k full closed e is = cc
refusal true false k full closed e is = refl
refusal false roomy k full closed e is = refl

-- if the queue has no such place, an offer from it is an offer
pub no_place : (q : Queue) (place : ℕ) (line : List ℕ) → length q.last_tickets ≤ place → after_offer_from q place line ≡ after_offer q line
no_place q place line out =
    same_last_tickets (is_open q && has_room q) q line (slice_set q.last_tickets place (q.accepted + 1))
    (λ h. set_past q.last_tickets place (q.accepted + 1) out)

-- if the line is refused, an offer from a place is an offer
pub refused : (q : Queue) (place : ℕ) (line : Vec ℕ Global) (e : Refused) → offer_reply q line ≡ Err e
    → after_offer_from q place line.items ≡ after_offer q line.items
refused q place line e is =
    let not_accepted : (is_open q && has_room q) ≡ false = refusal (is_open q) (has_room q) _ _ _ e is in
    rw not_accepted refl

-- an offer leaves the last tickets
pub offers_leave_last_tickets : (q : Queue) (line : List ℕ) → (after_offer q line).last_tickets ≡ q.last_tickets
offers_leave_last_tickets q line = left_by_offers (is_open q && has_room q) q.lossy q _ line refl
