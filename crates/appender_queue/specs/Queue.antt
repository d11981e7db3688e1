-- The queue of lines between senders and a worker, as its contracts see it.
use Rattle.std.specs.Prelude.{◌≡◌, ℕ, ◌+◌, ◌-◌, ◌^◌, ◌<◌, ◌≤◌, List, [], ◌∷◌, ◌++◌, Bool, true, false, not, ◌&&◌, ◌==◌, if◌then◌else◌, nat_lt, length, Option, Some, None, min, drop, replicate, All, slice_set, slice_index_or}

-- what a queue shows
pub record Queue : Type 0 where
  -- the accepted lines not yet handed to the worker, the first first; none once the queue is closed
  pub lines : List (List ℕ)
  -- how many lines were accepted
  pub accepted : ℕ
  -- how many of them were handed to the worker
  pub handed : ℕ
  -- how many lines were accepted when the shutdown was sent, if it was
  pub shutdown : Option ℕ
  -- whether the worker has taken the shutdown, or has found no sender left
  pub closed : Bool
  -- how many senders there are
  pub senders : ℕ
  -- whether the last take was a waiting one that found nothing
  pub worker_waits : Bool
  -- how many offers were refused, in lossy mode
  pub dropped : ℕ
  -- for how many lines there is room, where a shutdown counts as one
  pub limit : ℕ
  -- whether a refused line is lost, and counted as dropped
  pub lossy : Bool
  -- the last ticket of each sender's place, from place 0 on; 0 before its first line is accepted
  pub last_tickets : List ℕ

-- whether a shutdown was sent
abbrev pub is_sent : Option ℕ → Bool
is_sent None = false
is_sent (Some place) = true

-- a shutdown in the queue takes one place
abbrev pub places_of : Option ℕ → ℕ
places_of None = 0
places_of (Some place) = 1

-- how many places are taken
abbrev pub taken_places : Queue → ℕ
taken_places q = if q.closed then 0 else (length q.lines + places_of q.shutdown)

-- whether there is room for one more: fewer than the limit are queued; or with a limit of 0 none is and the worker waits
abbrev pub has_room : Queue → Bool
has_room q =
    if q.limit == 0 then ((taken_places q == 0) && q.worker_waits)
    else nat_lt (taken_places q) q.limit

-- whether lines are accepted at all: tickets have 64 bits
abbrev pub is_open : Queue → Bool
is_open q = not q.closed && nat_lt q.accepted (2 ^ 64 - 1)

-- one more, by a count of 64 bits that stays at its greatest value
abbrev pub saturating_next : ℕ → ℕ
saturating_next n = min (n + 1) (2 ^ 64 - 1)

-- one less; 0 stays, and so does a count that has reached its greatest value
abbrev pub one_less : ℕ → ℕ
one_less n = if n == 2 ^ 64 - 1 then n else n - 1

-- a new queue: empty, with one sender
abbrev pub new_queue : ℕ → Bool → Queue
new_queue limit lossy = record {
  lines = [];
  accepted = 0;
  handed = 0;
  shutdown = None;
  closed = false;
  senders = 1;
  worker_waits = false;
  dropped = 0;
  limit = limit;
  lossy = lossy;
  last_tickets = [];
}

-- a new queue with this number of senders' places
abbrev pub new_queue_with : ℕ → Bool → ℕ → Queue
new_queue_with limit lossy places = record (new_queue limit lossy) { last_tickets = replicate places 0 }

-- the last ticket of a place, 0 if the queue has no such place
abbrev pub last_ticket_of : Queue → ℕ → ℕ
last_ticket_of q place = slice_index_or q.last_tickets place 0

-- the queue after a line was accepted
abbrev pub after_acceptance : Queue → List ℕ → Queue
after_acceptance q line = record q { lines = q.lines ++ line ∷ []; accepted = q.accepted + 1 }

-- the queue after a line was refused: in lossy mode it counts as dropped
abbrev pub after_refusal : Queue → Queue
after_refusal q = if q.lossy then record q { dropped = saturating_next q.dropped } else q

-- the queue after a line was offered
abbrev pub after_offer : Queue → List ℕ → Queue
after_offer q line = if is_open q && has_room q then after_acceptance q line else after_refusal q

-- the queue after a line was offered from a place: if it is accepted and the queue has the place, its ticket is the last one of
-- the place
abbrev pub after_offer_from : Queue → ℕ → List ℕ → Queue
after_offer_from q place line =
    if is_open q && has_room q then record (after_acceptance q line) { last_tickets = slice_set q.last_tickets place (q.accepted + 1) }
    else after_refusal q

-- whether a shutdown is taken in: not closed, none was sent before, and there is room
abbrev pub may_shut : Queue → Bool
may_shut q = not q.closed && (not (is_sent q.shutdown) && has_room q)

-- the queue after a shutdown was tried: one that is accepted is after all lines accepted so far
abbrev pub after_shut : Queue → Queue
after_shut q = if may_shut q then record q { shutdown = Some q.accepted } else q

-- whether the next line to be handed was accepted before the shutdown
abbrev pub is_before : Option ℕ → ℕ → Bool
is_before None handed = true
is_before (Some place) handed = nat_lt handed place

-- whether a line is there that the worker may take
abbrev pub has_line : Queue → Bool
has_line q = nat_lt q.handed q.accepted && is_before q.shutdown q.handed

-- the queue when it is closed: what was queued is left
abbrev pub after_closing : Queue → Queue
after_closing q = record q { lines = []; closed = true; worker_waits = false }

-- what a take finds: a closed queue, else a line, else the shutdown, else that no sender is left, else nothing
abbrev pub take_case : {A : Type 0} → Queue → A → A → A → A → A → A
take_case q closed line shutdown no_sender nothing =
    if q.closed then closed
    else if has_line q then line
    else if is_sent q.shutdown then shutdown
    else if q.senders == 0 then no_sender
    else nothing

-- the queue after a take
abbrev pub after_take : Queue → Bool → Queue
after_take q waits = take_case q
    (record q { worker_waits = false })
    (record q { lines = drop 1 q.lines; handed = q.handed + 1; worker_waits = false })
    (after_closing q)
    (after_closing q)
    (record q { worker_waits = waits })

-- how many accepted lines wait for the worker
abbrev pub queued_of : Queue → ℕ
queued_of q = length q.lines

-- how many accepted lines will never be handed
abbrev pub left_of : Queue → ℕ
left_of q = if q.closed then q.accepted - q.handed else 0

-- the shutdown is after the handed lines and no later than the accepted ones
abbrev pub IsShutdownBetween : Option ℕ → ℕ → ℕ → Type 0
IsShutdownBetween shutdown handed accepted = (place : ℕ) → shutdown ≡ Some place → (handed ≤ place) × (place ≤ accepted)

-- what every queue keeps
pub record IsLawful (q : Queue) : Type 0 where
  -- every accepted line is accounted for
  pub counted : q.accepted ≡ q.handed + queued_of q + left_of q
  pub shutdown_between : IsShutdownBetween q.shutdown q.handed q.accepted
  -- a queue that closed because no sender was left has handed all its lines
  pub none_left : q.closed ≡ true → q.shutdown ≡ None → left_of q ≡ 0
  -- in waiting mode no line is dropped
  pub none_dropped : q.lossy ≡ false → q.dropped ≡ 0
  pub tickets_fit : q.accepted < 2 ^ 64
  -- the last ticket of each place was given
  pub last_tickets_given : All (λ ticket. ticket ≤ q.accepted) q.last_tickets
