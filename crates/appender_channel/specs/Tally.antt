-- What books are kept of: the counts of a queue that never go down, its number of senders' places, and its lines.
use Rattle.std.specs.Prelude.{ℕ, ◌+◌, List, [], ◌∷◌, ◌++◌, Bool, drop, if◌then◌else◌, length}
use Rattle.appender_queue.specs.Queue.{Queue, places_of}

pub record Tally : Type 0 where
  -- how many lines were accepted
  pub accepted : ℕ
  -- how many of them were handed to the worker
  pub handed : ℕ
  -- 1 once a shutdown was sent
  pub shutdowns : ℕ
  -- 1 once the queue is closed
  pub closings : ℕ
  -- how many senders' places there are
  pub places : ℕ
  -- the accepted lines that were not handed to the worker; none once the queue is closed
  pub lines : List (List ℕ)

abbrev pub one_if : Bool → ℕ
one_if b = if b then 1 else 0

-- the counts of a queue
abbrev pub tally_of : Queue → Tally
tally_of q = record {
  accepted = q.accepted;
  handed = q.handed;
  shutdowns = places_of q.shutdown;
  closings = one_if q.closed;
  places = length q.last_tickets;
  lines = q.lines;
}

-- the counts of a new queue with this number of places
abbrev pub new_tally : ℕ → Tally
new_tally places = record { accepted = 0; handed = 0; shutdowns = 0; closings = 0; places = places; lines = [] }

-- this line was accepted
abbrev pub with_line : Tally → List ℕ → Tally
with_line t line = record t { accepted = t.accepted + 1; lines = t.lines ++ line ∷ [] }

-- the first line was handed to the worker
abbrev pub with_handed : Tally → Tally
with_handed t = record t { handed = t.handed + 1; lines = drop 1 t.lines }

-- the shutdown was sent
abbrev pub with_shutdown : Tally → Tally
with_shutdown t = record t { shutdowns = 1 }

-- the queue was closed
abbrev pub with_closing : Tally → Tally
with_closing t = record t { closings = 1; lines = [] }
