-- The queue's rules over its fields and the lines of its store.
use Rattle.std.specs.Prelude.{◌≡◌, ℕ, ◌+◌, ◌≤◌, List, [], Bool, true, false, if◌then◌else◌, length, Option, None, max, All}
use Rattle.appender_queue.specs.Queue.{Queue, IsShutdownBetween}

-- the lines that a queue's store has, for how many it has room, and the queue's other fields
pub record Fields : Type 0 where
  pub stored : List (List ℕ)
  pub room : ℕ
  pub accepted : ℕ
  pub handed : ℕ
  pub shutdown : Option ℕ
  pub closed : Bool
  pub senders : ℕ
  pub worker_waits : Bool
  pub dropped : ℕ
  pub limit : ℕ
  pub lossy : Bool
  pub last_tickets : List ℕ

-- the queue, whose lines nobody can take once it is closed
abbrev pub queue_of : Fields → Queue
queue_of f = record {
  lines = if f.closed then [] else f.stored;
  accepted = f.accepted;
  handed = f.handed;
  shutdown = f.shutdown;
  closed = f.closed;
  senders = f.senders;
  worker_waits = f.worker_waits;
  dropped = f.dropped;
  limit = f.limit;
  lossy = f.lossy;
  last_tickets = f.last_tickets;
}

-- what the fields keep
pub record AreLawfulFields (f : Fields) : Type 0 where
  -- every accepted line was handed or is stored
  pub counted : f.accepted ≡ f.handed + length f.stored
  pub shutdown_between : IsShutdownBetween f.shutdown f.handed f.accepted
  -- one place at limit 0
  pub wide : f.room ≡ max f.limit 1
  pub drained : f.closed ≡ true → f.shutdown ≡ None → length f.stored ≡ 0
  pub none_dropped : f.lossy ≡ false → f.dropped ≡ 0
  pub last_tickets_given : All (λ ticket. ticket ≤ f.accepted) f.last_tickets
