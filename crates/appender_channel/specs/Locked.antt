-- What is under the lock, and who is woken after a step.
use Rattle.std.specs.Prelude.{◌≡◌, ◌<◌, ℕ, ◌-◌, Bool, true, false, not, ◌&&◌, ◌||◌, if◌then◌else◌}
use Rattle.appender_queue.specs.Queue.{Queue}

-- the queue, and who sleeps or waits for it
pub record LockedState : Type 0 where
  pub queue : Queue
  -- the worker sleeps, and was not woken
  pub asleep : Bool
  -- one of the threads that wait for room was woken, and has not taken the lock since
  pub woken : Bool
  -- how many threads wait for room
  pub waiting : ℕ

-- a thread that has waited is no longer counted, and its wake-up is used
abbrev pub after_waiting : Bool → LockedState → LockedState
after_waiting waited h = if waited then record h { woken = false; waiting = h.waiting - 1 } else h

-- At most one sender that waits for room is woken, and only if the one that was woken before has taken the lock.
pub record DecidesSenderWakeup (old : LockedState) (wakes : Bool) (new : LockedState) : Type 0 where
  pub woken : new.woken ≡ (old.woken || wakes)
  pub waiter : wakes ≡ true → (old.woken ≡ false) × (0 < old.waiting)
  pub waiting : new.waiting ≡ old.waiting

-- The worker is woken or not, and so is one of those who wait. A worker that isn't woken sleeps on, if it slept, and it is woken
-- only if it slept.
pub record DecidesWakeups (old : LockedState) (wakes_worker wakes_sender : Bool) (new : LockedState) : Type 0 where
  pub worker : new.asleep ≡ (old.asleep && not wakes_worker)
  pub sleeper : wakes_worker ≡ true → old.asleep ≡ true
  pub sender : DecidesSenderWakeup old wakes_sender new
