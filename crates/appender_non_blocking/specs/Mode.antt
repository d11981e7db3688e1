-- What is asked of a queue and its worker, and what a sender of theirs shows.
use Rattle.std.specs.Prelude.{ℕ, Bool, List, Option}

-- how many lines may wait, whether the queue is lossy, and the name of the worker's thread, if one was given
pub record QueueSettings : Type 0 where
  pub limit : ℕ
  pub lossy : Bool
  pub name : Option (List ℕ)

-- what is seen of a sender, and of the count of dropped lines: whether their queue is lossy
pub record Mode : Type 0 where
  pub lossy : Bool
