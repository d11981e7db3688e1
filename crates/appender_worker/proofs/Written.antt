-- A line that is written piece by piece.
use Rattle.std.proofs.Common.{◌≡◌, ℕ, ◌+◌, ◌-◌, ◌≤◌, List, ◌++◌, Bool, true, false, length, take, drop, ap, ◌∙◌, arith, append_assoc, take_all, length-drop}
use Rattle.std.specs.Prelude.{Option, Some, None, Result, Ok, Err, if◌then◌else◌}
use Rattle.std.specs.Io.KnownBytes.{Appends, WriteAppends}
use Rattle.std.specs.IoError.{error_kind}
use Rattle.std.specs.declared.io.Error.{Error}
use Rattle.std.proofs.Math.Seq.{take-add}
use Rattle.appender_worker.specs.Core.{Interrupted, Failed}
use Rattle.appender_worker.specs.CoreReplies.{answer_of, is_interruption}
use Rattle.appender_worker.specs.Inside.LineSteps.{IsNextStep}
use Rattle.appender_worker.specs.declared.worker.Step.TheVariants.{More}

pub Appends-Appends : (a b d : Option (List ℕ)) (xs ys : List ℕ) → Appends a b xs → Appends b d ys → Appends a d (xs ++ ys)
Appends-Appends None b d xs ys h k = tt
Appends-Appends (Some a) (Some b) (Some d) xs ys h k = k ∙ ap (λ t. t ++ ys) h ∙ append_assoc a xs ys
Appends-Appends (Some a) (Some b) None xs ys h k = k
Appends-Appends (Some a) None d xs ys h k = absurd h

no_more : (b : Bool) (left repeats n : ℕ) → IsNextStep left repeats (if b then Interrupted else Failed) (More n) → ⊥
no_more true left repeats n h = h
no_more false left repeats n h = h

-- a write that took n bytes of the rest
pub more_written : (r : Result ℕ Error) (n from repeats : ℕ) (line : List ℕ) (a b d : Option (List ℕ)) → from ≤ length line
    → IsNextStep (length line - from) repeats (answer_of r) (More n) → Appends a b (take from line)
    → WriteAppends b d r (take (length line - from) (drop from line)) → (from + n ≤ length line) × Appends a d (take (from + n) line)
more_written (Ok m) n from repeats line a b d within next h w =
    let whole : take (length line - from) (drop from line) ≡ drop from line = grind (arith, take_all, length-drop) in
    let piece : Appends b d (take n (drop from line)) = rw (← next.0) at (rw whole at w) in
    (omega (arith, next), rw take-add (Appends-Appends a b d (take from line) (take n (drop from line)) h piece))
more_written (Err e) n from repeats line a b d within next h w = absurd (no_more (is_interruption (error_kind e)) (length line - from) repeats n next)
