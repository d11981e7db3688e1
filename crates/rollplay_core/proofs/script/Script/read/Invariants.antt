-- The lines so far were taken, and their number is at most that of the bytes.
use Rattle.std.proofs.Common.{◌≡◌, ◌+◌, ◌≤◌, ℕ, suc, length}
use denote.Text.{Utf8}
use denote.Shadow.{shadow}
use Rattle.rollplay_core.specs.Draft.{progress_of}
use Rattle.rollplay_core.specs.Script.{ReadsLines}
use Rattle.rollplay_core.proofs.script.Script.read.Given as goal

abbrev pub invariant-loop-rest : goal.invariant-loop-rest
invariant-loop-rest l = record {
  utf8 : shadow (Utf8 l.rest);
  counted : l.number + length l.rest ≤ length l.text + 1;
  reached : (taken : ℕ) × (l.number ≡ suc taken) × ReadsLines l.text taken l.rest (progress_of l.draft);
}

abbrev pub decreases-loop-rest : goal.decreases-loop-rest
decreases-loop-rest l = length l.rest
