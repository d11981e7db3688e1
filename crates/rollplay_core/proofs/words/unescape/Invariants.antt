-- The text was resolved up to the rest.
use Rattle.std.proofs.Common.{string_bytes, length}
use denote.Text.{Utf8}
use denote.Shadow.{shadow}
use Rattle.rollplay_core.proofs.TextLemmas.{IsResolved}
use Rattle.rollplay_core.proofs.words.unescape.Given as goal

abbrev pub invariant-loop-before : goal.invariant-loop-before
invariant-loop-before l = record { utf8 : shadow (Utf8 l.rest); resolved : IsResolved l.text (string_bytes l.plain) l.rest }

abbrev pub decreases-loop-before : goal.decreases-loop-before
decreases-loop-before l = length l.rest
