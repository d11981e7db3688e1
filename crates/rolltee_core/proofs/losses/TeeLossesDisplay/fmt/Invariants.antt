use Rattle.std.proofs.Common.{◌≡◌}
use denote.Text.{Utf8}
use denote.Shadow.{shadow}
use Rattle.std.specs.Fmt.{IsPlainFormatter, HasWritten}
use Rattle.rolltee_core.specs.Losses.{counts_text}
use Rattle.rolltee_core.proofs.Counts.{separator_of, nonzero, seen}
use Rattle.rolltee_core.proofs.losses.TeeLossesDisplay.fmt.Given as goal

-- the text of the counts so far was written
abbrev pub invariant-loop-words : goal.invariant-loop-words
invariant-loop-words g l =
    shadow (Utf8 l.separator)
    × (l.separator ≡ separator_of (nonzero (seen l.words-index l.words-items)))
    × (IsPlainFormatter l.fn.f → HasWritten g.W.Write.write_str_gives l.fn.f (counts_text (seen l.words-index l.words-items)) l.f)
