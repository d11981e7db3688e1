use Rattle.std.proofs.Common.{not, ap, sym, ◌∙◌}
use Rattle.rolltee_core.proofs.Timed.{begins_ends}
use Rattle.rolltee_core.proofs.feed.is_within.Goals as goal

pub returns-else-is_empty : goal.returns-else-is_empty
returns-else-is_empty c = ap not (c.ends_line.ensures ∙ sym (begins_ends (not c.args.within) c.args.piece.now (sym c.is_empty.ensures ∙ c.if-is_empty.false)))
