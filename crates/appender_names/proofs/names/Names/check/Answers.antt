use Rattle.std.proofs.Common.{refl}
use Rattle.appender_names.proofs.Joins.{parts_are_allowed}
use Rattle.appender_names.proofs.names.Names.check.Goals as goal

pub returns-else-is_no_part-2-clause-allowed : goal.returns-else-is_no_part-2-clause-allowed
returns-else-is_no_part-2-clause-allowed c = (
  λ _. parts_are_allowed c.args.rotation c.args.prefix.now c.args.suffix.now
      (c.if-is_no_part.ensures.part refl).0 (c.if-is_no_part-2.ensures.part refl).0
      (c.if-is_no_part.ensures.part refl).1 (c.if-is_no_part-2.ensures.part refl).1,
  λ _. refl,
)
