use Rattle.std.proofs.Common.{rules, refl}
use Rattle.program_io.proofs.options.Reading.add.Goals as goal

pub returns-clause-added : goal.returns-clause-added
returns-clause-added c = record {
  argument = c.in_ok-argument.argument;
  bytes = search rules;
  arguments = search rules;
  options = refl;
  next = refl;
}
