use Rattle.std.proofs.Common.{rules, w64, FitsSigned, Some}
use Rattle.std.proofs.lemmas.Int.{to_z-of_z}
use Rattle.appender_names.proofs.Reading.{seconds_exactly}
use Rattle.appender_names.proofs.names.Names.read.Goals as goal

pub returns-clause-exact : goal.returns-clause-exact
returns-clause-exact c =
    let fits : FitsSigned w64 c.in_ok-second.second = search rules in
    rw (to_z-of_z w64 c.in_ok-second.second fits)
    (seconds_exactly c.args.self.now c.args.name.now (Some (c.in_ok-second.second, c.in_ok-second.field-0-1)) c.in_ok-second.ensures.exact)
