use Rattle.appender_names.proofs.names.Names.read_both.Goals as goal

pub returns-clause-exact : goal.returns-clause-exact
returns-clause-exact c = rw c.as_bytes.ensures.value at c.read_bytes.ensures.exact
