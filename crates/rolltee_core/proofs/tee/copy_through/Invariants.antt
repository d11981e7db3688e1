use Rattle.std.specs.Prelude.{[], string_bytes}
use Rattle.rolltee_core.specs.Taken.{AskedFor}
use Rattle.rolltee_core.proofs.tee.copy_through.Given as goal

-- by what the log of this run is opened, and what its output held before
abbrev pub ghosts-copy_to : goal.ghosts-copy_to
ghosts-copy_to g a = record { asked = AskedFor a.rotation (string_bytes a.directory.now) (string_bytes a.prefix.now) a.options.now; printed = g.O.Write.contents a.output; first = [] }

-- the same without a queue
abbrev pub ghosts-copy_directly : goal.ghosts-copy_directly
ghosts-copy_directly g a = record { asked = AskedFor a.rotation (string_bytes a.directory.now) (string_bytes a.prefix.now) a.options.now; printed = g.O.Write.contents a.output; first = [] }
