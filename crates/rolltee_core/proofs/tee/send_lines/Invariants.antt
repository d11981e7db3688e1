use Rattle.std.specs.List.{concat}
use Rattle.rolltee_core.proofs.tee.send_lines.Given as goal

-- by what the log of this run is opened, and what this sender sent before
abbrev pub ghosts-send_after : goal.ghosts-send_after
ghosts-send_after g a = record { asked = g.N.Asked.asked; printed = g.N.Asked.printed; first = concat (g.S.LineSender.sent a.sender).lines }
