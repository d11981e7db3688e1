use Rattle.std.proofs.Common.{map}
use Rattle.appender_store.specs.Folder.{listed_row}
use Rattle.appender_retain.specs.Pruning.{listed_name_at}
use Rattle.appender_retain.proofs.Removals.{Progress}
use Rattle.appender_retain.proofs.retain.prune.remove_planned.Given as goal

abbrev pub invariant-loop-place : goal.invariant-loop-place
invariant-loop-place g l = Progress g.S.Folder (listed_name_at (map listed_row l.listed)) l.gone l.place-index l.initial.folder l.folder
