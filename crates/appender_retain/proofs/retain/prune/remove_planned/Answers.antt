use Rattle.std.proofs.Common.{map}
use Rattle.appender_store.specs.Folder.{listed_row}
use Rattle.appender_store.specs.NameLaws.{NameLaws}
use Rattle.appender_retain.specs.Pruning.{listed_name_at}
use Rattle.appender_retain.proofs.Removals.{one_removed, none_removed}
use Rattle.appender_retain.proofs.retain.prune.remove_planned.Goals as goal
use Rattle.appender_retain.proofs.retain.prune.remove_planned.Goals.{in-Some, in_default}

pub loop-place-preserved : goal.loop-place-preserved
loop-place-preserved g c =
    let maps : NameLaws = record { removals = c.names_change_one_at_a_time.ensures.removals; additions = c.names_change_one_at_a_time.ensures.additions } in
    elim c.match-listed_name.branch [
      | in-Some w ↦ rw w.folder-is (one_removed maps g.S.Folder (listed_name_at (map listed_row c.args.listed.now)) c.args.gone.now c.loop-place.place-index c.args.folder.now c.loop-place.folder c.loop-place-test.true c.loop-place.invariant _ _ w.in-Some.ensures w.remove_file.ensures)
      | in_default w ↦ rw w.folder-is (none_removed maps g.S.Folder (listed_name_at (map listed_row c.args.listed.now)) c.args.gone.now c.loop-place.place-index c.args.folder.now c.loop-place.folder c.loop-place-test.true c.loop-place.invariant w.in_default.ensures)
    ]
