use Rattle.std.proofs.Common.{map, filter_map, arith, inl}
use Rattle.appender_store.specs.Folder.{listed_row}
use Rattle.appender_store.specs.NameLaws.{NameLaws}
use Rattle.appender_retain.specs.Pruning.{RemovesEach, listed_name_at}
use Rattle.appender_retain.specs.Rank.{IsPlan}
use Rattle.appender_retain.proofs.Planned.{planned_files, prunes}
use Rattle.appender_retain.proofs.retain.prune.prune_log_files.Goals as goal

pub remove_planned-requires : goal.remove_planned-requires
remove_planned-requires g c = λ is_known.
    rw (c.deref-in-Ok-plan_log_files.ensures.value, c.deref-in-Ok-plan_log_files-2.ensures.value, c.in-Ok.ensures.content)
    (planned_files c.args.log.now c.args.max (g.S.Folder.content c.args.folder.now) (map listed_row c.in-Ok.listed.items) c.in-Ok-plan_log_files.gone.items (record { moved = c.in-Ok.ensures.ok is_known }) (rw c.deref.ensures.value at c.in-Ok-plan_log_files.ensures))

pub returns-in-Ok-plan_log_files : goal.returns-in-Ok-plan_log_files
returns-in-Ok-plan_log_files g c =
    let maps : NameLaws = record { removals = c.names_change_one_at_a_time.ensures.removals; additions = c.names_change_one_at_a_time.ensures.additions } in
    let rows = map listed_row c.in-Ok.listed.items in
    let gone = c.in-Ok-plan_log_files.gone.items in
    let plan : IsPlan c.args.log.now c.args.max rows gone = rw c.deref.ensures.value at c.in-Ok-plan_log_files.ensures in
    let each : RemovesEach g.S.Folder (filter_map (listed_name_at rows) gone) c.list.new.self c.remove_planned.new.folder =
    rw (c.deref-in-Ok-plan_log_files.ensures.value, c.deref-in-Ok-plan_log_files-2.ensures.value) at c.remove_planned.ensures in
    prunes maps g.S.Folder g.met.S.Folder.noted_fit c.args.log.now c.args.max c.args.folder.now c.list.new.self c.remove_planned.new.folder rows gone
    (λ zero. absurd (omega arith)) (λ is_known. record { moved = c.in-Ok.ensures.ok is_known }) c.in-Ok.ensures.there plan c.in-Ok.ensures.content c.in-Ok.ensures.notices each
    (record {
      answer = c.list.result;
      listed = c.list.new.self;
      call = c.list.ensures.call;
      cause = c.list.ensures.cause;
      lists = c.list.ensures.ok;
      there = c.list.ensures.there;
      content = c.list.ensures.content;
      noted = c.list.ensures.notices;
      goes_on = rw c.in-Ok.is (inl (gone, plan, each));
    })
