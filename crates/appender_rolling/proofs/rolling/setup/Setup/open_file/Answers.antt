use Rattle.std.proofs.Common.{ℕ, Some, subst}
use Rattle.appender_retain.specs.Rank.{LogFiles}
use Rattle.appender_retain.specs.Pruning.{Prunes}
use Rattle.appender_rolling.specs.Config.{log_files_of}
use Rattle.appender_rolling.proofs.Kept.{maps}
use Rattle.appender_rolling.proofs.Openings.{RetentionLaws, opens_file}
use Rattle.appender_rolling.proofs.rolling.setup.Setup.open_file.Goals as goal

pub returns-in-Ok-clause-ok : goal.returns-in-Ok-clause-ok
returns-in-Ok-clause-ok g c =
    let config = c.args.self.now in
    let name = c.args.name.now in
    let log = log_files_of config (Some name) in
    let laws : RetentionLaws log = record {
      one = c.openings_add_one.ensures log;
      none = c.links_add_none.ensures log;
      kept = c.names_are_spared.ensures log;
      stay = c.survivors_stay.ensures log;
    } in
    let prunes = subst (λ (m : ℕ). Prunes g.S.Folder log m c.args.folder.now c.prune_log_files.new.folder) c.max_before.ensures
    (subst (λ (l : LogFiles). Prunes g.S.Folder l c.max_before.result c.args.folder.now c.prune_log_files.new.folder) c.log_files-log.ensures c.prune_log_files.ensures) in
    let prunes_last = subst (λ (m : ℕ). Prunes g.S.Folder log m c.link_to.new.folder c.prune_log_files-in-Ok.new.folder) c.max_after.ensures
    (subst (λ (l : LogFiles). Prunes g.S.Folder l c.max_after.result c.link_to.new.folder c.prune_log_files-in-Ok.new.folder) c.log_files-log.ensures c.prune_log_files-in-Ok.ensures) in
    opens_file g.S.Folder (maps c.names_change_one_at_a_time.ensures.removals c.names_change_one_at_a_time.ensures.additions) config name laws _ _ _ _ _ _ prunes c.in_ok-file.ensures.ok c.in-Ok.ensures.ok prunes_last
