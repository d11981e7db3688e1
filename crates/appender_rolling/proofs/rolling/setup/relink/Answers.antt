use Rattle.appender_rolling.specs.Opening.{TriesRemoveLink}
use Rattle.appender_rolling.proofs.Kept.{maps}
use Rattle.appender_rolling.proofs.Openings.{links_not}
use Rattle.appender_rolling.proofs.rolling.setup.relink.Goals as goal

pub returns-clause-err : goal.returns-clause-err
returns-clause-err g c =
    let removes : TriesRemoveLink g.S.Folder c.args.link.now c.args.folder.now c.remove_link.new.self = record {
      answer = c.remove_link.result;
      call = c.remove_link.ensures.call;
      ok = c.remove_link.ensures.ok;
      err = c.remove_link.ensures.err;
      cause = c.remove_link.ensures.cause;
      memory = c.remove_link.ensures.memory;
      noted = c.remove_link.ensures.notices;
    } in
    links_not g.S.Folder (maps c.names_change_one_at_a_time.ensures.removals c.names_change_one_at_a_time.ensures.additions) c.args.link.now c.args.name.now c.args.folder.now c.remove_link.new.self c.make_link.new.self c.requires removes c.make_link.result c.make_link.ensures.call c.make_link.ensures.err c.make_link.ensures.cause c.make_link.ensures.notices
