use Rattle.std.proofs.Common.{inl, inr}
use Rattle.rolltee_core.proofs.file_log.FileLog.write.Goals as goal

pub returns-in_err-end_part-clause-writes : goal.returns-in_err-end_part-clause-writes
returns-in_err-end_part-clause-writes g c =
    let stays = c.in_err-end_part.ensures.stays in
    inr (inr (
      c.from_residual-in_err-end_part.ensures.0,
      c.check_clock.new.self,
      (c.find_file.new.self, c.in_ok-find_file.ensures.found, c.check_clock.ensures),
      stays.0,
      stays.1,
      stays.2,
      stays.3,
    ))

pub returns-clause-writes : goal.returns-clause-writes
returns-clause-writes g c = inl (record {
  placed = c.check_clock.new.self;
  finds = (c.find_file.new.self, c.in_ok-find_file.ensures.found, c.check_clock.ensures);
  ended = c.end_part.new.self;
  ends = c.in_ok-end_part.ensures.ends;
  appends = c.append.ensures.appends;
})
