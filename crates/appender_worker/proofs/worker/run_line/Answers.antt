use Rattle.appender_worker.proofs.Written.{more_written}
use Rattle.appender_worker.proofs.worker.run_line.Goals as goal

pub loop-from-preserved-in-More : goal.loop-from-preserved-in-More
loop-from-preserved-in-More g c =
    let t = more_written c.write-answer.result c.in-More.n c.loop-from.from c.loop-from.repeats c.args.line.now _ _ _ c.loop-from.invariant.within c.in-More.ensures c.loop-from.invariant.written c.write-answer.ensures.bytes in
    record { within = t.0; few = c.loop-from.invariant.few; written = t.1 }
