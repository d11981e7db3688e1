use Rattle.std.proofs.Common.{◌<◌, length, ap, subst}
use Rattle.appender_worker.specs.Batch.{Batch}
use Rattle.appender_worker.proofs.Batches.{alone_ok, alone_err}
use Rattle.appender_worker.proofs.batching.BatchWriter.write_cold.Goals as goal

pub returns-then-line-self-clause-ok : goal.returns-then-line-self-clause-ok
returns-then-line-self-clause-ok g c =
    alone_ok g.W.Write.contents g.W.LineSink.tries c.args.line.now c.args.self.now c.write_waiting.new.self c.write_alone.new.self c.write_alone.result c.write_waiting.ensures c.write_alone.ensures.ok

pub returns-then-line-self-clause-err : goal.returns-then-line-self-clause-err
returns-then-line-self-clause-err g c =
    let long = subst (λ n. n < length c.args.line.now) (ap (λ (b : Batch _). b.capacity) c.self.view_is) c.if-line-self.true in
    alone_err g.W.Write.contents g.W.LineSink.tries c.args.line.now c.args.self.now c.write_waiting.new.self c.write_alone.new.self c.write_alone.result c.write_waiting.ensures long
    c.write_alone.ensures.err c.write_alone.ensures.cut
