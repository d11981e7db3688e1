use Rattle.std.proofs.Common.{◌∙◌, ap, sym, subst}
use Rattle.std.specs.Io.KnownBytes.{Keeps}
use Rattle.appender_worker.specs.Batch.{Batch, error_or}
use Rattle.appender_worker.proofs.Batches.{flushes, on_ok}
use Rattle.appender_worker.proofs.batching.BatchWriterWrite.flush.Goals.{in-Some, in-None}
use Rattle.appender_worker.proofs.batching.BatchWriterWrite.flush.Goals as goal

pub returns-clause-empties : goal.returns-clause-empties
returns-clause-empties g c =
    let before = ap (λ (b : Batch _). b.writer) c.self.view_is in
    let fault = sym (ap (λ (b : Batch _). b.fault) c.self.view_is) ∙ sym c.take.ensures.value in
    record {
      written = c.write_waiting.new.self;
      writes = c.write_waiting.ensures;
      answer = c.flush_once-flushed.result;
      flushed = subst (λ w. g.W.LineSink.flushes w c.flush_once-flushed.result c.flush_once-flushed.new.self) before c.flush_once-flushed.ensures.flushed;
      bytes = subst (λ w. Keeps (g.W.Write.contents w) (g.W.Write.contents c.flush_once-flushed.new.self)) before c.flush_once-flushed.ensures.bytes;
      reported = elim c.match-take.branch [
        | in-Some w ↦ w.result-is ∙ sym (ap (λ f. error_or f c.flush_once-flushed.result) (fault ∙ w.in-Some.is))
        | in-None w ↦ w.result-is ∙ sym (ap (λ f. error_or f c.flush_once-flushed.result) (fault ∙ w.in-None.is))
      ];
      ok = elim c.match-take.branch [
        | in-Some w ↦ rw w.result-is tt
        | in-None w ↦ on_ok c.match-take.result (fault ∙ w.in-None.is)
      ];
      same = flushes c.flush_once-flushed.new.self c.take.new.self _ c.write_waiting.new.self c.self.view_is c.take.ensures.after;
    }
