use Rattle.std.proofs.Common.{[], ◌∷◌, ◌∙◌, ap, sym, subst, refl, take, length}
use Rattle.std.specs.Prelude.{None, Some}
use Rattle.std.specs.Option.{option_or}
use Rattle.std.specs.IoError.{error_kind}
use Rattle.std.specs.Io.KnownBytes.{Appends}
use Rattle.appender_worker.specs.Batch.{Batch, KeepsFirstFault}
use Rattle.appender_worker.specs.Tries.{write_try}
use Rattle.appender_queue.specs.Queue.{saturating_next}
use Rattle.appender_worker.proofs.Batches.{cuts_line, takes_line}
use Rattle.appender_worker.proofs.Asking.{or_none}
use Rattle.appender_worker.proofs.batching.BatchWriter.write_alone.Goals as goal

pub returns-in-Err-clause-cut : goal.returns-in-Err-clause-cut
returns-in-Err-clause-cut g c =
    let contents = g.W.Write.contents in
    let n = c.in-Err.fault.taken in
    let kind = Some (error_kind c.in-Err.fault.error) in
    let line = c.args.line.now in
    let counted = c.count-in-Err.ensures in
    let before = ap (λ (b : Batch _). b.writer) c.self.view_is in
    let after = ap (λ (b : Batch _). b.writer) counted in
    let tries = g.W.LineSink.tries in
    let asks = subst (λ w. tries c.args.self.now.writer line n kind w) (sym after)
    (subst (λ w. tries w line n kind c.write_line.new.self) before c.in-Err.ensures.tried) in
    let first : KeepsFirstFault (write_try line n kind ∷ []) c.args.self.now.fault c.count-in-Err.new.self.fault = record {
      later = Some c.from.result;
      kept = ap (λ (b : Batch _). b.fault) counted ∙ ap (λ (b : Batch _). option_or b.fault (Some c.from.result)) c.self.view_is;
      kind = ap Some (c.from.ensures ∙ c.kind.ensures ∙ c.reported-error.ensures.kind);
    } in
    let bytes = subst (λ w. Appends (contents c.args.self.now.writer) (contents w) (take n line)) (sym after)
    (subst (λ w. Appends (contents w) (contents c.write_line.new.self) (take n line)) before c.in-Err.ensures.fault.1) in (
      n,
      c.in-Err.ensures.fault.0,
      cuts_line contents tries line n kind c.args.self.now c.count-in-Err.new.self c.in-Err.ensures.fault.0 bytes asks
          (ap (λ (b : Batch _). b.waiting) counted ∙ ap (λ (b : Batch _). b.waiting) c.self.view_is ∙ c.requires)
          (ap (λ (b : Batch _). b.taken) counted ∙ ap (λ (b : Batch _). b.taken) c.self.view_is)
          (ap (λ (b : Batch _). b.lost) counted ∙ ap (λ (b : Batch _). saturating_next b.lost) c.self.view_is)
          (ap (λ (b : Batch _). b.capacity) counted ∙ ap (λ (b : Batch _). b.capacity) c.self.view_is)
          first,
    )

pub returns-in-Ok-clause-ok : goal.returns-in-Ok-clause-ok
returns-in-Ok-clause-ok g c =
    let contents = g.W.Write.contents in
    let tries = g.W.LineSink.tries in
    let line = c.args.line.now in
    let counted = c.count.ensures in
    let before = ap (λ (b : Batch _). b.writer) c.self.view_is in
    let after = ap (λ (b : Batch _). b.writer) counted in
    let asks = subst (λ w. tries c.args.self.now.writer line (length line) None w) (sym after)
    (subst (λ w. tries w line (length line) None c.write_line.new.self) before c.in-Ok.ensures.tried) in
    let same = ap (λ (b : Batch _). b.fault) counted ∙ or_none _ ∙ ap (λ (b : Batch _). b.fault) c.self.view_is in
    let bytes = subst (λ w. Appends (contents c.args.self.now.writer) (contents w) line) (sym after)
    (subst (λ w. Appends (contents w) (contents c.write_line.new.self) line) before c.in-Ok.ensures.ok) in (
      refl,
      same,
      takes_line contents tries line c.args.self.now c.count.new.self bytes asks
          (ap (λ (b : Batch _). b.waiting) counted ∙ ap (λ (b : Batch _). b.waiting) c.self.view_is ∙ c.requires)
          (ap (λ (b : Batch _). b.taken) counted ∙ ap (λ (b : Batch _). saturating_next b.taken) c.self.view_is)
          (ap (λ (b : Batch _). b.lost) counted ∙ ap (λ (b : Batch _). b.lost) c.self.view_is)
          (ap (λ (b : Batch _). b.capacity) counted ∙ ap (λ (b : Batch _). b.capacity) c.self.view_is)
          same,
    )
