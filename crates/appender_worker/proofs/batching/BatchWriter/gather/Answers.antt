use Rattle.std.proofs.Common.{◌≡◌, ◌∙◌, ap, sym, arith, length, sum_by, length-append}
use Rattle.std.proofs.lemmas.List.{length_push}
use Rattle.appender_worker.specs.Batch.{Batch}
use Rattle.appender_worker.proofs.Gathered.{length_in_lines, number_of_lines, sum_push}
use Rattle.appender_worker.proofs.batching.BatchWriter.gather.Goals as goal

pub invariant_of-self : goal.invariant_of-self
invariant_of-self g c =
    let lengths = c.self.inside.lengths.items in
    let bytes = c.self.inside.bytes.items in
    let line = c.args.line.now in
    let kept = c.self.invariant in
    let held : sum_by length c.args.self.now.waiting ≡ length bytes = ap (λ (b : Batch _). sum_by length b.waiting) (sym c.self.view_is) ∙ length_in_lines lengths bytes kept.0 in
    let number : length c.args.self.now.waiting ≡ length lengths = ap (λ (b : Batch _). length b.waiting) (sym c.self.view_is) ∙ number_of_lines lengths bytes in
    let capacity : c.args.self.now.capacity ≡ c.self.inside.capacity = ap (λ (b : Batch _). b.capacity) (sym c.self.view_is) in
    let size = length-append bytes line in (
      rw (c.push_reserved.ensures.items, c.in-Ok.ensures.items) (omega (arith, sum_push lengths (length line), size, kept.0)),
      rw c.in-Ok.ensures.items (omega (arith, size, held, capacity, c.requires.bytes)),
      omega (arith, kept.2, c.extend_from_slice.ensures.capacity),
      rw c.push_reserved.ensures.items (omega (arith, length_push lengths (length line), number, c.requires.lines)),
      omega (arith, kept.4, c.push_reserved.ensures.capacity),
    )
