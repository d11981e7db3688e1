use Rattle.std.proofs.Common.{rules, ◌≡◌, ◌∙◌, ◌<◌, ◌+◌, ◌++◌, ◌∷◌, [], ap, sym, length, slice_index_or, take, refl, arith, append_assoc}
use Rattle.std.proofs.lemmas.List.{get_or-map, length-map, take_more}
use Rattle.callers.specs.Sources.{texts_of}
use Rattle.callers.proofs.audit_sink.SourceCountedWork.run.Goals as goal

-- one line more
pub loop-i-preserved : goal.loop-i-preserved
loop-i-preserved g c =
    let source = c.args.self.now in
    let lines = source.lines.items in
    let i = c.loop-i.i in
    let start = (g.L.LineSender.sent c.args.sender.now).lines in
    let within : i < length lines = search rules in
    let found : c.index.result.now ≡ slice_index_or lines i c.index.result.now = search rules in
    let line : slice_index_or (texts_of source) i [] ≡ c.as_slice.result.now =
    get_or-map (λ l. l.items) lines i c.index.result.now [] within ∙ ap (λ l. l.items) (sym found) ∙ sym c.as_slice.ensures.value in
    let more : take (i + 1) (texts_of source) ≡ take i (texts_of source) ++ c.as_slice.result.now ∷ [] =
    take_more (texts_of source) i [] (omega (arith, within, length-map lines (λ l. l.items))) ∙ ap (λ l. take i (texts_of source) ++ l ∷ []) line in
    record {
      same = refl;
      sent = ap (λ s. s.lines) (rw c.in-Ok-Queued.field-0-is at c.in-Ok-Queued.ensures.sent) ∙ ap (λ ls. ls ++ c.as_slice.result.now ∷ []) c.loop-i.invariant.sent
          ∙ append_assoc start (take i (texts_of source)) (c.as_slice.result.now ∷ []) ∙ ap (λ ls. start ++ ls) (sym more);
    }
