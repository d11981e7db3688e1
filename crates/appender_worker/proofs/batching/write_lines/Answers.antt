use Rattle.std.proofs.Common.{◌≡◌, ℕ, ◌+◌, ◌||◌, ◌∙◌, refl, ap, subst, true, false, arith, is_some, slice_index_or}
use Rattle.std.specs.Prelude.{nat_lt}
use Rattle.std.specs.Option.{option_map}
use Rattle.std.specs.IoError.{error_kind}
use Rattle.std.proofs.lemmas.Bool.Decides.{nat_tests}
use Rattle.appender_worker.proofs.Gathered.{At, Sent, at_start, whole_more, cut_more, sent_by_write}
use Rattle.appender_worker.proofs.batching.write_lines.Goals.{then-sent-end+then-not-given_up, else-sent-end, else-sent-end-via-then-sent-end+else-not-given_up, else-sent-end-via-else-sent-end, then-sent-end-2, else-sent-end-2}
use Rattle.appender_worker.proofs.batching.write_lines.Goals as goal

pub loop-length-init : goal.loop-length-init
loop-length-init g c = record {
  at = at_start g.W.Write.contents g.W.LineSink.tries c.args.writer.now c.args.lengths.now c.args.bytes.now c.requires.total;
  behind = λ is. absurd (let both : false ≡ true = is in cc);
  few = omega arith;
  told = refl;
}

pub loop-length-preserved : goal.loop-length-preserved
loop-length-preserved g c =
    let contents = g.W.Write.contents in
    let tries = g.W.LineSink.tries in
    let old = c.args.writer.now in
    let lengths = c.args.lengths.now in
    let bytes = c.args.bytes.now in
    let i = c.loop-length.length-index in
    let end = c.loop-length.end in
    let taken = c.loop-length.taken in
    let lost = c.loop-length.lost in
    let n = slice_index_or lengths i 0 in
    let kept = c.loop-length.invariant in
    let few = kept.few in
    let within = c.loop-length-test.true in
    let sent : Sent contents tries old c.if-sent-end.writer lengths bytes i end c.if-sent-end.sent taken lost n c.if-sent-end.given_up (is_some c.if-sent-end.first) (option_map error_kind c.if-sent-end.first) =
    elim c.if-sent-end.branch [
      | then-sent-end+then-not-given_up w ↦ rw (w.writer-is, w.sent-is, w.given_up-is, w.first-is) (
          sent_by_write contents tries old c.loop-length.writer w.write_on-n.new.writer lengths bytes i end c.loop-length.sent taken lost n w.write_on-n.result.0
          c.loop-length.given_up w.write_on-n.result.1 (is_some c.loop-length.first) (is_some w.write_on-n.result.2)
          w.write_on-n.ensures.tried.fault (option_map error_kind c.loop-length.first) (option_map error_kind w.write_on-n.result.2) within refl kept.at w.if-not-given_up.true kept.told
          w.write_on-n.ensures.told w.write_on-n.ensures.bound w.write_on-n.ensures.all w.write_on-n.ensures.some w.write_on-n.ensures.bytes w.write_on-n.ensures.tried.tried w.write_on-n.ensures.tried.kind)
      | else-sent-end w ↦ rw (w.writer-is, w.sent-is, w.given_up-is, w.first-is) (record {
        at = kept.at;
        behind = kept.behind;
        told = kept.told;
        why = λ short. elim w.else-sent-end.branch [
          | else-sent-end-via-then-sent-end+else-not-given_up w' ↦ w'.if-not-given_up.false
          | else-sent-end-via-else-sent-end w' ↦ absurd (let long = w'.if-sent-end.false in omega (arith, short, long))
        ];
      })
    ] in
    elim c.if-sent-end-2.branch [
      | then-sent-end-2 w ↦
          let short = w.if-sent-end-2.true in
          let given = sent.why short in
          rw (w.sent-is, w.taken-is, w.lost-is, w.given_up-is) (record {
            at = cut_more contents tries old c.if-sent-end.writer lengths bytes i end c.if-sent-end.sent taken lost n (option_map error_kind c.if-sent-end.first) within refl short
                (subst (λ b. At contents tries old c.if-sent-end.writer lengths bytes i end c.if-sent-end.sent taken lost b (option_map error_kind c.if-sent-end.first)) given sent.at);
            behind = λ is. absurd (let both : false ≡ true = is in cc);
            few = omega (arith, few);
            told = sent.told ∙ ap (λ b. b || nat_lt 0 lost) given ∙ some_lost lost;
          })
      | else-sent-end-2 w ↦
          let long = w.if-sent-end-2.false in
          rw (w.sent-is, w.taken-is, w.lost-is, w.given_up-is) (record {
            at = whole_more contents tries old c.if-sent-end.writer lengths bytes i end c.if-sent-end.sent taken lost n c.if-sent-end.given_up (option_map error_kind c.if-sent-end.first) within refl long sent.at;
            behind = sent.behind;
            few = omega (arith, few);
            told = sent.told;
          })
    ]
  where
    some_lost : (lost : ℕ) → true ≡ nat_lt 0 (lost + 1)
    some_lost lost = grind (arith, nat_tests)
