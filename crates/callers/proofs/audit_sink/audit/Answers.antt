use Rattle.std.proofs.Common.{rules, ◌≡◌, ◌<◌, ℕ, true, false, arith, subst, length, slice_index_or}
use Rattle.tracing_appender.specs.Interleaving.{IsInterleaving}
use Rattle.tracing_appender.specs.Work.{RunsWorks}
use Rattle.callers.proofs.Sources.{Sends, all_sent}
use Rattle.callers.proofs.audit_sink.audit.Goals as goal

pub returns : goal.returns
returns g c =
    let ran : RunsWorks Sends g.W.Write.contents false c.args.sources.items c.args.log c.in_ok-ran.ran = search rules in
    let queued : (i : ℕ) (d : _) → i < length c.in_ok-ran.ran.works.items → (slice_index_or c.in_ok-ran.ran.works.items i d).is_queued ≡ true = search rules in
    let whole : c.in_ok-ran.ran.written.given_up ≡ 0 = omega (arith, c.if-ran-gt0.false) in (
      ran.taken,
      subst (λ sent. IsInterleaving sent ran.taken) (all_sent false c.args.sources.items c.in_ok-ran.ran.works.items ran.ended ran.each queued) ran.arrived,
      c.lines_not_given_up_are_whole.ensures _ _ ran.taken (rw whole at ran.wrote),
    )
