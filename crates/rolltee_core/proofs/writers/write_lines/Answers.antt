use Rattle.std.proofs.Common.{◌++◌, [], refl, take, arith}
use Rattle.std.proofs.KnownBytes.{Appends-trans}
use Rattle.program_io.proofs.Copied.{appends_nothing}
use Rattle.program_io.proofs.Reported.{moves_front}
use Rattle.rolltee_core.proofs.writers.write_lines.Goals as goal

pub loop-rest-init : goal.loop-rest-init
loop-rest-init g c = ([], refl, λ none. appends_nothing (g.W.Write.contents c.args.log.now))

pub loop-rest-preserved : goal.loop-rest-preserved
loop-rest-preserved g c =
    let (done, split, appended) = c.loop-rest.invariant in
    let rest = c.loop-rest.rest.now in
    let n = c.write_first-done.result.0 in
    (done ++ take n rest, moves_front _ done rest n split, λ none. Appends-trans _ _ _ _ _ (appended (omega (arith, none, c.saturating_add-lost.ensures))) (c.write_first-done.ensures.whole (omega (arith, none, c.saturating_add-lost.ensures))))
