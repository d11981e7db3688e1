use Rattle.std.proofs.Common.{◌∙◌, [], ap, map, subst, sym}
use Rattle.std.proofs.lemmas.List.{same_from_push}
use Rattle.appender_worker.specs.Served.{ServesLines}
use Rattle.line_history.specs.Interleaving.{IsInterleaving}
use Rattle.line_history.proofs.Counts.{one_sender}
use Rattle.appender_non_blocking.specs.SentLines.{new_sender, new_senders}
use Rattle.appender_non_blocking.proofs.non_blocking.lines.run_started.Goals as goal
use Rattle.appender_non_blocking.proofs.non_blocking.lines.run_started.Goals.{in-Some, in-None}

-- what arrives of one sender is what it sent
pub returns-clause-ran : goal.returns-clause-ran
returns-clause-ran g c = λ lossy writer new first.
    let ran = c.run_with-senders.ensures in
    let ended = ran.1 in
    let one = same_from_push [] [] ran.0 (new_sender lossy 0) (sym ran.2 ∙ new ∙ ap (new_senders lossy) c.requires.parts.0) in
    record {
      ended = ended;
      did = subst (λ s. g.K.RecordedWork.does c.args.work s c.run_with-senders.new.work ended) one.1 ran.4;
      wrote = elim c.match-end.branch [
        | in-Some w ↦ rw w.written-is (
            let wrote = w.in-Some.ensures.wrote in
            let same = one_sender ended.lines wrote.0 (subst (λ zs. IsInterleaving (map (λ s. s.lines) zs) wrote.0) ran.3 wrote.1) in
            let written = w.in-Some.written in
            let contents = g.W.Write.contents written.writer in
            subst (λ t. ServesLines t contents ended.lines written.given_up) first (subst (λ ls. ServesLines g.L.RunNames.first contents ls written.given_up) same wrote.3)
            )
        | in-None w ↦ rw w.written-is tt
      ];
    }
