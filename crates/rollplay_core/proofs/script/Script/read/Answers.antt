use Rattle.std.proofs.Common.{◌≡◌, ℕ, suc, Err, List, [], sym, ap, subst, ◌∙◌, arith, rules}
use Rattle.rollplay_core.specs.Draft.{progress_of}
use Rattle.rollplay_core.specs.Script.{ReadsLines}
use Rattle.rollplay_core.proofs.ScriptLemmas.{stops_here, is_script, misses_start, fault_of_line, line_takes, no_bytes}
use Rattle.rollplay_core.proofs.script.Script.read.Goals as goal

pub loop-rest-preserved : goal.loop-rest-preserved
loop-rest-preserved c =
    let reached = c.loop-rest.invariant.reached in
    record {
      utf8 = search rules;
      counted = let takes = line_takes _ _ _ c.split_line.ensures in omega arith;
      reached = (suc reached.0, omega (arith, reached.1), (c.loop-rest.rest.now, c.split_line.result.0.now, progress_of c.loop-rest.draft, reached.2, c.split_line.ensures, c.in_default.ensures.ok));
    }

pub returns-in-Err-clause-fault : goal.returns-in-Err-clause-fault
returns-in-Err-clause-fault c = λ number e.
    let reached = c.loop-rest.invariant.reached in
    let is = fault_of_line _ _ _ number c.at.ensures.fault c.at.ensures.memory (search rules) in
    record {
      taken = reached.0;
      counted = omega (arith, is.1, reached.1);
      rest = c.loop-rest.rest.now;
      progress = progress_of c.loop-rest.draft;
      reached = reached.2;
      stops = stops_here _ _ _ _ c.split_line.ensures (c.in-Err.ensures.fault (ap Err is.0));
    }

pub returns-clause-ok : goal.returns-clause-ok
returns-clause-ok c =
    let reached = c.loop-rest.invariant.reached in
    let empty : c.loop-rest.rest.now ≡ [] = no_bytes _ c.loop-rest-test.ensures in
    let at_end : ReadsLines c.args.text.now reached.0 [] (progress_of c.loop-rest.draft) =
    subst (λ (rest : List ℕ). ReadsLines c.args.text.now reached.0 rest (progress_of c.loop-rest.draft)) empty reached.2 in
    rw c.ok_or.ensures.value (is_script _ _ _ _ _ at_end c.finish.ensures.some)

pub returns-clause-fault : goal.returns-clause-fault
returns-clause-fault c = λ number e.
    let reached = c.loop-rest.invariant.reached in
    let empty : c.loop-rest.rest.now ≡ [] = no_bytes _ c.loop-rest-test.ensures in
    let at_end : ReadsLines c.args.text.now reached.0 [] (progress_of c.loop-rest.draft) =
    subst (λ (rest : List ℕ). ReadsLines c.args.text.now reached.0 rest (progress_of c.loop-rest.draft)) empty reached.2 in
    misses_start _ _ _ _ _ _ at_end reached.1 c.finish.ensures.none (sym c.ok_or.ensures.value ∙ e)
