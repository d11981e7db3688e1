use Rattle.std.proofs.Common.{rules, ◌<◌, ◌++◌, ◌∷◌, [], refl, take, length, subst, sym, ap, ◌∙◌, arith}
use Rattle.std.proofs.lemmas.List.{take_rest}
use Rattle.rolltee_core.specs.Feed.{IsTimed}
use Rattle.rolltee_core.proofs.Timed.{timed_more, later_begins}
use Rattle.program_io.proofs.Reported.{moves_front}
use Rattle.rolltee_core.proofs.feed.stamp.Goals as goal

pub loop-rest-init : goal.loop-rest-init
loop-rest-init c = ([], refl, c.clear.ensures.items, λ some. refl)

pub loop-rest-preserved : goal.loop-rest-preserved
loop-rest-preserved c =
    let (done, split, timed, begun) = c.loop-rest.invariant in
    let rest = c.loop-rest.rest.now in
    let n = c.line_length-length.result in
    let line = c.line_length-length.ensures in
    let length_is : 0 < length rest = search rules in
    let some = line.some length_is in (
      done ++ take n rest,
      moves_front _ done rest n split,
      subst (IsTimed c.args.begins (done ++ take n rest)) (sym c.in_ok-stamp_line.ensures)
          (timed_more c.args.begins c.loop-rest.begins n done rest c.loop-rest.stamped.items (c.args.time.now ++ 32 ∷ []) c.requires.0 c.requires.1 some line.bound line.line timed (begun (λ none. absurd (omega (arith, length_is, ap length none))))),
      λ more. later_begins c.args.begins n done rest line.bound line.ends (λ none. more (take_rest rest n ∙ none)),
    )
