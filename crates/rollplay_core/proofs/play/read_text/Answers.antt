use Rattle.std.proofs.Common.{◌≤◌, length, refl, arith, inr}
use Rattle.std.proofs.lemmas.Grind.{common_steps}
use Rattle.rollplay_core.proofs.PlayLemmas.{given_whole}
use Rattle.rollplay_core.proofs.play.read_text.Goals as goal

pub returns-in-Ok-clause-given : goal.returns-in-Ok-clause-given
returns-in-Ok-clause-given g c =
    let front = rw (c.take-limited.ensures.limit, c.take-limited.ensures.inner, c.new-bytes.ensures.items) at c.in_default.ensures.bytes in
    let short : length c.read_to_end.new.buf.items ≤ 1048576 = omega arith in
    let whole = given_whole (g.R.Read.remaining c.args.input.now) 1048577 1048576 c.read_to_end.new.buf.items refl front short in
    grind (arith, common_steps, whole)

pub returns-clause-err : goal.returns-clause-err
returns-clause-err g c =
    let front = rw (c.take-limited.ensures.limit, c.take-limited.ensures.inner, c.new-bytes.ensures.items) at c.in_default.ensures.bytes in
    let short : length c.read_to_end.new.buf.items ≤ 1048576 = omega arith in
    let whole = given_whole (g.R.Read.remaining c.args.input.now) 1048577 1048576 c.read_to_end.new.buf.items refl front short in
    (c.read_to_end.new.buf.items, whole, inr (λ utf8. cc (c.in-Err-from_utf8.ensures.succeeds utf8)))
