use Rattle.std.specs.Prelude.{int_div}
use Rattle.jiff.specs.Words.{civil_nanos, signed_nanos}
use Rattle.std.proofs.Common.{◌≡◌, ◌∙◌, ◌<◌, ℕ, ap, rules, arith, pos, to_z, w8, w16, w64, FitsSigned}
use Rattle.std.proofs.lemmas.Int.{ints, to_z-of_z}
use Rattle.appender_names.proofs.Instants.{begins, begins_civil, not_ok, ok_is}
use Rattle.appender_names.proofs.civil.second_at.Goals as goal

-- the casts keep the numbers
year_kept : (n : ℕ) → n < 10000 → to_z w16 n ≡ pos n
year_kept n h = omega (arith, ints)

part_kept : (n : ℕ) → n < 100 → to_z w8 n ≡ pos n
part_kept n h = omega (arith, ints)

pub returns-in_err-ok : goal.returns-in_err-ok
returns-in_err-ok c =
    let asked = c.requires in
    let succeeds = rw (year_kept c.args.year asked.year, part_kept c.args.month asked.month, part_kept c.args.day asked.day, part_kept c.args.hour asked.hour, part_kept c.args.minute asked.minute) at c.new-begin.ensures.succeeds in
    rw c.from_residual.ensures (λ s b. not_ok c.new-begin.result c.in_err-ok.ensures.variant (succeeds.1 (begins_civil _ _ _ _ _ s b)))

pub returns : goal.returns
returns c =
    let asked = c.requires in
    let is = ok_is c.new-begin.result c.in_ok-ok.field-0 c.in_ok-ok.ensures.value in
    let shown = rw (year_kept c.args.year asked.year, part_kept c.args.month asked.month, part_kept c.args.day asked.day, part_kept c.args.hour asked.hour, part_kept c.args.minute asked.minute) at (rw is at c.new-begin.ensures.value) in
    let fits : FitsSigned w64 c.as_secs.result = search rules in
    let nanos : signed_nanos c.duration_since.result ≡ civil_nanos c.in_ok-ok.field-0 = omega (arith, ints, c.duration_since.ensures, c.civil.ensures) in
    rw (to_z-of_z w64 c.as_secs.result fits) (begins c.args.year c.args.month c.args.day c.args.hour c.args.minute c.in_ok-ok.field-0 c.as_secs.result c.requires.year shown.0 shown.1 (c.as_secs.ensures ∙ ap (λ z. int_div z (pos 1000000000)) nanos))
