-- jiff writes the time in upper case, with a `T` and six places.
use Rattle.std.proofs.Common.{◌≡◌, ◌∙◌, ap, sym, subst, length, ◌<◌, true, false, Some, FitsSigned}
use Rattle.std.specs.Int.{w128}
use Rattle.std.proofs.lemmas.Int.{to_z-of_z}
use Rattle.appender_log.specs.Time.{second, time_text}
use Rattle.appender_names.specs.Rotation.{is_moment}
use Rattle.appender_log.proofs.TimeTexts.{prints, time_is_short}
use Rattle.appender_log.proofs.times.time_text.Goals as goal

text_is : (c : goal.After-timestamp_text) → c.timestamp_text.result.bytes ≡ time_text c.args.nanos
text_is c =
    let printed = c.timestamp_text.ensures in
    let upper : c.precision.result.lowercase ≡ false = ap (λ o. o.0) c.precision.ensures ∙ ap (λ o. o.0) c.new.ensures in
    let letter : c.precision.result.separator ≡ 84 = ap (λ o. o.1) c.precision.ensures ∙ ap (λ o. o.1) c.new.ensures in
    let six : c.precision.result.precision ≡ Some 6 = ap (λ o. o.2) c.precision.ensures in
    let fits : FitsSigned w128 c.args.nanos = c.ranges.nanos in
    let same = to_z-of_z w128 c.args.nanos fits in
    let known : is_moment (second c.args.nanos) ≡ true = rw same at (sym c.is_in_range.ensures ∙ c.if-not-is_in_range.false) in
    let nanos : c.unwrap-time.result.nanosecond ≡ c.args.nanos = rw (c.unwrap-time.ensures, same) at c.from_nanosecond.ensures.value in
    (rw (upper, letter, six) at printed.2) ∙ prints c.args.nanos printed.0 known (printed.1 ∙ nanos)

pub returns-clause-text : goal.returns-clause-text
returns-clause-text c = text_is c

pub returns-clause-fits : goal.returns-clause-fits
returns-clause-fits c = subst (λ bytes. length bytes < 28) (sym (text_is c)) (time_is_short c.args.nanos)
