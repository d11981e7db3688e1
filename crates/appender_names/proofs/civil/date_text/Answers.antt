use Rattle.std.proofs.Common.{◌≡◌, ◌++◌, ◌∷◌, ◌∙◌, ap, string_bytes, arith, w64, FitsSigned}
use Rattle.std.proofs.lemmas.Int.{ints, to_z-of_z}
use Rattle.std.proofs.lemmas.Result.{IfOk-weaker}
use Rattle.jiff.specs.Words.{date_text as jiff_text}
use Rattle.appender_names.specs.DateText.{IsDated}
use Rattle.appender_names.proofs.Clock.{prints, shown, text_at-day}
use Rattle.appender_names.proofs.civil.date_text.Goals as goal

pub returns-in-Minutely : goal.returns-in-Minutely
returns-in-Minutely c =
    let fits : FitsSigned w64 c.args.moment = c.ranges.moment in
    let years : IsDated c.args.moment = (omega (arith, ints), omega (arith, ints)) in
    let clock = prints c.args.moment c.civil-civil.result years (simp to_z-of_z at c.civil-civil.ensures) in
    let day = ap jiff_text c.date-date.ensures ∙ clock.day in
    let hour = clock.hour c.hour-hour.result c.hour-hour.ensures in
    let minute = clock.minute c.minute-minute.result c.minute-minute.ensures in
    IfOk-weaker c.format.result _ _
    (λ text is.
    let printed : string_bytes text ≡ jiff_text c.date-date.result ++ (45 ∷ (shown c.hour-hour.result ++ (45 ∷ shown c.minute-minute.result))) = (rw (c.laid_out.ensures, c.laid_out-in-Minutely.ensures) at is) in
    rw c.in-Minutely.is (rw (day, hour, minute) at printed))
    c.format.ensures.ok

pub returns-in-Hourly : goal.returns-in-Hourly
returns-in-Hourly c =
    let fits : FitsSigned w64 c.args.moment = c.ranges.moment in
    let years : IsDated c.args.moment = (omega (arith, ints), omega (arith, ints)) in
    let clock = prints c.args.moment c.civil-civil.result years (simp to_z-of_z at c.civil-civil.ensures) in
    let day = ap jiff_text c.date-date.ensures ∙ clock.day in
    let hour = clock.hour c.hour-hour.result c.hour-hour.ensures in
    IfOk-weaker c.format-in-Hourly.result _ _
    (λ text is.
    let printed : string_bytes text ≡ jiff_text c.date-date.result ++ (45 ∷ shown c.hour-hour.result) = (rw c.laid_out-in-Hourly.ensures at is) in
    rw c.in-Hourly.is (rw (day, hour) at printed))
    c.format-in-Hourly.ensures.ok

pub returns-in-Daily : goal.returns-in-Daily
returns-in-Daily c =
    let fits : FitsSigned w64 c.args.moment = c.ranges.moment in
    let years : IsDated c.args.moment = (omega (arith, ints), omega (arith, ints)) in
    let clock = prints c.args.moment c.civil-civil.result years (simp to_z-of_z at c.civil-civil.ensures) in
    let day = ap jiff_text c.date-date.ensures ∙ clock.day in
    IfOk-weaker c.format-in-Daily.result _ _
    (λ text is. rw (text_at-day c.args.kind _ c.in-Daily.is) (is ∙ day))
    c.format-in-Daily.ensures.ok
