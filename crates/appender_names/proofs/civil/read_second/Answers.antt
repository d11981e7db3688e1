use Rattle.std.proofs.Common.{◌≡◌, ◌+◌, ◌*◌, ◌/◌, ◌%◌, ◌∙◌, ap, arith, rules, length}
use Rattle.appender_names.specs.DateText.{two_digits}
use Rattle.appender_names.proofs.Digits.{read_day, NamesDay, no_part}
use Rattle.appender_names.proofs.civil.read_second.Goals as goal

pub returns-in_err-century : goal.returns-in_err-century
returns-in_err-century c =
    rw c.from_residual.ensures (λ s. no_part (λ d. d.year / 100) c.args.date.now 0 c.args.hour c.args.minute s (λ d short names. (omega (arith, short.year), names.century)) c.in_err-century.ensures)

pub returns-in_err-month : goal.returns-in_err-month
returns-in_err-month c =
    rw c.from_residual-in_err-month.ensures (λ s. no_part (λ d. d.month) c.args.date.now 5 c.args.hour c.args.minute s (λ d short names. (short.month, names.month)) c.in_err-month.ensures)

pub returns-in_err-day : goal.returns-in_err-day
returns-in_err-day c =
    rw c.from_residual-in_err-day.ensures (λ s. no_part (λ d. d.day) c.args.date.now 8 c.args.hour c.args.minute s (λ d short names. (short.day, names.day)) c.in_err-day.ensures)

pub returns : goal.returns
returns c =
    let century = c.in_ok-century.ensures in
    let year = c.in_ok-year.ensures in
    let front : (c.in_ok-century.century * 100 + c.in_ok-year.year) / 100 ≡ c.in_ok-century.century = omega arith in
    let back : (c.in_ok-century.century * 100 + c.in_ok-year.year) % 100 ≡ c.in_ok-year.year = omega arith in
    let len : length c.args.date.now ≡ 10 = omega arith in
    let names : NamesDay c.args.date.now (record { year = c.in_ok-century.century * 100 + c.in_ok-year.year; month = c.in_ok-month.month; day = c.in_ok-day.day }) = record {
      length_is = len;
      century = ap two_digits front ∙ century.1;
      year = ap two_digits back ∙ year.1;
      first_dash = search rules;
      month = c.in_ok-month.ensures.1;
      second_dash = search rules;
      day = c.in_ok-day.ensures.1;
    } in
    read_day c.args.date.now c.in_ok-century.century c.in_ok-year.year c.in_ok-month.month c.in_ok-day.day c.args.hour c.args.minute c.second_at.result year.0 names c.second_at.ensures
