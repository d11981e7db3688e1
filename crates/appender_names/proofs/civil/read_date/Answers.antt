use Rattle.std.proofs.Common.{◌≡◌, rules, arith, ◌-◌, length, get_or}
use Rattle.appender_names.proofs.Digits.{minute_read, hour_read}
use Rattle.appender_names.proofs.civil.read_date.Goals as goal

pub returns-in_ok-number-in-45-2 : goal.returns-in_ok-number-in-45-2
returns-in_ok-number-in-45-2 c =
    let text = c.args.text.now in
    let dash : 45 ≡ get_or text (length text - 6) 0 = search rules in
    let next : 45 ≡ get_or text (length text - 3) 0 = search rules in
    rw c.in-Minutely.is (minute_read text c.in_ok-number-in-45.field-0 c.in_ok-number-in-45-2.field-0 c.read_second.result (omega arith) dash c.in_ok-number-in-45.ensures.1 next c.in_ok-number-in-45-2.ensures.1 c.read_second.ensures)

pub returns-in_ok-number-in-45-text : goal.returns-in_ok-number-in-45-text
returns-in_ok-number-in-45-text c =
    let text = c.args.text.now in
    let dash : 45 ≡ get_or text (length text - 3) 0 = search rules in
    rw c.in-Hourly.is (hour_read text c.in_ok-number-in-45-text.field-0 c.read_second-in-45-text.result (omega arith) dash c.in_ok-number-in-45-text.ensures.1 c.read_second-in-45-text.ensures)
