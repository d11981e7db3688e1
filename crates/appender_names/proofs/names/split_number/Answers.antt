use Rattle.std.proofs.Common.{rules, ◌≡◌, ◌-◌, ◌*◌, ◌+◌, length, get_or, arith, refl}
use Rattle.appender_names.proofs.Digits.{number_read}
use Rattle.appender_names.proofs.names.split_number.Goals as goal

pub returns : goal.returns
returns c =
    let text = c.args.mark.now in
    let high = c.in_ok-number.ensures in
    let middle = c.in_ok-number-2.ensures in
    let low = c.in_ok-number-3.ensures in
    let dot : 46 ≡ get_or text (length text - 7) 0 = search rules in
    let number : c.from-high.result * 10000 + c.from-middle.result * 100 + c.from-low.result ≡ c.in_ok-number.field-0 * 10000 + c.in_ok-number-2.field-0 * 100 + c.in_ok-number-3.field-0
    = rw (c.from-high.ensures, c.from-middle.ensures, c.from-low.ensures) refl in
    rw (number, c.if-not-numbered.false) (omega (arith, high.0, middle.0, low.0), number_read text c.in_ok-number.field-0 c.in_ok-number-2.field-0 c.in_ok-number-3.field-0 c.in-46.len_at_least high.0 middle.0 low.0 dot high.1 middle.1 low.1)
