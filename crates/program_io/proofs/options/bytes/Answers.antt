use Rattle.program_io.proofs.Units.{no_digits, product_is}
use Rattle.program_io.proofs.options.bytes.Goals as goal

pub returns-in_err-count : goal.returns-in_err-count
returns-in_err-count c =
    let unit = c.split_unit-unit.ensures in
    rw c.from_residual.ensures (no_digits c.args.text.now _ _ unit.unit unit.from_one c.in_err-count.ensures)

pub returns : goal.returns
returns c =
    product_is c.args.text.now _ _ _ _ c.split_unit-unit.ensures.unit (rw c.in_ok-count.was at c.count.ensures) c.checked_mul.ensures
