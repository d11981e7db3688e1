use Rattle.std.proofs.Common.{rules, w64, FitsSigned, ◌≡◌, arith, true, false, refl}
use Rattle.std.specs.Prelude.{int_lt}
use Rattle.std.proofs.lemmas.Int.{ints, to_z-of_z}
use Rattle.appender_names.proofs.Periods.{between, next_is}
use Rattle.appender_names.proofs.rotation.Rotation.is_between.Goals as goal

pub returns-then-round_date-second : goal.returns-then-round_date-second
returns-then-round_date-second c =
    let fits : FitsSigned w64 c.args.moment = c.ranges.moment in
    let same : FitsSigned w64 c.args.second = c.ranges.second in
    let first : FitsSigned w64 c.round_date.result = search rules in
    let start = simp to_z-of_z at c.round_date.ensures.value in
    let last : FitsSigned w64 c.next_start.result = search rules in
    let next = next_is c.args.self.now c.args.moment c.round_date.result c.next_start.result start (simp to_z-of_z at c.next_start.ensures.value) in
    let after = simp to_z-of_z at c.if-round_date-second.true in
    let below : int_lt c.args.second c.round_date.result ≡ false = grind (arith, ints, after) in
    simp to_z-of_z (rw (between c.args.self.now c.args.moment c.args.second c.round_date.result c.requires.rotates c.requires.moment start, below, next) refl)

pub returns-else-round_date-second : goal.returns-else-round_date-second
returns-else-round_date-second c =
    let fits : FitsSigned w64 c.args.moment = c.ranges.moment in
    let same : FitsSigned w64 c.args.second = c.ranges.second in
    let first : FitsSigned w64 c.round_date.result = search rules in
    let start = simp to_z-of_z at c.round_date.ensures.value in
    let before = simp to_z-of_z at c.if-round_date-second.false in
    let above : int_lt c.args.second c.round_date.result ≡ true = grind (arith, ints, before) in
    simp to_z-of_z (rw (between c.args.self.now c.args.moment c.args.second c.round_date.result c.requires.rotates c.requires.moment start, above) before)
