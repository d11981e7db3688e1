use Rattle.std.proofs.Common.{rules, arith, sym, ◌≡◌, ◌≤◌, ◌≢◌, ◌+ℤ◌, pos, to_z, of_z, w64, FitsSigned}
use Rattle.std.proofs.lemmas.Int.{ints, to_z-of_z}
use Rattle.appender_names.specs.declared.rotation.RotationKind.TheVariants.{Never}
use Rattle.appender_names.proofs.Periods.{next_answer, step_is}
use Rattle.appender_names.proofs.rotation.Rotation.next_start.Goals as goal

pub returns : goal.returns
returns c =
    let b = c.round_date.result in
    let fits_moment : FitsSigned w64 c.args.moment = c.ranges.moment in
    let start = simp to_z-of_z at c.round_date.ensures.value in
    let fits : FitsSigned w64 b = search rules in
    let kind : c.args.self.now.kind ≢ Never = c.requires.rotates in
    let small : c.step.result ≤ 604800 = rw c.step.ensures.step (step_is c.args.self.now.kind kind).week in
    let z : to_z w64 (of_z w64 (to_z w64 (of_z w64 b) +ℤ to_z w64 c.step.result)) ≡ b +ℤ pos c.step.result =
    omega (arith, ints, c.round_date.ensures.boundary.not_after, c.requires.moment.1) in
    let both = next_answer c.args.self.now c.args.moment b _ c.step.result kind c.requires.moment start c.step.ensures.step z in
    record { value = sym both.0; boundary = both.1 }
