use Rattle.std.proofs.Common.{rules, FitsSigned, w64, ◌∙◌, ℤ, Some, ap, sym}
use Rattle.std.proofs.lemmas.Int.{to_z-of_z}
use Rattle.appender_retain.proofs.ByName.{read_unnumbered}
use Rattle.appender_retain.proofs.retain.read.Goals as goal

pub returns-in_ok-read : goal.returns-in_ok-read
returns-in_ok-read c =
    let second = c.in_ok-read.field-0 in
    let fits : FitsSigned w64 second = search rules in
    ap (λ (s : ℤ). Some (s, 0)) (to_z-of_z w64 second fits)
    ∙ sym (read_unnumbered c.args.names.now c.args.name.now second (search rules) (search rules))
