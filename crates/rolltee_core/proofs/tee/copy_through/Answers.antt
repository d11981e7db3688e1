use Rattle.std.proofs.Common.{sym, ◌∙◌}
use Rattle.rolltee_core.proofs.Openings.{if_ok_by}
use Rattle.rolltee_core.proofs.Outcome.{three_items}
use Rattle.rolltee_core.proofs.Taken.{logs_input}
use Rattle.rolltee_core.proofs.tee.copy_through.Goals as goal

pub returns-clause-written : goal.returns-clause-written
returns-clause-written g c =
    let words = three_items c.args.arguments.now _ _ _ c.in-len3.len_at_least c.in-len3.len_below c.rotation-item.is c.directory-item.is c.prefix-item.is in
    if_ok_by c.copy_to.result (λ echoed took text is. logs_input c.rotation-item.result c.directory-item.result c.prefix-item.result words (sym c.as_str.ensures.value ∙ c.in_ok-rotation.ensures.rotation) (took.took text is)) c.copy_to.ensures

pub returns-then-has-clause-written : goal.returns-then-has-clause-written
returns-then-has-clause-written g c =
    let words = three_items c.args.arguments.now _ _ _ c.in-len3.len_at_least c.in-len3.len_below c.rotation-item.is c.directory-item.is c.prefix-item.is in
    if_ok_by c.copy_directly.result (λ echoed took text is. logs_input c.rotation-item.result c.directory-item.result c.prefix-item.result words (sym c.as_str.ensures.value ∙ c.in_ok-rotation.ensures.rotation) (took.took text is)) c.copy_directly.ensures
