use Rattle.std.proofs.Common.{◌∙◌, ap, sym, List, ◌++◌, ℕ}
use Rattle.appender_store.proofs.MemoryEntryLemmas.{bodies_set, bodies_same, bodies_item, always_on_err}
use Rattle.appender_store.proofs.store.entries.add_bytes.Goals as goal

pub returns-clause-ok : goal.returns-clause-ok
returns-clause-ok c =
    bodies_set c.extend_from_slice.new.self c.args.bodies.now.items c.args.at c.args.bytes.now
    (c.in_ok-extend_from_slice.ensures.items ∙ ap (λ (x : List ℕ). x ++ c.args.bytes.now) (ap (λ v. v.items) c.index_mut.ensures.value ∙ sym (bodies_item c.args.bodies.now.items c.args.at c.index_mut.result.now c.requires)))

pub returns-in_err-extend_from_slice-clause-err : goal.returns-in_err-extend_from_slice-clause-err
returns-in_err-extend_from_slice-clause-err c =
    always_on_err c.from_residual.result
    (bodies_same c.extend_from_slice.new.self c.args.bodies.now.items c.args.at
    (c.in_err-extend_from_slice.ensures.items ∙ ap (λ v. v.items) c.index_mut.ensures.value ∙ sym (bodies_item c.args.bodies.now.items c.args.at c.index_mut.result.now c.requires)))
