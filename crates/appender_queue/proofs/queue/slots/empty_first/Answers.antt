use Rattle.std.proofs.Common.{◌<◌, length, ◌∙◌, sym}
use Rattle.appender_queue.proofs.Packed.{first_full, first_out}
use Rattle.appender_queue.specs.Inside.Slots.{slot_lines}
use Rattle.appender_queue.proofs.queue.slots.empty_first.Goals as goal

pub unreachable-requires : goal.unreachable-requires
unreachable-requires c =
    let some : 0 < length (slot_lines c.args.slots.now) = rw c.requires.full at c.requires.some in
    first_full c.args.slots.now c.index-slots-0.result c.requires.packed some (sym c.take.ensures.value ∙ c.in_default.is)

pub returns-clause-lines : goal.returns-clause-lines
returns-clause-lines c =
    let emptied = c.take.ensures.after in
    let turned = rw emptied at c.rotate_left.ensures.after in
    rw emptied (first_out c.args.slots.now c.args.full c.index-slots-0.result c.in-Some.first c.rotate_left.new.self c.requires.packed
    c.requires.full c.requires.some (sym c.take.ensures.value ∙ c.in-Some.is) turned).0

pub returns-clause-packed : goal.returns-clause-packed
returns-clause-packed c =
    let emptied = c.take.ensures.after in
    let turned = rw emptied at c.rotate_left.ensures.after in
    rw emptied (first_out c.args.slots.now c.args.full c.index-slots-0.result c.in-Some.first c.rotate_left.new.self c.requires.packed
    c.requires.full c.requires.some (sym c.take.ensures.value ∙ c.in-Some.is) turned).1
