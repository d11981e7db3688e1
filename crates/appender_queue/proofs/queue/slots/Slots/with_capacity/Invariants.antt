use Rattle.std.proofs.Common.{◌≡◌, [], length, true}
use Rattle.appender_queue.specs.Inside.Slots.{slot_lines, is_packed}
use Rattle.appender_queue.proofs.queue.slots.Slots.with_capacity.Given as goal

-- all slots made so far are empty
abbrev pub invariant-loop : goal.invariant-loop
invariant-loop l =
    record { packed : is_packed l.slots.items ≡ true; none : slot_lines l.slots.items ≡ []; long : length l.slots.items ≡ l.counter }
