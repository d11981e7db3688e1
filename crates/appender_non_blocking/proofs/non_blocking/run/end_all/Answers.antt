use Rattle.std.proofs.Common.{◌≡◌, ◌∙◌, ◌+◌, ◌-◌, ◌^◌, ◌++◌, [], length, map, append-nil, ap, arith, refl, sym}
use Rattle.std.proofs.lemmas.List.Sums.{sum_by-cons}
use Rattle.appender_non_blocking.specs.Account.{total_dropped}
use Rattle.appender_non_blocking.proofs.Ended.{none_left, none_added, one_ended, one_added, all_added}
use Rattle.appender_non_blocking.proofs.non_blocking.run.end_all.Goals as goal

pub loop-sender-init : goal.loop-sender-init
loop-sender-init g c =
    let same = c.into_iter-sender-iterator.ensures.into_iter_gives.0 in
    record {
      lines = rw (c.requires.empty, same) refl;
      dropped = none_added _ _ _ (ap total_dropped same);
      room = omega (arith, c.requires.room, ap length c.requires.empty, ap length same, c.args.histories.ok.0, c.args.senders.ok.0);
      small = omega arith;
    }

pub loop-sender-preserved : goal.loop-sender-preserved
loop-sender-preserved g c =
    let inv = c.loop-sender.invariant in
    let next = c.in-Some.ensures.steps.0 in
    let rest = c.next.new.self.rest.items in
    let ended = c.end-history.ensures in
    let pushed = c.push_reserved.ensures in
    let left : total_dropped c.loop-sender.sender-iterator.rest.items ≡ total_dropped rest + c.end-history.result.1 = omega (arith, ap total_dropped next, sum_by-cons (λ s. s.dropped) c.in-Some.sender rest, ended.dropped) in
    record {
      lines = one_ended c.loop-sender.histories.items c.push_reserved.new.self.items c.loop-sender.sender-iterator.rest.items rest c.end-history.result.0 c.in-Some.sender (λ h. h.lines) (λ s. s.lines) _ pushed.items next ended.share.1 inv.lines;
      dropped = one_added c.loop-sender.dropped c.end-history.result.1 c.saturating_add-dropped.result (total_dropped c.loop-sender.sender-iterator.rest.items) (total_dropped rest) (total_dropped c.args.senders.items) (2 ^ 64 - 1) c.saturating_add-dropped.ensures left inv.dropped;
      room = omega (arith, inv.room, pushed.len, pushed.capacity, ap length next);
      small = omega (arith, c.saturating_add-dropped.type_inv);
    }

pub returns : goal.returns
returns g c =
    let inv = c.loop-sender.invariant in
    let rest = c.loop-sender.sender-iterator.rest in
    let none : rest.items ≡ [] = none_left rest.items (omega (arith, c.in-None.ensures.steps.0, rest.ok.0)) in
    record {
      lines = sym (ap (λ t. map (λ h. h.lines) c.loop-sender.histories.items ++ map (λ s. s.lines) t) none ∙ append-nil (map (λ h. h.lines) c.loop-sender.histories.items)) ∙ inv.lines;
      dropped = all_added c.loop-sender.dropped (total_dropped rest.items) (total_dropped c.args.senders.items) (2 ^ 64 - 1) (ap total_dropped none) inv.small inv.dropped;
    }
