use Rattle.std.proofs.Common.{◌≡◌, ◌+◌, ◌^◌, ◌<◌, arith}
use Rattle.line_history.proofs.Lists.{all_from_push}
use Rattle.appender_non_blocking.proofs.non_blocking.counted.split_shares.Goals as goal

pub loop-place-init : goal.loop-place-init
loop-place-init g c = record {
  parts = omega (arith, c.requires.1);
  amount = c.requires.2;
  count = c.in_ok-made.ensures.len;
  room = c.in_ok-made.ensures.capacity;
  made = rw c.in_ok-made.ensures.items tt;
}

-- the share that was made last has the next place
pub loop-place-preserved : goal.loop-place-preserved
loop-place-preserved g c =
    let inv = c.loop-place.invariant in
    let split = c.split_off-share.ensures in
    let pushed = c.push_reserved.ensures in
    record {
      parts = omega (arith, split.parts_left, inv.parts);
      amount = omega (arith, split.amount_left, inv.amount);
      count = omega (arith, pushed.len, inv.count);
      room = omega (arith, pushed.capacity, inv.room);
      made = rw pushed.items (all_from_push (λ s n. (s.place ≡ n) × (s.place + 1 < g.A.Ledger.parts) × (s.share.parts ≡ 1) × (s.share.amount ≡ 0) × (0 < 2 ^ 64)) c.loop-place.made.items _ 0 inv.made
          (omega (arith, inv.count, c.loop-place.made.ok.0), omega (arith, c.loop-place-test.true, c.requires.0), split.parts, split.amount, omega arith));
    }

pub returns : goal.returns
returns g c =
    let inv = c.loop-place.invariant in
    record {
      count = omega (arith, inv.count, c.loop-place-test.false, c.loop-place.auto.place-end);
      senders = inv.made;
      share = (omega (arith, inv.parts, inv.count, c.loop-place-test.false, c.loop-place.auto.place-end), inv.amount);
    }
