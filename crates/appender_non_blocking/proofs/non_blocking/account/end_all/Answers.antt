use Rattle.std.proofs.Common.{◌≡◌, ◌∙◌, ◌+◌, ◌-◌, ◌^◌, [], length, ap, arith, refl, sym, vec_len}
use Rattle.std.proofs.lemmas.List.Sums.{sum_by_push}
use Rattle.appender_non_blocking.specs.Account.{total_queued, total_dropped}
use Rattle.appender_non_blocking.proofs.Ended.{none_left, none_merged, none_added, one_merged, one_added, all_added}
use Rattle.appender_non_blocking.proofs.non_blocking.account.end_all.Goals as goal

pub loop-sender-init : goal.loop-sender-init
loop-sender-init g c = record {
  parts = refl;
  accepted = none_merged _ _ c.requires;
  dropped = none_added _ _ _ refl;
  small = omega arith;
}

pub loop-sender-preserved : goal.loop-sender-preserved
loop-sender-preserved g c =
    let inv = c.loop-sender.invariant in
    let rest = c.pop.new.self.items in
    let popped = c.in-Some.ensures.items in
    let ended = c.end-mine.ensures in
    let merged = c.merge.ensures in
    record {
      parts = one_merged c.loop-sender.all.parts 1 c.merge.new.self.parts (vec_len c.loop-sender.senders) (vec_len c.pop.new.self) (c.args.part.parts + vec_len c.args.senders) (merged.parts ∙ ap (λ n. c.loop-sender.all.parts + n) ended.share.2) (sym c.in-Some.ensures.len) inv.parts;
      accepted = one_merged c.loop-sender.all.amount (length c.in-Some.sender.lines) c.merge.new.self.amount (total_queued c.loop-sender.senders.items) (total_queued rest) (total_queued c.args.senders.items) (merged.amount ∙ ap (λ n. c.loop-sender.all.amount + n) ended.share.3) (ap total_queued popped ∙ sum_by_push (λ s. length s.lines) rest c.in-Some.sender) inv.accepted;
      dropped = one_added c.loop-sender.dropped c.end-mine.result.1 c.saturating_add-dropped.result (total_dropped c.loop-sender.senders.items) (total_dropped rest) (total_dropped c.args.senders.items) (2 ^ 64 - 1) c.saturating_add-dropped.ensures
          (ap total_dropped popped ∙ sum_by_push (λ s. s.dropped) rest c.in-Some.sender ∙ ap (λ n. total_dropped rest + n) (sym ended.dropped)) inv.dropped;
      small = omega (arith, c.saturating_add-dropped.type_inv);
    }

pub returns : goal.returns
returns g c =
    let inv = c.loop-sender.invariant in
    let none = c.in_default.ensures.cases in
    let empty : c.loop-sender.senders.items ≡ [] = none_left c.loop-sender.senders.items (omega (arith, none.0, c.loop-sender.senders.ok.0)) in
    let parts : c.empty-none.new.self.parts ≡ c.loop-sender.all.parts = rw c.empty-none.ensures.same refl in
    let amount : c.empty-none.new.self.amount ≡ c.loop-sender.all.amount = rw c.empty-none.ensures.same refl in
    record {
      parts = omega (arith, c.merge-2.ensures.parts, c.empty-none.ensures.parts, parts, inv.parts, none.0);
      few = c.merge-2.ensures.apart;
      accepted = omega (arith, c.merge-2.ensures.amount, c.empty-none.ensures.amount, amount, inv.accepted, ap total_queued empty);
      dropped = all_added c.loop-sender.dropped (total_dropped c.loop-sender.senders.items) (total_dropped c.args.senders.items) (2 ^ 64 - 1) (ap total_dropped empty) inv.small inv.dropped;
    }
