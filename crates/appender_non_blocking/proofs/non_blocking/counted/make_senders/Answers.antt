use Rattle.std.proofs.Common.{◌≡◌, ◌∙◌, ◌++◌, ◌∷◌, [], ap, arith, refl, rules, subst, sym, vec_len}
use Rattle.std.proofs.lemmas.List.FromFn.{map-range_with_len_more}
use Rattle.line_history.specs.Lines.{AllFrom}
use Rattle.appender_non_blocking.specs.SentLines.{new_sender, new_senders}
use Rattle.appender_non_blocking.proofs.non_blocking.counted.make_senders.Goals as goal

pub loop-mine-init : goal.loop-mine-init
loop-mine-init g c =
    let empty : c.in_ok-made.made.items ≡ [] = search rules in
    let none : vec_len c.in_ok-made.made ≡ 0 = search rules in
    let same : c.into_iter-mine-iterator.result.rest.items ≡ c.args.shares.items = search rules in
    record { made = rw (none, empty) refl; shares = rw (same, none) c.requires; count = search (rules, arith, none); room = search (rules, arith) }

-- the sender that was made last has the next place
pub loop-mine-preserved : goal.loop-mine-preserved
loop-mine-preserved g c =
    let inv = c.loop-mine.invariant in
    let n = vec_len c.loop-mine.made in
    let lossy = c.args.local.now.lossy in
    let pushed = c.push_reserved.ensures in
    let one = subst (λ xs. AllFrom (λ m place. g.B.SenderBooks.has_sent m place []) n xs) c.in-Some.ensures.steps.0 inv.shares in
    let sender : c.new-sender.result ≡ new_sender lossy n = search rules in
    record {
      made = pushed.items ∙ ap (λ xs. xs ++ c.new-sender.result ∷ []) inv.made ∙ ap (λ s. new_senders lossy n ++ s ∷ []) sender
          ∙ sym (map-range_with_len_more (new_sender lossy) 0 n n (omega arith)) ∙ ap (new_senders lossy) (sym pushed.len);
      shares = rw pushed.len one.1;
      count = search (rules, arith);
      room = search (rules, arith);
    }
