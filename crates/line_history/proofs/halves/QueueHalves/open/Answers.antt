use Rattle.std.proofs.Common.{◌≡◌, ◌∙◌, [], arith, length, sym, ap, rules, vec_len}
use Rattle.std.specs.List.{range_with_len}
use Rattle.line_history.proofs.Lists.{all_from_push, names_follow, name_first}
use Rattle.line_history.proofs.Places.{nothing_sent, places_new}
use Rattle.line_history.proofs.halves.QueueHalves.open.Goals as goal

pub open-kept-requires : goal.open-kept-requires
open-kept-requires g c =
    name_first (λ b. b.name) g.H.Histories.name _ c.loop-blank.blank-iterator.rest.items c.next.new.self.rest.items c.in-Some-blank.blank c.loop-blank.invariant.2 c.in-Some-blank.ensures.steps.0 ∙ ap g.H.Histories.name (sym c.len-place.ensures)

pub loop-blank-preserved : goal.loop-blank-preserved
loop-blank-preserved g c =
    let all = c.loop-blank.invariant in
    let opened = c.open-kept.ensures in
    let kept = c.push_reserved.ensures in
    let mine = c.push_reserved-in-loop-blank.ensures in
    let more = all_from_push (λ k n. (k.place ≡ n) × (k.lines ≡ [])) c.loop-blank.sent.items c.open-kept.result.0 0 all.0 (omega (arith, opened.kept.0, c.len-place.ensures), opened.kept.1) in
    let one = all_from_push (λ s n. (s.place ≡ n) × (s.lines ≡ [])) c.loop-blank.senders.items _ 0 all.1 (omega (arith, c.len-place.ensures, all.3), opened.mine.1) in (
      rw kept.items more,
      rw mine.items one,
      names_follow (λ b. b.name) g.H.Histories.name _ _ c.loop-blank.blank-iterator.rest.items c.next.new.self.rest.items c.in-Some-blank.blank all.2 c.in-Some-blank.ensures.steps.0 search rules,
      search rules,
      search rules,
      search rules,
      search rules,
    )

-- no blank is left
pub invariant_of-result : goal.invariant_of-result
invariant_of-result g c =
    let all = c.loop-blank.invariant in
    let none : length c.loop-blank.blank-iterator.rest.items ≡ 0 = search (rules, arith, c.in-None.ensures.steps.0) in
    let as_long : length c.loop-blank.sent.items ≡ vec_len c.loop-blank.sent = search rules in
    let count : vec_len c.loop-blank.sent ≡ g.H.QueueHistories.senders = omega (arith, all.4, none) in
    (places_new (λ k. k.place) (λ k. k.lines) c.loop-blank.sent.items 0 all.0 ∙ ap (λ n. range_with_len 0 n) (as_long ∙ count), c.open-taken.ensures.kept.0 ∙ c.len-3.ensures ∙ count)

pub returns-clause-sent : goal.returns-clause-sent
returns-clause-sent g c = nothing_sent (λ k. k.place) (λ k. k.lines) c.loop-blank.sent.items 0 c.loop-blank.invariant.0
