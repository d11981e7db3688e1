use Rattle.std.proofs.Common.{◌<◌, ◌∙◌, ◌++◌, [], arith, ap, length, map, slice_set, sym}
use Rattle.std.proofs.Math.Seq.{map-set_same}
use Rattle.std.proofs.lemmas.List.{get_or-map, length-map, map-set}
use Rattle.line_history.proofs.Places.{how_many, at_place}
use Rattle.line_history.proofs.halves.QueueHalves.add.Goals as goal

pub index_mut-requires : goal.index_mut-requires
index_mut-requires g c = omega (arith, c.sender.invariant.1, how_many (λ k. k.place) c.self.inside.sent.items _ c.self.invariant.0)

pub record-requires : goal.record-requires
record-requires g c =
    ap (λ k. k.place) c.index_mut.ensures.value ∙ at_place (λ k. k.place) c.self.inside.sent.items _ c.sender.inside.place c.index_mut.result.now c.self.invariant.0 c.sender.invariant.1 ∙ sym c.sender.invariant.0

-- the places are as they were
pub invariant_of-self : goal.invariant_of-self
invariant_of-self g c = (
  map-set_same (λ k. k.place) c.self.inside.sent.items c.sender.inside.place c.record.new.kept c.index_mut.result.now (c.record.ensures.place.0 ∙ ap (λ k. k.place) c.index_mut.ensures.value) ∙ c.self.invariant.0,
  c.self.invariant.1,
)

pub returns-clause-same : goal.returns-clause-same
returns-clause-same g c =
    let xs = c.self.inside.sent.items in
    let place = c.sender.inside.place in
    let within : place < length xs = omega (arith, c.sender.invariant.1, how_many (λ k. k.place) xs _ c.self.invariant.0) in
    rw (← c.self.view_is, ← c.sender.view_is) (sym c.record.ensures.same ∙ ap (λ k. k.lines) c.index_mut.ensures.value ∙ sym (get_or-map (λ k. k.lines) xs place c.index_mut.result.now [] within))

pub returns-clause-sent : goal.returns-clause-sent
returns-clause-sent g c =
    let xs = c.self.inside.sent.items in
    let place = c.sender.inside.place in
    let within : place < length xs = omega (arith, c.sender.invariant.1, how_many (λ k. k.place) xs _ c.self.invariant.0) in
    rw (← c.self.view_is, ← c.sender.view_is) (
    map-set (λ k. k.lines) xs place c.record.new.kept
    ∙ ap (λ z. slice_set (map (λ k. k.lines) xs) place z)
    (c.record.ensures.kept ∙ ap (λ z. z ++ g.T.Recorded.lines c.args.value.now) (ap (λ k. k.lines) c.index_mut.ensures.value ∙ sym (get_or-map (λ k. k.lines) xs place c.index_mut.result.now [] within)))
    )

pub returns-clause-within : goal.returns-clause-within
returns-clause-within g c =
    rw (← c.self.view_is, ← c.sender.view_is) (omega (arith, c.sender.invariant.1, length-map c.self.inside.sent.items (λ k. k.lines), how_many (λ k. k.place) c.self.inside.sent.items _ c.self.invariant.0))
