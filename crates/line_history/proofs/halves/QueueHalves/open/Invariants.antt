use Rattle.std.proofs.Common.{◌≡◌, ℕ, ◌<◌, map, slice_index, vec_len, ◌+◌, length}
use Rattle.std.specs.Vec.{vec_capacity}
use Rattle.line_history.specs.Lines.{AreNew}
use Rattle.line_history.proofs.halves.QueueHalves.open.Given as goal

-- the opened ones are new, and the others are those of the places that follow
abbrev pub invariant-loop-blank : goal.invariant-loop-blank
invariant-loop-blank g l =
    AreNew (λ k. k.place) (λ k. k.lines) 0 l.sent.items
    × AreNew (λ s. s.place) (λ s. s.lines) 0 l.senders.items
    × ((i : ℕ) → i < length l.blank-iterator.rest.items → slice_index (map (λ b. b.name) l.blank-iterator.rest.items) i ≡ g.H.Histories.name (vec_len l.sent + i))
    × (vec_len l.senders ≡ vec_len l.sent)
    × (vec_len l.sent + length l.blank-iterator.rest.items ≡ g.H.QueueHistories.senders)
    × (vec_capacity l.sent ≡ g.H.QueueHistories.senders)
    × (vec_capacity l.senders ≡ g.H.QueueHistories.senders)
