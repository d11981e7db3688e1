use Rattle.std.proofs.Common.{◌≡◌, inl, inr, rules, subst, sym}
use Rattle.appender_queue.specs.QueueChanges.{ShutChanges}
use Rattle.appender_channel.specs.Tally.{tally_of}
use Rattle.appender_channel.proofs.state.State.shut.Goals.{in-Sent, in-Already}
use Rattle.appender_channel.proofs.state.State.shut.Goals as goal

-- only a shutdown that was sent changes queue and books
pub invariant_of-self : goal.invariant_of-self
invariant_of-self g c =
    let leaves = c.shutdowns_change_little.ensures c.self.inside.queue c.shut-reply.new.self c.shut-reply.result c.shut-reply.ensures in
    elim c.match-reply.branch [
      | in-Sent w ↦
          rw w.self-inside-is (
            c.shut-reply.ensures.lawful,
            search rules,
            c.wake_up-wakeups.ensures.room,
            search rules,
          )
      | in-Already w ↦
          let unchanged : c.shut-reply.new.self ≡ c.self.inside.queue = elim w.in-Already.is [
            | inl e ↦ subst (λ reply. ShutChanges c.self.inside.queue c.shut-reply.new.self reply) e leaves
            | inr (inl e) ↦ subst (λ reply. ShutChanges c.self.inside.queue c.shut-reply.new.self reply) e leaves
            | inr (inr e) ↦ subst (λ reply. ShutChanges c.self.inside.queue c.shut-reply.new.self reply) e leaves
          ] in
          rw w.self-inside-is (
            c.shut-reply.ensures.lawful,
            subst (λ q. g.B.Books.agree c.self.inside.books (tally_of q)) (sym unchanged) c.self.invariant.1,
            c.wake_up-wakeups.ensures.room,
            search rules,
          )
    ]
