-- What a take leaves of the counts and of the lines that wait.
use Rattle.std.proofs.Common.{◌≡◌, ◌∙◌, ℕ, ◌<◌, List, [], ◌∷◌, Bool, true, false, not, ◌&&◌, ◌||◌, ◌==◌, length, drop, arith, ap, refl, slice_index_or}
use Rattle.std.proofs.lemmas.Bool.Decides.{nat_tests}
use Rattle.std.specs.Prelude.{if◌then◌else◌}
use Rattle.appender_queue.specs.Queue.{Queue, IsLawful, has_line, is_sent}
use Rattle.appender_queue.specs.QueueCalls.{Takes}
use Rattle.appender_queue.specs.declared.queue.Taken.{Taken}
use Rattle.appender_queue.specs.declared.queue.Taken.TheVariants.{Line, Shutdown, Gone, Empty}
use Rattle.appender_channel.specs.Tally.{Tally, tally_of, with_handed, with_closing}

-- a line was the first one of an open queue, an end closes the queue, and else nothing changes
abbrev pub CountsTake : Tally → Tally → Taken → Type 0
CountsTake t new (Line ticket line) = (new ≡ with_handed t) × (t.closings ≡ 0) × (t.lines ≡ line.items ∷ drop 1 t.lines)
CountsTake t new Shutdown = new ≡ with_closing t
CountsTake t new Gone = new ≡ with_closing t
CountsTake t new Empty = new ≡ t

first_line : (xs : List (List ℕ)) → 0 < length xs → xs ≡ slice_index_or xs 0 [] ∷ drop 1 xs
first_line [] some = absurd (omega (arith, some))
first_line (x ∷ xs) some = refl

no_line : (xs : List (List ℕ)) → length xs ≡ 0 → xs ≡ []
no_line [] none = refl
no_line (x ∷ xs) none = absurd (omega (arith, none))

-- a closed queue has no line
closed_is_empty : (q : Queue) → IsLawful q → q.closed ≡ true → q.lines ≡ []
closed_is_empty q lawful closed = let counted = rw closed at lawful.counted in no_line q.lines (omega (arith, counted))

gone_case : (closed line sent none : Bool) (a b c d e : Queue) (t : Tally) → (closed || (not line && (not sent && none))) ≡ true
    → (closed ≡ true → tally_of a ≡ t) → tally_of c ≡ t → tally_of d ≡ t
    → tally_of (if closed then a else if line then b else if sent then c else if none then d else e) ≡ t
gone_case true line sent none a b c d e t is was ends ends' = was refl
gone_case false true sent none a b c d e t is was ends ends' = cc
gone_case false false true none a b c d e t is was ends ends' = ends
gone_case false false false true a b c d e t is was ends ends' = ends'
gone_case false false false false a b c d e t is was ends ends' = cc

pub take_is_counted : (q new : Queue) (waits : Bool) (taken : Taken) → IsLawful q → Takes q waits taken new
    → CountsTake (tally_of q) (tally_of new) taken
take_is_counted q new waits (Line ticket line) lawful takes =
    let counted = rw takes.reply.0 at lawful.counted in
    let before : q.handed < q.accepted = grind (arith, nat_tests, takes.reply.1) in (
      ap tally_of takes.after ∙ rw (takes.reply.0, takes.reply.1) refl,
      rw takes.reply.0 refl,
      rw takes.reply.3 (first_line q.lines (omega (arith, counted, before))),
    )
take_is_counted q new waits Shutdown lawful takes = ap tally_of takes.after ∙ rw (takes.reply.0, takes.reply.1, takes.reply.2) refl
take_is_counted q new waits Gone lawful takes =
    ap tally_of takes.after
    ∙ gone_case q.closed (has_line q) (is_sent q.shutdown) (q.senders == 0) _ _ _ _ _ _ takes.reply (λ closed. rw (closed, closed_is_empty q lawful closed) refl) refl refl
take_is_counted q new waits Empty lawful takes = ap tally_of takes.after ∙ rw (takes.reply.0, takes.reply.1, takes.reply.2, takes.reply.3) refl
