use Rattle.std.proofs.Common.{◌∙◌, ◌++◌, ◌∷◌, [], ℕ, List, ap, append_assoc, arith, drop, length, subst, sym}
use Rattle.std.proofs.lemmas.List.{length-append}
use Rattle.line_history.specs.Interleaving.{IsInterleaving}
use Rattle.appender_channel.proofs.books.LineBooksBooks.hand.Goals as goal

-- the handed line is the first one of those that wait
pub returns-clause-agree : goal.returns-clause-agree
returns-clause-agree g c t rest agree opened first =
    let halves = c.args.self.now.halves in
    let line = c.args.line.now.items in
    let waits = agree.4.3 opened ∙ first in
    let over = ap (λ (z : List (List ℕ)). halves.taken ++ z) waits ∙ sym (append_assoc halves.taken (line ∷ []) rest) ∙ ap (λ (z : List (List ℕ)). z ++ rest) (sym c.take.ensures.taken) in (
      agree.0,
      agree.1,
      agree.2,
      omega (arith, ap (λ (z : List (List ℕ)). length z) c.take.ensures.taken, length-append halves.taken (line ∷ []), agree.3),
      (
        rest,
        subst (λ z. IsInterleaving z (c.take.new.self.taken ++ rest)) (sym c.take.ensures.sent) (subst (λ z. IsInterleaving halves.sent z) over agree.4.1),
        omega (arith, agree.4.2, ap (λ (z : List (List ℕ)). length z) waits),
        λ _. sym (ap (λ (z : List (List ℕ)). drop 1 z) first),
      ),
    )
