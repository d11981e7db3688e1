use Rattle.std.proofs.Common.{◌∙◌, ◌++◌, ◌∷◌, [], ℕ, List, ap, append_assoc, arith, length, subst, sym}
use Rattle.std.proofs.lemmas.List.{length-append}
use Rattle.line_history.specs.Interleaving.{IsInterleaving}
use Rattle.appender_channel.proofs.books.LineBooksBooks.accept.Goals as goal

-- the line waits behind the others
pub returns : goal.returns
returns g c t agree small =
    let line = c.args.line.now.value.items in
    let taken = c.args.self.now.halves.taken in
    let rest = agree.4.0 in
    let sent = c.send.ensures.sent (taken ++ rest) agree.4.1 in
    let moved = subst (λ ls. IsInterleaving c.send.new.self.sent ls) (append_assoc taken rest (line ∷ []) ∙ ap (λ z. z ++ (rest ++ line ∷ [])) (sym c.send.ensures.taken)) sent in
    let long = ap (λ (z : List (List ℕ)). length z) c.send.ensures.lines in (
      (
        agree.0,
        agree.1,
        agree.2,
        ap (λ (z : List (List ℕ)). length z) c.send.ensures.taken ∙ agree.3,
        (
          rest ++ line ∷ [],
          moved,
          omega (arith, agree.4.2, length-append rest (line ∷ [])),
          λ opened. ap (λ z. z ++ line ∷ []) (agree.4.3 opened),
        ),
      ),
      (
        c.send.ensures.place,
        c.send.ensures.lines,
        omega (arith, small, agree.3, agree.4.2, long, length-append c.args.mine.now.lines (line ∷ []), length-append taken rest, c.send.ensures.few (taken ++ rest) agree.4.1),
      ),
    )
