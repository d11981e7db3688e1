use Rattle.std.proofs.Common.{◌≡◌, ◌≢◌, ◌++◌, [], ◌∷◌, Ok, ap, refl, sym, subst, ◌∙◌, arith, append_assoc, append-nil, length-append, count_by, flat_map, cond}
use Rattle.std.specs.Io.BufRead.{take_through, drop_through}
use Rattle.std.specs.Io.KnownBytes.{Appends, IsAtEnd}
use Rattle.std.proofs.KnownBytes.{Appends-trans}
use Rattle.std.proofs.lemmas.List.Concat.{flat_map-append}
use Rattle.std.proofs.lemmas.List.Sums.{sum_by-append}
use Rattle.tracing_appender.specs.Parts.{part, written_of, is_cut}
use Rattle.callers.specs.Supervisor.{AreLines}
use Rattle.callers.proofs.Copies.{joined, last, next}
use Rattle.callers.proofs.supervisor.copy.Goals as goal

-- no line was read, so none is left
pub returns-then-not-branch-clause-lines : goal.returns-then-not-branch-clause-lines
returns-then-not-branch-clause-lines g c = λ text known.
    let (done, rest, left, whole, counted, all, parts, are, count, cut, written) = c.loop.invariant.2 text known in
    let end = c.in_ok-read_line.ensures.end (ap Ok c.if-not-branch.true) in
    last c.loop.copied.lines rest text counted (subst IsAtEnd left end)

pub returns-then-not-branch-clause-cut : goal.returns-then-not-branch-clause-cut
returns-then-not-branch-clause-cut g c = λ text known.
    let (done, rest, left, whole, counted, all, parts, lines, count, cut, written) = c.loop.invariant.2 text known in
    let end = c.in_ok-read_line.ensures.end (ap Ok c.if-not-branch.true) in
    record {
      parts = parts;
      lines = subst (λ ps. AreLines ps text) (append-nil parts) (lines [] (subst IsAtEnd left end));
      count = sym count;
      cut = sym cut;
      written = written;
    }

-- one line more
pub loop-preserved : goal.loop-preserved
loop-preserved g c =
    let read = c.in_ok-read_line.ensures in
    let (taken, one_cut, more) = c.cut_of.ensures.cut in
    let (passes, bound, lines) = c.loop.invariant in (
      omega (arith, passes),
      omega (arith, bound, c.cut_of.ensures.one),
      λ text known.
          let (done, rest, left, whole, counted, all, parts, are, count, cut, written) = lines text known in
          let line = read.line rest left in
          let front = take_through 10 rest in
          let slice = c.as_slice.ensures.value ∙ line in
          let some : front ≢ [] = λ none. read.some (ap Ok c.if-not-branch.false) (line ∙ none) in (
            done ++ front,
            drop_through 10 rest,
            read.rest rest left,
            append_assoc done front (drop_through 10 rest) ∙ ap (λ t. done ++ t) (joined 10 rest) ∙ whole,
            λ n h. next c.loop.copied.lines n rest text counted some h,
            λ none_cut. Appends-trans _ _ _ done front (all (omega (arith, none_cut)))
                (subst (λ t. Appends (g.W.Write.contents c.loop.log) (g.W.Write.contents c.cut_of.new.log) t)
                slice (c.cut_of.ensures.whole (omega (arith, none_cut)))),
            parts ++ part front taken ∷ [],
            λ others h. subst (λ ps. AreLines ps text) (sym (append_assoc parts (part front taken ∷ []) others))
                (are (part front taken ∷ others) (λ none. some (ap (take_through 10) none), refl, h)),
            omega (arith, count, length-append parts (part front taken ∷ [])),
            (let both = sum_by-append (λ p. cond (is_cut p) 1 0) parts (part front taken ∷ []) in
                let same : count_by is_cut (part c.as_slice.result.now taken ∷ []) ≡ count_by is_cut (part front taken ∷ [])
                = ap (λ l. count_by is_cut (part l taken ∷ [])) slice in
                omega (arith, both, same, cut, one_cut)),
            (rw (flat_map-append written_of parts (part front taken ∷ []))
                (Appends-trans _ _ _ (flat_map written_of parts) _ written
                (subst (λ t. Appends (g.W.Write.contents c.loop.log) (g.W.Write.contents c.cut_of.new.log) t)
                (ap (λ l. written_of (part l taken)) slice ∙ sym (append-nil (written_of (part front taken)))) more))),
          ),
    )
