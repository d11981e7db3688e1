use Rattle.std.proofs.Common.{rules, arith, ◌≡◌, refl, sym, ap, ◌∙◌, ◌<◌, [], length, slice_index_or}
use Rattle.std.proofs.lemmas.List.{length-map}
use Rattle.std.proofs.lemmas.Grind.{put_two}
use Rattle.rolltee_core.proofs.Counts.{seen, seen_more, counts_text_more, separator_more, none_more}
use Rattle.rolltee_core.proofs.losses.TeeLossesDisplay.fmt.Goals as goal
use Rattle.rolltee_core.proofs.losses.TeeLossesDisplay.fmt.Goals.{then-count-gt0+in_ok-write, else-count-gt0}

pub loop-words-preserved : goal.loop-words-preserved
loop-words-preserved g c =
    let inv = c.loop-words.invariant in
    let i = c.loop-words.words-index in
    let counts = c.counts-words-items.result in
    let item = slice_index_or counts i (record { ref_ptr = (0, 0); now = [] }, 0) in
    let all : length counts ≡ 5 = sym (length-map counts _) ∙ ap length c.counts-words-items.ensures in
    let within : i < length counts = omega (arith, all, c.loop-words-test.true) in
    let more = seen_more counts i (record { ref_ptr = (0, 0); now = [] }, 0) within in
    elim c.if-count-gt0.branch [
      | then-count-gt0+in_ok-write w ↦ (
        rw w.separator-is (search rules),
        rw (w.separator-is, more) (sym (separator_more (seen i counts) item.0.now item.1 (omega arith))),
        λ plain. let before = inv.2 plain in let now = w.in_ok-write.ensures.writes before.plain refl in
            rw (w.f-is, more) (put_two _ _ _ _ _ _ _ before now (rw inv.1 (sym (counts_text_more (seen i counts) item.0.now item.1 (omega arith))))),
      )
      | else-count-gt0 w ↦
          let same = none_more (seen i counts) item.0.now item.1 (omega arith) in (
            rw w.separator-is inv.0,
            rw (w.separator-is, more, same) inv.1,
            λ plain. rw (w.f-is, more, same) (inv.2 plain),
          )
    ]
