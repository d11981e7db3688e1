-- The text of what a run lost.
use Rattle.std.specs.Prelude.{◌≡◌, ℕ, List, [], ◌∷◌, ◌++◌, not, ◌==◌, codes, decimal}
use Rattle.std.specs.List.{filter, join_by}
use Rattle.rolltee_core.specs.declared.losses.TeeLosses.{TeeLosses}

abbrev pub nothing_lost : TeeLosses
nothing_lost = record { unwritten = 0; dropped = 0; unechoed = 0; gone = 0; unsynced = 0 }

-- the words and the number of each count, in the order in which they are reported
abbrev pub losses_counts : TeeLosses → List (List ℕ × ℕ)
losses_counts losses =
    (codes "lines not written whole", losses.unwritten)
    ∷ (codes "lines dropped", losses.dropped)
    ∷ (codes "lines not echoed", losses.unechoed)
    ∷ (codes "log files not found again", losses.gone)
    ∷ (codes "syncs that failed", losses.unsynced)
    ∷ []

-- the words, and the number in decimal
abbrev pub count_text : List ℕ × ℕ → List ℕ
count_text (words, number) = words ++ (codes ": " ++ decimal number)

-- those counts that are not 0, separated by `; `
abbrev pub counts_text : List (List ℕ × ℕ) → List ℕ
counts_text counts = join_by count_text (codes "; ") (filter (λ count. not (count.1 == 0)) counts)

abbrev pub losses_text : TeeLosses → List ℕ
losses_text losses = counts_text (losses_counts losses)

-- no line was not written whole, no file was not found again, and no sync failed
pub record HasLostNothing (losses : TeeLosses) : Type 0 where
  pub unwritten : losses.unwritten ≡ 0
  pub gone : losses.gone ≡ 0
  pub unsynced : losses.unsynced ≡ 0
