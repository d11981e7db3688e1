-- What many threads sent, in the one order in which it arrived.
use Rattle.std.specs.Prelude.{◌≡◌, ◌==◌, ℕ, List, [], map, filter, slice_index_or}

-- a line, and the place of the thread that sent it
pub record PlacedLine : Type 0 where
  pub place : ℕ
  pub line : List ℕ

abbrev pub lines_of : List PlacedLine → List (List ℕ)
lines_of entries = map (λ e. e.line) entries

-- the lines that were sent from a place, in their order
abbrev pub lines_from : ℕ → List PlacedLine → List (List ℕ)
lines_from place entries = lines_of (filter (λ e. e.place == place) entries)

-- Each of these lines was sent from one place, and the lines of each place are exactly those that were sent from it, in their
-- order: no line more, none less, none twice. `sent` has the lines of the places 0, 1, 2, ..
pub record IsInterleaving (sent : List (List (List ℕ))) (lines : List (List ℕ)) : Type 0 where
  pub entries : List PlacedLine
  pub all : lines_of entries ≡ lines
  pub each : (place : ℕ) → lines_from place entries ≡ slice_index_or sent place []

-- what a sender sent, and its place
pub record SentFrom : Type 0 where
  pub place : ℕ
  pub lines : List (List ℕ)

-- what is kept under the lock of a queue: the lines of each sender, and those that were taken
pub record Halves : Type 0 where
  pub sent : List (List (List ℕ))
  pub taken : List (List ℕ)
