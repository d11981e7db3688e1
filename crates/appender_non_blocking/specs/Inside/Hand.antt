-- What a worker took in one hold of the lock, and has not passed on yet.
use Rattle.std.specs.Prelude.{◌≡◌, ℕ, List, [], ◌∷◌}
use Rattle.appender_queue.specs.declared.queue.Taken.{Taken}
use Rattle.appender_queue.specs.declared.queue.Taken.TheVariants.{Line, Shutdown, Gone, Empty}

-- lines only
abbrev pub OnlyLines : List Taken → Type 0
OnlyLines [] = Unit {0}
OnlyLines (Line ticket line ∷ rest) = OnlyLines rest
OnlyLines (Shutdown ∷ rest) = ⊥
OnlyLines (Gone ∷ rest) = ⊥
OnlyLines (Empty ∷ rest) = ⊥

module _ {Pass : Type 0} (takes : Pass → List ℕ → Pass → Type 0) (closes : Pass → Pass → Type 0) (may has_ended : Pass → Type 0) where
  -- from the first shares on these lines were taken, one after another, and last maybe the end of the queue
  abbrev pub Ahead : List Taken → Pass → Pass → Type 0
  Ahead [] first last = last ≡ first
  Ahead (Line ticket line ∷ rest) first last = (next : Pass) × (may next × takes first line.items next) × Ahead rest next last
  Ahead (Shutdown ∷ rest) first last = (rest ≡ []) × (has_ended last × closes first last)
  Ahead (Gone ∷ rest) first last = (rest ≡ []) × (has_ended last × closes first last)
  Ahead (Empty ∷ rest) first last = ⊥

  -- a take found this, and those that followed it found the others
  abbrev pub TakesAhead : Taken → List Taken → Pass → Pass → Type 0
  TakesAhead (Line ticket line) rest first last = (next : Pass) × (may next × takes first line.items next) × Ahead rest next last
  TakesAhead Shutdown rest first last = (rest ≡ []) × (has_ended last × closes first last)
  TakesAhead Gone rest first last = (rest ≡ []) × (has_ended last × closes first last)
  TakesAhead Empty rest first last = (rest ≡ []) × (may last × (last ≡ first))
