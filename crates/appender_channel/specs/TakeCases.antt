-- What holds if a take returns a line, the end, or nothing.
use Rattle.std.specs.Prelude.{ℕ, List}
use Rattle.appender_queue.specs.declared.queue.Taken.{Taken}
use Rattle.appender_queue.specs.declared.queue.Taken.TheVariants.{Line, Shutdown, Gone, Empty}

-- a fact of the bytes of the line, if a line was taken
abbrev pub IfLine : Taken → (List ℕ → Type 0) → Type 0
IfLine (Line ticket line) P = P line.items
IfLine taken P = Unit {0}

-- a fact, if the end was taken: the shutdown, or that all senders are gone
abbrev pub IfEnd : Taken → Type 0 → Type 0
IfEnd Shutdown P = P
IfEnd Gone P = P
IfEnd taken P = Unit {0}

-- a fact, if nothing was taken
abbrev pub IfEmpty : Taken → Type 0 → Type 0
IfEmpty Empty P = P
IfEmpty taken P = Unit {0}
