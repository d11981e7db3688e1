-- How a run began.
use Rattle.std.specs.Prelude.{ℕ, ◌-◌, ℤ}
use Rattle.appender_rolling.specs.Config.{Config}
use Rattle.appender_rolling.specs.declared.rolling.setup.Stamp.{Stamp}

-- The moment and the number of the first file, and how many bytes of the limit were used when it was opened.
pub record Start : Type 0 where
  pub stamp : Stamp
  pub held : ℕ

-- the same by how many bytes of the limit were left
abbrev pub start_of : Config → ℤ → ℕ → ℕ → Start
start_of c moment number room = record { stamp = record { moment = moment; number = number }; held = c.max_bytes - room }
