-- Archives of log files: their names are those that a log gives, with an ending after a dot, as a compressor makes them.
use Rattle.std.specs.Prelude.{ℕ, suc, ℤ, Bool, ◌&&◌, ◌==◌, nat_le, if◌then◌else◌, List, [], ◌∷◌, length, take, Option, None, Some}
use Rattle.std.specs.Char.{is_ascii_alphanumeric}
use Rattle.std.specs.List.{list_all}
use Rattle.std.specs.Option.{option_map, option_and_then}
use Rattle.appender_names.specs.Name.{Naming, reading_at}

-- 1 to 8 ASCII letters or digits
abbrev pub is_ending : List ℕ → Bool
is_ending text = nat_le 1 (length text) && nat_le (length text) 8 && list_all is_ascii_alphanumeric text

-- the place of the dot before such an ending
abbrev pub ending_dot : List ℕ → Option ℕ
ending_dot [] = None
ending_dot (b ∷ bs) = if (b == 46) && is_ending bs then Some 0 else option_map suc (ending_dot bs)

-- what is before that dot, if the name has an ending
abbrev pub before_ending : List ℕ → Option (List ℕ)
before_ending name = option_map (λ at. take at name) (ending_dot name)

-- the second and the number of the log's name that a name is an archive of
abbrev pub archive_at : Naming → List ℕ → Option (ℤ × ℕ)
archive_at n name = option_and_then (reading_at n) (before_ending name)
