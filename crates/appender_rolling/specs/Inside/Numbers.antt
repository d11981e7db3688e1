-- The number of the first file, as it is found: name by name.
use Rattle.std.specs.Prelude.{ℕ, ◌+◌, ℤ, Bool, true, false, ◌&&◌, if◌then◌else◌, nat_lt, min, max, option_and_then, List, [], ◌∷◌, Some}
use Rattle.std.specs.Option.{option_map_or}
use Rattle.appender_names.specs.declared.rotation.Rotation.{Rotation}
use Rattle.appender_names.specs.Rotation.{is_in_period, is_same_start, period_of}
use Rattle.appender_names.specs.Archive.{archive_at}
use Rattle.appender_names.specs.Name.{Naming, reading_at}
use Rattle.appender_store.specs.Folder.{Row}
use Rattle.appender_store.specs.declared.store.Kind.{Kind}
use Rattle.appender_store.specs.declared.store.Kind.TheVariants.{File as PlainFile}

-- the number after this one, and at most 999999, if its second is in the moment's period; else 0
abbrev pub number_after : Rotation → ℤ → ℤ × ℕ → ℕ
number_after r m key = if is_in_period r m key.0 then (if nat_lt key.1 999999 then key.1 + 1 else 999999) else 0

abbrev pub is_plain : Kind → Bool
is_plain PlainFile = true
is_plain kind = false

-- a plain file whose name reads as the start of the moment's period has a name that the log itself gives
abbrev pub continues_at : Rotation → ℤ → ℤ → Kind → Bool
continues_at r m second kind = is_plain kind && is_same_start (period_of r m) (Some second)

-- the number after that of a listed name, or that number itself if its file is continued; 0 for a name that doesn't read
abbrev pub number_after_row : Naming → Bool → ℤ → Row → ℕ
number_after_row n continues m row =
    option_map_or (λ (key : ℤ × ℕ). if continues && continues_at n.rotation m key.0 row.1 then min key.1 999999 else number_after n.rotation m key) (option_and_then (reading_at n) row.0) 0

-- the number after that of the log's name of which a listed name is an archive's; 0 for another name
abbrev pub number_after_archive : Naming → ℤ → Row → ℕ
number_after_archive n m row = option_map_or (number_after n.rotation m) (option_and_then (archive_at n) row.0) 0

-- the greater of both, if archives count
abbrev pub number_after_listed : Naming → Bool → Bool → ℤ → Row → ℕ
number_after_listed n by_name continues m row =
    if by_name then max (number_after_row n continues m row) (number_after_archive n m row) else number_after_row n continues m row

-- the greatest of them, which is 0 if no listed name is one of the period
abbrev pub first_number : Naming → Bool → Bool → ℤ → List Row → ℕ
first_number n by_name continues m [] = 0
first_number n by_name continues m (row ∷ rows) = max (number_after_listed n by_name continues m row) (first_number n by_name continues m rows)
