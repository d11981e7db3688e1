-- Candidates of retention, their rank, and which of a listing survive.
use Rattle.std.specs.Prelude.{◌≡◌, ◌≢◌, ◌↔◌, ℕ, ◌+◌, ℤ, ◌*ℤ◌, ◌+ℤ◌, pos, Bool, true, false, not, ◌&&◌, ◌||◌, ◌==◌, nat_eq, nat_le, int_lt, if◌then◌else◌, List, [], filter_map, count_by, Option, None, Some, is_some, slice_get, option_and_then, Contains, AllPairs}
use Rattle.std.specs.Option.{option_map, option_map_or}
use Rattle.std.specs.List.{starts_with, ends_with, enumerate_from}
use Rattle.std.specs.Str.{bytes_eq}
use Rattle.std.specs.declared.cmp.Ordering.{Ordering}
use Rattle.std.specs.declared.cmp.Ordering.TheVariants.{Less}
use Rattle.std.specs.Ordering.{nat_cmp, int_cmp, ordering_then, is_lt}
use Rattle.std.specs.Cmp.Lexicographic.{slice_cmp}
use Rattle.appender_names.specs.Rotation.{is_moment, is_same_start, period_of}
use Rattle.appender_names.specs.Name.{Naming, reading, reading_at}
use Rattle.appender_store.specs.Folder.{Row}
use Rattle.appender_store.specs.declared.store.Kind.TheVariants.{File}

-- Which files are log files: by name, those whose names read as names of this log, of a time before that of the file that is opened next; else,
-- as in tracing-appender, those whose names have the prefix and the suffix.
pub record LogFiles : Type 0 where
  pub naming : Naming
  pub by_name : Bool
  pub opened : Option (List ℕ)

abbrev pub log_files_by_parts : Naming → LogFiles
log_files_by_parts n = record { naming = n; by_name = false; opened = None }

-- The name begins with the prefix and ends with the suffix, and these may overlap in it. With neither set it has to read as a date.
abbrev pub has_parts : Naming → List ℕ → Bool
has_parts n name =
    starts_with nat_eq name n.prefix && ends_with nat_eq name n.suffix
    && (not (bytes_eq n.prefix [] && bytes_eq n.suffix []) || is_some (reading n name))

-- The period and the number that a name reads as, as one number: later periods are greater, and so are greater numbers in one period.
abbrev pub key_by_name : Naming → List ℕ → Option ℤ
key_by_name n name = option_and_then (λ (read : ℤ × ℕ).
    if is_moment read.0 && is_same_start (period_of n.rotation read.0) (Some read.0) then Some ((read.0 *ℤ pos 1000000) +ℤ pos read.1) else None) (reading_at n name)

-- By name, the key of the file that is opened next, if its name has one.
abbrev pub opened_key : LogFiles → Option ℤ
opened_key log = option_and_then (key_by_name log.naming) log.opened

-- Whether a key is below that of the file that is opened next, if one is. So neither that file nor a later one is a candidate.
abbrev pub is_before_opened : LogFiles → ℤ → Bool
is_before_opened log key = option_map_or (int_lt key) (opened_key log) (not (is_some log.opened))

-- by name, whether a name is of a later time than the file that is opened next
abbrev pub is_later_name : LogFiles → List ℕ → Bool
is_later_name log name = option_map_or (λ own. option_map_or (int_lt own) (key_by_name log.naming name) false) (opened_key log) false

-- whether an entry is a plain file of such a name
abbrev pub is_later : LogFiles → Row → Bool
is_later log (Some name, File, created) = is_later_name log name
is_later log row = false

-- A log file's key: by name its period and number, if it is before the file that is opened next; else the nanosecond of its creation, or if that is unknown, of the second that its name reads as.
abbrev pub candidate_key : LogFiles → List ℕ → Option ℤ → Option ℤ
candidate_key log name created =
    if log.by_name then option_and_then (λ key. if is_before_opened log key then Some key else None) (key_by_name log.naming name)
    else if has_parts log.naming name then option_map_or Some created (option_map (λ second. second *ℤ pos 1000000000) (reading log.naming name)) else None

-- a candidate's key, name and place
abbrev pub Rank : Type 0
Rank = ℤ × List ℕ × ℕ

-- ranks go by key; of one key by name, byte by byte; of one name by place
abbrev pub rank_cmp : Rank → Rank → Ordering
rank_cmp a b = ordering_then (int_cmp a.0 b.0) (ordering_then (slice_cmp nat_cmp a.1 b.1) (nat_cmp a.2 b.2))

-- the rank of an entry at a place, if it is a candidate: a plain file whose name can be read and has a key
abbrev pub rank_of : LogFiles → ℕ × Row → Option Rank
rank_of log (place, (Some name, File, created)) = option_map (λ key. (key, name, place)) (candidate_key log name created)
rank_of log (place, row) = None

abbrev pub rank_at : LogFiles → List Row → ℕ → Option Rank
rank_at log rows place = option_and_then (λ row. rank_of log (place, row)) (slice_get rows place)

-- all candidates
abbrev pub ranks : LogFiles → List Row → List Rank
ranks log rows = filter_map (rank_of log) (enumerate_from 0 rows)

-- With a maximum, a candidate survives exactly if no more than max - 2 of all candidates rank above it. What is no candidate
-- survives, and without a maximum, which is 0, all do.
abbrev pub rank_survives : ℕ → List Rank → Option Rank → Bool
rank_survives max all own = (max == 0) || option_map_or (λ a. nat_le (count_by (λ b. is_lt (rank_cmp a b)) all + 2) max) own true

-- the same of a place in a listing
abbrev pub survives : LogFiles → ℕ → List Row → ℕ → Bool
survives log max rows place = rank_survives max (ranks log rows) (rank_at log rows place)

-- both places have candidates, and the first has the lower rank
pub record IsRankedBelow (log : LogFiles) (rows : List Row) (low high : ℕ) : Type 0 where
  pub lower : Rank
  pub higher : Rank
  pub at_low : rank_at log rows low ≡ Some lower
  pub at_high : rank_at log rows high ≡ Some higher
  pub below : rank_cmp lower higher ≡ Less

-- The places of a listing to remove: exactly those that don't survive, each once, the lowest rank first.
pub record IsPlan (log : LogFiles) (max : ℕ) (rows : List Row) (gone : List ℕ) : Type 0 where
  pub exact : (place : ℕ) → Contains gone place ↔ (survives log max rows place ≡ false)
  pub once : AllPairs (λ first later. first ≢ later) gone
  pub in_rank_order : AllPairs (IsRankedBelow log rows) gone
