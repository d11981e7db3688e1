-- Counts, notices and listings of a folder.
use Rattle.std.specs.Prelude.{◌≡◌, ◌⊎◌, ℕ, ◌+◌, ◌-◌, ◌^◌, ◌<◌, min, ℤ, Bool, List, map, Option, None, Some, Result, MatchResult, IsTrue, string_bytes}
use Rattle.std.specs.Option.{option_map}
use Rattle.std.specs.List.Sorted.{IsPermutation}
use Rattle.std.specs.FinMap as fin
use Rattle.std.specs.IoError.{error_kind}
use Rattle.std.specs.declared.io.Error.{Error}
use Rattle.std.specs.declared.io.ErrorKind.TheVariants.{OutOfMemory}
use Rattle.appender_store.specs.Content.{Content, Entry, File, Link, Folder}
use Rattle.appender_names.specs.declared.error.InitError.{InitError}
use Rattle.appender_store.specs.declared.store.Kind.{Kind}
use Rattle.appender_store.specs.declared.store.Kind.TheVariants.{File as PlainFile, Folder as PlainFolder, Link as PlainLink}
use Rattle.appender_store.specs.declared.store.Listed.{Listed}
use Rattle.appender_store.specs.declared.store.Notice.{Notice}
use Rattle.appender_store.specs.declared.store.Notice.TheVariants.{List as ListFault, Remove as RemoveFault, Flush as FlushFault, Open as OpenFault}
use Rattle.appender_store.specs.declared.store.NoticeKind.{NoticeKind}
use Rattle.appender_store.specs.declared.store.NoticeKind.TheVariants.{List as OfList, Remove as OfRemove, Flush as OfFlush, Open as OfOpen}

-- how often each kind of notice was noted
pub record NotedCounts : Type 0 where
  pub lists : ℕ
  pub removes : ℕ
  pub flushes : ℕ
  pub opens : ℕ

-- each count is of 64 bits
pub record AreNotedCounts (n : NotedCounts) : Type 0 where
  pub lists : n.lists < 2 ^ 64
  pub removes : n.removes < 2 ^ 64
  pub flushes : n.flushes < 2 ^ 64
  pub opens : n.opens < 2 ^ 64

-- The count after one call, failure or notice more. The greatest count of 64 bits stays, so that no count falls.
abbrev pub next_count : ℕ → ℕ
next_count n = min (n + 1) (2 ^ 64 - 1)

-- the counts after one notice more of this kind
abbrev pub after_note : NoticeKind → NotedCounts → NotedCounts
after_note OfList n = record n { lists = next_count n.lists }
after_note OfRemove n = record n { removes = next_count n.removes }
after_note OfFlush n = record n { flushes = next_count n.flushes }
after_note OfOpen n = record n { opens = next_count n.opens }

-- the message of a notice: its kind, the fault, and for Remove the name
pub data NoticeMessage : Type 0 where
  NotedList : (error : Error) → NoticeMessage
  NotedRemove : (name : List ℕ) (error : Error) → NoticeMessage
  NotedFlush : (error : Error) → NoticeMessage
  NotedOpen : (error : InitError) → NoticeMessage

-- the message of this notice
abbrev pub message_of : Notice → NoticeMessage
message_of (ListFault e) = NotedList e.now
message_of (RemoveFault name e) = NotedRemove name.now e.now
message_of (FlushFault e) = NotedFlush e.now
message_of (OpenFault e) = NotedOpen e.now

-- the kind that is counted
abbrev pub notice_kind_of : NoticeMessage → NoticeKind
notice_kind_of (NotedList e) = OfList
notice_kind_of (NotedRemove name e) = OfRemove
notice_kind_of (NotedFlush e) = OfFlush
notice_kind_of (NotedOpen e) = OfOpen

-- name, kind and creation moment
abbrev pub Row : Type 0
Row = Option (List ℕ) × Kind × Option ℤ

-- an entry of a listing
abbrev pub listed_row : Listed → Row
listed_row l = (option_map string_bytes l.name, l.kind, l.created)

-- what a listing says of a name
abbrev pub entry_row : List ℕ × Entry → Row
entry_row (name, File b t) = (Some name, PlainFile, t)
entry_row (name, Link target) = (Some name, PlainLink, None)
entry_row (name, Folder) = (Some name, PlainFolder, None)

-- each name of the folder once, in any order
abbrev pub Lists : Content → List Listed → Type 0
Lists c all = IsPermutation (map listed_row all) (map entry_row (fin.entries c.names))

-- one failure more; the greatest count stays
abbrev pub IsOneMore : ℕ → ℕ → Type 0
IsOneMore old new = new ≡ next_count old

-- An `Ok` counts no failure. An `Err` counts one, or memory was refused, or the content forbids the call.
abbrev pub HasCause : {T : Type 0} → Bool → Type 0 → ℕ → ℕ → Result T Error → Type 0
HasCause is_known forbidden old new result =
    MatchResult result (λ _. new ≡ old)
    (λ e. IsOneMore old new ⊎ ((new ≡ old) × ((error_kind e ≡ OutOfMemory) ⊎ (IsTrue is_known × forbidden))))
