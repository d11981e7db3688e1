-- The calls of a folder in memory, as its fields keep them.
use Rattle.std.specs.Prelude.{ℕ, ◌%◌, ◌^◌, Bool}
use Rattle.std.specs.FinSet as set
use Rattle.std.specs.FinMap as fin
use Rattle.std.specs.BTreeSet.{BTreeSet}
use Rattle.std.specs.BTreeMap.{BTreeMap}
use Rattle.appender_store.specs.MemoryState.{FailingCalls, AppendLimits}
use Rattle.appender_store.specs.Folder.{next_count}
use Rattle.appender_store.specs.declared.store.calls.Calls.{Calls}

-- the set that the code's set represents
abbrev pub failing_calls_of : BTreeSet ℕ → FailingCalls
failing_calls_of s = set.from_list s.keys

-- the map that the code's map represents
abbrev pub append_limits_of : BTreeMap ℕ ℕ → AppendLimits
append_limits_of m = fin.from_entries m.entries

-- how often a call was made to fail; the field has 64 bits
abbrev pub failures_of : Calls → ℕ
failures_of c = c.failed % 2 ^ 64

-- whether the next call is named to fail
abbrev pub is_next_named : Calls → Bool
is_next_named c = set.contains (failing_calls_of c.failing) (next_count c.made)
