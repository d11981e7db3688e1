-- What a folder in memory shows.
use Rattle.appender_store.specs.Inside.Calls.{failing_calls_of, append_limits_of, failures_of}
use Rattle.appender_store.specs.NoticeCounts.{notice_counts_of}
use Rattle.appender_store.specs.Inside.Entries.{content_of}
use Rattle.appender_store.specs.MemoryState.{MemoryState}
use Rattle.appender_store.specs.declared.store.memory.MemoryFolder.{MemoryFolder}

-- what its callers see of it
abbrev pub state_of : MemoryFolder → MemoryState
state_of f = record {
  content = content_of f.there f.bodies f.names;
  created = f.created;
  calls = f.calls.made;
  failing = failing_calls_of f.calls.failing;
  shortened = append_limits_of f.calls.shortened;
  failures = failures_of f.calls;
  noted = notice_counts_of f.noted;
}
