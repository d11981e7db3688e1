-- The notices of a folder, as its fields count them.
use Rattle.std.specs.Prelude.{◌%◌, ◌^◌}
use Rattle.appender_store.specs.Folder.{NotedCounts}
use Rattle.appender_store.specs.declared.store.notices.NoticeCounts.{NoticeCounts}

-- the count of each kind of notice; each field has 64 bits
abbrev pub notice_counts_of : NoticeCounts → NotedCounts
notice_counts_of n = record { lists = n.lists % 2 ^ 64; removes = n.removes % 2 ^ 64; flushes = n.flushes % 2 ^ 64; opens = n.opens % 2 ^ 64 }
