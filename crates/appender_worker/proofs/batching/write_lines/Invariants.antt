use Rattle.std.proofs.Common.{◌≡◌, ◌+◌, ◌<◌, ◌≤◌, ◌||◌, true, length, is_some}
use Rattle.std.specs.Prelude.{nat_lt}
use Rattle.std.specs.Option.{option_map}
use Rattle.std.specs.IoError.{error_kind}
use Rattle.appender_worker.proofs.Gathered.{At}
use Rattle.appender_worker.proofs.batching.write_lines.Given as goal

-- the lines so far were written, and the line at `sent` was not given up unless there is one
abbrev pub invariant-loop-length : goal.invariant-loop-length
invariant-loop-length g l =
    let contents = g.W.Write.contents in
    let tries = g.W.LineSink.tries in
    record {
      at : At contents tries l.fn.writer l.writer l.lengths l.bytes l.length-index l.end l.sent l.taken l.lost l.given_up (option_map error_kind l.first);
      behind : l.given_up ≡ true → l.sent < length l.bytes;
      few : l.taken + l.lost ≤ l.length-index;
      told : is_some l.first ≡ (l.given_up || nat_lt 0 l.lost);
    }
