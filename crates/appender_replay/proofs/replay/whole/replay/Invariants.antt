use Rattle.std.proofs.Common.{◌≡◌, ◌≤◌, length, take, vec_capacity}
use Rattle.appender_replay.specs.Replay.{with_replies}
use Rattle.appender_replay.specs.Inside.Steps.{parts}
use Rattle.appender_replay.proofs.Headlines.{GoesFrom}
use Rattle.appender_replay.proofs.replay.whole.replay.Given as goal

abbrev pub invariant-loop-step : goal.invariant-loop-step
invariant-loop-step g l = record {
  one_each : length l.replies.items ≡ l.step-index;
  room : length l.steps ≤ vec_capacity l.replies;
  goes : GoesFrom g.S.Folder l.fn.builder l.fn.limit l.fn.lossy l.fn.start l.number l.room l.fn.folder (with_replies (take l.step-index l.steps) l.replies.items) (parts l.queue l.worker l.roller);
}
