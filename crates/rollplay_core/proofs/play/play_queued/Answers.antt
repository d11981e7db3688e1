use Rattle.std.proofs.Common.{FitsSigned, rules}
use Rattle.std.specs.Int.{w64}
use Rattle.std.proofs.lemmas.Int.{to_z-of_z}
use Rattle.rollplay_core.specs.Script.{queued}
use Rattle.rollplay_core.proofs.PlayLemmas.{refused_page}
use Rattle.rollplay_core.proofs.play.play_queued.Goals as goal

pub returns-in-Ok-print_queued_run-clause-ok : goal.returns-in-Ok-print_queued_run-clause-ok
returns-in-Ok-print_queued_run-clause-ok c =
    let fits : FitsSigned w64 c.args.start = search rules in
    let start = to_z-of_z w64 c.args.start fits in
    record {
      replies = c.in-Ok.run'.replies.items;
      one_each = c.in-Ok.ensures.one_each;
      queue = c.in-Ok.run'.queue;
      worker = c.in-Ok.run'.worker;
      last = c.in-Ok.run'.roller;
      number = c.in-Ok.run'.number;
      room = c.in-Ok.run'.room;
      lines = rw start at c.in-Ok.ensures.lines;
      runs = rw start at c.in-Ok.ensures.runs;
      page_is = rw (start, c.in-Ok.ensures.roller.config_is, c.new-page.ensures.items) at c.in-Ok-print_queued_run.ensures;
    }

pub returns-in-Err-clause-ok : goal.returns-in-Err-clause-ok
returns-in-Err-clause-ok c =
    let fits : FitsSigned w64 c.args.start = search rules in
    let start = to_z-of_z w64 c.args.start fits in
    refused_page _ _ _ _ (queued c.args.queueing.limit c.args.queueing.lossy c.args.steps.now) _ _ (rw start at c.in-Err.ensures.err) c.play_refusal.ensures.ok
