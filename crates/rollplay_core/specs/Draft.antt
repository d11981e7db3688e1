-- A draft of a script, and the script that it becomes.
use Rattle.appender_store.specs.MemoryView.{state_of}
use Rattle.rollplay_core.specs.declared.script.Draft.{Draft}
use Rattle.rollplay_core.specs.declared.script.Plan.{Plan as PlanOfScript}
use Rattle.rollplay_core.specs.declared.script.Plan.TheVariants.{Rolling, Queued}
use Rattle.rollplay_core.specs.Script.{Progress, Plan, rolling, queued}

-- how far the script was read
abbrev pub progress_of : Draft → Progress
progress_of d = record {
  begun = d.begun;
  config = d.builder;
  folder = state_of d.folder;
  queueing = d.queueing;
  start = d.start;
  steps = d.steps.items;
  queue_steps = d.queue_steps.items;
}

-- what a whole script does
abbrev pub plan_of : PlanOfScript → Plan
plan_of (Rolling steps) = rolling steps.items
plan_of (Queued queueing steps) = queued queueing.limit queueing.lossy steps.items
