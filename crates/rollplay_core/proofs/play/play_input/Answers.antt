use Rattle.rollplay_core.specs.Draft.{plan_of}
use Rattle.rollplay_core.proofs.play.play_input.Goals as goal

pub returns-in-Ok-clause-ok : goal.returns-in-Ok-clause-ok
returns-in-Ok-clause-ok g c = record {
  text = c.as_str.result.now;
  page = c.in_ok-opening.page.items;
  given_is = rw c.as_str.ensures.value c.in_ok-text.ensures.given;
  plays = record {
    config = c.in_ok-script.script.builder;
    folder = c.in_ok-script.script.folder;
    start = c.in_ok-script.script.start;
    plan = plan_of c.in_ok-script.script.plan;
    script = c.in_ok-script.ensures.ok;
    page_of = c.in_ok-opening.ensures.ok;
  };
  appends = rw (← c.as_slice.ensures.value) c.in-Ok.ensures;
}

pub returns-clause-err : goal.returns-clause-err
returns-clause-err g c = record {
  text = c.as_str.result.now;
  opening = c.in_ok-opening.opening;
  page = c.in_ok-opening.page.items;
  given_is = rw c.as_str.ensures.value c.in_ok-text.ensures.given;
  plays = record {
    config = c.in_ok-script.script.builder;
    folder = c.in_ok-script.script.folder;
    start = c.in_ok-script.script.start;
    plan = plan_of c.in_ok-script.script.plan;
    script = c.in_ok-script.ensures.ok;
    page_of = c.in_ok-opening.ensures.ok;
  };
}
