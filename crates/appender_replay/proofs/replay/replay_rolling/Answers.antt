use Rattle.std.proofs.Common.{◌≡◌, ◌∙◌, ◌+◌, ◌++◌, [], ◌∷◌, length, length-append, take, rules, sym, ap, refl, arith, w64, FitsSigned}
use Rattle.std.proofs.Math.Seq.{length-take-le}
use Rattle.std.proofs.lemmas.Int.{to_z-of_z}
use Rattle.std.proofs.lemmas.List.{take_more, take_all}
use Rattle.appender_rolling.specs.declared.rolling.setup.Stamp.{Stamp}
use Rattle.appender_replay.specs.Replay.{with_replies}
use Rattle.appender_replay.specs.Start.{start_of}
use Rattle.appender_replay.proofs.Headlines.{roll_headline, roll_limit, roll_roller}
use Rattle.appender_replay.proofs.Runs.{Grounds, other_names, one_reply_more}
use Rattle.appender_replay.proofs.replay.replay_rolling.Goals as goal

pub loop-step-init : goal.loop-step-init
loop-step-init g c =
    let fits : FitsSigned w64 c.args.start = c.ranges.start in
    let opens = c.in-Ok-open.ensures.ok in
    record {
      one_each = search rules;
      room = search rules;
      runs = record { first = _; opens = opens; number_is = sym (c.number-number.ensures ∙ ap (λ (s : Stamp). s.number) opens.opened); room_is = sym c.room-room.ensures; runs = refl };
    }

pub loop-step-preserved : goal.loop-step-preserved
loop-step-preserved g c =
    let inv = c.loop-step.invariant in
    let i = c.loop-step.step-index in
    let steps = c.args.steps.now in
    let step = c.step-item.result in
    let reply = c.run_step-reply.result in
    let replies = c.loop-step.replies.items in
    let more : take (i + 1) steps ≡ take i steps ++ step ∷ [] =
    take_more steps i step c.loop-step-test.true ∙ ap (λ s. take i steps ++ s ∷ []) (sym c.step-item.is) in
    let even : length (take i steps) ≡ length replies = length-take-le i steps (omega arith) ∙ sym inv.one_each in
    let past : with_replies (take (i + 1) steps) c.push_reserved.new.self.items ≡ (step, reply) ∷ with_replies (take i steps) replies =
    rw (more, c.push_reserved.ensures.items) (one_reply_more [] (take i steps) replies step reply even) in
    record {
      one_each = ap length c.push_reserved.ensures.items ∙ length-append replies (reply ∷ []) ∙ ap (λ n. n + 1) inv.one_each;
      room = rw c.push_reserved.ensures.capacity inv.room;
      runs = rw past (record { first = inv.runs.first; opens = inv.runs.opens; number_is = inv.runs.number_is; room_is = inv.runs.room_is; runs = (c.loop-step.roller, inv.runs.runs, c.run_step-reply.ensures) });
    }

pub returns : goal.returns
returns g c =
    let fits : FitsSigned w64 c.args.start = c.ranges.start in
    let whole : take c.loop-step.step-index c.args.steps.now ≡ c.args.steps.now = take_all _ _ c.loop-step-test.false in
    let one_each : length c.loop-step.replies.items ≡ length c.args.steps.now = search rules in
    let runs = simp (to_z-of_z, whole) at c.loop-step.invariant.runs in
    let periods = c.periods_lie_between_boundaries.ensures in
    let grounds : Grounds g.S.Folder c.args.builder.now = record {
      laws = record { begins = periods.begin _; ends = periods.end _ };
      others = other_names c.args.builder.now runs.opens.may_open.may_limit (c.names_are_periods.ensures _);
      maps = record { removals = c.names_change_one_at_a_time.ensures.removals; additions = c.names_change_one_at_a_time.ensures.additions };
      parts = c.openings_keep_files.ensures;
      sound = g.met.S.Folder.sound;
      failures_fit = g.met.S.Folder.failures_fit;
      noted_fit = g.met.S.Folder.noted_fit;
    } in
    let builder = c.args.builder.now in
    let number = c.number-number.result in
    let room = c.room-room.result in
    let past = with_replies c.args.steps.now c.loop-step.replies.items in
    record {
      headline = roll_headline g.S.Folder builder grounds c.args.start number room c.args.folder past c.loop-step.roller runs;
      one_each = one_each;
      runs = runs;
      roller = roll_roller g.S.Folder builder grounds c.args.start number room c.args.folder past c.loop-step.roller runs;
      limit = λ all. roll_limit builder (start_of builder c.args.start number room) past all;
      err = tt;
      memory = tt;
    }
