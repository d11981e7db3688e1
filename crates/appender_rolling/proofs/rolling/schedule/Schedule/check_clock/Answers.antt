use Rattle.std.proofs.Common.{w64, FitsSigned, ◌≡◌, ◌∙◌, Some, inl, inr, refl, ap, sym, rules, arith, subst, string_bytes}
use Rattle.std.proofs.lemmas.Int.{ints, to_z-of_z}
use Rattle.appender_names.specs.Rotation.{next_of}
use Rattle.appender_rolling.specs.Config.{Config, IsStamp}
use Rattle.appender_rolling.specs.Roller.{Scheduled, OpenFile, IsLaterBoundary, IsSchedule, next_with}
use Rattle.appender_rolling.proofs.Boundaries.{IsNext, is_next, next_is_later, ahead_of_stamp}
use Rattle.appender_rolling.proofs.Closings.{closes_quietly}
use Rattle.appender_rolling.proofs.Kept.{maps, keeps_little}
use Rattle.appender_rolling.proofs.Refusals.{refuses_little}
use Rattle.appender_rolling.proofs.rolling.schedule.Schedule.check_clock.Goals as goal

pub next_date-self-inside-requires : goal.next_date-self-inside-requires
next_date-self-inside-requires g c =
    let fits : FitsSigned w64 c.args.moment = c.ranges.moment in
    let schedule : IsSchedule c.args.self.now.config (string_bytes c.self.inside.name) c.args.self.now.opened c.args.self.now.last c.args.self.now.boundary = rw (← c.self.view_is) c.self.invariant in
    let next = is_next c.args.self.now (string_bytes c.self.inside.name) c.log.inside.room c.args.moment c.args.len schedule c.in-Some.stamp (sym (simp to_z-of_z at c.in-Some.ensures)) in
    let in_range = next.is_stamp.in_range in
    let small : FitsSigned w64 c.in-Some.stamp.moment = omega (arith, ints, in_range.0, in_range.1) in
    record { moment = simp to_z-of_z in_range }

pub open_next-requires : goal.open_next-requires
open_next-requires g c =
    let fits : FitsSigned w64 c.args.moment = c.ranges.moment in
    let schedule : IsSchedule c.args.self.now.config (string_bytes c.self.inside.name) c.args.self.now.opened c.args.self.now.last c.args.self.now.boundary = rw (← c.self.view_is) c.self.invariant in
    let next = is_next c.args.self.now (string_bytes c.self.inside.name) c.log.inside.room c.args.moment c.args.len schedule c.in-Some.stamp (sym (simp to_z-of_z at c.in-Some.ensures)) in
    subst (λ (k : Config). IsStamp k c.in-Some.stamp) (ap (λ (s : Scheduled). s.config) (sym c.self.view_is)) next.is_stamp

pub invariant_of-self : goal.invariant_of-self
invariant_of-self g c =
    let fits : FitsSigned w64 c.args.moment = c.ranges.moment in
    let schedule : IsSchedule c.args.self.now.config (string_bytes c.self.inside.name) c.args.self.now.opened c.args.self.now.last c.args.self.now.boundary = rw (← c.self.view_is) c.self.invariant in
    let next = is_next c.args.self.now (string_bytes c.self.inside.name) c.log.inside.room c.args.moment c.args.len schedule c.in-Some.stamp (sym (simp to_z-of_z at c.in-Some.ensures)) in
    let is_stamp : IsStamp c.self.inside.setup c.in-Some.stamp = subst (λ (k : Config). IsStamp k c.in-Some.stamp) (ap (λ (s : Scheduled). s.config) (sym c.self.view_is)) next.is_stamp in
    let in_range = is_stamp.in_range in
    let small : FitsSigned w64 c.in-Some.stamp.moment = omega (arith, ints, in_range.0, in_range.1) in
    let date = simp to_z-of_z at c.next_date-self-inside.ensures in
    let ahead : IsLaterBoundary c.self.inside.setup.rotation c.in-Some.stamp.moment c.next_date-self-inside.result =
    rw (← c.rotation.ensures) (next_is_later _ _ _ date.none date.boundary) in
    record {
      is_opened = record { is_stamp = is_stamp; name_is = c.in-Ok.ensures.name; later_boundary = ahead };
      is_last_attempt = record {
        is_stamp = is_stamp;
        not_before = inl refl;
        boundary_is = date.value ∙ ap (λ r. next_of r c.in-Some.stamp.moment) c.rotation.ensures;
      };
    }

pub invariant_of-self-in-Err : goal.invariant_of-self-in-Err
invariant_of-self-in-Err g c =
    let fits : FitsSigned w64 c.args.moment = c.ranges.moment in
    let schedule : IsSchedule c.args.self.now.config (string_bytes c.self.inside.name) c.args.self.now.opened c.args.self.now.last c.args.self.now.boundary = rw (← c.self.view_is) c.self.invariant in
    let next = is_next c.args.self.now (string_bytes c.self.inside.name) c.log.inside.room c.args.moment c.args.len schedule c.in-Some.stamp (sym (simp to_z-of_z at c.in-Some.ensures)) in
    let same = sym c.self.view_is in
    let is_stamp : IsStamp c.self.inside.setup c.in-Some.stamp = subst (λ (k : Config). IsStamp k c.in-Some.stamp) (ap (λ (s : Scheduled). s.config) same) next.is_stamp in
    let later = subst (λ (s : Scheduled). IsNext s c.in-Some.stamp) same next in
    let in_range = is_stamp.in_range in
    let small : FitsSigned w64 c.in-Some.stamp.moment = omega (arith, ints, in_range.0, in_range.1) in
    let date = simp to_z-of_z at c.next_date-self-inside.ensures in
    let ahead : IsLaterBoundary c.self.inside.setup.rotation c.in-Some.stamp.moment c.next_date-self-inside.result =
    rw (← c.rotation.ensures) (next_is_later _ _ _ date.none date.boundary) in
    record {
      is_opened = record {
        is_stamp = c.self.invariant.is_opened.is_stamp;
        name_is = c.self.invariant.is_opened.name_is;
        later_boundary = ahead_of_stamp _ _ _ _ later.later ahead;
      };
      is_last_attempt = record {
        is_stamp = is_stamp;
        not_before = inr later.later;
        boundary_is = date.value ∙ ap (λ r. next_of r c.in-Some.stamp.moment) c.rotation.ensures;
      };
    }

pub invariant_of-log : goal.invariant_of-log
invariant_of-log g c is_known = rw c.close_last.ensures.content (c.in-Ok.ensures.ok.body_is_there is_known)

pub invariant_of-log-in-Err : goal.invariant_of-log-in-Err
invariant_of-log-in-Err g c is_known =
    rw c.note.ensures.content ((keeps_little (maps c.names_change_one_at_a_time.ensures.removals c.names_change_one_at_a_time.ensures.additions) _ _ _ _ (refuses_little _ _ _ _ _ _ is_known c.in-Err.ensures.err)).keeps.more _ (c.log.invariant is_known))

pub returns-in-Ok : goal.returns-in-Ok
returns-in-Ok g c =
    let fits : FitsSigned w64 c.args.moment = c.ranges.moment in
    let looked : next_with c.args.self.now c.log.inside.room c.args.moment c.args.len ≡ Some c.in-Some.stamp = sym (simp to_z-of_z at c.in-Some.ensures) in
    let schedule : IsSchedule c.args.self.now.config (string_bytes c.self.inside.name) c.args.self.now.opened c.args.self.now.last c.args.self.now.boundary = rw (← c.self.view_is) c.self.invariant in
    let next = is_next c.args.self.now (string_bytes c.self.inside.name) c.log.inside.room c.args.moment c.args.len schedule c.in-Some.stamp looked in
    let in_range = next.is_stamp.in_range in
    let small : FitsSigned w64 c.in-Some.stamp.moment = omega (arith, ints, in_range.0, in_range.1) in
    let date = simp to_z-of_z at c.next_date-self-inside.ensures in
    let opened = c.in-Ok.ensures.ok in
    record {
      at_stamp = c.in-Some.stamp;
      cause = rw (← c.log.view_is) looked;
      later = next.later;
      config_is = ap (λ (s : Scheduled). s.config) c.self.view_is;
      opened = refl;
      last = refl;
      boundary = rw (← c.self.view_is) (date.value ∙ ap (λ r. next_of r c.in-Some.stamp.moment) c.rotation.ensures);
      room = rw (← c.self.view_is) c.max_bytes-log-inside.ensures;
      ready = c.open_next.new.folder;
      opens = rw (← c.self.view_is, ← c.log.view_is) opened;
      closes = rw (← c.log.view_is) c.close_last.ensures;
      content = c.close_last.ensures.content;
      quiet = rw (← c.log.view_is) (closes_quietly _ _ _ _ _ c.close_last.ensures);
      at_most = rw (← c.self.view_is, ← c.log.view_is) (λ quiet is_known some. rw c.close_last.ensures.content (opened.at_most (closes_quietly _ _ _ _ _ c.close_last.ensures quiet) is_known some));
    }

pub returns-in-Err : goal.returns-in-Err
returns-in-Err g c =
    let fits : FitsSigned w64 c.args.moment = c.ranges.moment in
    let looked : next_with c.args.self.now c.log.inside.room c.args.moment c.args.len ≡ Some c.in-Some.stamp = sym (simp to_z-of_z at c.in-Some.ensures) in
    let schedule : IsSchedule c.args.self.now.config (string_bytes c.self.inside.name) c.args.self.now.opened c.args.self.now.last c.args.self.now.boundary = rw (← c.self.view_is) c.self.invariant in
    let next = is_next c.args.self.now (string_bytes c.self.inside.name) c.log.inside.room c.args.moment c.args.len schedule c.in-Some.stamp looked in
    let in_range = next.is_stamp.in_range in
    let small : FitsSigned w64 c.in-Some.stamp.moment = omega (arith, ints, in_range.0, in_range.1) in
    let date = simp to_z-of_z at c.next_date-self-inside.ensures in
    let refused = c.in-Err.ensures.err in
    record {
      at_stamp = c.in-Some.stamp;
      cause = rw (← c.log.view_is) looked;
      later = next.later;
      config_is = ap (λ (s : Scheduled). s.config) c.self.view_is;
      opened = ap (λ (s : Scheduled). s.opened) c.self.view_is;
      last = refl;
      boundary = rw (← c.self.view_is) (date.value ∙ ap (λ r. next_of r c.in-Some.stamp.moment) c.rotation.ensures);
      room = rw (← c.self.view_is) c.max_bytes-log-inside.ensures;
      file = ap (λ (h : OpenFile _ _). h.file) c.log.view_is;
      reason = c.in-Err.error;
      refused = c.open_next.new.folder;
      refuses = rw (← c.self.view_is, ← c.log.view_is) refused;
      notes = search rules;
      content = rw (← c.self.view_is, ← c.log.view_is) (λ is_known. rw c.note.ensures.content (refuses_little _ _ _ _ _ _ is_known refused));
    }
