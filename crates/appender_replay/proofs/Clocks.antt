-- The schedule of a roller follows the account of its files.
use Rattle.std.proofs.Common.{◌≡◌, inl, inr, length-append, ℕ, zero, suc, ◌+◌, ◌-◌, ◌<◌, ◌==◌, nat_lt, arith, length, ◌++◌, take, ℤ, Bool, true, false, not, ◌&&◌, cond, List, [], ◌∷◌, filter, Option, None, Some, Result, refl, ap, sym, ◌∙◌, subst}
use Rattle.std.specs.Prelude.{if◌then◌else◌, ◌↔◌, unwrap_or}
use Rattle.std.specs.Int.{int_max}
use Rattle.std.specs.declared.io.Error.{Error}
use Rattle.std.specs.declared.io.ErrorKind.{ErrorKind}
use Rattle.std.proofs.Math.Seq.{length-take-le}
use Rattle.std.proofs.lemmas.Bool.Decides.{nat_tests}
use Rattle.appender_names.specs.Name.{greatest_number}
use Rattle.appender_names.specs.declared.rotation.Rotation.{Rotation}
use Rattle.appender_names.specs.Rotation.{IsMoment, is_moment, period_of, next_of, is_same_start}
use Rattle.appender_names.proofs.Periods.{is_same_is}
use Rattle.appender_store.specs.declared.store.Folder.{Ghosts}
use Rattle.appender_rolling.specs.Config.{Config, IsStamp, stamp, is_limited, last_of}
use Rattle.appender_rolling.specs.declared.rolling.setup.Stamp.{Stamp}
use Rattle.appender_rolling.specs.Roller.{Rolling, is_due, is_full as roller_is_full, schedule_of, ChecksClock, Writes, KeepsOpenFile, next_stamp, room_needed, written_count}
use Rattle.appender_rolling.specs.declared.rolling.Switch.{Switch}
use Rattle.appender_rolling.specs.declared.rolling.Switch.TheVariants.{None as Stayed, Opened as Switched, Failed as SwitchFailed}
use Rattle.appender_replay.specs.Start.{Start}
use Rattle.appender_replay.specs.Run.{file_key, greatest}
use Rattle.appender_replay.specs.Headline.{Files, counted, bytes_taken, due_file, later_moment, open_stamp, files_at_opening, files_after_try, files_after_check, files_after_call}
use Rattle.appender_replay.proofs.Periods.{Laws, IsLater, IsLaterKey, moves, later_differs, same_key_is_same, later_key_differs}

pub nothing_of : (n : ℕ) → ◌≡◌ {A = List ℕ} (take n []) []
nothing_of zero = refl
nothing_of (suc n) = refl

-- ---- the latest moment

-- What a moment m does to the latest moment l, which is `now` then.
pub record Turn (r : Rotation) (l m now : ℤ) : Type 0 where
  pub arrived : not (is_same_start (period_of r now) (period_of r l)) ≡ is_due (next_of r l) m
  pub in_range : IsMoment now
  pub is_it : is_due (next_of r l) m ≡ true → m ≡ now
  pub stays : is_due (next_of r l) m ≡ false → period_of r now ≡ period_of r l
  pub goes : is_due (next_of r l) m ≡ true → IsLater (period_of r l) (period_of r now)

both : {A : Type 0} (t : Bool) → t ≡ true → t ≡ false → A
both t is is_not = absurd (let same : true ≡ false = sym is ∙ is_not in cc)

-- one of the range
turn_some : (r : Rotation) (l m : ℤ) → Laws r → IsMoment l → is_moment m ≡ true → Turn r l m (int_max m l)
turn_some r l m laws h g =
    let it = moves r l m laws h g in
    let by : (due : Bool) → is_due (next_of r l) m ≡ due → Turn r l m (int_max m l) = λ due. elim due as (λ (t : Bool). is_due (next_of r l) m ≡ t → Turn r l m (int_max m l)) [
      | true ↦ λ e. let past = it.goes e in record {
        arrived = rw (e, past.0, (later_differs (period_of r l) (period_of r m) past.1).0) refl;
        in_range = it.in_range;
        is_it = λ _. sym past.0;
        stays = λ no. both (is_due (next_of r l) m) e no;
        goes = λ _. rw past.0 past.1;
      }
      | false ↦ λ e. let stay = it.stays e in record {
        arrived = rw (e, stay, is_same_is (period_of r l)) refl;
        in_range = it.in_range;
        is_it = λ due. both (is_due (next_of r l) m) due e;
        stays = λ _. stay;
        goes = λ due. both (is_due (next_of r l) m) due e;
      }
    ] in
    by (is_due (next_of r l) m) refl

out_of_range : (b : Option ℤ) (m : ℤ) → is_moment m ≡ false → is_due b m ≡ false
out_of_range None m g = refl
out_of_range (Some b) m g = rw g refl

pub turn : (r : Rotation) (l m : ℤ) → Laws r → IsMoment l → Turn r l m (later_moment l m)
turn r l m laws h = by (is_moment m) refl
  where
    by : (b : Bool) → is_moment m ≡ b → Turn r l m (if b then int_max m l else l)
    by true e = turn_some r l m laws h e
    by false e =
        let no = out_of_range (next_of r l) m e in
        record {
          arrived = rw (no, is_same_is (period_of r l)) refl;
          in_range = h;
          is_it = λ due. both (is_due (next_of r l) m) due no;
          stays = λ _. refl;
          goes = λ due. both (is_due (next_of r l) m) due no;
        }

-- the latest moment is the greatest
pub latest_more : (start m : ℤ) (ms : List ℤ) → greatest start (filter is_moment (m ∷ ms)) ≡ later_moment (greatest start (filter is_moment ms)) m
latest_more start m ms = by (is_moment m) (filter is_moment ms)
  where
    by : (b : Bool) (before : List ℤ) → greatest start (cond b (m ∷ before) before) ≡ (if b then int_max m (greatest start before) else greatest start before)
    by true before = refl
    by false before = refl

pub check_latest : (c : Config) (m : ℤ) (len : ℕ) (switch : Switch) (f : Files) → (files_after_check c m len switch f).latest ≡ later_moment f.latest m
check_latest c m len switch f = by (due_file c f m len) switch
  where
    by : (o : Option Stamp) (switch : Switch) → (files_after_try o switch (record f { latest = later_moment f.latest m })).latest ≡ later_moment f.latest m
    by None switch = refl
    by (Some s) Stayed = refl
    by (Some s) Switched = refl
    by (Some s) SwitchFailed = refl

-- ---- the schedule

-- What a roller's schedule is, by the account of its files.
pub record RollerIs {S F : Type 0} (c : Config) (f : Files) (now : Rolling S F) : Type 0 where
  pub config_is : now.config ≡ c
  pub opened_is : open_stamp (f.newest ∷ f.earlier) ≡ Some now.opened
  pub last_is : now.last ≡ f.newest.stamp
  pub boundary_is : now.boundary ≡ next_of c.rotation f.latest
  pub room_is : now.room ≡ c.max_bytes - counted f
  pub in_range : IsMoment f.latest
  pub stamp_in : IsStamp c f.newest.stamp
  pub period_is : period_of c.rotation f.newest.stamp.moment ≡ period_of c.rotation f.latest

-- A check of the clock makes no try, and the latest period stays; or it makes one for this stamp, whose key is later.
pub data Comes {S F : Type 0} (c : Config) (f : Files) (m : ℤ) (len : ℕ) (old : Rolling S F) : Option Stamp → Type 0 where
  Stays : next_stamp old m len ≡ None → period_of c.rotation (later_moment f.latest m) ≡ period_of c.rotation f.latest → Comes c f m len old None
  Goes : (s : Stamp) → next_stamp old m len ≡ Some s → IsStamp c s → period_of c.rotation s.moment ≡ period_of c.rotation (later_moment f.latest m)
      → IsLaterKey (file_key c f.newest.stamp) (file_key c s) → Comes c f m len old (Some s)

-- the room agrees with the count
full_is : (max count w n room : ℕ) → 0 < w → room ≡ max - count
    → (nat_lt n 999999 && nat_lt room max && nat_lt room w) ≡ (not (max == 0) && nat_lt n 999999 && nat_lt 0 count && nat_lt max (count + w))
full_is max count w n room some is = grind (arith, nat_tests)

wanted_some : (len : ℕ) → 0 < room_needed len
wanted_some len = grind (arith, nat_tests)

same_next : (r : Rotation) (l now : ℤ) → period_of r now ≡ period_of r l → next_of r l ≡ next_of r now
same_next r l now e = rw e refl

pub same_stamp : (s t : Stamp) → ◌≡◌ {A = Option Stamp} (Some s) (Some t) → s ≡ t
same_stamp s t e = ap (λ (o : Option Stamp). unwrap_or o s) e

pub none_is_some : {A : Type 0} (s : Stamp) → ◌≡◌ {A = Option Stamp} None (Some s) → A
none_is_some s e = absurd (let same : ◌≡◌ {A = Option Stamp} None (Some s) = e in cc)

-- a stamp is not later than itself
pub is_fresh : (c : Config) (s t : Stamp) → IsLaterKey (file_key c s) (file_key c t) → s ≡ t → ⊥
is_fresh c s t later same =
    let itself : IsLaterKey (file_key c t) (file_key c t) = subst (λ (x : Stamp). IsLaterKey (file_key c x) (file_key c t)) same later in
    both _ (same_key_is_same (file_key c t)) (later_key_differs (file_key c t) (file_key c t) itself).0

module _ {S F : Type 0} (c : Config) (laws : Laws c.rotation) where
  pub comes : (f : Files) (m : ℤ) (len : ℕ) (old : Rolling S F) → RollerIs c f old → Comes c f m len old (due_file c f m len)
  comes f m len old so = by (not (is_same_start (period_of c.rotation now) (period_of c.rotation f.latest))) (is_limited c && nat_lt f.newest.stamp.number 999999 && nat_lt 0 (counted f) && nat_lt c.max_bytes (counted f + room_needed len)) refl refl
    where
      now : ℤ
      now = later_moment f.latest m

      t : Turn c.rotation f.latest m now
      t = turn c.rotation f.latest m laws so.in_range

      due : is_due old.boundary m ≡ not (is_same_start (period_of c.rotation now) (period_of c.rotation f.latest))
      due = ap (λ b. is_due b m) so.boundary_is ∙ sym t.arrived

      full : roller_is_full (schedule_of old) old.room len ≡ (is_limited c && nat_lt f.newest.stamp.number 999999 && nat_lt 0 (counted f) && nat_lt c.max_bytes (counted f + room_needed len))
      full = rw (so.config_is, so.last_is) (full_is c.max_bytes (counted f) (room_needed len) f.newest.stamp.number old.room (wanted_some len) so.room_is)

      low : (is_limited c && nat_lt f.newest.stamp.number 999999 && nat_lt 0 (counted f) && nat_lt c.max_bytes (counted f + room_needed len)) ≡ true → (f.newest.stamp.number < 999999) × (is_limited c ≡ true)
      low is = (grind (arith, nat_tests), grind (arith, nat_tests))

      greatest_is : is_limited c ≡ true → last_of c ≡ 999999
      greatest_is is = ap greatest_number is

      by : (came fills : Bool) → not (is_same_start (period_of c.rotation now) (period_of c.rotation f.latest)) ≡ came
          → (is_limited c && nat_lt f.newest.stamp.number 999999 && nat_lt 0 (counted f) && nat_lt c.max_bytes (counted f + room_needed len)) ≡ fills
          → Comes c f m len old (if came then Some (record { moment = now; number = 0 }) else if fills then Some (record { moment = f.newest.stamp.moment; number = f.newest.stamp.number + 1 }) else None)
      by true fills is e =
          Goes (stamp now 0) (rw (due ∙ is) (ap (λ (x : ℤ). Some (stamp x 0)) (t.is_it (sym t.arrived ∙ is)))) (record { in_range = t.in_range; number_is = omega arith }) refl
          (inl (subst (λ (p : Option ℤ). IsLater p (period_of c.rotation now)) (sym so.period_is) (t.goes (sym t.arrived ∙ is))))
      by false true is e =
          let under = low e in
          Goes (stamp f.newest.stamp.moment (f.newest.stamp.number + 1)) (rw (due ∙ is, full ∙ e, so.last_is) refl)
          (record { in_range = so.stamp_in.in_range; number_is = omega (arith, greatest_is under.1, under.0) }) (so.period_is ∙ sym (t.stays (sym t.arrived ∙ is)))
          (inr (refl, omega arith))
      by false false is e = Stays (rw (due ∙ is, full ∙ e) refl) (t.stays (sym t.arrived ∙ is))

  -- after a try
  tried : (f : Files) (m : ℤ) (ok : Bool) (s : Stamp) (old new : Rolling S F) → RollerIs c f old → IsStamp c s → period_of c.rotation s.moment ≡ period_of c.rotation (later_moment f.latest m)
      → (at : Stamp) → at ≡ s → new.config ≡ old.config → new.last ≡ at → new.boundary ≡ next_of old.config.rotation at.moment → new.room ≡ old.config.max_bytes
      → (if ok then Some s else open_stamp (f.newest ∷ f.earlier)) ≡ Some new.opened
      → RollerIs c (record f { latest = later_moment f.latest m; newest = record { stamp = s; opened = ok; calls = [] }; earlier = f.newest ∷ f.earlier; held = 0 }) new
  tried f m ok s old new so is_stamp period at it config last boundary room opened = record {
    config_is = config ∙ so.config_is;
    opened_is = opened;
    last_is = last ∙ it;
    boundary_is = boundary ∙ ap (λ (x : Stamp). next_of old.config.rotation x.moment) it ∙ ap (λ (k : Config). next_of k.rotation s.moment) so.config_is ∙ sym (same_next c.rotation (later_moment f.latest m) s.moment period);
    room_is = omega (arith, room, ap (λ (k : Config). k.max_bytes) so.config_is);
    in_range = (turn c.rotation f.latest m laws so.in_range).in_range;
    stamp_in = is_stamp;
    period_is = period;
  }

  -- a check of the clock
  pub roller_checks : (kind : Ghosts S F) (f : Files) (m : ℤ) (len : ℕ) (switch : Switch) (old new : Rolling S F) (o : Option Stamp) → Comes c f m len old o → RollerIs c f old → ChecksClock kind m len switch old new
      → RollerIs c (files_after_try o switch (record f { latest = later_moment f.latest m })) new
  roller_checks kind f m len Stayed old new o (Stays none same) so checks = subst (λ (r : Rolling S F). RollerIs c (record f { latest = later_moment f.latest m }) r) (sym checks.1) (record {
    config_is = so.config_is;
    opened_is = so.opened_is;
    last_is = so.last_is;
    boundary_is = so.boundary_is ∙ same_next c.rotation f.latest (later_moment f.latest m) same;
    room_is = so.room_is;
    in_range = (turn c.rotation f.latest m laws so.in_range).in_range;
    stamp_in = so.stamp_in;
    period_is = so.period_is ∙ sym same;
  })
  roller_checks kind f m len Switched old new o (Stays none same) so checks = none_is_some checks.at_stamp (sym none ∙ checks.cause)
  roller_checks kind f m len SwitchFailed old new o (Stays none same) so checks = none_is_some checks.at_stamp (sym none ∙ checks.cause)
  roller_checks kind f m len Stayed old new o (Goes s some is_stamp period later) so checks = none_is_some s (sym checks.0 ∙ some)
  roller_checks kind f m len Switched old new o (Goes s some is_stamp period later) so checks =
      let it = same_stamp checks.at_stamp s (sym checks.cause ∙ some) in
      tried f m true s old new so is_stamp period checks.at_stamp it checks.config_is checks.last checks.boundary checks.room (ap Some (sym (checks.opened ∙ it)))
  roller_checks kind f m len SwitchFailed old new o (Goes s some is_stamp period later) so checks =
      let it = same_stamp checks.at_stamp s (sym checks.cause ∙ some) in
      tried f m false s old new so is_stamp period checks.at_stamp it checks.config_is checks.last checks.boundary checks.room (so.opened_is ∙ ap Some (sym checks.opened))

  -- its reply
  pub switches_if_due : (kind : Ghosts S F) (f : Files) (m : ℤ) (len : ℕ) (switch : Switch) (old new : Rolling S F) → RollerIs c f old → ChecksClock kind m len switch old new → (switch ≡ Stayed) ↔ (due_file c f m len ≡ None)
  switches_if_due kind f m len switch old new so checks = by switch checks (due_file c f m len) (comes f m len old so)
    where
      by : (switch : Switch) → ChecksClock kind m len switch old new → (o : Option Stamp) → Comes c f m len old o → (switch ≡ Stayed) ↔ (o ≡ None)
      by Stayed checks o (Stays none same) = ((λ _. refl), (λ _. refl))
      by Switched checks o (Stays none same) = none_is_some checks.at_stamp (sym none ∙ checks.cause)
      by SwitchFailed checks o (Stays none same) = none_is_some checks.at_stamp (sym none ∙ checks.cause)
      by Stayed checks o (Goes s some is_stamp period later) = none_is_some s (sym checks.0 ∙ some)
      by Switched checks o (Goes s some is_stamp period later) = ((λ is. absurd (let same : ◌≡◌ {A = Switch} Switched Stayed = is in cc)), (λ is. none_is_some s (sym is)))
      by SwitchFailed checks o (Goes s some is_stamp period later) = ((λ is. absurd (let same : ◌≡◌ {A = Switch} SwitchFailed Stayed = is in cc)), (λ is. none_is_some s (sym is)))

  -- what keeps the open file
  pub roller_stays : (kind : Ghosts S F) (f g : Files) (old new : Rolling S F) → KeepsOpenFile kind old new → g.latest ≡ f.latest → g.newest.stamp ≡ f.newest.stamp → open_stamp (g.newest ∷ g.earlier) ≡ open_stamp (f.newest ∷ f.earlier)
      → new.room ≡ c.max_bytes - counted g → RollerIs c f old → RollerIs c g new
  roller_stays kind f g old new stays latest stamped opened room so = record {
    config_is = stays.config_is ∙ so.config_is;
    opened_is = opened ∙ so.opened_is ∙ ap Some (sym stays.opened);
    last_is = stays.last ∙ so.last_is ∙ sym stamped;
    boundary_is = stays.boundary ∙ so.boundary_is ∙ ap (next_of c.rotation) (sym latest);
    room_is = room;
    in_range = subst (λ (l : ℤ). IsMoment l) (sym latest) so.in_range;
    stamp_in = subst (λ (s : Stamp). IsStamp c s) (sym stamped) so.stamp_in;
    period_is = ap (λ (s : Stamp). period_of c.rotation s.moment) stamped ∙ so.period_is ∙ ap (period_of c.rotation) (sym latest);
  }

  -- a write
  pub roller_writes : (kind : Ghosts S F) (f : Files) (flush : Bool) (bytes : List ℕ) (answer : Result ℕ Error) (shown : Result ℕ ErrorKind) (old new : Rolling S F) → written_count shown ≡ written_count answer → Writes kind bytes answer old new → RollerIs c f old → RollerIs c (files_after_call flush bytes shown f) new
  roller_writes kind f flush bytes answer shown old new count writes so =
      let size : length (take (written_count shown) bytes) ≡ written_count answer = ap (λ (n : ℕ). length (take n bytes)) count ∙ length-take-le (written_count answer) bytes writes.bound in
      let longer : length (bytes_taken f.newest.calls ++ take (written_count shown) bytes) ≡ length (bytes_taken f.newest.calls) + length (take (written_count shown) bytes) = length-append (bytes_taken f.newest.calls) (take (written_count shown) bytes) in
      roller_stays kind f (files_after_call flush bytes shown f) old new writes.stays refl refl refl (omega (arith, size, longer, writes.room, so.room_is)) so

  -- the opening
  pub roller_begins : (start : Start) (now : Rolling S F) → now.config ≡ c → IsStamp c start.stamp → now.opened ≡ start.stamp → now.last ≡ start.stamp → now.boundary ≡ next_of c.rotation start.stamp.moment → now.room ≡ c.max_bytes - start.held
      → RollerIs c (files_at_opening start) now
  roller_begins start now config is_stamp opened last boundary room = record {
    config_is = config;
    opened_is = ap Some (sym opened);
    last_is = last;
    boundary_is = boundary;
    room_is = omega (arith, room);
    in_range = is_stamp.in_range;
    stamp_in = is_stamp;
    period_is = refl;
  }
