-- Under a limit of bytes, what is written between two tries is no more than the limit, or one write took all.
use Rattle.std.proofs.Common.{◌≡◌, ◌⊎◌, inl, inr, ℕ, ◌+◌, ◌<◌, ◌≤◌, nat_lt, ◌&&◌, Bool, true, false, cond, List, [], ◌∷◌, ◌++◌, length, length-append, length-take, take, filter, ℤ, Option, None, Some, is_some, Result, arith, refl, ap}
use Rattle.std.specs.Prelude.{if◌then◌else◌, not, All}
use Rattle.std.specs.declared.io.ErrorKind.{ErrorKind}
use Rattle.std.proofs.lemmas.Bool.Decides.{nat_tests}
use Rattle.std.proofs.lemmas.List.Elements.{All-cons, All-nil, All-head, All-tail}
use Rattle.appender_names.specs.Rotation.{period_of, is_same_start}
use Rattle.appender_rolling.specs.Config.{Config, is_limited, stamp}
use Rattle.appender_rolling.specs.Roller.{written_count, room_needed}
use Rattle.appender_rolling.specs.declared.rolling.setup.Stamp.{Stamp}
use Rattle.appender_rolling.specs.declared.rolling.Switch.{Switch}
use Rattle.appender_rolling.specs.declared.rolling.Switch.TheVariants.{None as Stayed, Opened as Switched, Failed as SwitchFailed}
use Rattle.appender_replay.specs.Start.{Start}
use Rattle.appender_replay.specs.Run.{IsWithinLimit, KeepsToLimit}
use Rattle.appender_replay.proofs.Clocks.{nothing_of}
use Rattle.appender_replay.specs.Headline.{FileCall, Try, Files, bytes_taken, counted, due_file, later_moment, files_at_opening, files_after_try, files_after_check, files_after_call}

-- whether it took something
abbrev took : FileCall → Bool
took w = nat_lt 0 (length (take (written_count w.answer) w.bytes))

left_empty : (xs ys : List ℕ) → xs ++ ys ≡ [] → (xs ≡ []) × (ys ≡ [])
left_empty [] ys e = (refl, e)
left_empty (x ∷ xs) ys e = absurd (let both : ◌≡◌ {A = List ℕ} (x ∷ xs ++ ys) [] = e in cc)

none_took : (writes : List FileCall) → bytes_taken writes ≡ [] → filter took writes ≡ []
none_took [] none = refl
none_took (w ∷ earlier) none =
    let both = left_empty (bytes_taken earlier) (take (written_count w.answer) w.bytes) none in
    let not_it : took w ≡ false = ap (λ (xs : List ℕ). nat_lt 0 (length xs)) both.1 in
    rw (not_it, none_took earlier both.0) refl

empty_list : (xs : List ℕ) → length xs ≡ 0 → xs ≡ []
empty_list [] e = refl
empty_list (x ∷ xs) e = absurd (omega arith)

most_taken : (n : ℕ) (bytes : List ℕ) → length (take n bytes) ≤ length bytes
most_taken n bytes = let short = length-take n bytes in omega (arith, short)

module _ (c : Config) where
  -- the first write after a try
  one_write : (s : Stamp) (ok : Bool) (w : FileCall) → IsWithinLimit c (record { stamp = s; opened = ok; calls = w ∷ [] })
  one_write s ok w low = by (took w) refl
    where
      by : (t : Bool) → took w ≡ t → (length (take (written_count w.answer) w.bytes) ≤ c.max_bytes) ⊎ (length (cond t (w ∷ []) []) ≡ 1)
      by true e = inr refl
      by false e = inl (grind (arith, nat_tests))

  -- a write where no file is due
  more_written : (t : Try) (held : ℕ) (w : FileCall)
      → (t.stamp.number < 999999 → (nat_lt 0 (held + length (bytes_taken t.calls)) && nat_lt c.max_bytes (held + length (bytes_taken t.calls) + room_needed (length w.bytes))) ≡ false)
      → IsWithinLimit c (record t { calls = w ∷ t.calls })
  more_written t held w room low = by (nat_lt 0 (held + length (bytes_taken t.calls))) (room low) refl
    where
      longer : length (bytes_taken t.calls ++ take (written_count w.answer) w.bytes) ≡ length (bytes_taken t.calls) + length (take (written_count w.answer) w.bytes)
      longer = length-append (bytes_taken t.calls) (take (written_count w.answer) w.bytes)

      most : length (take (written_count w.answer) w.bytes) ≤ room_needed (length w.bytes)
      most = let le = most_taken (written_count w.answer) w.bytes in grind (arith, nat_tests, le)

      by : (some : Bool) → (some && nat_lt c.max_bytes (held + length (bytes_taken t.calls) + room_needed (length w.bytes))) ≡ false → nat_lt 0 (held + length (bytes_taken t.calls)) ≡ some
          → (length (bytes_taken t.calls ++ take (written_count w.answer) w.bytes) ≤ c.max_bytes) ⊎ (length (filter took (w ∷ t.calls)) ≡ 1)
      by true fits e =
          let under : held + length (bytes_taken t.calls) + room_needed (length w.bytes) ≤ c.max_bytes = grind (arith, nat_tests, fits) in
          inl (omega (arith, longer, most, under))
      by false fits e =
          let zero : length (bytes_taken t.calls) ≡ 0 = grind (arith, nat_tests, e) in
          alone (took w) refl (none_took t.calls (empty_list (bytes_taken t.calls) zero)) zero
        where
          alone : (took_it : Bool) → took w ≡ took_it → filter took t.calls ≡ [] → length (bytes_taken t.calls) ≡ 0
              → (length (bytes_taken t.calls ++ take (written_count w.answer) w.bytes) ≤ c.max_bytes) ⊎ (length (cond took_it (w ∷ filter took t.calls) (filter took t.calls)) ≡ 1)
          alone true it none size = inr (rw none refl)
          alone false it none size = let nothing : length (take (written_count w.answer) w.bytes) ≡ 0 = grind (arith, nat_tests, it) in inl (omega (arith, longer, nothing, size))

  -- no file is due, so there is room
  has_room : (f : Files) (m : ℤ) (len : ℕ) → is_limited c ≡ true → due_file c f m len ≡ None → f.newest.stamp.number < 999999 → (nat_lt 0 (counted f) && nat_lt c.max_bytes (counted f + room_needed len)) ≡ false
  has_room f m len limited none low = by (not (is_same_start (period_of c.rotation (later_moment f.latest m)) (period_of c.rotation f.latest))) (is_limited c && nat_lt f.newest.stamp.number 999999 && nat_lt 0 (counted f) && nat_lt c.max_bytes (counted f + room_needed len)) refl none
    where
      below : nat_lt f.newest.stamp.number 999999 ≡ true
      below = grind (arith, nat_tests, low)

      by : (came full : Bool) → (is_limited c && nat_lt f.newest.stamp.number 999999 && nat_lt 0 (counted f) && nat_lt c.max_bytes (counted f + room_needed len)) ≡ full
          → (if came then Some (stamp (later_moment f.latest m) 0) else if full then Some (stamp f.newest.stamp.moment (f.newest.stamp.number + 1)) else None) ≡ None
          → (nat_lt 0 (counted f) && nat_lt c.max_bytes (counted f + room_needed len)) ≡ false
      by true full e never = absurd (let both : true ≡ false = ap (λ (o : Option Stamp). is_some o) never in cc)
      by false true e never = absurd (let both : true ≡ false = ap (λ (o : Option Stamp). is_some o) never in cc)
      by false false e it = rw (limited, below) at e

  -- a check of the clock
  pub limit_checks : (m : ℤ) (len : ℕ) (switch : Switch) (f : Files) → KeepsToLimit c f → KeepsToLimit c (files_after_check c m len switch f)
  limit_checks m len switch f so limited = by (due_file c f m len) switch
    where
      new : (s : Stamp) (ok : Bool) → All (IsWithinLimit c) (record { stamp = s; opened = ok; calls = [] } ∷ f.newest ∷ f.earlier)
      new s ok = All-cons (IsWithinLimit c) (record { stamp = s; opened = ok; calls = [] }) (f.newest ∷ f.earlier) (λ low. inl (omega arith)) (so limited)

      by : (o : Option Stamp) (switch : Switch) → All (IsWithinLimit c) ((files_after_try o switch (record f { latest = later_moment f.latest m })).newest ∷ (files_after_try o switch (record f { latest = later_moment f.latest m })).earlier)
      by None switch = so limited
      by (Some s) Stayed = new s false
      by (Some s) Switched = new s true
      by (Some s) SwitchFailed = new s false

  -- and a write
  pub limit_puts : (m : ℤ) (bytes : List ℕ) (switch : Switch) (answer : Result ℕ ErrorKind) (f : Files) → KeepsToLimit c f → KeepsToLimit c (files_after_call false bytes answer (files_after_check c m (length bytes) switch f))
  limit_puts m bytes switch answer f so limited = by (due_file c f m (length bytes)) switch refl
    where
      w : FileCall
      w = record { latest = later_moment f.latest m; flush = false; bytes = bytes; answer = answer }

      new : (s : Stamp) (ok : Bool) → All (IsWithinLimit c) (record { stamp = s; opened = ok; calls = w ∷ [] } ∷ f.newest ∷ f.earlier)
      new s ok = All-cons (IsWithinLimit c) (record { stamp = s; opened = ok; calls = w ∷ [] }) (f.newest ∷ f.earlier) (one_write s ok w) (so limited)

      by : (o : Option Stamp) (switch : Switch) → due_file c f m (length bytes) ≡ o
          → All (IsWithinLimit c) ((files_after_call false bytes answer (files_after_try o switch (record f { latest = later_moment f.latest m }))).newest ∷ (files_after_call false bytes answer (files_after_try o switch (record f { latest = later_moment f.latest m }))).earlier)
      by None switch none = All-cons (IsWithinLimit c) (record f.newest { calls = w ∷ f.newest.calls }) f.earlier (more_written f.newest f.held w (has_room f m (length bytes) limited none)) (All-tail (IsWithinLimit c) f.newest f.earlier (so limited))
      by (Some s) Stayed some = new s false
      by (Some s) Switched some = new s true
      by (Some s) SwitchFailed some = new s false

  -- a call that took nothing
  pub limit_stays : (flush : Bool) (bytes : List ℕ) (answer : Result ℕ ErrorKind) (f : Files) → take (written_count answer) bytes ≡ [] → KeepsToLimit c f → KeepsToLimit c (files_after_call flush bytes answer f)
  limit_stays flush bytes answer f nothing so limited =
      All-cons (IsWithinLimit c) (record f.newest { calls = w ∷ f.newest.calls }) f.earlier (λ low. same (All-head (IsWithinLimit c) f.newest f.earlier (so limited) low)) (All-tail (IsWithinLimit c) f.newest f.earlier (so limited))
    where
      w : FileCall
      w = record { latest = f.latest; flush = flush; bytes = bytes; answer = answer }

      same : (length (bytes_taken f.newest.calls) ≤ c.max_bytes) ⊎ (length (filter took f.newest.calls) ≡ 1) → (length (bytes_taken (w ∷ f.newest.calls)) ≤ c.max_bytes) ⊎ (length (filter took (w ∷ f.newest.calls)) ≡ 1)
      same (inl small) = inl (let longer = length-append (bytes_taken f.newest.calls) (take (written_count answer) bytes) in omega (arith, longer, ap length nothing, small))
      same (inr one) = inr (let not_it : took w ≡ false = ap (λ (xs : List ℕ). nat_lt 0 (length xs)) nothing in rw not_it one)

  -- a flush
  pub limit_flushes : (answer : Result ℕ ErrorKind) (f : Files) → KeepsToLimit c f → KeepsToLimit c (files_after_call true [] answer f)
  limit_flushes answer f so = limit_stays true [] answer f (nothing_of (written_count answer)) so

  pub limit_begins : (start : Start) → KeepsToLimit c (files_at_opening start)
  limit_begins start limited = All-cons (IsWithinLimit c) (files_at_opening start).newest [] (λ low. inl (omega arith)) (All-nil (IsWithinLimit c))
