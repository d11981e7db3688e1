-- When a file is full, and what follows if none is to begin.
use Rattle.std.proofs.Common.{◌≡◌, ℕ, ◌+◌, ℤ, Bool, true, false, if◌then◌else◌, Option, None, Some, is_some, arith, refl, sym}
use Rattle.std.proofs.lemmas.Bool.Decides.{nat_tests}
use Rattle.appender_store.specs.declared.store.Folder.{Ghosts}
use Rattle.appender_rolling.specs.declared.rolling.setup.Stamp.{Stamp}
use Rattle.appender_rolling.specs.Config.{is_limited, stamp}
use Rattle.appender_rolling.specs.Roller.{Scheduled, is_due, is_full, next_with}
use Rattle.appender_rolling.specs.Appender.{SomeRollerIsDue, NoFileIsDueNow}
use Rattle.appender_runtime.specs.declared.clock.Clock.{Ghosts as Readings}

module _ (s : Scheduled) (room : ℕ) (m : ℤ) (len : ℕ) where
  -- without a limit no file is full
  never_full : is_limited s.config ≡ false → is_full s room len ≡ false
  never_full unlimited = let none : s.config.max_bytes ≡ 0 = grind (arith, nat_tests) in grind (arith, nat_tests)

  abbrev Either : Bool → Bool → Option Stamp
  Either due full = if due then Some (stamp m 0) else if full then Some (stamp s.last.moment (s.last.number + 1)) else None

  -- and a file begins just at a boundary
  pub begins_at_boundaries : is_limited s.config ≡ false → is_some (next_with s room m len) ≡ is_due s.boundary m
  begins_at_boundaries unlimited = by (is_due s.boundary m) (is_full s room len) (never_full unlimited)
    where
      by : (due full : Bool) → full ≡ false → is_some (Either due full) ≡ due
      by true full e = refl
      by false false e = refl
      by false true e = absurd (let both : true ≡ false = e in cc)

  -- if none begins, no boundary was reached
  pub none_begins : is_some (next_with s room m len) ≡ false → is_due s.boundary m ≡ false
  none_begins e = by (is_due s.boundary m) (is_full s room len) e
    where
      by : (due full : Bool) → is_some (Either due full) ≡ false → due ≡ false
      by false false e = refl
      by false true e = absurd (let both : true ≡ false = e in cc)
      by true full e = absurd (let both : true ≡ false = e in cc)

module _ {S F C : Type 0} (kind : Ghosts S F) (time : Readings C) where
  -- a writer is made where none was to begin
  pub looks_now : (clock : C) (m : ℤ) (s : Scheduled) → time.now_gives clock m → SomeRollerIsDue kind s m false → NoFileIsDueNow kind time clock s
  looks_now clock m s reading asks = record {
    moment = m;
    reading = reading;
    in_its_period = by (is_limited s.config) refl;
  }
    where
      by : (limited : Bool) → is_limited s.config ≡ limited → is_due s.boundary m ≡ false
      by false e = sym (asks.plain e)
      by true e = let (found, is) = asks.limited e in none_begins s found.room m 0 (sym is)
