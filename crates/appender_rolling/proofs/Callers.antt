-- What a put did, as its caller asks first: the check of the clock, after which the write leaves the schedule as it is.
use Rattle.std.proofs.Common.{◌≡◌, ◌≢◌, ◌∙◌, ℕ, ℤ, List, length, None, Some, Result, ap, refl, sym}
use Rattle.std.specs.declared.io.Error.{Error}
use Rattle.appender_names.specs.Rotation.{next_of}
use Rattle.appender_store.specs.declared.store.Folder.{Ghosts}
use Rattle.appender_rolling.specs.Roller.{Rolling, Puts, next_stamp}
use Rattle.appender_rolling.specs.declared.rolling.Switch.{Switch}
use Rattle.appender_rolling.specs.declared.rolling.Switch.TheVariants.{None as Stayed, Opened as Switched, Failed as SwitchFailed}

module _ {S F : Type 0} (kind : Ghosts S F) (m : ℤ) (bytes : List ℕ) (answer : Result ℕ Error) (old new : Rolling S F) where
  pub none_of_put : (switch : Switch) → Puts kind m bytes switch answer old new → switch ≡ Stayed
      → (next_stamp old m (length bytes) ≡ None) × (new.opened ≡ old.opened)
  none_of_put Stayed puts is = (puts.looks.0, puts.writes.stays.opened ∙ ap (λ r. r.opened) puts.looks.1)
  none_of_put Switched puts is = absurd (let no : Switched ≡ Stayed = is in cc)
  none_of_put SwitchFailed puts is = absurd (let no : SwitchFailed ≡ Stayed = is in cc)

  pub attempt_of_put : (switch : Switch) → Puts kind m bytes switch answer old new → switch ≢ Stayed
      → next_stamp old m (length bytes) ≡ Some new.last
  attempt_of_put Stayed puts some = absurd (some refl)
  attempt_of_put Switched puts some = puts.looks.cause ∙ ap Some (sym (puts.writes.stays.last ∙ puts.looks.last))
  attempt_of_put SwitchFailed puts some = puts.looks.cause ∙ ap Some (sym (puts.writes.stays.last ∙ puts.looks.last))

  pub opened_of_put : (switch : Switch) → Puts kind m bytes switch answer old new → switch ≡ Switched → new.opened ≡ new.last
  opened_of_put Stayed puts is = absurd (let no : Stayed ≡ Switched = is in cc)
  opened_of_put Switched puts is = puts.writes.stays.opened ∙ puts.looks.opened ∙ sym (puts.writes.stays.last ∙ puts.looks.last)
  opened_of_put SwitchFailed puts is = absurd (let no : SwitchFailed ≡ Switched = is in cc)

  pub failed_of_put : (switch : Switch) → Puts kind m bytes switch answer old new → switch ≡ SwitchFailed → new.opened ≡ old.opened
  failed_of_put Stayed puts is = absurd (let no : Stayed ≡ SwitchFailed = is in cc)
  failed_of_put Switched puts is = absurd (let no : Switched ≡ SwitchFailed = is in cc)
  failed_of_put SwitchFailed puts is = puts.writes.stays.opened ∙ puts.looks.opened

  pub boundary_of_put : (switch : Switch) → Puts kind m bytes switch answer old new → switch ≢ Stayed
      → new.boundary ≡ next_of old.config.rotation new.last.moment
  boundary_of_put Stayed puts some = absurd (some refl)
  boundary_of_put Switched puts some =
      puts.writes.stays.boundary ∙ puts.looks.boundary ∙ ap (λ s. next_of old.config.rotation s.moment) (sym (puts.writes.stays.last ∙ puts.looks.last))
  boundary_of_put SwitchFailed puts some =
      puts.writes.stays.boundary ∙ puts.looks.boundary ∙ ap (λ s. next_of old.config.rotation s.moment) (sym (puts.writes.stays.last ∙ puts.looks.last))
