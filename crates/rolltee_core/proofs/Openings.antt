-- A log that was opened, with its last file or with the next one.
use Rattle.std.proofs.Common.{◌≡◌, ◌≢◌, false, inl, inr, subst, Result, Ok, Err, IfOk}
use Rattle.std.specs.IoError.{error_kind}
use Rattle.std.specs.declared.io.Error.{Error}
use Rattle.std.specs.declared.io.ErrorKind.TheVariants.{OutOfMemory, Interrupted}
use Rattle.appender_names.specs.declared.error.InitError.{InitError}
use Rattle.appender_names.specs.declared.error.InitError.TheVariants.{File as FileRefused}
use Rattle.appender_store.specs.declared.store.Folder.{Ghosts}
use Rattle.appender_runtime.specs.declared.clock.Clock.{Ghosts as Readings}
use Rattle.appender_rolling.specs.Appender.{Appending, OpensNow, OpensNone}
use Rattle.appender_rolling.specs.Config.{Config}
use Rattle.rolltee_core.specs.Log.{OpensLog}

pub opens_last : {S F C : Type 0} {kind : Ghosts S F} {time : Readings C} {config : Config} {folder : S} {clock : C} {new : Appending S F C}
    → OpensNow kind time config folder clock new → OpensLog kind time config folder new
opens_last {clock = clock} opens = inl (clock, opens)

pub opens_next : {S F C : Type 0} {kind : Ghosts S F} {time : Readings C} {config : Config} {folder left : S} {clock same : C} {error : InitError} {fault : Error}
    {new : Appending S F C} → error ≡ FileRefused fault → (error_kind fault ≢ OutOfMemory) × (error_kind fault ≢ Interrupted) → OpensNone kind time config folder clock error left same
    → OpensNow kind time (record config { continues = false }) left same new → OpensLog kind time config folder new
opens_next {kind = kind} {time = time} {config = config} {folder = folder} {left = left} {clock = clock} {same = same} {fault = fault} is lasts refused opens =
    inr (record {
      clock = clock;
      fault = fault;
      lasts = lasts;
      left = left;
      same = same;
      refused = subst (λ e. OpensNone kind time config folder clock e left same) is refused;
      opens = opens;
    })

-- a consequence of the claim holds if the claim holds
pub if_ok_by : {T E : Type 0} {P Q : T → Type 0} (result : Result T E) → ((value : T) → P value → Q value) → IfOk result P → IfOk result Q
if_ok_by (Ok value) step p = step value p
if_ok_by (Err error) step p = tt
