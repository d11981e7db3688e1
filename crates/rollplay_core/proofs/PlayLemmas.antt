-- The text that is read of a script.
use Rattle.std.proofs.Common.{◌≡◌, ℕ, ℤ, suc, ◌≤◌, List, Vec, Option, None, Some, Result, Ok, Err, IfOk, IfSome, length, take, arith, ap, sym, ◌∙◌}
use Rattle.std.specs.Option.{option_map}
use Rattle.std.proofs.lemmas.List.{length-take}
use Rattle.std.proofs.lemmas.Grind.{common_steps}
use Rattle.std.specs.declared.alloc.Global.{Global}
use Rattle.appender_store.specs.declared.store.Folder.{Ghosts}
use Rattle.appender_store.specs.declared.store.memory.MemoryFolder.{MemoryFolder}
use Rattle.appender_rolling.specs.Config.{Config}
use Rattle.appender_replay.specs.Replay.{IsNotRun}
use Rattle.appender_replay.specs.declared.replay.ReplayError.{ReplayError}
use Rattle.appender_replay.specs.declared.replay.ReplayError.TheVariants.{Memory as NoMemory, Init}
use Rattle.rollplay_core.specs.declared.play.Failure.{Failure}
use Rattle.rollplay_core.specs.declared.play.Opening.{Opening}
use Rattle.rollplay_core.specs.declared.play.Opening.TheVariants.{Refused}
use Rattle.rollplay_core.specs.Play.{IsGiven, IsRefusalPage, IsPlayPage}
use Rattle.rollplay_core.specs.Script.{Plan, rolling, queued}

-- a front shorter than its limit is the whole text
take_short : (n : ℕ) (xs : List ℕ) → length xs ≤ n → take n xs ≡ xs
take_short n xs short = grind (arith, common_steps)

-- the text that was read is the whole input, since it is shorter than the limit
pub given_whole : (given : Option (List ℕ)) (limit most : ℕ) (read : List ℕ) → limit ≡ suc most
    → IfSome (option_map (take limit) given) (λ front. read ≡ front) → length read ≤ most → IsGiven given read
given_whole None limit most read next front short = tt
given_whole (Some bytes) limit most read next front short =
    let counted = ap length front ∙ length-take limit bytes in
    let all : length bytes ≤ limit = omega (arith, counted) in
    sym (front ∙ take_short limit bytes all)

-- the page of a log that was not opened
pub refused_page : {F : Type 0} (kind : Ghosts MemoryFolder F) (config : Config) (folder : MemoryFolder) (start : ℤ) (plan : Plan) (error : ReplayError MemoryFolder) (result : Result (Opening × Vec ℕ Global) Failure)
    → IsNotRun kind config start folder error → IfOk result (λ r. (r.0 ≡ Refused) × IsRefusalPage error r.1.items)
    → IfOk result (λ r. IsPlayPage kind config folder start plan r.0 r.1.items)
refused_page kind config folder start plan error (Err failure) not_run is = tt
refused_page kind config folder start plan (NoMemory back) (Ok r) not_run is = absurd is.1
refused_page kind config folder start (rolling steps) (Init error back) (Ok r) not_run is =
    rw is.0 (record { error = error; back = back; refused = not_run; page_is = is.1 })
refused_page kind config folder start (queued limit lossy steps) (Init error back) (Ok r) not_run is =
    rw is.0 (record { error = error; back = back; refused = not_run; page_is = is.1 })
