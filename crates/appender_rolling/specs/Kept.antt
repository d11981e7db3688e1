-- What the parts of an opening keep of a folder: every body with its bytes, and which names lead to which files.
use Rattle.std.specs.Prelude.{◌≡◌, ◌≢◌, ℕ, ◌<◌, ℤ, List, length, Option, Some}
use Rattle.std.specs.FinMap as fin
use Rattle.appender_retain.specs.Rank.{LogFiles}
use Rattle.appender_store.specs.Content.{Content, File, OpensBody, after_make_folder, body_at}
use Rattle.appender_retain.specs.Survival.{RemovesOnlyOld}
use Rattle.appender_rolling.specs.Config.{Config}
use Rattle.appender_rolling.specs.Opening.{MayChangeLink, IsRefusalEffect}

-- every body is there still, holds its bytes, and has no name that it didn't have
pub record KeepsBodies (old new : Content) : Type 0 where
  pub bytes : (x : ℕ) → body_at new x ≡ body_at old x
  pub more : (x : ℕ) → x < length old.bodies → x < length new.bodies
  pub names : (x : ℕ) → x < length old.bodies → (name : List ℕ) (t : Option ℤ) → fin.get new.names name ≡ Some (File x t) → fin.get old.names name ≡ Some (File x t)

-- the file that has this name now had it before
abbrev pub HadFile : List ℕ → Content → Content → Type 0
HadFile name old new = (x : ℕ) (t : Option ℤ) → fin.get new.names name ≡ Some (File x t) → fin.get old.names name ≡ Some (File x t)

-- no file gets a name
pub record AddsNoFile (old new : Content) : Type 0 where
  pub keeps : KeepsBodies old new
  pub stay : (other : List ℕ) → HadFile other old new

-- no file gets a name but this one
pub record AddsNoOtherFile (name : List ℕ) (old new : Content) : Type 0 where
  pub keeps : KeepsBodies old new
  pub stay : (other : List ℕ) → other ≢ name → HadFile other old new

-- So it is with each part of an opening, and with what a refused opening leaves.
pub record OpeningPartsKeepBodies : Type 0 where
  pub retention : (log : LogFiles) (max : ℕ) (old new : Content) → RemovesOnlyOld log max old new → AddsNoFile old new
  pub folder : (old : Content) → AddsNoFile old (after_make_folder old)
  pub opening : (name : List ℕ) (old new : Content) (b : ℕ) → OpensBody name old new b → AddsNoOtherFile name old new
  pub link : (config : Config) (name : List ℕ) (old new : Content) → MayChangeLink config name old new → AddsNoFile old new
  pub refusal : (config : Config) (name : List ℕ) (old new : Content) → IsRefusalEffect config name old new → AddsNoOtherFile name old new
