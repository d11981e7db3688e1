-- What a log took, over many calls.
use Rattle.std.specs.Prelude.{◌≡◌, ℕ, List, [], ◌∷◌, ◌++◌, Option, None, Some, String, string_bytes}
use Rattle.std.specs.List.{FoldsTo, concat}
use Rattle.std.specs.Io.KnownBytes.{Appends}
use Rattle.std.specs.declared.alloc.Global.{Global}
use Rattle.appender_names.specs.declared.rotation.Rotation.{Rotation}
use Rattle.appender_names.specs.RotationText.{rotation_word}
use Rattle.appender_non_blocking.specs.SentLines.{SentLines}
use Rattle.appender_worker.specs.Batch.{Batch}
use Rattle.program_io.specs.declared.options.Options.{Options}
use Rattle.rolltee_core.specs.Feed.{FeedsLines}
use Rattle.rolltee_core.specs.declared.losses.TeeLosses.{TeeLosses}

-- this is so for what was asked for
abbrev pub AsAsked : (Rotation → List ℕ → List ℕ → Options → Type 0) → (Rotation → List ℕ → List ℕ → Options → Type 0) → Type 0
AsAsked is asked =
    (rotation : Rotation) × (directory : List ℕ) × (prefix : List ℕ) × (options : Options)
    × asked rotation directory prefix options × is rotation directory prefix options

-- a log was opened by what was asked for
abbrev pub WasOpened : {W : Type 0} → (Rotation → List ℕ → List ℕ → Options → W → Type 0) → (Rotation → List ℕ → List ℕ → Options → Type 0) → W → Type 0
WasOpened opens asked log = AsAsked (λ r d p o. opens r d p o log) asked

-- The log was opened, and then took these pieces, each by one call, with no other call between them.
pub record TakesPieces {W : Type 0} (is_opened : W → Type 0) (takes : W → List ℕ → W → Type 0) (pieces : List (List ℕ)) (log : W) : Type 0 where
  pub first : W
  pub opened : is_opened first
  pub took : FoldsTo takes first pieces log

-- A log was opened, and then took exactly these bytes. None of them is known to be lost.
pub record TookText {W : Type 0} (is_opened : W → Type 0) (takes : W → List ℕ → W → Type 0) (is_kept : W → Type 0) (text : List ℕ) : Type 0 where
  pub last : W
  pub pieces : List (List ℕ)
  pub took : TakesPieces is_opened takes pieces last
  pub text_is : concat pieces ≡ text
  pub kept : is_kept last

-- the bytes that were taken by a log that may not have been found yet
abbrev pub taken_in : Option (List ℕ) → List ℕ
taken_in None = []
taken_in (Some taken) = taken

-- Unless a line was not taken whole, all that waited and this line were written, in their order, or wait.
pub record PassesLine {W : Type 0} (contents : W → Option (List ℕ)) (line : List ℕ) (old new : Batch W) : Type 0 where
  pub before : new.lost ≡ 0 → old.lost ≡ 0
  pub written : List ℕ
  pub bytes : Appends (contents old.writer) (contents new.writer) written
  pub all : new.lost ≡ 0 → concat old.waiting ++ line ≡ written ++ concat new.waiting

-- the lines that a text leads to, by the options that were asked for
abbrev pub FeedsAsAsked : (Rotation → List ℕ → List ℕ → Options → Type 0) → Option (List ℕ) → Option (List ℕ) → List ℕ → List ℕ → Type 0
FeedsAsAsked asked before after text lines = AsAsked (λ _ _ _ options. FeedsLines options before after text lines) asked

-- If no line was dropped, and none not echoed, a sender sent exactly the lines that what was left of the input leads to.
pub record IsCopied (asked : Rotation → List ℕ → List ℕ → Options → Type 0) (before after remaining : Option (List ℕ)) (old new : SentLines) (losses : TeeLosses) : Type 0 where
  pub sent : losses.dropped ≡ 0 → losses.unechoed ≡ 0 → (text : List ℕ) → remaining ≡ Some text
      → (lines : List ℕ) × FeedsAsAsked asked before after text lines × (concat new.lines ≡ concat old.lines ++ lines)

-- these and no others
abbrev pub AskedFor : Rotation → List ℕ → List ℕ → Options → Rotation → List ℕ → List ℕ → Options → Type 0
AskedFor rotation directory prefix options r d p o = (r ≡ rotation) × (d ≡ directory) × (p ≡ prefix) × (o ≡ options)

-- A log was opened by what was asked for, and took exactly the lines that this text leads to.
abbrev pub TookInput : {W : Type 0} → (Rotation → List ℕ → List ℕ → Options → W → Type 0) → (Rotation → List ℕ → List ℕ → Options → Type 0) → (W → List ℕ → W → Type 0) → (W → Type 0) → Option (List ℕ) → Option (List ℕ) → List ℕ → Type 0
TookInput opens asked takes is_kept before after text =
    (lines : List ℕ) × FeedsAsAsked asked before after text lines × TookText (WasOpened opens asked) takes is_kept lines

-- A log was opened by the arguments and the options, and took exactly these bytes, of which none is known to be lost.
pub record LogsText {W : Type 0} (opens : Rotation → List ℕ → List ℕ → Options → W → Type 0) (options : Options) (takes : W → List ℕ → W → Type 0) (is_kept : W → Type 0) (arguments : List (String Global)) (text : List ℕ) : Type 0 where
  pub rotation : Rotation
  pub word : String Global
  pub directory : String Global
  pub prefix : String Global
  pub words : arguments ≡ word ∷ directory ∷ prefix ∷ []
  pub named : string_bytes word ≡ rotation_word rotation
  pub took : TookText (opens rotation (string_bytes directory) (string_bytes prefix) options) takes is_kept text
