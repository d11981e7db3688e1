-- What the calls of a folder of the file system count.
use Rattle.std.specs.Prelude.{◌≡◌, ℕ, Bool, List, [], ◌∷◌, ◌++◌, if◌then◌else◌, Result, MatchResult, OnOk, false}
use Rattle.std.specs.Io.BufRead.{ends_with_byte}
use Rattle.std.specs.FinMap as map
use Rattle.std.specs.declared.io.Error.{Error}
use Rattle.appender_names.specs.Name.{IsEntry}
use Rattle.appender_store.specs.Content.{Content}
use Rattle.appender_store.specs.Folder.{next_count}
use Rattle.appender_store.specs.declared.store.notices.NoticeCounts.{NoticeCounts}

-- the path of a folder with a slash at its end; an empty path is the current directory
abbrev pub base_path : List ℕ → List ℕ
base_path [] = 46 ∷ 47 ∷ []
base_path (x ∷ xs) = if ends_with_byte 47 (x ∷ xs) then x ∷ xs else (x ∷ xs) ++ (47 ∷ [])

-- What is seen of a folder of the file system: its path, whether the last opening that succeeded made its file, how many calls of it
-- failed, and how often each kind of notice was noted.
pub record DirFolderState : Type 0 where
  pub path : List ℕ
  pub made_file : Bool
  pub failures : ℕ
  pub noted : NoticeCounts

-- a call counts a failure exactly if it returns an Err
abbrev pub CountsFailure : {T : Type 0} → ℕ → ℕ → Result T Error → Type 0
CountsFailure old new result = MatchResult result (λ _. new ≡ old) (λ _. new ≡ next_count old)

-- so does a call at an entry, and it succeeds only for the name of one entry
pub record CallsEntry {T : Type 0} (name : List ℕ) (old new : ℕ) (result : Result T Error) : Type 0 where
  pub counts : CountsFailure old new result
  pub entry : OnOk result (IsEntry name)

-- the content of a folder of the file system
abbrev pub unknown_content : Content
unknown_content = record { there = false; bodies = []; names = map.empty }
