-- A note that a folder takes, and counts that do not fall. `kind` has the ghost members of a kind of folder.
use Rattle.std.specs.Prelude.{◌≡◌, ◌≤◌}
use Rattle.appender_store.specs.Folder.{NoticeMessage, after_note, notice_kind_of}
use Rattle.appender_store.specs.declared.store.Folder.{Ghosts}

-- the folder noted it, and nothing else changed
pub record Notes {S F : Type 0} (kind : Ghosts S F) (old : S) (notice : NoticeMessage) (new : S) : Type 0 where
  pub call : kind.note_gives old notice new
  pub content : kind.content new ≡ kind.content old
  pub failures : kind.failures new ≡ kind.failures old
  pub noted : kind.noted new ≡ after_note (notice_kind_of notice) (kind.noted old)

-- No count fell.
pub record CountsRise {S F : Type 0} (kind : Ghosts S F) (old new : S) : Type 0 where
  pub failures : kind.failures old ≤ kind.failures new
  pub lists : (kind.noted old).lists ≤ (kind.noted new).lists
  pub removes : (kind.noted old).removes ≤ (kind.noted new).removes
  pub flushes : (kind.noted old).flushes ≤ (kind.noted new).flushes
  pub opens : (kind.noted old).opens ≤ (kind.noted new).opens
