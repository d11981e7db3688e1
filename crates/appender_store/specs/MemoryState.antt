-- A folder in memory as its callers see it.
use Rattle.std.specs.Prelude.{◌≡◌, ℕ, Bool, true, false, List, [], ◌∷◌, ◌++◌, length, slice_get, min, ℤ, Option, None, Some, IsSome, unwrap_or, Result, MatchResult, IfOk, IsOk, OnErr, IsErrAnd, if◌then◌else◌}
use Rattle.std.specs.Option.{option_map_or}
use Rattle.std.specs.Ordering.{nat_cmp}
use Rattle.std.specs.FinSet as set
use Rattle.std.specs.FinMap as fin
use Rattle.std.specs.IoError.{error_kind}
use Rattle.std.specs.declared.io.Error.{Error}
use Rattle.std.specs.declared.io.ErrorKind.{ErrorKind}
use Rattle.std.specs.declared.io.ErrorKind.TheVariants.{NotFound, AlreadyExists, OutOfMemory, Other}
use Rattle.appender_store.specs.Content.{Content, Entry, File, Link, Folder}
use Rattle.appender_store.specs.Folder.{NotedCounts, next_count}
use Rattle.appender_store.specs.declared.store.Kind.{Kind}
use Rattle.appender_store.specs.declared.store.Kind.TheVariants.{File as PlainFile, Folder as PlainFolder, Link as PlainLink}
use Rattle.appender_store.specs.declared.store.NoticeKind.{NoticeKind}
use Rattle.appender_store.specs.declared.store.NoticeKind.TheVariants.{List as OfList, Remove as OfRemove, Flush as OfFlush, Open as OfOpen}

-- the numbers of the calls that are to fail
abbrev pub FailingCalls : Type 0
FailingCalls = set.FinSet nat_cmp

-- how many bytes an append takes at most, by its call's number
abbrev pub AppendLimits : Type 0
AppendLimits = fin.FinMap nat_cmp ℕ

-- of two limits the lesser
abbrev pub lesser_limit : Option ℕ → ℕ → ℕ
lesser_limit None n = n
lesser_limit (Some m) n = min m n

-- Its content, the creation moment that the next files get, how many calls were made, the numbers of those that are to
-- fail and of the appends that are to be short, with their limits, and the counts of failures and notices.
pub record MemoryState : Type 0 where
  pub content : Content
  pub created : Option ℤ
  pub calls : ℕ
  pub failing : FailingCalls
  pub shortened : AppendLimits
  pub failures : ℕ
  pub noted : NotedCounts

-- as it is made: empty, with no call made and none to fail
abbrev pub empty_state : Bool → MemoryState
empty_state there = record {
  content = record { there = there; bodies = []; names = fin.empty };
  created = None;
  calls = 0;
  failing = set.empty;
  shortened = fin.empty;
  failures = 0;
  noted = record { lists = 0; removes = 0; flushes = 0; opens = 0 };
}

-- whether the next call is named to fail; calls are numbered from 1
abbrev pub is_named : MemoryState → Bool
is_named s = set.contains s.failing (next_count s.calls)

-- ---- the kind of error by which the content refuses a call, if it does

-- a listing, of an absent folder
abbrev pub list_refusal : Content → Option ErrorKind
list_refusal c = if c.there then None else Some NotFound

-- the removal of what a name leads to, which has to be a file; in an absent folder a name leads to nothing
abbrev pub remove_refusal : Option Entry → Option ErrorKind
remove_refusal None = Some NotFound
remove_refusal (Some (File b t)) = None
remove_refusal (Some (Link t)) = Some NotFound
remove_refusal (Some Folder) = Some NotFound

-- the same of a link
abbrev pub remove_link_refusal : Option Entry → Option ErrorKind
remove_link_refusal None = Some NotFound
remove_link_refusal (Some (File b t)) = Some NotFound
remove_link_refusal (Some (Link t)) = None
remove_link_refusal (Some Folder) = Some NotFound

-- an opening, by whether the folder is there and what the name leads to
abbrev pub open_refusal : Bool → Option Entry → Option ErrorKind
open_refusal false entry = Some NotFound
open_refusal true None = None
open_refusal true (Some (File b t)) = None
open_refusal true (Some (Link t)) = Some AlreadyExists
open_refusal true (Some Folder) = Some AlreadyExists

-- a new link, by the same
abbrev pub make_link_refusal : Bool → Option Entry → Option ErrorKind
make_link_refusal false entry = Some NotFound
make_link_refusal true None = None
make_link_refusal true (Some entry) = Some AlreadyExists

-- ---- what each call does

-- A call has a number. It counts a failure exactly if its number was named to fail, and its Err then has the kind Other. A
-- call that isn't named is refused where the content refuses it, by this kind, and beside that only if memory is refused.
pub record CountsCall {T : Type 0} (old : MemoryState) (refusal : Option ErrorKind) (result : Result T Error) (new : MemoryState) : Type 0 where
  pub calls : new.calls ≡ next_count old.calls
  pub failures : new.failures ≡ (if is_named old then next_count old.failures else old.failures)
  pub named : is_named old ≡ true → IsErrAnd result (λ e. error_kind e ≡ Other)
  pub unnamed : is_named old ≡ false → MatchResult result (λ _. refusal ≡ None) (λ e. error_kind e ≡ unwrap_or refusal OutOfMemory)
  pub created : new.created ≡ old.created
  pub failing : new.failing ≡ old.failing
  pub shortened : new.shortened ≡ old.shortened

-- The same of a call that needs no memory: where it isn't named, it fails only if the content refuses it.
pub record NeedsNoMemory {T : Type 0} (old : MemoryState) (refusal : Option ErrorKind) (result : Result T Error) (new : MemoryState) : Type 0 where
  pub called : CountsCall old refusal result new
  pub fails : is_named old ≡ false → OnErr result (IsSome refusal)

-- An opening needs memory only for a free name, and gives a new file the creation moment that was set.
pub record OpensByName {T : Type 0} (name : List ℕ) (old : MemoryState) (result : Result T Error) (new : MemoryState) : Type 0 where
  pub called : CountsCall old (open_refusal old.content.there (fin.get old.content.names name)) result new
  pub in_use : is_named old ≡ false → IsSome (fin.get old.content.names name) → OnErr result (IsSome (open_refusal old.content.there (fin.get old.content.names name)))
  pub created : IfOk result (λ _. fin.get old.content.names name ≡ None → fin.get new.content.names name ≡ Some (File (length old.content.bodies) old.created))

-- how many of this number of bytes the next call takes
abbrev pub count_taken : MemoryState → ℕ → ℕ
count_taken s count = option_map_or (λ limit. min limit count) (fin.get s.shortened (next_count s.calls)) count

-- An append takes all its bytes but where its number was named to be short, and needs no memory where it takes none.
pub record TakesBytes (bytes : List ℕ) (old : MemoryState) (result : Result ℕ Error) (new : MemoryState) : Type 0 where
  pub called : CountsCall old None result new
  pub none : is_named old ≡ false → count_taken old (length bytes) ≡ 0 → IsOk result
  pub takes : IfOk result (λ n. n ≡ count_taken old (length bytes))

-- what it is once a file with these bytes was put
abbrev pub with_file : MemoryState → List ℕ → List ℕ → MemoryState
with_file s name bytes = record s {
  content = record {
    there = true;
    bodies = s.content.bodies ++ bytes ∷ [];
    names = fin.insert s.content.names name (File (length s.content.bodies) s.created);
  };
}

-- what it is once a link or a folder was put
abbrev pub with_entry : MemoryState → List ℕ → Entry → MemoryState
with_entry s name entry = record s { content = record s.content { there = true; names = fin.insert s.content.names name entry } }

-- what it is once a name was removed
abbrev pub without_entry : MemoryState → List ℕ → MemoryState
without_entry s name = record s { content = record s.content { names = fin.remove s.content.names name } }

-- the bytes of the body that a plain file's name leads to
abbrev pub bytes_in : Content → Option Entry → Option (List ℕ)
bytes_in c None = None
bytes_in c (Some (File b t)) = slice_get c.bodies b
bytes_in c (Some (Link t)) = None
bytes_in c (Some Folder) = None

-- a link's target
abbrev pub target_in : Option Entry → Option (List ℕ)
target_in None = None
target_in (Some (File b t)) = None
target_in (Some (Link t)) = Some t
target_in (Some Folder) = None

-- the kind of what a name leads to
abbrev pub kind_in : Option Entry → Option Kind
kind_in None = None
kind_in (Some (File b t)) = Some PlainFile
kind_in (Some (Link t)) = Some PlainLink
kind_in (Some Folder) = Some PlainFolder

-- how often one kind was noted
abbrev pub notice_count : NoticeKind → NotedCounts → ℕ
notice_count OfList n = n.lists
notice_count OfRemove n = n.removes
notice_count OfFlush n = n.flushes
notice_count OfOpen n = n.opens
