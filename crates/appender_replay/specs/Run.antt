-- What a folder shows of the tries of a run: what each did, and what the bodies hold at the end.
use Rattle.std.specs.Prelude.{◌≡◌, ◌⊎◌, ℕ, ◌+◌, nat_lt, ◌<◌, ◌≤◌, ◌==◌, ℤ, Bool, true, false, ◌&&◌, if◌then◌else◌, List, [], ◌∷◌, ◌++◌, length, filter, take, map, All, Option, None, Some, is_some, MatchOption}
use Rattle.std.specs.Int.{int_max}
use Rattle.appender_names.specs.Rotation.{period_of, is_same_start}
use Rattle.std.specs.FinMap as fin
use Rattle.appender_store.specs.Content.{Content, File, OpensBody, after_append, after_make_folder, body_at}
use Rattle.appender_store.specs.Folder.{NotedCounts}
use Rattle.appender_retain.specs.Survival.{RemovesOnlyOld, KeepsSurvivors, candidates_in}
use Rattle.appender_retain.specs.Pruning.{IsQuiet}
use Rattle.appender_rolling.specs.Config.{Config, log_files_of, is_limited, IsStamp, max_before, max_after, uncounted}
use Rattle.appender_rolling.specs.Roller.{written_count}
use Rattle.appender_rolling.specs.declared.rolling.setup.Stamp.{Stamp}
use Rattle.appender_rolling.specs.Opening.{file_name_of, MayChangeLink, IsRefusalEffect, SparesOpened}
use Rattle.appender_replay.specs.Headline.{FileCall, Try, Files, NamesAfterOpening, bytes_taken, failures_in}

-- the greatest of them
abbrev pub greatest : ℤ → List ℤ → ℤ
greatest start [] = start
greatest start (m ∷ ms) = int_max m (greatest start ms)

-- what distinguishes the files of a run: a period, and a number in it
abbrev pub FileKey : Type 0
FileKey = Option ℤ × ℕ

abbrev pub file_key : Config → Stamp → FileKey
file_key c s = (period_of c.rotation s.moment, s.number)

abbrev pub is_same_key : FileKey → FileKey → Bool
is_same_key a b = is_same_start a.0 b.0 && (a.1 == b.1)

-- From a try to the next, writes take no more than the limit, or one took all. A file with the greatest number has no limit.
abbrev pub IsWithinLimit : Config → Try → Type 0
IsWithinLimit c t = t.stamp.number < 999999 → (length (bytes_taken t.calls) ≤ c.max_bytes)
    ⊎ (length (filter (λ (w : FileCall). nat_lt 0 (length (take (written_count w.answer) w.bytes))) t.calls) ≡ 1)

abbrev pub KeepsToLimit : Config → Files → Type 0
KeepsToLimit c f = is_limited c ≡ true → All (IsWithinLimit c) (f.newest ∷ f.earlier)

-- ---- attempts

-- A try as the folder shows it: its stamp, the number of the body that it opened if it succeeded, the folder's content before and after it, and the
-- counts of notices before and after.
pub record Attempt : Type 0 where
  pub stamp : Stamp
  pub body : Option ℕ
  pub before : Content
  pub after : Content
  pub noted_before : NotedCounts
  pub noted_after : NotedCounts

-- with the writes until the next one, the newest first
abbrev pub WrittenAttempt : Type 0
WrittenAttempt = Attempt × List FileCall

abbrev pub try_of : WrittenAttempt → Try
try_of (a, writes) = record { stamp = a.stamp; opened = is_some a.body; calls = writes }

-- What an attempt that opened a body did. It removed only log files that don't survive, and, if it noted neither List nor
-- Remove, all of them: by name last, else first. In the folder, which is there now, it opened the file of its moment's name, and let the link
-- lead to it, unless that is optional and could not be made.
pub record Succeeded (c : Config) (a : Attempt) (b : ℕ) : Type 0 where
  pub pruned : Content
  pub unlinked : Content
  pub linked : Content
  pub only_old : RemovesOnlyOld (log_files_of c (Some (file_name_of c a.stamp))) (max_before c) a.before pruned
  pub survivors : IsQuiet a.noted_before a.noted_after → KeepsSurvivors (log_files_of c (Some (file_name_of c a.stamp))) (max_before c) a.before pruned
  pub opens : OpensBody (file_name_of c a.stamp) (after_make_folder pruned) unlinked b
  pub links : MayChangeLink c (file_name_of c a.stamp) unlinked linked
  pub only_old_last : RemovesOnlyOld (log_files_of c (Some (file_name_of c a.stamp))) (max_after c) linked a.after
  pub survivors_last : IsQuiet a.noted_before a.noted_after → KeepsSurvivors (log_files_of c (Some (file_name_of c a.stamp))) (max_after c) linked a.after
  pub spares : SparesOpened c (file_name_of c a.stamp) a.before linked a.after
  pub at_most : IsQuiet a.noted_before a.noted_after → 0 < c.max_files → candidates_in (log_files_of c (Some (file_name_of c a.stamp))) a.after + uncounted c ≤ c.max_files

-- what an attempt did
abbrev pub AttemptDoes : Config → Attempt → Type 0
AttemptDoes c a = MatchOption a.body (IsRefusalEffect c (file_name_of c a.stamp) a.before a.after) (Succeeded c a)

-- An attempt that opened a body, and noted neither List nor Remove or found no folder, left exactly the survivors, its file and its link.
abbrev pub LeavesSurvivors : Config → Attempt → Type 0
LeavesSurvivors c a = is_some a.body ≡ true → (IsQuiet a.noted_before a.noted_after ⊎ (a.before.there ≡ false))
    → NamesAfterOpening c (length a.before.bodies) a.stamp a.before.names a.after.names

-- ---- what is written

-- the body that is open after these attempts
abbrev pub open_body : List WrittenAttempt → Option ℕ
open_body [] = None
open_body ((a, writes) ∷ earlier) = if is_some a.body then a.body else open_body earlier

abbrev pub is_number : ℕ → Option ℕ → Bool
is_number n None = false
is_number n (Some m) = m == n

-- what was written to a body, by its number
abbrev pub bytes_to_body : ℕ → List WrittenAttempt → List ℕ
bytes_to_body b [] = []
bytes_to_body b ((a, writes) ∷ earlier) = bytes_to_body b earlier ++ (if is_number b (open_body ((a, writes) ∷ earlier)) then bytes_taken writes else [])

-- What was written while the latest moment was in this period, and this number was the last begun there. Without a limit of bytes the number is 0.
abbrev pub bytes_under : Config → FileKey → List WrittenAttempt → List ℕ
bytes_under c key [] = []
bytes_under c key ((a, writes) ∷ earlier) =
    bytes_under c key earlier ++ bytes_taken (filter (λ (w : FileCall). is_same_key (period_of c.rotation w.latest, a.stamp.number) key) writes)

-- ---- the law of the files

-- the bytes are at the end of the body that was open, and nothing else changed
abbrev pub Carried : Option ℕ → List ℕ → Content → Content → Type 0
Carried None bytes old new = new ≡ old
Carried (Some b) bytes old new = new ≡ after_append old b bytes

-- The attempts lead from the first content to the last: nothing changed the folder but they, and after each the writes until the next.
abbrev pub OnlyAttemptsChange : Config → List WrittenAttempt → Content → Content → Type 0
OnlyAttemptsChange c [] first last = last ≡ first
OnlyAttemptsChange c ((a, writes) ∷ earlier) first last =
    OnlyAttemptsChange c earlier first a.before × AttemptDoes c a × Carried (open_body ((a, writes) ∷ earlier)) (bytes_taken writes) a.after last

-- each of these attempts
abbrev pub EachOf : (Attempt → Type 0) → List WrittenAttempt → Type 0
EachOf P [] = Unit {0}
EachOf P ((a, writes) ∷ earlier) = P a × EachOf P earlier

-- no two attempts opened one body
abbrev pub OpenDistinctBodies : List WrittenAttempt → Type 0
OpenDistinctBodies [] = Unit {0}
OpenDistinctBodies ((a, writes) ∷ earlier) = EachOf (λ e. (b : ℕ) → a.body ≡ Some b → e.body ≡ Some b → ⊥) earlier × OpenDistinctBodies earlier

-- what the attempt opened holds what it held then, followed by exactly what was written to it
abbrev pub ContainsItsBytes : List WrittenAttempt → Content → Attempt → Type 0
ContainsItsBytes attempts last a = (b : ℕ) → a.body ≡ Some b → body_at last b ≡ body_at a.before b ++ bytes_to_body b attempts

-- what was written to it was written while the latest moment was in its period, and its number the last begun there
abbrev pub CarriesItsNumber : Config → List WrittenAttempt → Attempt → Type 0
CarriesItsNumber c attempts a = (b : ℕ) → a.body ≡ Some b → bytes_to_body b attempts ≡ bytes_under c (file_key c a.stamp) attempts

-- no name but the attempt's leads to what it opened
abbrev pub HasItsName : Config → Content → Attempt → Type 0
HasItsName c last a =
    (b : ℕ) → a.body ≡ Some b → (m : List ℕ) (t : Option ℤ) → fin.get last.names m ≡ Some (File b t) → m ≡ file_name_of c a.stamp

-- where the attempt's name leads to a file at all, it leads to what the attempt opened
abbrev pub NamesItsBody : Config → Content → Attempt → Type 0
NamesItsBody c last a =
    (b : ℕ) → a.body ≡ Some b → (y : ℕ) (t : Option ℤ) → fin.get last.names (file_name_of c a.stamp) ≡ Some (File y t) → y ≡ b

-- The law of the files of a run with these tries, the newest first: every body, whether or not a name leads to it, holds what it held at first,
-- followed by exactly what was written to it. What each attempt opened holds what it held then, followed by what was written to it, which is, if
-- no try failed, exactly what was written while the latest moment was in its period, and its number the last begun there. The attempts are those
-- that were seen, and b is the body that is open at the end.
pub record FileLaw (c : Config) (tries : List Try) (first last : Content) (seen : Attempt → Type 0) (b : ℕ) : Type 0 where
  pub attempts : List WrittenAttempt
  pub are_tries : map try_of attempts ≡ tries
  pub are_seen : EachOf seen attempts
  pub leads : OnlyAttemptsChange c attempts first last
  pub bodies : (x : ℕ) → body_at last x ≡ body_at first x ++ bytes_to_body x attempts
  pub open_is : open_body attempts ≡ Some b
  pub apart : OpenDistinctBodies attempts
  pub each : EachOf (ContainsItsBytes attempts last) attempts
  pub leaves : EachOf (LeavesSurvivors c) attempts
  pub under_its_name : EachOf (HasItsName c last) attempts
  pub names_its_body : EachOf (NamesItsBody c last) attempts
  pub in_its_number : failures_in tries ≡ 0 → EachOf (CarriesItsNumber c attempts) attempts
  pub stamps : EachOf (λ a. IsStamp c a.stamp) attempts
