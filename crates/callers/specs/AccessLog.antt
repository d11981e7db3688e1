-- A service whose requests are logged.
use Rattle.std.specs.Prelude.{◌≡◌, ◌≤◌, ◌==◌, ℕ, Bool, if◌then◌else◌, List, ◌++◌, Option, length, take, codes, decimal}
use Rattle.std.specs.Io.KnownBytes.{Appends}
use Rattle.http.specs.declared.request.Request.{Request}
use Rattle.http.specs.Request.{head_of}
use Rattle.http.specs.Uri.{uri_text}
use Rattle.http_server.specs.declared.response.Response.{Response}
use Rattle.tracing_appender.specs.Queue.{saturating_next}

-- the service, its log, and the number of lines that the log did not take whole
pub record Logged (S W : Type 0) : Type 0 where
  pub service : S
  pub log : W
  pub lost : ℕ

-- no line was written yet
abbrev pub new_logged : {S W : Type 0} → S → W → Logged S W
new_logged service log = record { service = service; log = log; lost = 0 }

-- the line of a request and the status of its response
abbrev pub access_line : Request (List ℕ) → Response → List ℕ
access_line request response =
    let head = head_of request in
    head.method ++ (codes " " ++ (uri_text head.uri ++ (codes " " ++ (decimal response.status ++ codes "\n"))))

-- known bytes grow by a prefix of the line, and it is whole exactly if all of the line was written
abbrev pub IsWritten : {W : Type 0} → (W → Option (List ℕ)) → List ℕ → W → W → Bool → Type 0
IsWritten contents line old new whole =
    (n : ℕ) × (n ≤ length line) × (whole ≡ (n == length line)) × Appends (contents old) (contents new) (take n line)

-- The line or a prefix of it was written. It is counted exactly if it is not whole.
pub record WritesLogLine {S W : Type 0} (contents : W → Option (List ℕ)) (line : List ℕ) (old new : Logged S W) : Type 0 where
  pub whole : Bool
  pub written : IsWritten contents line old.log new.log whole
  pub lost : new.lost ≡ (if whole then old.lost else saturating_next old.lost)
