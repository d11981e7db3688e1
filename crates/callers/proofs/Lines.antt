-- Lines of which nothing was written.
use Rattle.std.proofs.Common.{◌<◌, ℕ, List, [], ◌++◌, false, Option, Result, Ok, Err, OnOk, IfErr, length, take, arith, length-append, subst, sym}
use Rattle.std.proofs.Math.Seq.{take-length}
use Rattle.std.specs.Prelude.{codes, decimal}
use Rattle.std.specs.Result.{is_ok}
use Rattle.std.specs.Io.KnownBytes.{Appends, Keeps}
use Rattle.std.proofs.KnownBytes.{Appends-nil, Appends-kept}
use Rattle.http.specs.declared.request.Request.{Request}
use Rattle.http.specs.Request.{head_of}
use Rattle.http.specs.Uri.{uri_text}
use Rattle.http_server.specs.declared.response.Response.{Response}
use Rattle.tracing_appender.specs.declared.worker.LineFault.{LineFault}
use Rattle.callers.specs.AccessLog.{access_line, IsWritten}

ends : (a b c d e : List ℕ) → 0 < length (a ++ (b ++ (c ++ (d ++ (e ++ codes "\n")))))
ends a b c d e = grind (arith, length-append)

-- a line ends with a newline
pub some : (request : Request (List ℕ)) (response : Response) → 0 < length (access_line request response)
some request response =
    let head = head_of request in
    ends head.method (codes " ") (uri_text head.uri) (codes " ") (decimal response.status)

pub none_written : {W : Type 0} (contents : W → Option (List ℕ)) (line : List ℕ) (old new : W) → 0 < length line
    → Keeps (contents old) (contents new) → IsWritten contents line old new false
none_written contents line old new least kept =
    (0, omega arith, grind arith, Appends-kept _ _ _ [] (Appends-nil (contents old)) kept)

-- all of the line was written, or its first bytes
pub written : {W : Type 0} (contents : W → Option (List ℕ)) (line : List ℕ) (old new : W) (r : Result (Unit {0}) LineFault)
    → OnOk r (Appends (contents old) (contents new) line)
    → IfErr r (λ f. (f.taken < length line) × Appends (contents old) (contents new) (take f.taken line))
    → IsWritten contents line old new (is_ok r)
written contents line old new (Ok x) all part =
    (length line, omega arith, grind arith, subst (λ t. Appends (contents old) (contents new) t) (sym (take-length line)) all)
written contents line old new (Err f) all part = (f.taken, omega (arith, part.0), grind (arith, part.0), part.1)
