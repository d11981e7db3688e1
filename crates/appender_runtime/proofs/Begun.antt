-- A beginning that was written, and the rest.
use Rattle.std.proofs.Common.{◌≡◌, ℕ, ◌-◌, List, [], ◌++◌, Option, None, Some, length, take, drop, append-nil, sym, ap, subst, ◌∙◌, append_assoc, take-append-drop}
use Rattle.std.proofs.Math.Seq.{take-append_seam}
use Rattle.std.proofs.lemmas.List.{take_rest}
use Rattle.std.specs.Io.KnownBytes.{Appends}
use Rattle.appender_runtime.specs.Waiting.{AppendsFirst}

pub appends_nothing : (a : Option (List ℕ)) → Appends a a []
appends_nothing None = tt
appends_nothing (Some xs) = sym (append-nil xs)

-- what was written is a beginning
pub begun : (old new : Option (List ℕ)) (bytes done rest : List ℕ) → bytes ≡ done ++ rest → Appends old new done → AppendsFirst old new bytes
begun old new bytes done rest split appends =
    (length done, subst (Appends old new) (sym (take-append_seam done rest) ∙ ap (take (length done)) (sym split)) appends)

-- more is written, and less is left
pub moves_front : (all done rest : List ℕ) (n : ℕ) → all ≡ done ++ rest → all ≡ (done ++ take n rest) ++ take (length rest - n) (drop n rest)
moves_front all done rest n e =
    e ∙ ap (λ l. done ++ l) (sym (take-append-drop n rest)) ∙ sym (append_assoc done (take n rest) (drop n rest)) ∙ ap (λ l. (done ++ take n rest) ++ l) (sym (take_rest rest n))
