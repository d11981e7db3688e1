-- What is added to a writer that may stop early.
use Rattle.std.proofs.Common.{◌≡◌, ℕ, ◌-◌, List, ◌++◌, Option, length, take, drop, sym, ap, subst, ◌∙◌, append_assoc, take-append-drop}
use Rattle.std.proofs.Math.Seq.{take-append_seam}
use Rattle.std.proofs.lemmas.List.{take_rest}
use Rattle.std.specs.Io.KnownBytes.{Appends}
use Rattle.std.specs.Prelude.{Result, Ok, Err, OnErr}
use Rattle.program_io.specs.Report.{AppendsBeginning}
use Rattle.program_io.proofs.Copied.{appends_both}

-- what was done is a beginning
pub begun : (old new : Option (List ℕ)) (words done rest : List ℕ) → words ≡ done ++ rest → Appends old new done → AppendsBeginning old new words
begun old new words done rest split appends =
    (length done, subst (Appends old new) (sym (take-append_seam done rest) ∙ ap (take (length done)) (sym split)) appends)

-- more is done, and less is left
pub moves_front : (all done rest : List ℕ) (n : ℕ) → all ≡ done ++ rest → all ≡ (done ++ take n rest) ++ take (length rest - n) (drop n rest)
moves_front all done rest n e =
    e ∙ ap (λ l. done ++ l) (sym (take-append-drop n rest)) ∙ sym (append_assoc done (take n rest) (drop n rest)) ∙ ap (λ l. (done ++ take n rest) ++ l) (sym (take_rest rest n))

-- a beginning of what comes next is one of all
pub begun_more : (a b d : Option (List ℕ)) (text done next rest : List ℕ) → text ≡ done ++ (next ++ rest) → Appends a b done → AppendsBeginning b d next → AppendsBeginning a d text
begun_more a b d text done next rest split first (n, more) =
    begun a d text (done ++ take n next) (drop n next ++ rest)
    (split ∙ ap (λ l. done ++ (l ++ rest)) (sym (take-append-drop n next)) ∙ ap (λ l. done ++ l) (append_assoc (take n next) (drop n next) rest) ∙ sym (append_assoc done (take n next) (drop n next ++ rest)))
    (appends_both a b d done (take n next) first more)

pub on_err : {T E : Type 0} (result : Result T E) (P : Type 0) → P → OnErr result P
on_err (Ok value) P p = tt
on_err (Err fault) P p = p
