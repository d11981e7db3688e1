use Rattle.std.proofs.Common.{◌≡◌, Option, None, List, ℕ, sym, subst, rules}
use Rattle.rollplay_core.specs.Line.{BeginsWith}
use Rattle.rollplay_core.proofs.LineLemmas.{begins_once}
use Rattle.rollplay_core.proofs.line.ScriptLine.read.Goals as goal

pub returns-in_err-line-clause-fault : goal.returns-in_err-line-clause-fault
returns-in_err-line-clause-fault c = λ e line is.
    c.in_err-line.ensures.fault (search rules) line None (subst (λ (o : Option (List ℕ)). BeginsWith o line None) (sym c.new-words.ensures) is)

pub returns-in_err-end-clause-fault : goal.returns-in_err-end-clause-fault
returns-in_err-end-clause-fault c = λ e line is.
    let begins : BeginsWith c.new-words.result line None = subst (λ (o : Option (List ℕ)). BeginsWith o line None) (sym c.new-words.ensures) is in
    let left : c.read_words.new.words ≡ None = begins_once c.new-words.result c.in_ok-line.line line _ None c.in_ok-line.ensures.ok begins in
    let ended = c.in_err-end.ensures.end.1 left in
    search rules
