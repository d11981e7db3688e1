use Rattle.std.proofs.Common.{sym}
use Rattle.std.proofs.lemmas.Result.{IfOk-weaker}
use Rattle.rollplay_core.proofs.LineLemmas.{arguments_of, begins_with, none_at_all, takes_once}
use Rattle.rollplay_core.proofs.line.ScriptLine.read_words.Goals as goal

pub returns-clause-ok : goal.returns-clause-ok
returns-clause-ok c =
    IfOk-weaker c.read_log_words.result _ _
    (λ line goes_on. begins_with _ _ _ c.in_ok-word.ensures.ok goes_on.kind goes_on.is line _ goes_on.arguments)
    c.read_log_words.ensures.ok

pub returns-clause-fault : goal.returns-clause-fault
returns-clause-fault c = λ e line left begins.
    let is = sym (takes_once _ _ _ _ _ begins.word c.in_ok-word.ensures.ok).0 in
    let arguments = arguments_of _ _ _ c.in_ok-word.ensures.ok line left begins begins.kind is in
    none_at_all _ _ (c.read_log_words.ensures.fault e) begins.kind is line left arguments
