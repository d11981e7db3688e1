use Rattle.std.proofs.Common.{rules}
use Rattle.program_io.specs.declared.options.Request.TheVariants.{Help as AsksHelp, Version as AsksVersion, Run}
use Rattle.std.proofs.lemmas.Result.{err_from_is_err_and, IfErr-weaker}
use Rattle.program_io.specs.declared.options.OptionError.TheVariants.{Missing}
use Rattle.program_io.specs.declared.options.OptionFault.TheVariants.{Wrong}
use Rattle.program_io.proofs.Faults.{fault_at_end, fault_of_word, names_some}
use Rattle.program_io.proofs.Words.{at_end, next_reached, open_next, plain_request}
use Rattle.program_io.proofs.options.read.Goals as goal

pub returns-in-Help-clause-read : goal.returns-in-Help-clause-read
returns-in-Help-clause-read c =
    let takes = rw c.as_str.ensures.value at c.in_ok-take.ensures.taken in
    let reached = next_reached _ _ _ _ _ _ c.loop-word.invariant.reached c.in-Some.ensures.cases.0 takes in
    (reached.0, c.in-Some.behind.now, c.take.new.self, reached.1, search rules)

pub returns-in-Help-clause-plain : goal.returns-in-Help-clause-plain
returns-in-Help-clause-plain c = λ all. plain_request _ AsksHelp all (returns-in-Help-clause-read c)

pub returns-in-Version-clause-read : goal.returns-in-Version-clause-read
returns-in-Version-clause-read c =
    let takes = rw c.as_str.ensures.value at c.in_ok-take.ensures.taken in
    let reached = next_reached _ _ _ _ _ _ c.loop-word.invariant.reached c.in-Some.ensures.cases.0 takes in
    (reached.0, c.in-Some.behind.now, c.take.new.self, reached.1, search rules)

pub returns-in-Version-clause-plain : goal.returns-in-Version-clause-plain
returns-in-Version-clause-plain c = λ all. plain_request _ AsksVersion all (returns-in-Version-clause-read c)

pub loop-word-preserved : goal.loop-word-preserved
loop-word-preserved c =
    let takes = rw c.as_str.ensures.value at c.in_ok-take.ensures.taken in
    record {
      reached = next_reached _ _ _ _ _ _ c.loop-word.invariant.reached c.in-Some.ensures.cases.0 takes;
      goes_on = open_next _ c.in_default-next.not-Help c.in_default-next.not-Version;
    }

pub returns-in_default-next-2-clause-read : goal.returns-in_default-next-2-clause-read
returns-in_default-next-2-clause-read c =
    at_end _ _ _ c.loop-word.invariant.reached c.in_default.ensures.cases c.loop-word.invariant.goes_on c.in_default-next-2.not-Value

pub returns-in_default-next-2-clause-plain : goal.returns-in_default-next-2-clause-plain
returns-in_default-next-2-clause-plain c =
    λ all. plain_request _ (Run c.loop-word.reading.options c.loop-word.reading.arguments) all (returns-in_default-next-2-clause-read c)

pub returns-in_err-take-clause-fault : goal.returns-in_err-take-clause-fault
returns-in_err-take-clause-fault c =
    let p = err_from_is_err_and c.from_residual.result c.from_residual.ensures.1 in
    let rejects = rw c.as_str.ensures.value at c.in_err-take.ensures.fault in
    rw (p.1, p.2) (fault_of_word _ _ _ _ _ _ c.loop-word.invariant.reached c.in-Some.ensures.cases.0 rejects)

pub returns-in_err-take-clause-named : goal.returns-in_err-take-clause-named
returns-in_err-take-clause-named c = IfErr-weaker _ _ _ (names_some _) (returns-in_err-take-clause-fault c)

pub returns-in-Value-clause-fault : goal.returns-in-Value-clause-fault
returns-in-Value-clause-fault c =
    fault_at_end _ _ _ _ c.word.result c.loop-word.invariant.reached c.in_default.ensures.cases c.in-Value.is c.word.ensures

pub returns-in-Value-clause-named : goal.returns-in-Value-clause-named
returns-in-Value-clause-named c = names_some _ (Wrong c.word.result Missing) (returns-in-Value-clause-fault c)
