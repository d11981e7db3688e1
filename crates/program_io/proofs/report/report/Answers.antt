use Rattle.std.proofs.Common.{◌++◌, take}
use Rattle.std.proofs.KnownBytes.{Appends-kept, Appends-trans}
use Rattle.program_io.proofs.Reported.{begun, moves_front}
use Rattle.program_io.proofs.report.report.Goals as goal

pub loop-preserved : goal.loop-preserved
loop-preserved g c =
    let (done, split, appended) = c.loop.invariant in
    let rest = c.loop.rest.now in
    let n = c.in_ok-taken.taken in
    (done ++ take n rest, moves_front _ done rest n split, Appends-trans _ _ _ _ _ appended c.in_ok-taken.ensures.bytes)

pub returns-then-is_empty-clause-beginning : goal.returns-then-is_empty-clause-beginning
returns-then-is_empty-clause-beginning g c =
    let (done, split, appended) = c.loop.invariant in
    begun _ _ _ done _ split appended

pub returns-clause-beginning : goal.returns-clause-beginning
returns-clause-beginning g c =
    let (done, split, appended) = c.loop.invariant in
    begun _ _ _ done _ split appended

pub returns-in_err-taken-clause-beginning : goal.returns-in_err-taken-clause-beginning
returns-in_err-taken-clause-beginning g c =
    let (done, split, appended) = c.loop.invariant in
    begun _ _ _ done _ split (Appends-kept _ _ _ done appended c.in_err-taken.ensures.bytes)
