use Rattle.std.proofs.Common.{[], ◌++◌, take, refl, subst}
use Rattle.std.proofs.KnownBytes.{Appends-kept, Appends-trans}
use Rattle.std.specs.Io.KnownBytes.{Appends}
use Rattle.appender_runtime.proofs.Begun.{appends_nothing, begun, moves_front}
use Rattle.appender_runtime.proofs.waiting.WaitingWriterWrite.write.Goals as goal

pub loop-rt-init : goal.loop-rt-init
loop-rt-init g c =
    ([], refl, subst (λ w. Appends (g.W.Write.contents w) (g.W.Write.contents c.self.inside.writer) []) c.self.view_is (appends_nothing (g.W.Write.contents c.self.inside.writer)))

pub returns-clause-beginning : goal.returns-clause-beginning
returns-clause-beginning g c =
    let (done, split, appended) = c.loop-rt.invariant in
    begun _ _ _ done _ split appended

pub returns-in_err-taken-clause-beginning : goal.returns-in_err-taken-clause-beginning
returns-in_err-taken-clause-beginning g c =
    let (done, split, appended) = c.loop-rt.invariant in
    begun _ _ _ done _ split (Appends-kept _ _ _ done appended c.in_err-taken.ensures.bytes)

pub loop-rt-preserved : goal.loop-rt-preserved
loop-rt-preserved g c =
    let (done, split, appended) = c.loop-rt.invariant in
    let rest = c.loop-rt.rest.now in
    let n = c.in_ok-taken.taken in
    (done ++ take n rest, moves_front _ done rest n split, Appends-trans _ _ _ _ _ appended c.in_ok-taken.ensures.bytes)
