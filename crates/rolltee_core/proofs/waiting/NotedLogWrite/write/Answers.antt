use Rattle.std.proofs.Common.{sym, subst, ap, ◌∙◌, ◌++◌, take}
use Rattle.std.specs.Prelude.{Some}
use Rattle.std.specs.List.{concat}
use Rattle.std.specs.Io.KnownBytes.{WriteAppends}
use Rattle.rolltee_core.specs.Log.{taken_of}
use Rattle.rolltee_core.specs.Taken.{WasOpened, TakesPieces}
use Rattle.rolltee_core.proofs.Taken.{takes_one, noted_on, noted_none}
use Rattle.rolltee_core.proofs.waiting.NotedLogWrite.write.Goals as goal

pub invariant_of-self : goal.invariant_of-self
invariant_of-self g c =
    let call = subst (λ r. g.W.TeeLog.takes c.self.inside.log (taken_of r c.args.bytes.now) c.put-answer.new.self) c.in-Ok.is c.put-answer.ensures.taken in
    subst (λ t. TakesPieces (WasOpened g.W.TeeLog.opens g.N.Asked.asked) g.W.TeeLog.takes t c.put-answer.new.self) (sym c.note.ensures) (takes_one c.self.invariant call)

pub invariant_of-self-in-Err : goal.invariant_of-self-in-Err
invariant_of-self-in-Err g c =
    let call = subst (λ r. g.W.TeeLog.takes c.self.inside.log (taken_of r c.args.bytes.now) c.put-answer.new.self) c.in-Err.is c.put-answer.ensures.taken in
    subst (λ t. TakesPieces (WasOpened g.W.TeeLog.opens g.N.Asked.asked) g.W.TeeLog.takes t c.put-answer.new.self) (sym c.note-in-Err.ensures) (takes_one c.self.invariant call)

pub returns-in-Ok-clause-bytes : goal.returns-in-Ok-clause-bytes
returns-in-Ok-clause-bytes g c =
    let piece = take c.in-Ok.taken c.args.bytes.now in
    subst (λ r. WriteAppends (Some c.args.self.now) (Some (concat c.note.new.self.lines)) r c.args.bytes.now) (sym c.in-Ok.is)
    (noted_on c.self.inside.taken.lines piece c.note.ensures ∙ ap (λ t. t ++ piece) c.self.view_is)

pub returns-in-Err-clause-bytes : goal.returns-in-Err-clause-bytes
returns-in-Err-clause-bytes g c =
    subst (λ r. WriteAppends (Some c.args.self.now) (Some (concat c.note-in-Err.new.self.lines)) r c.args.bytes.now) (sym c.in-Err.is)
    (noted_none c.self.inside.taken.lines c.note-in-Err.ensures ∙ c.self.view_is)
