use Rattle.std.proofs.Common.{◌≡◌, ◌∙◌, ◌∷◌, [], Ok, sym, ap, subst, inr, arith, false}
use Rattle.rolltee_core.specs.Log.{AppendsTo, LogState}
use Rattle.rolltee_core.proofs.file_log.FileLog.end_part.Goals as goal

pub returns-else-branch-eq0-clause-ends : goal.returns-else-branch-eq0-clause-ends
returns-else-branch-eq0-clause-ends g c =
    let one : c.in_ok-append.field-0 ≡ 1 = omega (arith, c.in_ok-append.ensures.bound, c.if-branch-eq0.false) in
    inr (
      sym (ap (λ (l : LogState _ _ _). l.owed) c.self.view_is) ∙ c.if-self.true,
      c.append.new.self,
      subst (λ answer. AppendsTo g.S.Folder (10 ∷ []) answer c.args.self.now c.append.new.self) (c.in_ok-append.was ∙ ap Ok one) c.append.ensures.appends,
      ap (λ (l : LogState _ _ _). record l { owed = false }) c.self-then-self.view_is,
    )
