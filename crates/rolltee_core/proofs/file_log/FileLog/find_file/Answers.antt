use Rattle.std.proofs.Common.{◌∙◌, sym, ap, subst, inl, inr, refl}
use Rattle.rolltee_core.specs.Log.{OpensLog, LogState}
use Rattle.rolltee_core.proofs.Outcome.{on_err}
use Rattle.rolltee_core.proofs.file_log.FileLog.find_file.Goals as goal

pub returns-then-not-self-clause-found : goal.returns-then-not-self-clause-found
returns-then-not-self-clause-found g c =
    (c.compare.new.self, c.compare.ensures, inl (sym (ap (λ (l : LogState _ _ _). l.is_gone) c.self.view_is) ∙ c.if-not-self.true, refl))

pub returns-in_err-log-clause-lost : goal.returns-in_err-log-clause-lost
returns-in_err-log-clause-lost g c = on_err c.from_residual.result
    (c.compare.new.self, c.compare.ensures, sym (ap (λ (l : LogState _ _ _). l.is_gone) c.self.view_is) ∙ c.if-not-self.false, inl refl)

pub replace-requires : goal.replace-requires
replace-requires g c = (
  c.in_ok-log.ensures.0,
  subst (λ config. OpensLog g.S.Folder g.C.Clock config c.in_ok-log.ensures.0 c.in_ok-log.log) (ap (λ (l : LogState _ _ _). l.config) c.self.view_is) c.in_ok-log.ensures.1,
)

pub returns-then-begun-clause-lost : goal.returns-then-begun-clause-lost
returns-then-begun-clause-lost g c = (
  c.compare.new.self,
  c.compare.ensures,
  sym (ap (λ (l : LogState _ _ _). l.is_gone) c.self.view_is) ∙ c.if-not-self.false,
  inr (sym (ap (λ (l : LogState _ _ _). l.short) c.self.view_is) ∙ c.if-begun.true, c.replace.ensures),
)

pub returns-clause-found : goal.returns-clause-found
returns-clause-found g c = (
  c.compare.new.self,
  c.compare.ensures,
  inr (
    sym (ap (λ (l : LogState _ _ _). l.is_gone) c.self.view_is) ∙ c.if-not-self.false,
    sym (ap (λ (l : LogState _ _ _). l.short) c.self.view_is) ∙ c.if-begun.false,
    c.replace.ensures,
  ),
)
