use Rattle.std.proofs.Common.{◌≡◌, ◌∙◌, sym, ap, true}
use Rattle.appender_names.specs.Name.{Naming}
use Rattle.appender_names.proofs.names.Names.read_numbered.Goals as goal

pub returns-clause-exact : goal.returns-clause-exact
returns-clause-exact c =
    let numbered : c.args.self.now.numbered ≡ true = ap (λ (n : Naming). n.numbered) (sym c.self.view_is) ∙ c.if-not-self.false in
    λ s k. let exact = c.read_both.ensures.exact s k in (λ is. (numbered, exact.0 is), λ w. exact.1 w.1)
