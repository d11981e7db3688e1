use Rattle.std.proofs.Common.{w64, FitsSigned, ◌≡◌, ◌∙◌, true, false, rules, sym, refl}
use Rattle.std.proofs.lemmas.Int.{to_z-of_z}
use Rattle.appender_names.specs.Rotation.{IsMoment}
use Rattle.appender_rolling.proofs.rolling.setup.Setup.ready.Goals as goal

pub returns-in_err-copied-clause-err : goal.returns-in_err-copied-clause-err
returns-in_err-copied-clause-err c = let refused = c.in_err-copied.ensures.err c.args.moment in search rules

pub returns-clause-ok : goal.returns-clause-ok
returns-clause-ok c =
    let taken : c.in_ok-setup.setup ≡ c.args.builder.now = rw c.in_ok-setup.was at c.in_ok-copied.ensures.copy in
    let fits : FitsSigned w64 c.args.moment = c.ranges.moment in
    let named = simp to_z-of_z at c.in_ok-name.ensures.ok in
    let clashes = simp to_z-of_z at c.link_clashes.ensures in
    let range : IsMoment c.args.moment = search rules in
    rw (← taken) (record {
      may_open = record {
        allowed = rw taken (c.in_ok-copied.ensures.allowed refl);
        may_limit = rw taken (c.in_ok-copied.ensures.may_limit refl);
        in_range = range;
        apart = λ clash. let both : false ≡ true = sym c.if-link_clashes.false ∙ clashes.1 clash in cc;
      };
      setup_is = refl;
      name_is = c.reserve.ensures.bytes ∙ named;
    })
