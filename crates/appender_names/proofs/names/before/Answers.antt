use Rattle.std.proofs.Common.{◌∷◌, []}
use Rattle.std.proofs.lemmas.Bool.Decides.{Decides-eqb}
use Rattle.std.proofs.lemmas.Slice.Eq.{strip_suffix_is}
use Rattle.std.specs.Prelude.{Some}
use Rattle.appender_names.proofs.Strips.{no_back, back_after_dot}
use Rattle.appender_names.proofs.names.before.Goals as goal

pub returns-in_err-strip_suffix : goal.returns-in_err-strip_suffix
returns-in_err-strip_suffix c =
    rw c.from_residual.ensures (no_back c.args.text.now c.args.suffix.now c.if-is_empty.ensures c.in_err-strip_suffix.ensures.cases)

pub returns : goal.returns
returns c =
    let rest = c.in_ok-strip_suffix.field-0 in
    back_after_dot c.args.text.now c.args.suffix.now rest.now c.strip_suffix-2.result c.if-is_empty.ensures
    (strip_suffix_is Decides-eqb c.args.text.now c.args.suffix.now (Some rest) c.in_ok-strip_suffix.ensures.cases)
    (strip_suffix_is Decides-eqb rest.now (46 ∷ []) c.strip_suffix-2.result c.strip_suffix-2.ensures.cases)
