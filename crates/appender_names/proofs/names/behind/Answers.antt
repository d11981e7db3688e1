use Rattle.std.proofs.Common.{◌∷◌, []}
use Rattle.std.proofs.lemmas.Bool.Decides.{Decides-eqb}
use Rattle.std.proofs.lemmas.Slice.Eq.{strip_prefix_is}
use Rattle.std.specs.Prelude.{Some}
use Rattle.appender_names.proofs.Strips.{no_front, front_then_dot}
use Rattle.appender_names.proofs.names.behind.Goals as goal

pub returns-in_err-strip_prefix : goal.returns-in_err-strip_prefix
returns-in_err-strip_prefix c =
    rw c.from_residual.ensures (no_front c.args.text.now c.args.prefix.now c.if-is_empty.ensures c.in_err-strip_prefix.ensures.cases)

pub returns : goal.returns
returns c =
    let rest = c.in_ok-strip_prefix.field-0 in
    front_then_dot c.args.text.now c.args.prefix.now rest.now c.strip_prefix-2.result c.if-is_empty.ensures
    (strip_prefix_is Decides-eqb c.args.text.now c.args.prefix.now (Some rest) c.in_ok-strip_prefix.ensures.cases)
    (strip_prefix_is Decides-eqb rest.now (46 ∷ []) c.strip_prefix-2.result c.strip_prefix-2.ensures.cases)
