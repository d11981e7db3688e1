use Rattle.std.proofs.Common.{lit<, refl}
use Rattle.std.proofs.lemmas.Str.Pattern.{split_parts}
use Rattle.rollplay_core.proofs.ScriptLemmas.{begins_with_line}
use Rattle.rollplay_core.proofs.script.split_line.Goals as goal

pub returns : goal.returns
returns c =
    let found = split_parts 10 _ _ c.split_once.ensures.cases (lit< tt) in
    rw c.unwrap_or.ensures (begins_with_line c.args.text.now c.split_once.result _ c.requires refl refl found)
