use Rattle.std.proofs.Common.{◌++◌, ◌∙◌, ap, sym, lit<, inl, inr}
use Rattle.std.proofs.lemmas.Str.{encode_ascii}
use Rattle.rollplay_core.proofs.TextLemmas.{escape_of-cases}
use Rattle.rollplay_core.proofs.words.split_escape.Goals as goal

pub returns-in_err-behind-clause-none : goal.returns-in_err-behind-clause-none
returns-in_err-behind-clause-none c =
    let no_newline = rw c.in_default.is at c.strip_prefix.ensures.cases in
    let no_backslash = rw c.in_err-behind.was at c.strip_prefix-2.ensures.cases in
    rw c.from_residual.ensures (λ b rest e. elim (escape_of-cases b c.args.text.now rest e) [
      | inl newline ↦ no_newline rest (newline ∙ ap (λ bs. bs ++ rest) (sym (encode_ascii 110 (lit< tt))))
      | inr backslash ↦ no_backslash rest (backslash ∙ ap (λ bs. bs ++ rest) (sym (encode_ascii 92 (lit< tt))))
    ])
