-- The bytes that several writes added to a text.
use Rattle.std.proofs.Common.{◌≡◌, ℕ, List, [], ◌∷◌, ◌++◌, ap, sym, subst, ◌∙◌, append_assoc, append-nil}
use Rattle.std.specs.Fmt.{WritesInCalls}
use Rattle.std.specs.Fmt.InlineText.{inline_text, IsIntact, AppendsIfIntact}
use Rattle.std.specs.List.{concat, FoldsTo}
use Rattle.std.specs.declared.fmt.InlineText.{InlineText}

after_calls : {n : ℕ} (s : InlineText n) (parts : List (List ℕ)) (t : InlineText n) → FoldsTo AppendsIfIntact s parts t → AppendsIfIntact s (concat parts) t
after_calls s [] t same intact = (subst IsIntact same intact, ap inline_text (sym same) ∙ sym (append-nil (inline_text s)))
after_calls s (x ∷ parts) t calls intact =
    let first = calls.1 intact in
    let rest = after_calls calls.0 parts t calls.2 first.0 in
    (rest.0, rest.1 ∙ ap (λ l. l ++ concat parts) first.1 ∙ append_assoc (inline_text s) x (concat parts))

-- the bytes written to an empty text are its text
pub text_is : {n : ℕ} (s : InlineText n) (bs : List ℕ) (t : InlineText n) → WritesInCalls AppendsIfIntact s bs t → IsIntact s → inline_text s ≡ [] → inline_text t ≡ bs
text_is s bs t wrote intact empty =
    (after_calls s wrote.parts t wrote.calls intact).1 ∙ ap (λ before. before ++ concat wrote.parts) empty ∙ wrote.whole
