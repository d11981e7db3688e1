use Rattle.std.proofs.Common.{List, ℕ, ◌≡◌, ◌++◌, ◌∷◌, [], Some, false, ap, ◌∙◌}
use Rattle.jiff_fmt.specs.Text.{datetime_text, zulu_text}
use Rattle.rolltee_core.proofs.feed.stamp_now.Goals as goal

pub stamp-requires : goal.stamp-requires
stamp-requires g c =
    let time = c.timestamp_text-time.ensures in
    let is_lower = ap (λ o. o.0) c.precision-printer.ensures ∙ ap (λ o. o.0) c.new.ensures in
    let separator = ap (λ o. o.1) c.precision-printer.ensures ∙ ap (λ o. o.1) c.new.ensures in
    let precision = ap (λ o. o.2) c.precision-printer.ensures in
    let words : List ℕ = datetime_text false 84 (Some 6) time.0 ++ zulu_text false in
    let text : c.timestamp_text-time.result.bytes ≡ words = rw (is_lower, separator, precision) at time.2 in
    (time.0, ap (λ (t : List ℕ). t ++ (32 ∷ [])) (c.as_bytes.ensures.value ∙ c.as_str.ensures.value ∙ text))
