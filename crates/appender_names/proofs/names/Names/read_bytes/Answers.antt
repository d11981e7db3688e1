use Rattle.std.proofs.Common.{◌≡◌, ◌∙◌, ◌↔◌, ℕ, ℤ, Some, ap, rules, string_bytes}
use Rattle.appender_names.specs.Name.{ReadsAt, Naming, after_prefix, before_suffix}
use Rattle.appender_names.proofs.Reading.{reads_as, reads_none, reading_is}
use Rattle.appender_names.proofs.names.Names.read_bytes.Goals as goal

pub returns-in_err-rest-clause-value : goal.returns-in_err-rest-clause-value
returns-in_err-rest-clause-value c =
    let exact : (s : ℤ) (k : ℕ) → (c.from_residual.result ≡ Some (s, k)) ↔ ReadsAt c.args.self.now c.args.name.now s k = search rules in
    reading_is _ _ _ exact

pub returns-in_err-mark : goal.returns-in_err-mark
returns-in_err-mark c =
    let n : Naming = c.args.self.now in
    let rest = c.in_ok-rest.rest.now in
    let front : c.args.name.now ≡ after_prefix (string_bytes c.self.inside.prefix) rest = c.in_ok-rest.ensures ∙ ap (λ p. after_prefix p rest) c.as_bytes.ensures.value in
    let exact : (s : ℤ) (k : ℕ) → (c.from_residual-in_err-mark.result ≡ Some (s, k)) ↔ ReadsAt c.args.self.now c.args.name.now s k =
    reads_none n c.args.name.now rest c.from_residual-in_err-mark.result (front ∙ ap (λ (m : Naming). after_prefix m.prefix rest) c.self.view_is)
    c.from_residual-in_err-mark.ensures (rw (c.as_bytes-2.ensures.value ∙ ap (λ (m : Naming). m.suffix) c.self.view_is) at c.in_err-mark.ensures) in
    record { exact = exact; value = reading_is _ _ _ exact }

pub returns : goal.returns
returns c =
    let n : Naming = c.args.self.now in
    let rest = c.in_ok-rest.rest.now in
    let mark = c.in_ok-mark.mark.now in
    let front : c.args.name.now ≡ after_prefix (string_bytes c.self.inside.prefix) rest = c.in_ok-rest.ensures ∙ ap (λ p. after_prefix p rest) c.as_bytes.ensures.value in
    let back : rest ≡ before_suffix mark (string_bytes c.self.inside.suffix) = c.in_ok-mark.ensures ∙ ap (before_suffix mark) c.as_bytes-2.ensures.value in
    let exact : (s : ℤ) (k : ℕ) → (c.read_mark.result ≡ Some (s, k)) ↔ ReadsAt c.args.self.now c.args.name.now s k =
    reads_as n c.args.name.now rest mark c.read_mark.result c.kind.result c.self.inside.numbered (c.kind.ensures ∙ ap (λ (m : Naming). m.rotation.kind) c.self.view_is) (ap (λ (m : Naming). m.numbered) c.self.view_is)
    (front ∙ ap (λ (m : Naming). after_prefix m.prefix rest) c.self.view_is) (back ∙ ap (λ (m : Naming). before_suffix mark m.suffix) c.self.view_is)
    c.read_mark.ensures in
    record { exact = exact; value = reading_is _ _ _ exact }
