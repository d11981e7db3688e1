use Rattle.std.proofs.Common.{◌≡◌, ◌≢◌, ◌∙◌, ◌≤◌, ap, sym, subst, arith, true, ℕ, ◌+◌, ◌++◌, length, append_assoc, string_bytes}
use Rattle.appender_names.specs.declared.rotation.RotationKind.TheVariants.{Never}
use Rattle.appender_names.specs.Name.{Naming, named_moment, number_text, dotted_suffix}
use Rattle.appender_names.specs.DateText.{date_text}
use Rattle.appender_names.proofs.Joins.{name_at-numbered}
use Rattle.appender_names.proofs.Marks.{cut, front, numbered_is}
use Rattle.appender_names.proofs.names.Names.renumber.Goals as goal

pub truncate-requires : goal.truncate-requires
truncate-requires c =
    let n : Naming = c.args.self.now in
    let date = date_text n.rotation.kind (named_moment n.rotation c.args.moment) in
    let numbered : n.numbered ≡ true = ap (λ (m : Naming). m.numbered) (sym c.self.view_is) ∙ c.if-not-self.false in
    let rotates : n.rotation.kind ≢ Never = λ never. c.self.invariant.rotates c.if-not-self.false (ap (λ (m : Naming). m.rotation.kind) c.self.view_is ∙ never) in
    let suffix = c.as_str-suffix.ensures.value ∙ ap (λ (m : Naming). m.suffix) c.self.view_is in
    let tail = c.tail_len.ensures ∙ ap (λ s. 6 + length (dotted_suffix s)) suffix in
    let k = cut (string_bytes c.args.name.now) n.prefix n.suffix date c.tail_len.result (c.requires.name ∙ name_at-numbered n c.args.moment 0 rotates numbered) tail in
    rw c.as_bytes-len.ensures.value (λ le. (k.low, λ some lt high. absurd (let both : 128 ≤ 48 = subst (λ (x : ℕ). 128 ≤ x) k.digit high in omega (arith, both))))

pub returns : goal.returns
returns c =
    let n : Naming = c.args.self.now in
    let date = date_text n.rotation.kind (named_moment n.rotation c.args.moment) in
    let numbered : n.numbered ≡ true = ap (λ (m : Naming). m.numbered) (sym c.self.view_is) ∙ c.if-not-self.false in
    let rotates : n.rotation.kind ≢ Never = λ never. c.self.invariant.rotates c.if-not-self.false (ap (λ (m : Naming). m.rotation.kind) c.self.view_is ∙ never) in
    let suffix = c.as_str-suffix.ensures.value ∙ ap (λ (m : Naming). m.suffix) c.self.view_is in
    let tail = c.tail_len.ensures ∙ ap (λ s. 6 + length (dotted_suffix s)) suffix in
    let k = cut (string_bytes c.args.name.now) n.prefix n.suffix date c.tail_len.result (c.requires.name ∙ name_at-numbered n c.args.moment 0 rotates numbered) tail in
    let kept : string_bytes c.truncate.new.self ≡ front n.prefix date = c.truncate.ensures.bytes ∙ rw c.as_bytes-len.ensures.value k.kept in
    c.push_suffix.ensures ∙ ap (λ t. t ++ dotted_suffix c.as_str-suffix.result.now) (c.push_number.ensures.bytes ∙ ap (λ t. t ++ number_text c.args.number) kept)
    ∙ ap (λ s. (front n.prefix date ++ number_text c.args.number) ++ dotted_suffix s) suffix
    ∙ append_assoc (front n.prefix date) (number_text c.args.number) (dotted_suffix n.suffix)
    ∙ sym (numbered_is n.prefix n.suffix date c.args.number) ∙ sym (name_at-numbered n c.args.moment c.args.number rotates numbered)
