use Rattle.std.proofs.Common.{◌≡◌, ◌∷◌, [], ◌++◌, string_bytes, None, lit<, ap, ◌∙◌, rules}
use Rattle.std.specs.Result.{result_ok}
use Rattle.std.proofs.lemmas.Str.Pattern.{split_parts}
use Rattle.rollplay_core.proofs.TextLemmas.{resolved_more, resolved_no_more, resolved_last}
use Rattle.rollplay_core.proofs.words.unescape.Goals as goal

pub loop-before-preserved : goal.loop-before-preserved
loop-before-preserved c =
    let found = split_parts 92 _ _ c.split_once.ensures.cases (lit< tt) in
    let parts = rw c.in-Some.is at found in
    let first = rw c.in_ok-character.ensures.ok_part at c.split_escape.ensures.byte in
    let escape = rw c.in_ok-character.ensures.ok_part at c.split_escape.ensures.split in
    let begun = c.in_ok-push_str.ensures.bytes in
    let one = c.push.ensures.ascii first in
    let grown : string_bytes c.push.new.self ≡ (string_bytes c.loop-before.plain ++ c.in-Some.before.now) ++ (c.in_ok-character.character ∷ []) =
    c.in_ok-push.ensures.bytes ∙ (ap (λ x. string_bytes c.push_str.new.self ++ x) one ∙ ap (λ x. x ++ (c.in_ok-character.character ∷ [])) begun) in
    record {
      utf8 = search rules;
      resolved = rw grown (resolved_more c.args.text.now (string_bytes c.loop-before.plain) c.loop-before.rest.now c.in-Some.before.now c.loop-before.invariant.resolved c.in-Some.after.now parts.0 parts.1 c.in_ok-character.behind.now c.in_ok-character.character escape);
    }

pub returns-clause-ok : goal.returns-clause-ok
returns-clause-ok c =
    let found = split_parts 92 _ _ c.split_once.ensures.cases (lit< tt) in
    let plain = rw c.in_default.is at found in
    rw c.in_ok-push_str-2.ensures.bytes (resolved_last c.args.text.now (string_bytes c.loop-before.plain) c.loop-before.rest.now c.loop-before.invariant.resolved plain)

pub returns-in_err-character-clause-fault : goal.returns-in_err-character-clause-fault
returns-in_err-character-clause-fault c = λ e.
    let found = split_parts 92 _ _ c.split_once.ensures.cases (lit< tt) in
    let parts = rw c.in-Some.is at found in
    let gone : c.split_escape.result ≡ None = c.ok_or.ensures.ok_part ∙ ap result_ok c.in_err-character.was in
    let none = rw gone at c.split_escape.ensures.none in
    resolved_no_more c.args.text.now (string_bytes c.loop-before.plain) c.loop-before.rest.now c.in-Some.before.now c.loop-before.invariant.resolved c.in-Some.after.now parts.0 parts.1 none
