use Rattle.std.proofs.Common.{◌≡◌, ◌<◌, ◌∙◌, ◌++◌, ◌∷◌, [], List, ap, arith, length, rules, slice_index_or, sym, ℕ}
use Rattle.std.proofs.lemmas.List.{get_or-set_same, length-append}
use Rattle.line_history.proofs.halves.QueueHalves.apart.Goals as goal

-- a list is shorter than with one line more
pub unreachable-requires : goal.unreachable-requires
unreachable-requires g c =
    let sent = c.args.self.now.sent in
    let here = c.args.one.now.place in
    let other = c.args.other.now in
    let same : here ≡ other.place = search rules in
    let before : other.lines ≡ slice_index_or sent here [] = search rules in
    let within : here < length sent = search (rules, arith) in
    let longer : slice_index_or c.add.new.self.sent here [] ≡ slice_index_or sent here [] ++ [] ∷ [] = search (rules, get_or-set_same sent here (slice_index_or sent here [] ++ [] ∷ []) [] within) in
    let after : other.lines ≡ slice_index_or c.add.new.self.sent here [] = search rules in
    omega (arith, ap (λ (z : List (List ℕ)). length z) (sym before ∙ after ∙ longer), length-append (slice_index_or sent here []) ([] ∷ []))
