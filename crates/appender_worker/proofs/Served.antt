-- Lines that a worker wrote whole.
use Rattle.std.proofs.Common.{◌≡◌, ℕ, ◌+◌, ◌≤◌, List, [], ◌∷◌, ◌++◌, Bool, true, false, cond, not, length, map, flat_map, count_by, ap, sym, refl, ◌∙◌, arith, take_all}
use Rattle.std.specs.Prelude.{Option}
use Rattle.std.specs.List.{concat}
use Rattle.std.specs.Io.KnownBytes.{Appends}
use Rattle.std.proofs.lemmas.Bool.Decides.{nat_tests}
use Rattle.std.proofs.lemmas.List.Sums.{sum_by-cons}
use Rattle.appender_worker.specs.Parts.{Part, line_of, written_of, is_whole, is_cut}
use Rattle.appender_worker.specs.Served.{ServesLines}
use Rattle.appender_worker.proofs.Gathered.{more_is}

none_of : (b : Bool) (n : ℕ) → cond (not b) 1 0 + n ≡ 0 → b ≡ true
none_of true n h = refl
none_of false n h = absurd (omega (arith, h))

-- if no line was cut, each was written whole
pub whole_lines : (parts : List Part) → count_by is_cut parts ≡ 0 → flat_map written_of parts ≡ concat (map line_of parts)
whole_lines [] none = refl
whole_lines (p ∷ parts) none =
    let split : cond (is_cut p) 1 0 + count_by is_cut parts ≡ 0 = sym (sum_by-cons (λ x. cond (is_cut x) 1 0) p parts) ∙ none in
    let whole : is_whole p ≡ true = none_of (is_whole p) (count_by is_cut parts) split in
    let within : length p.line ≤ p.written = grind (arith, nat_tests, whole) in
    ap (λ t. t ++ flat_map written_of parts) (take_all p.written p.line within)
    ∙ ap (λ t. p.line ++ t) (whole_lines parts (omega (arith, split)))

pub served_whole : (old new : Option (List ℕ)) (lines : List (List ℕ)) → ServesLines old new lines 0 → Appends old new (concat lines)
served_whole old new lines s =
    let none : count_by is_cut s.parts ≡ 0 = omega (arith, s.counted, more_is 0 (count_by is_cut s.parts) (omega arith)) in
    let same : flat_map written_of s.parts ≡ concat lines = whole_lines s.parts none ∙ ap concat (sym s.order) in
    rw same at s.bytes
