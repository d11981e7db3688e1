-- Pieces of a text of lines.
use Rattle.std.proofs.Common.{rules, ◌≡◌, ◌≢◌, ◌≤◌, inl, inr, ℕ, ◌-◌, List, [], ◌∷◌, All, Bool, true, ◌&&◌, length, get_or, refl, ap, ◌∙◌, arith, eq-eqb, lt-ltb}
use Rattle.std.proofs.lemmas.List.Elements.{All-nil}
use Rattle.std.proofs.Transfers.{All-of_StopsAt}
use Rattle.std.specs.Io.{StopsAt}
use Rattle.std.specs.Io.BufRead.{ends_with_byte}
use Rattle.program_io.specs.Line.{IsPiece}
use Rattle.program_io.specs.Inside.Piece.{IsOpen}
use Rattle.program_io.specs.declared.Split.{Split}
use Rattle.program_io.specs.declared.Split.TheVariants.{Lines}
use Rattle.program_io.specs.declared.TheConstants.{LONGEST_LINE}

both : (a b : Bool) → a ≡ true → b ≡ true → (a && b) ≡ true
both a b p q = ap (λ a. a && b) p ∙ ap (λ b. true && b) q

-- what has no newline at its end has none
pub none_unless_ended : (xs : List ℕ) → StopsAt xs 10 → (ends_with_byte 10 xs ≡ true → ⊥) → All (λ x. x ≢ 10) xs
none_unless_ended [] stops other = All-nil (λ x. x ≢ 10)
none_unless_ended (x ∷ xs) stops other =
    let all = x ∷ xs in
    let last = get_or all (length all - 1) 0 in
    All-of_StopsAt all 10 (length all) last refl (λ none. absurd (omega (arith, none))) (search rules) (λ is. other (both _ _ (lt-ltb 0 (length all) (omega arith)) (eq-eqb last 10 is))) stops

-- what is no piece yet is open
pub open_unless_piece : (split : Split) (xs : List ℕ) → (split ≡ Lines → StopsAt xs 10) → length xs ≤ LONGEST_LINE → (IsPiece xs → ⊥) → IsOpen split xs
open_unless_piece split xs stops room not =
    let differs : length xs ≢ LONGEST_LINE = λ e. not (inr e) in
    (λ is. none_unless_ended xs (stops is) (λ e. not (inl e)), omega (arith, room, differs))
