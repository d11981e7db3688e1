use Rattle.std.proofs.Common.{◌≡◌, ◌≢◌, ◌∙◌, inl, inr, refl, sym, ap, subst, arith, ℕ, suc, ◌+◌, ◌-◌, ◌==◌, true, false, List, [], ◌∷◌, length, take, drop}
use Rattle.std.proofs.lemmas.Bool.Decides.{nat_tests}
use Rattle.std.proofs.lemmas.List.{length-drop, nil_from_length}
use Rattle.std.proofs.Math.Seq.{take-length}
use Rattle.std.specs.Prelude.{Result, Ok, Err}
use Rattle.std.specs.IoError.{error_kind}
use Rattle.std.specs.declared.io.Error.{Error}
use Rattle.std.specs.declared.io.ErrorKind.TheVariants.{Interrupted}
use Rattle.appender_store.specs.declared.store.Folder.{Ghosts}
use Rattle.appender_rolling.specs.Roller.{Scheduled, OpenFile, rolling_of, written_count, IsContinued, AreContinued, EndsWrites, Writes, WritesAll, WritesSoFar, OfAnySchedule}
use Rattle.appender_store.proofs.Appends.{after_append_nothing}
use Rattle.appender_rolling.proofs.Pieces.{one_more_piece}
use Rattle.appender_rolling.proofs.rolling.log_file.LogFile.write_all.Goals.{in-Ok, in-Err, in-Interrupted, in_default}
use Rattle.appender_rolling.proofs.rolling.log_file.LogFile.write_all.Goals as goal

module _ {S F : Type 0} (kind : Ghosts S F) where
  -- so many writes before the loop's turn
  abbrev Before : ℕ → List ℕ → List ℕ → OpenFile S F → OpenFile S F → Type 0
  Before made bytes left start last =
      (answers : List (Result ℕ Error)) × ((s : Scheduled) → WritesSoFar kind answers bytes left (rolling_of s start) (rolling_of s last)) × AreContinued answers × (length answers ≡ made)

  -- an end before all was written
  ended : {made : ℕ} {bytes left : List ℕ} {start last now : OpenFile S F} {answer : Result ℕ Error} {fault : Error}
      → (before : Before made bytes left start last) → left ≢ [] → OfAnySchedule (Writes kind left answer) last now
      → EndsWrites (answer ∷ before.0) fault → OfAnySchedule (WritesAll kind bytes (Err fault)) start now
  ended {bytes = bytes} {left = left} {start = start} {last = last} {now = now} {answer = answer} before some writes stops s = record {
    answers = answer ∷ before.0;
    rest = drop (written_count answer) left;
    so_far = one_more_piece kind before.0 bytes left (rolling_of s start) (rolling_of s last) (rolling_of s now) answer (before.1 s) before.2 some (writes s);
    whole = tt;
    stops = stops;
  }

  -- the loop goes on after such a write
  went_on : {made : ℕ} {bytes left rest : List ℕ} {start last now : OpenFile S F} {answer : Result ℕ Error}
      → Before made bytes left start last → left ≢ [] → IsContinued answer → OfAnySchedule (Writes kind left answer) last now → rest ≡ drop (written_count answer) left
      → Before (made + 1) bytes rest start now
  went_on {made = made} {bytes = bytes} {left = left} {start = start} {last = last} {now = now} {answer = answer} before some goes writes is =
      let so_far : (s : Scheduled) → WritesSoFar kind (answer ∷ before.0) bytes (drop (written_count answer) left) (rolling_of s start) (rolling_of s now)
      = λ s. one_more_piece kind before.0 bytes left (rolling_of s start) (rolling_of s last) (rolling_of s now) answer (before.1 s) before.2 some (writes s) in
      let count : suc (length before.0) ≡ made + 1 = omega arith in
      (answer ∷ before.0, λ s. subst (λ rest. WritesSoFar kind (answer ∷ before.0) bytes rest (rolling_of s start) (rolling_of s now)) (sym is) (so_far s), (goes, before.2), count)

some_left : (xs : List ℕ) → false ≡ (length xs == 0) → xs ≢ []
some_left xs some is = let both : false ≡ true = some ∙ ap (λ ys. length ys == 0) is in absurd (let both : false ≡ true = both in cc)

-- no write follows that many
too_many : (answers : List (Result ℕ Error)) (fault : Error) → length answers ≡ 18446744073709551615 → EndsWrites answers fault
too_many [] fault e = absurd (omega arith)
too_many (Ok n ∷ before) fault e = inr (omega arith)
too_many (Err cause ∷ before) fault e = inr (omega arith)

pub returns : goal.returns
returns g c s =
    let before = c.loop-made.invariant in
    record {
      answers = before.0;
      rest = c.loop-made.rest.now;
      so_far = before.1 s;
      whole = tt;
      stops = too_many before.0 c.other.result (omega (arith, c.loop-made-test.false, c.loop-made.auto._made-end, before.3));
    }

pub loop-made-init : goal.loop-made-init
loop-made-init g c = (
  [],
  λ s. record {
    pieces = (refl, refl);
    taken = [];
    split = refl;
    content = λ is_known. sym (after_append_nothing (g.S.Folder.content c.args.self.now.folder) (g.S.Folder.body c.args.self.now.file));
    stays = record { config_is = refl; opened = refl; last = refl; boundary = refl; file = refl; noted = refl };
    room = omega arith;
  },
  tt,
  refl,
)

pub returns-then-is_empty : goal.returns-then-is_empty
returns-then-is_empty g c s =
    let short : length c.loop-made.rest.now ≡ 0 = (let is = c.if-is_empty.ensures in grind (arith, nat_tests)) in
    record {
      answers = c.loop-made.invariant.0;
      rest = c.loop-made.rest.now;
      so_far = c.loop-made.invariant.1 s;
      whole = nil_from_length c.loop-made.rest.now short;
      stops = tt;
    }

pub returns-in-Ok-eq0 : goal.returns-in-Ok-eq0
returns-in-Ok-eq0 g c =
    ended g.S.Folder c.loop-made.invariant (some_left c.loop-made.rest.now (sym c.if-is_empty.false ∙ c.is_empty.ensures)) c.write.ensures.writes
    (subst (λ answer. EndsWrites (answer ∷ c.loop-made.invariant.0) c.from.result) (sym c.in-Ok-eq0.is) (inl (c.in-Ok-eq0.field-0-test, c.from.ensures)))

pub returns-in-Err-2 : goal.returns-in-Err-2
returns-in-Err-2 g c =
    let not_interrupted : error_kind c.in-Err.fault ≢ Interrupted = elim c.match-matches.branch [
      | in-Interrupted w ↦ absurd (let both : true ≡ false = sym w.matches-is ∙ c.if-matches.false in cc)
      | in_default w ↦ λ is. w.in_default.not-Interrupted (c.kind.ensures ∙ is)
    ] in
    ended g.S.Folder c.loop-made.invariant (some_left c.loop-made.rest.now (sym c.if-is_empty.false ∙ c.is_empty.ensures)) c.write.ensures.writes
    (subst (λ answer. EndsWrites (answer ∷ c.loop-made.invariant.0) c.in-Err.fault) (sym c.in-Err.is) (inl (refl, not_interrupted)))

-- a slice to the end is all that is left
whole_rest : (n : ℕ) (xs : List ℕ) → take (length xs - n) (drop n xs) ≡ drop n xs
whole_rest n xs = ap (λ k. take k (drop n xs)) (sym (length-drop n xs)) ∙ take-length (drop n xs)

pub loop-made-preserved : goal.loop-made-preserved
loop-made-preserved g c =
    let some : c.loop-made.rest.now ≢ [] = some_left c.loop-made.rest.now (sym c.if-is_empty.false ∙ c.is_empty.ensures) in
    let left = λ (answer : Result ℕ Error). drop (written_count answer) c.loop-made.rest.now in
    let next : IsContinued c.write.result → c.match-write.rest.now ≡ left c.write.result
    → Before g.S.Folder (c.loop-made._made + 1) c.args.bytes.now c.match-write.rest.now c.args.self.now c.write.new.self
    = λ goes is. went_on g.S.Folder c.loop-made.invariant some goes c.write.ensures.writes is in
    elim c.match-write.branch [
      | in-Ok w ↦ next (subst IsContinued (sym w.in-Ok.is) w.in-Ok.taken-test.1) (ap (λ rest. rest.now) w.rest-is ∙ whole_rest w.in-Ok.taken c.loop-made.rest.now ∙ ap left (sym w.in-Ok.is))
      | in-Err w ↦ elim w.match-matches.branch [
        | in-Interrupted w' ↦ next (subst IsContinued (sym w.in-Err.is) (sym w.kind.ensures ∙ w'.in-Interrupted.is)) (ap (λ rest. rest.now) w.rest-is ∙ ap left (sym w.in-Err.is))
        | in_default w' ↦ absurd (let both : true ≡ false = sym w.if-matches.true ∙ w'.matches-is in cc)
      ]
    ]
