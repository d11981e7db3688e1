-- Lines of a script.
use Rattle.std.proofs.Common.{◌≡◌, ◌≢◌, ◌==◌, ℕ, ℤ, suc, ◌+◌, ◌<◌, ◌≤◌, List, [], ◌∷◌, ◌++◌, Option, None, Some, MatchOption, Bor, true, false, Err, IfOk, IfSome, IsNone, length, get_or, length-append, arith, refl, ap, sym, ◌∙◌, inl, inr, unwrap_or}
use Rattle.std.specs.Option.{ok_or}
use Rattle.std.proofs.lemmas.Bool.Decides.{eqb_tells}
use Rattle.std.proofs.lemmas.List.Elements.{All-from_get_or}
use Rattle.appender_store.specs.MemoryView.{state_of}
use Rattle.appender_replay.specs.declared.replay.RollStep.{RollStep}
use Rattle.appender_replay.specs.declared.replay.whole.Step.{Step as StepOfQueue}
use Rattle.rollplay_core.specs.declared.line.Queueing.{Queueing}
use Rattle.rollplay_core.specs.declared.line.ScriptLine.{ScriptLine}
use Rattle.rollplay_core.specs.declared.line.ScriptLine.TheVariants.{Setting as Sets, Start, Step, QueueStep}
use Rattle.rollplay_core.specs.declared.line.Setting.{Setting}
use Rattle.rollplay_core.specs.declared.script.Script.{Script}
use Rattle.rollplay_core.specs.declared.script.ScriptError.{ScriptError}
use Rattle.rollplay_core.specs.declared.script.ScriptError.TheVariants.{Fault, Memory}
use Rattle.rollplay_core.specs.declared.words.LineError.{LineError}
use Rattle.rollplay_core.specs.declared.words.LineError.TheVariants.{Fault as LineFault, Memory as LineMemory}
use Rattle.rollplay_core.specs.Draft.{plan_of}
use Rattle.rollplay_core.specs.Script.{Progress, HasParts, BeginsWithLine, IsFaultyLine, HasFaultNext, ReadsLines, IsScript, HasFirstFault, is_misplaced}

-- a text is cut after its first newline
pub begins_with_line : (text : List ℕ) (found : Option (Bor (List ℕ) × Bor (List ℕ))) (whole : Bor (List ℕ) × Bor (List ℕ)) → text ≢ [] → whole.0.now ≡ text → whole.1.now ≡ []
    → MatchOption found ((i : ℕ) → i < length text → get_or text i 0 ≢ 10) (λ x. (text ≡ x.0.now ++ (10 ∷ x.1.now)) × ((i : ℕ) → i < length x.0.now → get_or x.0.now i 0 ≢ 10))
    → BeginsWithLine text (unwrap_or found whole).0.now (unwrap_or found whole).1.now
begins_with_line text None whole some all none plain =
    record { one = rw all (All-from_get_or (λ b. b ≢ 10) text 0 plain); join = inr (sym all, none); some = some }
begins_with_line text (Some parts) whole some all none found =
    record { one = All-from_get_or (λ b. b ≢ 10) parts.0.now 0 found.1; join = inl found.0; some = some }

-- reading stops at a faulty line
pub stops_here : (rest line behind : List ℕ) (p : Progress) → BeginsWithLine rest line behind → IsFaultyLine line p → HasFaultNext rest p
stops_here [] line behind p begins faulty = absurd (begins.some refl)
stops_here (b ∷ bs) line behind p begins faulty = (line, behind, begins, faulty)

-- if the start is known at the end of the text, all of it is a script
pub is_script : (text : List ℕ) (lines : ℕ) (p : Progress) (found : Option Script) (error : ScriptError) → ReadsLines text lines [] p
    → IfSome found (λ s. HasParts p s.builder (state_of s.folder) s.start (plan_of s.plan))
    → IfOk (ok_or found error) (λ s. IsScript text s.builder (state_of s.folder) s.start (plan_of s.plan))
is_script text lines p None error reached is = tt
is_script text lines p (Some s) error reached is = record {
  lines = lines;
  progress = p;
  reached = reached;
  gives = is;
}

-- if it is not, the fault is after the last line
pub misses_start : (text : List ℕ) (lines : ℕ) (p : Progress) (found : Option Script) (number counted : ℕ) → ReadsLines text lines [] p → counted ≡ suc lines
    → (IsNone found → p.start ≡ None) → ok_or found (Fault counted) ≡ Err (Fault number) → HasFirstFault text number
misses_start text lines p None number counted reached next none e = record {
  taken = lines;
  counted = let same : counted ≡ number = cc in sym same ∙ next;
  rest = [];
  progress = p;
  reached = reached;
  stops = none refl;
}
misses_start text lines p (Some s) number counted reached next none e = absurd (cc)

-- a fault of a script is a fault of its line
pub fault_of_line : (error : LineError) (told : ScriptError) (line number : ℕ) → (error ≡ LineFault → told ≡ Fault line) → (error ≡ LineMemory → told ≡ Memory) → told ≡ Fault number
    → (error ≡ LineFault) × (number ≡ line)
fault_of_line LineFault told line number fault memory is = let same : told ≡ Fault line = fault refl in (refl, (cc))
fault_of_line LineMemory told line number fault memory is = let same : told ≡ Memory = memory refl in absurd (cc)

-- a line takes at least one byte
pub line_takes : (text line rest : List ℕ) → BeginsWithLine text line rest → 1 + length rest ≤ length text
line_takes text line rest begins = elim begins.join [
  | inl cut ↦ omega (arith, ap length cut, length-append line (10 ∷ rest))
  | inr last ↦ elim text as (λ t. t ≢ [] → 1 + length rest ≤ length t) [
    | [] ↦ λ some. absurd (some refl)
    | b ∷ bs ↦ λ some. omega (arith, ap length last.1)
  ] begins.some
]

true_is_not_false : true ≡ false → ⊥
true_is_not_false e = cc

pub no_bytes : (bs : List ℕ) → true ≡ (length bs == 0) → bs ≡ []
no_bytes [] e = refl
no_bytes (b ∷ bs) e = elim (eqb_tells (length (b ∷ bs)) 0) [
  | inl zero ↦ absurd (omega (arith, zero.1))
  | inr some ↦ absurd (true_is_not_false (e ∙ some.0))
]

-- before the start, only a setting or the start is allowed
pub misplaced_before_start : (p : Progress) (line : ScriptLine) → p.start ≡ None → ((setting : Setting) → line ≡ Sets setting → ⊥) → ((m : ℤ) → line ≡ Start m → ⊥) → is_misplaced line p ≡ true
misplaced_before_start p (Sets setting) none no_setting no_start = absurd (no_setting setting refl)
misplaced_before_start p (Start m) none no_setting no_start = absurd (no_start m refl)
misplaced_before_start p (Step step) none no_setting no_start = rw none refl
misplaced_before_start p (QueueStep step) none no_setting no_start = rw none refl

-- after the start, only a step of the script's kind is allowed
pub misplaced_without_queue : (p : Progress) (line : ScriptLine) (moment : ℤ) → p.start ≡ Some moment → p.queueing ≡ None → ((step : RollStep) → line ≡ Step step → ⊥) → is_misplaced line p ≡ true
misplaced_without_queue p (Sets setting) moment some none no_step = rw some refl
misplaced_without_queue p (Start m) moment some none no_step = rw some refl
misplaced_without_queue p (Step step) moment some none no_step = absurd (no_step step refl)
misplaced_without_queue p (QueueStep step) moment some none no_step = rw (some, none) refl

pub misplaced_with_queue : (p : Progress) (line : ScriptLine) (moment : ℤ) (queueing : Queueing) → p.start ≡ Some moment → p.queueing ≡ Some queueing → ((step : StepOfQueue) → line ≡ QueueStep step → ⊥) → is_misplaced line p ≡ true
misplaced_with_queue p (Sets setting) moment queueing some queue no_step = rw some refl
misplaced_with_queue p (Start m) moment queueing some queue no_step = rw some refl
misplaced_with_queue p (Step step) moment queueing some queue no_step = rw (some, queue) refl
misplaced_with_queue p (QueueStep step) moment queueing some queue no_step = absurd (no_step step refl)
