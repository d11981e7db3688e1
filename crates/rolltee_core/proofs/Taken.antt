-- What a log took, and what a batch passed on.
use Rattle.std.proofs.Common.{◌≡◌, ◌≢◌, ℕ, zero, suc, ◌+◌, ◌<◌, List, [], ◌∷◌, ◌++◌, Bool, true, false, cond, length, map, flat_map, count_by, ap, sym, refl, ◌∙◌, subst, arith, append_assoc, append-nil, max, if◌then◌else◌, ◌==◌}
use Rattle.std.specs.Prelude.{Option, None, Some, Result, Ok, Err, IfOk, IfSome, String, string_bytes}
use Rattle.std.specs.declared.alloc.Global.{Global}
use Rattle.appender_names.specs.RotationText.{rotation_word}
use Rattle.std.specs.List.{FoldsTo, concat}
use Rattle.std.specs.Io.KnownBytes.{Appends, Keeps, prepend_known}
use Rattle.std.specs.Io.Buffered.{reader_buffer, reader_capacity, reader_inner, reader_remaining}
use Rattle.std.specs.declared.io.buffered.BufReader.{BufReader}
use Rattle.std.specs.declared.io.ErrorKind.{ErrorKind}
use Rattle.std.specs.declared.io.Error.{Error}
use Rattle.std.proofs.KnownBytes.{prepend_known-nil}
use Rattle.std.proofs.lemmas.List.Folds.{concat-append}
use Rattle.std.proofs.lemmas.List.Sums.{sum_by-append}
use Rattle.std.proofs.lemmas.Bool.Decides.{nat_tests}
use Rattle.appender_worker.specs.Batch.{Batch, saturating_sum, WritesParts, Gathers, LosesLine, WritesAndFlushes}
use Rattle.appender_worker.specs.Parts.{Part, part, line_of, written_of, is_cut}
use Rattle.appender_worker.specs.Served.{ServesLines}
use Rattle.appender_worker.proofs.Served.{whole_lines, served_whole}
use Rattle.appender_non_blocking.specs.SentLines.{SentLines, new_sender}
use Rattle.appender_names.specs.declared.rotation.Rotation.{Rotation}
use Rattle.program_io.specs.declared.options.Options.{Options}
use Rattle.appender_non_blocking.specs.declared.non_blocking.run.Written.{Written}
use Rattle.rolltee_core.specs.declared.losses.TeeLosses.{TeeLosses}
use Rattle.rolltee_core.specs.declared.tee.Fault.{Fault}
use Rattle.rolltee_core.specs.Inside.Runs.{EndsRun, TakesInput}
use Rattle.program_io.specs.Options.{has_option, AreDefaults}
use Rattle.program_io.specs.declared.options.OptionName.TheVariants.{Timestamps}
use Rattle.rolltee_core.specs.Losses.{HasLostNothing, nothing_lost}
use Rattle.rolltee_core.specs.Feed.{Feeding, FeedsLines, IsFed, IsTextOf}
use Rattle.rolltee_core.specs.Taken.{AsAsked, AskedFor, FeedsAsAsked, IsCopied, LogsText, WasOpened, PassesLine, TakesPieces, TookInput, TookText}
use Rattle.rolltee_core.proofs.Sent.{fed_lines}

folds_on : {P A : Type 0} (step : P → A → P → Type 0) (p : P) (xs : List A) (q : P) (x : A) (r : P) → FoldsTo step p xs q → step q x r → FoldsTo step p (xs ++ x ∷ []) r
folds_on step p [] q x r before last = (r, subst (λ s. step s x r) (sym before) last, refl)
folds_on step p (y ∷ ys) q x r before last = (before.0, before.1, folds_on step before.0 ys q x r before.2 last)

-- one call more
pub takes_one : {W : Type 0} {is_opened : W → Type 0} {takes : W → List ℕ → W → Type 0} {pieces : List (List ℕ)} {old new : W} {piece : List ℕ}
    → TakesPieces is_opened takes pieces old → takes old piece new → TakesPieces is_opened takes (pieces ++ piece ∷ []) new
takes_one {W} {is_opened} {takes} {pieces} {old} {new} {piece} t last = record { first = t.first; opened = t.opened; took = folds_on takes t.first pieces old piece new t.took last }

-- one line more
pub concat_on : (lines : List (List ℕ)) (line : List ℕ) → concat (lines ++ line ∷ []) ≡ concat lines ++ line
concat_on lines line = concat-append lines (line ∷ []) ∙ ap (λ t. concat lines ++ t) (append-nil line)

-- the same of what is noted
pub noted_on : (lines : List (List ℕ)) (line : List ℕ) {noted : List (List ℕ)} → noted ≡ lines ++ line ∷ [] → concat noted ≡ concat lines ++ line
noted_on lines line e = ap concat e ∙ concat_on lines line

-- a piece without a byte
pub noted_none : (lines : List (List ℕ)) {noted : List (List ℕ)} → noted ≡ lines ++ [] ∷ [] → concat noted ≡ concat lines
noted_none lines e = noted_on lines [] e ∙ append-nil (concat lines)

none_before : (n k : ℕ) → saturating_sum n k ≡ 0 → n ≡ 0
none_before n zero e = e
none_before n (suc k) e = absurd (omega (arith, e))

none_more : (n k : ℕ) → saturating_sum n k ≡ 0 → k ≡ 0
none_more n zero e = refl
none_more n (suc k) e = absurd (omega (arith, e))

keeps_after : (first mid last : Option (List ℕ)) (bytes : List ℕ) → Appends first mid bytes → Keeps mid last → Appends first last bytes
keeps_after None mid last bytes a k = tt
keeps_after (Some x) None last bytes a k = absurd a
keeps_after (Some x) (Some y) None bytes a k = absurd k
keeps_after (Some x) (Some y) (Some z) bytes a k = k ∙ a

pub parts_all : {W : Type 0} {contents : W → Option (List ℕ)} {tries : W → List ℕ → ℕ → Option ErrorKind → W → Type 0} {parts : List Part} {lines : List (List ℕ)} {old new : Batch W}
    → WritesParts contents tries parts lines old new → new.lost ≡ 0 → concat lines ≡ flat_map written_of parts ++ concat new.waiting
parts_all {W} {contents} {tries} {parts} {lines} {old} {new} p none =
    let whole = whole_lines parts (none_more old.lost (count_by is_cut parts) (sym p.lost ∙ none)) in
    ap concat p.order ∙ concat-append (map line_of parts) new.waiting ∙ ap (λ t. t ++ concat new.waiting) (sym whole)

parts_before : {W : Type 0} {contents : W → Option (List ℕ)} {tries : W → List ℕ → ℕ → Option ErrorKind → W → Type 0} {parts : List Part} {lines : List (List ℕ)} {old new : Batch W}
    → WritesParts contents tries parts lines old new → new.lost ≡ 0 → old.lost ≡ 0
parts_before {W} {contents} {tries} {parts} {lines} {old} {new} p none = none_before old.lost (count_by is_cut parts) (sym p.lost ∙ none)

pub gathers_passes : {W : Type 0} {contents : W → Option (List ℕ)} {tries : W → List ℕ → ℕ → Option ErrorKind → W → Type 0} {line : List ℕ} {old new : Batch W}
    → Gathers contents tries line old new → PassesLine contents line old new
gathers_passes {W} {contents} {tries} {line} {old} {new} g = record {
  before = parts_before g.passes;
  written = flat_map written_of g.parts;
  bytes = g.passes.bytes;
  all = λ none. sym (concat_on old.waiting line) ∙ parts_all g.passes none;
}

pub flush_passes : {W : Type 0} {contents : W → Option (List ℕ)} {tries : W → List ℕ → ℕ → Option ErrorKind → W → Type 0} {flushes : W → Result Unit Error → W → Type 0} {result : Result Unit Error} {old new : Batch W}
    → WritesAndFlushes contents tries flushes result old new → PassesLine contents [] old new
flush_passes {W} {contents} {tries} {flushes} {result} {old} {new} f =
    let passes = f.writes.passes in
    let lost : new.lost ≡ f.written.lost = ap (λ b. b.lost) f.same in
    let waiting : new.waiting ≡ f.written.waiting = ap (λ b. b.waiting) f.same in
    record {
      before = λ none. parts_before passes (sym lost ∙ none);
      written = flat_map written_of f.writes.parts;
      bytes = keeps_after (contents old.writer) (contents f.written.writer) (contents new.writer) _ passes.bytes f.bytes;
      all = λ none. append-nil (concat old.waiting) ∙ parts_all passes (sym lost ∙ none) ∙ ap (λ t. flat_map written_of f.writes.parts ++ concat t) (sym waiting);
    }

one_cut : (p : Part) → p.written < length p.line → count_by is_cut (p ∷ []) ≡ 1
one_cut p short = let cut : is_cut p ≡ true = grind (arith, nat_tests, short) in ap (λ b. 0 + cond b 1 0) cut

pub loses_one : {W : Type 0} {contents : W → Option (List ℕ)} {tries : W → List ℕ → ℕ → Option ErrorKind → W → Type 0} {line : List ℕ} {old new : Batch W}
    → LosesLine contents tries line old new → new.lost ≢ 0
loses_one {W} {contents} {tries} {line} {old} {new} l none =
    let last = part line l.length_written in
    let all : count_by is_cut (l.parts ++ last ∷ []) ≡ 0 = none_more old.lost _ (sym l.passes.lost ∙ none) in
    let split = sum_by-append (λ x. cond (is_cut x) 1 0) l.parts (last ∷ []) in
    let one = one_cut last l.cut in
    omega (arith, all, split, one)

-- what a writer was given, after one line more
pub given_on : (given : List (List ℕ)) (line : List ℕ) {old new : Batch (List ℕ)} → PassesLine (λ t. Some t) line old new
    → (old.lost ≡ 0 → concat given ≡ old.writer ++ concat old.waiting) → new.lost ≡ 0 → concat given ++ line ≡ new.writer ++ concat new.waiting
given_on given line {old} {new} p before none =
    ap (λ t. t ++ line) (before (p.before none)) ∙ append_assoc old.writer (concat old.waiting) line ∙ ap (λ t. old.writer ++ t) (p.all none)
    ∙ sym (append_assoc old.writer p.written (concat new.waiting)) ∙ ap (λ t. t ++ concat new.waiting) (sym p.bytes)

-- the same after a flush
pub given_kept : (given : List (List ℕ)) {old new : Batch (List ℕ)} → PassesLine (λ t. Some t) [] old new
    → (old.lost ≡ 0 → concat given ≡ old.writer ++ concat old.waiting) → new.lost ≡ 0 → concat given ≡ new.writer ++ concat new.waiting
given_kept given p before none = sym (append-nil (concat given)) ∙ given_on given [] p before none

-- a log took what a writer was given, once no line waits
pub all_taken : {W : Type 0} {is_opened : W → Type 0} {takes : W → List ℕ → W → Type 0} {is_kept : W → Type 0} {given log waiting : List ℕ} → given ≡ log ++ waiting → waiting ≡ []
    → TookText is_opened takes is_kept log → TookText is_opened takes is_kept given
all_taken {W} {is_opened} {takes} {is_kept} {given} {log} {waiting} all none took =
    let same : log ≡ given = sym (all ∙ ap (λ t. log ++ t) none ∙ append-nil log) in
    subst (λ t. TookText is_opened takes is_kept t) same took

-- a log took the lines of the whole input
pub all_logged : {W : Type 0} {opens : Rotation → List ℕ → List ℕ → Options → W → Type 0} {asked : Rotation → List ℕ → List ℕ → Options → Type 0} {takes : W → List ℕ → W → Type 0} {is_kept : W → Type 0}
    {before after remaining : Option (List ℕ)} {lossy : Bool} {ended : SentLines} {losses : TeeLosses} {given_up : ℕ} {given : List ℕ}
    → IsCopied asked before after remaining (new_sender lossy 0) ended losses → ServesLines (Some []) (Some given) ended.lines given_up → TookText (WasOpened opens asked) takes is_kept given
    → losses.dropped ≡ 0 → losses.unechoed ≡ 0 → given_up ≡ 0 → (text : List ℕ) → remaining ≡ Some text → TookInput opens asked takes is_kept before after text
all_logged {W} {opens} {asked} {takes} {is_kept} {ended = ended} {given = given} copied served took none echoed whole text is =
    let sent = copied.sent none echoed text is in
    let given_is : given ≡ sent.0 = served_whole (Some []) (Some given) ended.lines (subst (λ n. ServesLines (Some []) (Some given) ended.lines n) whole served) ∙ sent.2 in
    (sent.0, sent.1, subst (λ t. TookText (WasOpened opens asked) takes is_kept t) given_is took)

-- what a run that lost nothing leads to
pub run_logged : {W O : Type 0} {opens : Rotation → List ℕ → List ℕ → Options → W → Type 0} {asked : Rotation → List ℕ → List ℕ → Options → Type 0} {takes : W → List ℕ → W → Type 0} {is_kept : W → Type 0}
    {before remaining left : Option (List ℕ)} {contents : O → Option (List ℕ)} {first : List ℕ} {outcome : Result (TeeLosses × O) Fault} {written : Option (Written (List ℕ))} {echoed : O} (lossy : Bool) (ended : SentLines)
    → remaining ≡ left → first ≡ [] → IfOk outcome (λ copied. IsCopied asked before (contents copied.1) remaining (new_sender lossy 0) ended copied.0)
    → IfSome written (λ w. ServesLines (Some first) (Some w.writer) ended.lines w.given_up)
    → EndsRun (WasOpened opens asked) takes is_kept outcome written echoed → TakesInput opens asked takes is_kept before contents left echoed
run_logged lossy ended same none copied wrote e = record {
  took = λ text is.
      let did = rw e.outcome_is at copied in
      let served = subst (λ t. ServesLines (Some t) (Some e.last.writer) ended.lines e.last.given_up) none (rw e.written_is at wrote) in
      all_logged did served e.took e.dropped e.unechoed e.whole text (same ∙ is);
}

pub nothing_is_lost : {lost : TeeLosses} → lost ≡ nothing_lost → HasLostNothing lost
nothing_is_lost none = record { unwritten = ap (λ (l : TeeLosses). l.unwritten) none; gone = ap (λ (l : TeeLosses). l.gone) none; unsynced = ap (λ (l : TeeLosses). l.unsynced) none }

-- a run whose losses are none
pub ends_run : {W O : Type 0} {is_opened : W → Type 0} {takes : W → List ℕ → W → Type 0} {is_kept : W → Type 0} {outcome : Result (TeeLosses × O) Fault} {written : Option (Written (List ℕ))}
    {sent lost : TeeLosses} {output echoed : O} {last : Written (List ℕ)} → outcome ≡ Ok (sent, output) → written ≡ Some last → (lost.dropped ≡ sent.dropped) × (lost.unechoed ≡ sent.unechoed)
    → (lost.unwritten ≡ 0 → last.given_up ≡ 0) → (HasLostNothing lost → TookText is_opened takes is_kept last.writer) → (echoed ≡ output) × (lost ≡ nothing_lost)
    → EndsRun is_opened takes is_kept outcome written echoed
ends_run {sent = sent} {last = last} outcome_is written_is counted whole took (same, none) = record {
  sent = sent;
  outcome_is = outcome_is ∙ ap (λ o. Ok (sent, o)) (sym same);
  dropped = sym counted.0 ∙ ap (λ (l : TeeLosses). l.dropped) none;
  unechoed = sym counted.1 ∙ ap (λ (l : TeeLosses). l.unechoed) none;
  last = last;
  written_is = written_is;
  whole = whole (ap (λ (l : TeeLosses). l.unwritten) none);
  took = took (nothing_is_lost none);
}

-- a new reader has what its input has
reader_new : {T A : Type 0} (remaining : T → Option (List ℕ)) (r : BufReader T A) → 0 < reader_capacity r → reader_buffer r ≡ [] → reader_remaining remaining r ≡ remaining (reader_inner r)
reader_new remaining r some empty =
    let some_is : (reader_capacity r == 0) ≡ false = grind (arith, nat_tests, some) in
    ap (λ b. if b then None else prepend_known (reader_buffer r) (remaining r.inner)) some_is
    ∙ ap (λ b. prepend_known b (remaining r.inner)) empty ∙ prepend_known-nil (remaining r.inner)

-- the same if there is one
pub reader_made : {T A E : Type 0} (remaining : T → Option (List ℕ)) (made : Result (BufReader T A) E) {inner : T} {left : Option (List ℕ)} {capacity : ℕ} → 0 < capacity → remaining inner ≡ left
    → IfOk made (λ r. reader_inner r ≡ inner) → IfOk made (λ r. reader_buffer r ≡ []) → IfOk made (λ r. reader_capacity r ≡ capacity) → IfOk made (λ r. reader_remaining remaining r ≡ left)
reader_made remaining (Ok r) some is inner_is empty capacity_is = reader_new remaining r (omega (arith, some, capacity_is)) empty ∙ ap remaining inner_is ∙ is
reader_made remaining (Err e) some is inner_is empty capacity_is = tt

-- what is so for what was asked for, if that was these alone
pub as_asked : {is : Rotation → List ℕ → List ℕ → Options → Type 0} {rotation : Rotation} {directory prefix : List ℕ} {options : Options}
    → AsAsked is (AskedFor rotation directory prefix options) → is rotation directory prefix options
as_asked {is} o =
    let r = subst (λ x. is x o.1 o.2 o.3) o.4.0 o.5 in
    let d = subst (λ x. is _ x o.2 o.3) o.4.1 r in
    let p = subst (λ x. is _ _ x o.3) o.4.2 d in
    subst (λ x. is _ _ _ x) o.4.3 p

-- a log that was opened by what was asked for alone
pub takes_asked : {W : Type 0} {opens : Rotation → List ℕ → List ℕ → Options → W → Type 0} {takes : W → List ℕ → W → Type 0} {is_kept : W → Type 0} {text : List ℕ} {rotation : Rotation} {directory prefix : List ℕ} {options : Options}
    → TookText (WasOpened opens (AskedFor rotation directory prefix options)) takes is_kept text → TookText (opens rotation directory prefix options) takes is_kept text
takes_asked t = record {
  last = t.last;
  pieces = t.pieces;
  took = record { first = t.took.first; opened = as_asked t.took.opened; took = t.took.took };
  text_is = t.text_is;
  kept = t.kept;
}

-- a log that was opened by three words and the options took the lines of the input
pub logs_input : {W : Type 0} {opens : Rotation → List ℕ → List ℕ → Options → W → Type 0} {takes : W → List ℕ → W → Type 0} {is_kept : W → Type 0} {before after : Option (List ℕ)} {text : List ℕ} {rotation : Rotation} {options : Options}
    {arguments : List (String Global)} (word directory prefix : String Global) → arguments ≡ word ∷ directory ∷ prefix ∷ [] → string_bytes word ≡ rotation_word rotation
    → TookInput opens (AskedFor rotation (string_bytes directory) (string_bytes prefix) options) takes is_kept before after text
    → (lines : List ℕ) × FeedsLines options before after text lines × LogsText opens options takes is_kept arguments lines
logs_input {rotation = rotation} word directory prefix words named t =
    (t.0, as_asked t.1, record { rotation = rotation; word = word; directory = directory; prefix = prefix; words = words; named = named; took = takes_asked t.2 })

-- what a feed sent and echoed of all pieces
pub feeds_all : {Q O : Type 0} {sent : Q → List ℕ} {contents : O → Option (List ℕ)} {first : List ℕ} {before : Option (List ℕ)} {asked : Rotation → List ℕ → List ℕ → Options → Type 0}
    (f : Feeding Q O) → AsAsked (λ _ _ _ options. IsFed sent contents first before options f) asked → f.echoing.unechoed ≡ 0 → {text : List ℕ} {after : Option (List ℕ)}
    → f.given ≡ text → contents f.echoing.output ≡ after → (lines : List ℕ) × FeedsAsAsked asked before after text lines × (sent f.echoing.sink ≡ first ++ lines)
feeds_all {sent = sent} {contents = contents} {first = first} {before = before} f fed all {text} {after} given_is after_is =
    let is = fed.5 in (
      is.lines,
      (
        fed.0,
        fed.1,
        fed.2,
        fed.3,
        fed.4,
        subst (λ t. FeedsLines fed.3 before after t is.lines) given_is
            (subst (λ o. FeedsLines fed.3 before o f.given is.lines) after_is (fed_lines sent contents first before fed.3 f is all)),
      ),
      is.sent_is,
    )

-- without options the lines are the text
pub plain_lines : {options : Options} {before after : Option (List ℕ)} {text lines : List ℕ} → AreDefaults options → FeedsLines options before after text lines → lines ≡ text
plain_lines {options} {text = text} {lines = lines} plain feeds =
    let none : has_option Timestamps options ≡ false = rw plain refl in
    subst (λ b. IsTextOf b true text lines) none feeds.timed
