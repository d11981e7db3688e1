-- A writer that gathers lines, after one step and another.
use Rattle.std.proofs.Common.{◌≡◌, ℕ, ◌+◌, ◌<◌, ◌≤◌, List, [], ◌∷◌, ◌++◌, Bool, true, false, not, ◌||◌, cond, length, take, drop, map, count_by, filter, Option, ap, sym, refl, ◌∙◌, subst, arith, append_assoc, append-nil, take_all}
use Rattle.std.specs.Prelude.{nat_lt, is_some, None, Result, Ok, Err, IfOk, OnOk, OnErr}
use Rattle.std.specs.declared.io.Error.{Error}
use Rattle.std.specs.declared.io.ErrorKind.{ErrorKind}
use Rattle.std.specs.Io.KnownBytes.{Appends}
use Rattle.std.proofs.KnownBytes.{Appends-nil, Appends-trans}
use Rattle.std.proofs.lemmas.List.{map-append}
use Rattle.std.proofs.lemmas.List.Concat.{flat_map-append}
use Rattle.std.proofs.lemmas.List.Elements.{filter-append}
use Rattle.std.proofs.lemmas.List.Sums.{sum_by-append}
use Rattle.std.proofs.lemmas.Bool.Decides.{nat_tests}
use Rattle.appender_worker.specs.Batch.{Batch, IsWithin, saturating_sum, WritesParts, WritesWaiting, Gathers, LosesLine, KeepsFirstFault}
use Rattle.appender_worker.specs.Parts.{Part, part, line_of, written_of, is_whole, is_cut}
use Rattle.appender_worker.specs.Tries.{write_try, is_failed, FailWithin}
use Rattle.appender_worker.proofs.Asking.{asked_join, asked_one, fail_join, keeps_join, keeps_same}
use Rattle.appender_queue.specs.Queue.{saturating_next}
use Rattle.appender_worker.specs.Inside.Gathered.{WritesLine}
use Rattle.appender_worker.proofs.Gathered.{more_more}

-- first these parts were written, and then those
pub passes_join : {W : Type 0} (contents : W → Option (List ℕ)) (tries : W → List ℕ → ℕ → Option ErrorKind → W → Type 0) (ps qs : List Part) (xs ys : List (List ℕ)) (old mid new : Batch W) → mid.waiting ≡ []
    → WritesParts contents tries ps xs old mid → WritesParts contents tries qs ys mid new → WritesParts contents tries (ps ++ qs) (xs ++ ys) old new
passes_join contents tries ps qs xs ys old mid new none p q =
    let first : xs ≡ map line_of ps = p.order ∙ ap (λ t. map line_of ps ++ t) none ∙ append-nil (map line_of ps) in
    record {
      order = ap (λ t. t ++ ys) first ∙ ap (λ t. map line_of ps ++ t) q.order ∙ sym (append_assoc (map line_of ps) (map line_of qs) new.waiting)
          ∙ ap (λ t. t ++ new.waiting) (sym (map-append line_of ps qs));
      bytes = rw (flat_map-append written_of ps qs) (Appends-trans (contents old.writer) (contents mid.writer) (contents new.writer) _ _ p.bytes q.bytes);
      taken = q.taken ∙ ap (λ n. saturating_sum n (count_by is_whole qs)) p.taken ∙ more_more old.taken (count_by is_whole ps) (count_by is_whole qs)
          ∙ ap (λ n. saturating_sum old.taken n) (sym (sum_by-append (λ x. cond (is_whole x) 1 0) ps qs));
      lost = q.lost ∙ ap (λ n. saturating_sum n (count_by is_cut qs)) p.lost ∙ more_more old.lost (count_by is_cut ps) (count_by is_cut qs)
          ∙ ap (λ n. saturating_sum old.lost n) (sym (sum_by-append (λ x. cond (is_cut x) 1 0) ps qs));
      capacity = q.capacity ∙ p.capacity;
      asked = p.asked ++ q.asked;
      were_asked = asked_join tries old.writer p.asked q.asked mid.writer new.writer p.were_asked q.were_asked;
      failed_within = subst (λ t. FailWithin t (filter is_cut (ps ++ qs))) (sym (filter-append is_failed p.asked q.asked))
          (subst (λ t. FailWithin (filter is_failed p.asked ++ filter is_failed q.asked) t) (sym (filter-append is_cut ps qs))
          (fail_join (filter is_failed p.asked) (filter is_failed q.asked) (filter is_cut ps) (filter is_cut qs) p.failed_within q.failed_within));
      fault = keeps_join p.asked q.asked old.fault mid.fault new.fault p.fault q.fault;
    }

pub or_false : (b : Bool) → b ≡ (b || false)
or_false true = refl
or_false false = refl

-- a line that finds room
pub gathers_line : {W : Type 0} (contents : W → Option (List ℕ)) (tries : W → List ℕ → ℕ → Option ErrorKind → W → Type 0) (line : List ℕ) (old new : Batch W) → new ≡ record old { waiting = old.waiting ++ line ∷ [] } → Gathers contents tries line old new
gathers_line contents tries line old new e = subst (λ b. Gathers contents tries line old b) (sym e) (record {
  parts = [];
  passes = record { order = refl; bytes = Appends-nil (contents old.writer); taken = refl; lost = refl; capacity = refl; asked = []; were_asked = refl; failed_within = tt; fault = keeps_same [] old.fault old.fault refl refl };
  failed = or_false (is_some old.fault);
})

-- a line that finds room after the others were written
pub gathers_after : {W : Type 0} (contents : W → Option (List ℕ)) (tries : W → List ℕ → ℕ → Option ErrorKind → W → Type 0) (line : List ℕ) (old mid new : Batch W) → WritesWaiting contents tries old mid
    → new ≡ record mid { waiting = mid.waiting ++ line ∷ [] } → Gathers contents tries line old new
gathers_after contents tries line old mid new w e = subst (λ b. Gathers contents tries line old b) (sym e) (record {
  parts = w.parts;
  passes = record {
    order = ap (λ t. t ++ line ∷ []) w.passes.order ∙ append_assoc (map line_of w.parts) mid.waiting (line ∷ []);
    bytes = w.passes.bytes;
    taken = w.passes.taken;
    lost = w.passes.lost;
    capacity = w.passes.capacity;
    asked = w.passes.asked;
    were_asked = w.passes.were_asked;
    failed_within = w.passes.failed_within;
    fault = w.passes.fault;
  };
  failed = w.failed;
})

-- a line by itself that was taken whole
pub gathers_alone : {W : Type 0} (contents : W → Option (List ℕ)) (tries : W → List ℕ → ℕ → Option ErrorKind → W → Type 0) (line : List ℕ) (n : ℕ) (old mid new : Batch W) → n ≡ length line → WritesWaiting contents tries old mid
    → new.fault ≡ mid.fault → WritesLine contents tries line n mid new → Gathers contents tries line old new
gathers_alone contents tries line n old mid new e w same l =
    let whole : is_whole (part line n) ≡ true = grind (arith, nat_tests, e) in
    let none : count_by is_cut (w.parts ++ part line n ∷ []) ≡ count_by is_cut w.parts =
    sum_by-append (λ x. cond (is_cut x) 1 0) w.parts (part line n ∷ []) ∙ ap (λ b. count_by is_cut w.parts + (0 + cond (not b) 1 0)) whole ∙ omega arith in
    record {
      parts = w.parts ++ part line n ∷ [];
      passes = passes_join contents tries w.parts (part line n ∷ []) old.waiting (line ∷ []) old mid new w.none_waits w.passes l.passes;
      failed = ap is_some same ∙ w.failed ∙ ap (λ k. is_some old.fault || nat_lt 0 k) (sym none);
    }

-- a line by itself that was not taken whole
pub loses_alone : {W : Type 0} (contents : W → Option (List ℕ)) (tries : W → List ℕ → ℕ → Option ErrorKind → W → Type 0) (line : List ℕ) (old mid new : Batch W) → WritesWaiting contents tries old mid
    → is_some new.fault ≡ true → ((n : ℕ) × (n < length line) × WritesLine contents tries line n mid new) → LosesLine contents tries line old new
loses_alone contents tries line old mid new w failed l = record {
  parts = w.parts;
  length_written = l.0;
  cut = l.1;
  passes = passes_join contents tries w.parts (part line l.0 ∷ []) old.waiting (line ∷ []) old mid new w.none_waits w.passes l.2.passes;
  none_waits = l.2.none_waits;
  failed = failed;
}

-- a line by itself that was cut
pub cuts_line : {W : Type 0} (contents : W → Option (List ℕ)) (tries : W → List ℕ → ℕ → Option ErrorKind → W → Type 0) (line : List ℕ) (n : ℕ) (kind : Option ErrorKind) (old new : Batch W) → n < length line → Appends (contents old.writer) (contents new.writer) (take n line)
    → tries old.writer line n kind new.writer → new.waiting ≡ [] → new.taken ≡ old.taken → new.lost ≡ saturating_next old.lost → new.capacity ≡ old.capacity
    → KeepsFirstFault (write_try line n kind ∷ []) old.fault new.fault → WritesLine contents tries line n old new
cuts_line contents tries line n kind old new few bytes asks none taken lost capacity fault =
    let cut : is_whole (part line n) ≡ false = grind (arith, nat_tests, few) in
    let no_whole : count_by is_whole (part line n ∷ []) ≡ 0 = ap (λ b. 0 + cond b 1 0) cut in
    let failed : is_failed (write_try line n kind) ≡ true = grind (arith, nat_tests, few) in
    let fails : FailWithin (filter is_failed (write_try line n kind ∷ [])) (filter is_cut (part line n ∷ [])) =
    subst (λ b. FailWithin (cond b (write_try line n kind ∷ []) []) (filter is_cut (part line n ∷ []))) (sym failed)
    (subst (λ b. FailWithin (write_try line n kind ∷ []) (cond (not b) (part line n ∷ []) [])) (sym cut) (([], sym (append-nil (drop n line))), tt)) in
    let one_cut : count_by is_cut (part line n ∷ []) ≡ 1 = ap (λ b. 0 + cond (not b) 1 0) cut in
    record {
      passes = record {
        order = ap (λ t. line ∷ [] ++ t) (sym none);
        bytes = rw append-nil bytes;
        taken = taken ∙ sym (ap (λ k. saturating_sum old.taken k) no_whole);
        lost = lost ∙ sym (ap (λ k. saturating_sum old.lost k) one_cut);
        capacity = capacity;
        asked = write_try line n kind ∷ [];
        were_asked = asked_one tries old.writer line n kind new.writer asks;
        failed_within = fails;
        fault = fault;
      };
      none_waits = none;
    }

-- a line by itself that was taken whole
pub takes_line : {W : Type 0} (contents : W → Option (List ℕ)) (tries : W → List ℕ → ℕ → Option ErrorKind → W → Type 0) (line : List ℕ) (old new : Batch W) → Appends (contents old.writer) (contents new.writer) line
    → tries old.writer line (length line) None new.writer → new.waiting ≡ [] → new.taken ≡ saturating_next old.taken → new.lost ≡ old.lost → new.capacity ≡ old.capacity → new.fault ≡ old.fault
    → WritesLine contents tries line (length line) old new
takes_line contents tries line old new bytes asks none taken lost capacity same =
    let whole : is_whole (part line (length line)) ≡ true = grind (arith, nat_tests) in
    let one_whole : count_by is_whole (part line (length line) ∷ []) ≡ 1 = ap (λ b. 0 + cond b 1 0) whole in
    let no_cut : count_by is_cut (part line (length line) ∷ []) ≡ 0 = ap (λ b. 0 + cond (not b) 1 0) whole in
    let failed : is_failed (write_try line (length line) None) ≡ false = grind (arith, nat_tests) in
    let all : take (length line) line ≡ line = take_all (length line) line (omega arith) in
    record {
      passes = record {
        order = ap (λ t. line ∷ [] ++ t) (sym none);
        bytes = rw (append-nil, all) bytes;
        taken = taken ∙ sym (ap (λ k. saturating_sum old.taken k) one_whole);
        lost = lost ∙ sym (ap (λ k. saturating_sum old.lost k) no_cut);
        capacity = capacity;
        asked = write_try line (length line) None ∷ [];
        were_asked = asked_one tries old.writer line (length line) None new.writer asks;
        failed_within = subst (λ b. FailWithin (cond b (write_try line (length line) None ∷ []) []) (filter is_cut (part line (length line) ∷ []))) (sym failed)
            (subst (λ b. FailWithin [] (cond (not b) (part line (length line) ∷ []) [])) (sym whole) tt);
        fault = keeps_same (write_try line (length line) None ∷ []) old.fault new.fault refl same;
      };
      none_waits = none;
    }

-- what a line by itself is after the others were written
pub alone_ok : {W : Type 0} (contents : W → Option (List ℕ)) (tries : W → List ℕ → ℕ → Option ErrorKind → W → Type 0) (line : List ℕ) (old mid new : Batch W) (r : Result ℕ Error) → WritesWaiting contents tries old mid
    → IfOk r (λ n. (n ≡ length line) × (new.fault ≡ mid.fault) × WritesLine contents tries line n mid new) → IfOk r (λ n. (n ≡ length line) × Gathers contents tries line old new)
alone_ok contents tries line old mid new (Ok n) w h = (h.0, gathers_alone contents tries line n old mid new h.0 w h.1 h.2)
alone_ok contents tries line old mid new (Err e) w h = h

pub alone_err : {W : Type 0} (contents : W → Option (List ℕ)) (tries : W → List ℕ → ℕ → Option ErrorKind → W → Type 0) (line : List ℕ) (old mid new : Batch W) (r : Result ℕ Error) → WritesWaiting contents tries old mid
    → mid.capacity < length line → OnErr r (is_some new.fault ≡ true) → OnErr r ((n : ℕ) × (n < length line) × WritesLine contents tries line n mid new)
    → OnErr r ((old.capacity < length line) × LosesLine contents tries line old new)
alone_err contents tries line old mid new (Ok n) w long failed h = h
alone_err contents tries line old mid new (Err e) w long failed h =
    (subst (λ n. n < length line) w.passes.capacity long, loses_alone contents tries line old mid new w failed h)

-- the writer was flushed
pub flushes : {W : Type 0} (w : W) (fault : Option Error) (b written : Batch W) → b ≡ written → fault ≡ None → record b { writer = w; fault = fault } ≡ record written { writer = w; fault = None }
flushes w fault b written e none = rw (e, none) refl

pub on_ok : {P : Type 0} (r : Result Unit Error) → P → OnOk r P
on_ok (Ok u) p = p
on_ok (Err e) p = tt

-- no line waits
pub within_none : {W : Type 0} (b : Batch W) → b.waiting ≡ [] → IsWithin b
within_none b none = record { bytes = rw none (omega arith); lines = rw none (omega arith) }

-- one line waits
pub within_one : {W : Type 0} (line : List ℕ) (old new : Batch W) → old.waiting ≡ [] → length line ≤ old.capacity → new ≡ record old { waiting = old.waiting ++ line ∷ [] } → IsWithin new
within_one line old new none fits e = subst (λ b. IsWithin b) (sym e) (record { bytes = rw none (omega (arith, fits)); lines = rw none (omega arith) })
