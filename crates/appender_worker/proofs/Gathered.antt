-- Lines that are written together, one after another.
use Rattle.std.proofs.Common.{◌≡◌, ℕ, zero, suc, ◌+◌, ◌-◌, ◌^◌, ◌<◌, ◌≤◌, List, [], ◌∷◌, ◌++◌, Bool, true, false, not, cond, length, get_or, take, drop, map, sum, sum_by, count_by, flat_map, filter, Option, min, ap, sym, refl, ◌∙◌, subst, arith, append_assoc, append-nil, take_all, length-drop, length-take, take-append-drop, drop-drop, take-add, take-take, add-zero, add-suc}
use Rattle.std.specs.Prelude.{nat_lt, ◌||◌, None}
use Rattle.std.specs.Option.{option_map, option_or}
use Rattle.std.specs.declared.io.ErrorKind.{ErrorKind}
use Rattle.std.specs.Io.KnownBytes.{Appends}
use Rattle.std.proofs.KnownBytes.{Appends-nil, Appends-trans}
use Rattle.std.proofs.lemmas.List.{drop_more, drop_all, map-append, nil_from_length, take_rest, take-append-le, drop-append-le}
use Rattle.std.proofs.lemmas.List.Concat.{flat_map-append}
use Rattle.std.proofs.lemmas.List.Elements.{filter-append}
use Rattle.std.proofs.lemmas.List.Sums.{sum_by-cons, sum_by_push}
use Rattle.std.proofs.lemmas.Bool.Decides.{nat_tests}
use Rattle.appender_worker.specs.Batch.{saturating_sum}
use Rattle.appender_worker.specs.Parts.{Part, part, line_of, written_of, is_whole, is_cut}
use Rattle.appender_worker.specs.Tries.{WriteTry, write_try, is_failed, reported_kind, first_fault, TriesWrites, FailsWithin, FailWithin}
use Rattle.appender_queue.specs.Queue.{saturating_next}
use Rattle.appender_worker.specs.Inside.Gathered.{lines_of_lengths}
use Rattle.appender_worker.proofs.Asking.{asked_join, asked_one, fail_join, first_push}

-- whether one of these writes failed, and then what it did not take
abbrev pub Failed : Bool → List ℕ → List WriteTry → Type 0
Failed false rest ts = filter is_failed ts ≡ []
Failed true rest ts = (t : WriteTry) × (filter is_failed ts ≡ t ∷ []) × (drop t.taken t.bytes ≡ rest)

-- the lines before the place i, which ends there, were written as their parts say, and of the bytes after `end` so many that
-- all up to `sent` were written; the last writes may have failed there
pub record At {W : Type 0} (contents : W → Option (List ℕ)) (tries : W → List ℕ → ℕ → Option ErrorKind → W → Type 0) (old new : W) (lengths bytes : List ℕ) (i end sent taken lost : ℕ) (given_up : Bool) (kind : Option ErrorKind) : Type 0 where
  pub parts : List Part
  pub order : map line_of parts ++ lines_of_lengths (drop i lengths) (drop end bytes) ≡ lines_of_lengths lengths bytes
  pub total : end + sum (drop i lengths) ≡ length bytes
  pub past : end ≤ sent
  pub within : sent ≤ length bytes
  pub written : Appends (contents old) (contents new) (flat_map written_of parts ++ take (sent - end) (drop end bytes))
  pub taken_is : taken ≡ count_by is_whole parts
  pub lost_is : lost ≡ count_by is_cut parts
  pub asked : List WriteTry
  pub last : List WriteTry
  pub were_asked : TriesWrites tries old (asked ++ last) new
  pub failed_within : FailWithin (filter is_failed asked) (filter is_cut parts)
  pub last_failed : Failed given_up (drop sent bytes) last
  pub kind_is : kind ≡ first_fault (asked ++ last)

-- the list of lines is one longer
order_more : (xs : List (List ℕ)) (lengths bytes : List ℕ) (i end n : ℕ) → drop i lengths ≡ n ∷ drop (i + 1) lengths
    → (xs ++ take n (drop end bytes) ∷ []) ++ lines_of_lengths (drop (i + 1) lengths) (drop (end + n) bytes) ≡ xs ++ lines_of_lengths (drop i lengths) (drop end bytes)
order_more xs lengths bytes i end n e =
    rw e (append_assoc xs (take n (drop end bytes) ∷ []) (lines_of_lengths (drop (i + 1) lengths) (drop (end + n) bytes))
    ∙ ap (λ t. xs ++ take n (drop end bytes) ∷ lines_of_lengths (drop (i + 1) lengths) t) (sym (drop-drop n end bytes)))

total_more : (lengths bytes : List ℕ) (i end n : ℕ) → drop i lengths ≡ n ∷ drop (i + 1) lengths → end + sum (drop i lengths) ≡ length bytes
    → (end + n) + sum (drop (i + 1) lengths) ≡ length bytes
total_more lengths bytes i end n e h =
    let s = sum_by-cons (λ x. x) n (drop (i + 1) lengths) in
    let t : end + sum (n ∷ drop (i + 1) lengths) ≡ length bytes = rw e at h in
    omega (arith, s, t)

pieces_more : (parts : List Part) (p : Part) → flat_map written_of (parts ++ p ∷ []) ≡ flat_map written_of parts ++ written_of p
pieces_more parts p = flat_map-append written_of parts (p ∷ []) ∙ ap (λ t. flat_map written_of parts ++ t) (append-nil (written_of p))

next_place : (lengths : List ℕ) (i n : ℕ) → i < length lengths → n ≡ get_or lengths i 0 → drop i lengths ≡ n ∷ drop (i + 1) lengths
next_place lengths i n lt e = rw e (drop_more lengths i 0 lt)

-- a line that was written whole is none of those that were cut
no_cut_more : (parts : List Part) (p : Part) → is_whole p ≡ true → filter is_cut (parts ++ p ∷ []) ≡ filter is_cut parts
no_cut_more parts p whole = filter-append is_cut parts (p ∷ []) ∙ ap (λ b. filter is_cut parts ++ cond (not b) (p ∷ []) []) whole ∙ append-nil (filter is_cut parts)

-- .. and one that was cut is the last of them
cut_push : (parts : List Part) (p : Part) → is_whole p ≡ false → filter is_cut (parts ++ p ∷ []) ≡ filter is_cut parts ++ p ∷ []
cut_push parts p cut = filter-append is_cut parts (p ∷ []) ∙ ap (λ b. filter is_cut parts ++ cond (not b) (p ∷ []) []) cut

-- the rest of a list after k of its first n elements
drop_split : (k n : ℕ) (xs : List ℕ) → k ≤ n → n ≤ length xs → drop k xs ≡ drop k (take n xs) ++ drop n xs
drop_split k n xs few within =
    ap (λ t. drop k t) (sym (take-append-drop n xs)) ∙ drop-append-le k (take n xs) (drop n xs) (omega (arith, few, within, length-take n xs))

-- one write of all the bytes that were left
one_failed : (failed : Bool) (bytes : List ℕ) (sent k : ℕ) (fault : Option ErrorKind) → (failed ≡ false → k ≡ length (drop sent bytes)) → (failed ≡ true → k < length (drop sent bytes))
    → Failed failed (drop (sent + k) bytes) (write_try (drop sent bytes) k fault ∷ [])
one_failed false bytes sent k fault all some =
    let same = all refl in
    let not_less : nat_lt k (length (drop sent bytes)) ≡ false = grind (arith, nat_tests, same) in
    ap (λ b. cond b (write_try (drop sent bytes) k fault ∷ []) []) not_less
one_failed true bytes sent k fault all some =
    let few = some refl in
    let less : nat_lt k (length (drop sent bytes)) ≡ true = grind (arith, nat_tests, few) in
    (write_try (drop sent bytes) k fault, ap (λ b. cond b (write_try (drop sent bytes) k fault ∷ []) []) less, drop-drop k sent bytes)

-- a line within what was written
pub whole_more : {W : Type 0} (contents : W → Option (List ℕ)) (tries : W → List ℕ → ℕ → Option ErrorKind → W → Type 0) (old new : W) (lengths bytes : List ℕ) (i end sent taken lost n : ℕ) (given_up : Bool) (kind : Option ErrorKind)
    → i < length lengths → n ≡ get_or lengths i 0 → end + n ≤ sent → At contents tries old new lengths bytes i end sent taken lost given_up kind
    → At contents tries old new lengths bytes (i + 1) (end + n) sent (taken + 1) lost given_up kind
whole_more contents tries old new lengths bytes i end sent taken lost n given_up kind lt e within at =
    let next = next_place lengths i n lt e in
    let rest = drop end bytes in
    let p = part (take n rest) n in
    let short = length-take n rest in
    let whole : is_whole p ≡ true = grind (arith, nat_tests, short) in
    let all_of : written_of p ≡ take n rest = take-take n n rest (omega arith) in
    let size : sent - end ≡ n + (sent - (end + n)) = omega (arith, within) in
    let split : take (sent - end) rest ≡ take n rest ++ take (sent - (end + n)) (drop (end + n) bytes) =
    ap (λ m. take m rest) size ∙ take-add n (sent - (end + n)) rest ∙ ap (λ t. take n rest ++ take (sent - (end + n)) t) (drop-drop n end bytes) in
    let same : flat_map written_of at.parts ++ take (sent - end) rest ≡ flat_map written_of (at.parts ++ p ∷ []) ++ take (sent - (end + n)) (drop (end + n) bytes) =
    ap (λ t. flat_map written_of at.parts ++ t) split
    ∙ sym (append_assoc (flat_map written_of at.parts) (take n rest) (take (sent - (end + n)) (drop (end + n) bytes)))
    ∙ ap (λ t. (flat_map written_of at.parts ++ t) ++ take (sent - (end + n)) (drop (end + n) bytes)) (sym all_of)
    ∙ ap (λ t. t ++ take (sent - (end + n)) (drop (end + n) bytes)) (sym (pieces_more at.parts p)) in
    record {
      parts = at.parts ++ p ∷ [];
      order = ap (λ t. t ++ lines_of_lengths (drop (i + 1) lengths) (drop (end + n) bytes)) (map-append line_of at.parts (p ∷ []))
          ∙ order_more (map line_of at.parts) lengths bytes i end n next ∙ at.order;
      total = total_more lengths bytes i end n next at.total;
      past = within;
      within = at.within;
      written = rw same at at.written;
      taken_is = ap (λ t. t + 1) at.taken_is ∙ sym (sum_by_push (λ x. cond (is_whole x) 1 0) at.parts p ∙ ap (λ b. count_by is_whole at.parts + cond b 1 0) whole);
      lost_is = at.lost_is ∙ sym (sum_by_push (λ x. cond (is_cut x) 1 0) at.parts p ∙ ap (λ b. count_by is_cut at.parts + cond (not b) 1 0) whole ∙ omega arith);
      asked = at.asked;
      last = at.last;
      were_asked = at.were_asked;
      failed_within = subst (λ t. FailWithin (filter is_failed at.asked) t) (sym (no_cut_more at.parts p whole)) at.failed_within;
      last_failed = at.last_failed;
      kind_is = at.kind_is;
    }

-- a line that was cut, and is left
pub cut_more : {W : Type 0} (contents : W → Option (List ℕ)) (tries : W → List ℕ → ℕ → Option ErrorKind → W → Type 0) (old new : W) (lengths bytes : List ℕ) (i end sent taken lost n : ℕ) (kind : Option ErrorKind)
    → i < length lengths → n ≡ get_or lengths i 0 → sent < end + n → At contents tries old new lengths bytes i end sent taken lost true kind
    → At contents tries old new lengths bytes (i + 1) (end + n) (end + n) taken (lost + 1) false kind
cut_more contents tries old new lengths bytes i end sent taken lost n kind lt e within at =
    let next = next_place lengths i n lt e in
    let rest = drop end bytes in
    let p = part (take n rest) (sent - end) in
    let total = total_more lengths bytes i end n next at.total in
    let size : length (take n rest) ≡ n = length-take n rest ∙ omega (arith, total, length-drop end bytes) in
    let past = at.past in
    let cut : is_whole p ≡ false = grind (arith, nat_tests, size, past, within) in
    let part_of : written_of p ≡ take (sent - end) rest = take-take (sent - end) n rest (omega (arith, within)) in
    let zero_left : (end + n) - (end + n) ≡ 0 = omega arith in
    let none : take ((end + n) - (end + n)) (drop (end + n) bytes) ≡ [] = ap (λ m. take m (drop (end + n) bytes)) zero_left in
    let same : flat_map written_of at.parts ++ take (sent - end) rest ≡ flat_map written_of (at.parts ++ p ∷ []) ++ take ((end + n) - (end + n)) (drop (end + n) bytes) =
    ap (λ t. flat_map written_of at.parts ++ t) (sym part_of)
    ∙ sym (pieces_more at.parts p)
    ∙ sym (append-nil (flat_map written_of (at.parts ++ p ∷ [])))
    ∙ ap (λ t. flat_map written_of (at.parts ++ p ∷ []) ++ t) (sym none) in
    let failed = at.last_failed in
    let failed_more : filter is_failed (at.asked ++ at.last) ≡ filter is_failed at.asked ++ failed.0 ∷ [] =
    filter-append is_failed at.asked at.last ∙ ap (λ t. filter is_failed at.asked ++ t) failed.1 in
    let to_sent : end + (sent - end) ≡ sent = omega (arith, past) in
    let left : FailsWithin failed.0 p = (drop n rest, failed.2 ∙ ap (λ m. drop m bytes) (sym to_sent) ∙ sym (drop-drop (sent - end) end bytes) ∙ drop_split (sent - end) n rest (omega (arith, within)) (omega (arith, total, length-drop end bytes))) in
    record {
      parts = at.parts ++ p ∷ [];
      order = ap (λ t. t ++ lines_of_lengths (drop (i + 1) lengths) (drop (end + n) bytes)) (map-append line_of at.parts (p ∷ []))
          ∙ order_more (map line_of at.parts) lengths bytes i end n next ∙ at.order;
      total = total;
      past = omega arith;
      within = omega (arith, total);
      written = rw same at at.written;
      taken_is = at.taken_is ∙ sym (sum_by_push (λ x. cond (is_whole x) 1 0) at.parts p ∙ ap (λ b. count_by is_whole at.parts + cond b 1 0) cut ∙ omega arith);
      lost_is = ap (λ t. t + 1) at.lost_is ∙ sym (sum_by_push (λ x. cond (is_cut x) 1 0) at.parts p ∙ ap (λ b. count_by is_cut at.parts + cond (not b) 1 0) cut);
      asked = at.asked ++ at.last;
      last = [];
      were_asked = subst (λ t. TriesWrites tries old t new) (sym (append-nil (at.asked ++ at.last))) at.were_asked;
      failed_within = subst (λ t. FailWithin t (filter is_cut (at.parts ++ p ∷ []))) (sym failed_more)
          (subst (λ t. FailWithin (filter is_failed at.asked ++ failed.0 ∷ []) t) (sym (cut_push at.parts p cut))
          (fail_join (filter is_failed at.asked) (failed.0 ∷ []) (filter is_cut at.parts) (p ∷ []) at.failed_within (left, tt)));
      last_failed = refl;
      kind_is = at.kind_is ∙ ap first_fault (sym (append-nil (at.asked ++ at.last)));
    }

-- k more bytes were written
pub sent_more : {W : Type 0} (contents : W → Option (List ℕ)) (tries : W → List ℕ → ℕ → Option ErrorKind → W → Type 0) (old mid new : W) (lengths bytes : List ℕ) (i end sent taken lost k : ℕ) (failed : Bool) (fault before after : Option ErrorKind)
    → k ≤ length (drop sent bytes) → (failed ≡ false → k ≡ length (drop sent bytes)) → (failed ≡ true → k < length (drop sent bytes))
    → Appends (contents mid) (contents new) (take k (drop sent bytes)) → tries mid (drop sent bytes) k fault new → after ≡ option_or before (option_map reported_kind fault)
    → At contents tries old mid lengths bytes i end sent taken lost false before → At contents tries old new lengths bytes i end (sent + k) taken lost failed after
sent_more contents tries old mid new lengths bytes i end sent taken lost k failed fault before after few all some h asks first at =
    let rest = drop end bytes in
    let past = at.past in
    let within = at.within in
    let place : end + (sent - end) ≡ sent = omega (arith, past) in
    let after : drop sent bytes ≡ drop (sent - end) rest = sym (drop-drop (sent - end) end bytes ∙ ap (λ m. drop m bytes) place) in
    let size : (sent + k) - end ≡ (sent - end) + k = omega (arith, past) in
    let grown : take ((sent + k) - end) rest ≡ take (sent - end) rest ++ take k (drop sent bytes) =
    ap (λ m. take m rest) size ∙ take-add (sent - end) k rest ∙ ap (λ t. take (sent - end) rest ++ take k t) (sym after) in
    let same : (flat_map written_of at.parts ++ take (sent - end) rest) ++ take k (drop sent bytes) ≡ flat_map written_of at.parts ++ take ((sent + k) - end) rest =
    append_assoc (flat_map written_of at.parts) (take (sent - end) rest) (take k (drop sent bytes)) ∙ ap (λ t. flat_map written_of at.parts ++ t) (sym grown) in
    let none_more : filter is_failed (at.asked ++ at.last) ≡ filter is_failed at.asked =
    filter-append is_failed at.asked at.last ∙ ap (λ t. filter is_failed at.asked ++ t) at.last_failed ∙ append-nil (filter is_failed at.asked) in
    record {
      parts = at.parts;
      order = at.order;
      total = at.total;
      past = omega (arith, past);
      within = omega (arith, few, within, length-drop sent bytes);
      written = rw same at (Appends-trans (contents old) (contents mid) (contents new) _ _ at.written h);
      taken_is = at.taken_is;
      lost_is = at.lost_is;
      asked = at.asked ++ at.last;
      last = write_try (drop sent bytes) k fault ∷ [];
      were_asked = asked_join tries old (at.asked ++ at.last) (write_try (drop sent bytes) k fault ∷ []) mid new at.were_asked (asked_one tries mid (drop sent bytes) k fault new asks);
      failed_within = subst (λ t. FailWithin t (filter is_cut at.parts)) (sym none_more) at.failed_within;
      last_failed = one_failed failed bytes sent k fault all some;
      kind_is = first ∙ ap (λ o. option_or o (option_map reported_kind fault)) at.kind_is ∙ sym (first_push (at.asked ++ at.last) (drop sent bytes) k fault);
    }

-- the lines up to `sent`, before it is known whether the next one is whole, which ends n bytes on; whether the line at `sent` was
-- given up, whether there was a fault, and the kind that is reported for the first one
pub record Sent {W : Type 0} (contents : W → Option (List ℕ)) (tries : W → List ℕ → ℕ → Option ErrorKind → W → Type 0) (old new : W) (lengths bytes : List ℕ) (i end sent taken lost n : ℕ) (given_up fault : Bool) (kind : Option ErrorKind) : Type 0 where
  pub at : At contents tries old new lengths bytes i end sent taken lost given_up kind
  pub behind : given_up ≡ true → sent < length bytes
  pub told : fault ≡ (given_up || nat_lt 0 lost)
  pub why : sent < end + n → given_up ≡ true

no_line_left : (lengths bytes : List ℕ) (i end n : ℕ) → i < length lengths → n ≡ get_or lengths i 0 → end + sum (drop i lengths) ≡ length bytes → end + n ≤ length bytes
no_line_left lengths bytes i end n lt e total = omega (arith, total_more lengths bytes i end n (next_place lengths i n lt e) total)

-- after a write of all that was left, of which k bytes were taken
pub sent_by_write : {W : Type 0} (contents : W → Option (List ℕ)) (tries : W → List ℕ → ℕ → Option ErrorKind → W → Type 0) (old mid new : W) (lengths bytes : List ℕ) (i end sent taken lost n k : ℕ) (given_up failed first fault : Bool) (kind before after : Option ErrorKind)
    → i < length lengths → n ≡ get_or lengths i 0 → At contents tries old mid lengths bytes i end sent taken lost given_up before → given_up ≡ false → first ≡ (given_up || nat_lt 0 lost)
    → fault ≡ (failed || first) → k ≤ length (take (length bytes - sent) (drop sent bytes)) → (failed ≡ false → k ≡ length (take (length bytes - sent) (drop sent bytes)))
    → (failed ≡ true → k < length (take (length bytes - sent) (drop sent bytes))) → Appends (contents mid) (contents new) (take k (take (length bytes - sent) (drop sent bytes)))
    → tries mid (take (length bytes - sent) (drop sent bytes)) k kind new → after ≡ option_or before (option_map reported_kind kind)
    → Sent contents tries old new lengths bytes i end (sent + k) taken lost n failed fault after
sent_by_write contents tries old mid new lengths bytes i end sent taken lost n k given_up failed first fault kind before after lt e at not_given told first_is bound all some bytes_are asks kind_is =
    let rest = take_rest bytes sent in
    let size = length-drop sent bytes in
    let few : k ≤ length (drop sent bytes) = rw rest at bound in
    let within = at.within in
    let none : first ≡ nat_lt 0 lost = told ∙ ap (λ b. b || nat_lt 0 lost) not_given in
    let at_before : At contents tries old mid lengths bytes i end sent taken lost false before =
    subst (λ b. At contents tries old mid lengths bytes i end sent taken lost b before) not_given at in
    record {
      at = sent_more contents tries old mid new lengths bytes i end sent taken lost k failed kind before after few (λ is. rw rest at (all is)) (λ is. rw rest at (some is)) (rw rest at bytes_are)
          (subst (λ t. tries mid t k kind new) rest asks) kind_is at_before;
      behind = λ is. let less : k < length (drop sent bytes) = rw rest at (some is) in omega (arith, less, size);
      told = first_is ∙ ap (λ b. failed || b) none;
      why = λ short. given_by failed (λ not.
          let same : k ≡ length (drop sent bytes) = rw rest at (all not) in
          let ends = no_line_left lengths bytes i end n lt e at.total in
          omega (arith, short, same, size, within, ends));
    }
  where
    given_by : (b : Bool) → (b ≡ false → ⊥) → b ≡ true
    given_by true f = refl
    given_by false f = absurd (f refl)

-- before the first line
pub at_start : {W : Type 0} (contents : W → Option (List ℕ)) (tries : W → List ℕ → ℕ → Option ErrorKind → W → Type 0) (old : W) (lengths bytes : List ℕ) → sum lengths ≡ length bytes
    → At contents tries old old lengths bytes 0 0 0 0 0 false None
at_start contents tries old lengths bytes total = record {
  parts = [];
  order = refl;
  total = omega (arith, total);
  past = omega arith;
  within = omega arith;
  written = Appends-nil (contents old);
  taken_is = refl;
  lost_is = refl;
  asked = [];
  last = [];
  were_asked = refl;
  failed_within = tt;
  last_failed = refl;
  kind_is = refl;
}

-- after the last line
pub at_end : {W : Type 0} (contents : W → Option (List ℕ)) (tries : W → List ℕ → ℕ → Option ErrorKind → W → Type 0) (old new : W) (lengths bytes : List ℕ) (i end sent taken lost : ℕ) (given_up : Bool) (kind : Option ErrorKind)
    → length lengths ≤ i → (given_up ≡ true → sent < length bytes) → (at : At contents tries old new lengths bytes i end sent taken lost given_up kind)
    → (sent ≡ length bytes) × (lines_of_lengths lengths bytes ≡ map line_of at.parts) × Appends (contents old) (contents new) (flat_map written_of at.parts)
    × FailWithin (filter is_failed (at.asked ++ at.last)) (filter is_cut at.parts)
at_end contents tries old new lengths bytes i end sent taken lost given_up kind past not_there at =
    let none = drop_all i lengths past in
    let total : end ≡ length bytes = omega (arith, (rw none at at.total)) in
    let whole : sent ≡ length bytes = omega (arith, total, at.past, at.within) in
    let order : map line_of at.parts ++ [] ≡ lines_of_lengths lengths bytes = rw none at at.order in
    let size : sent - end ≡ 0 = omega (arith, total, whole) in
    let written : Appends (contents old) (contents new) (flat_map written_of at.parts ++ []) = rw size at at.written in
    let not_given : given_up ≡ false = refused given_up (λ is. let less = not_there is in omega (arith, less, whole)) in
    let none_failed : filter is_failed at.last ≡ [] = subst (λ b. Failed b (drop sent bytes) at.last) not_given at.last_failed in
    let none_more : filter is_failed (at.asked ++ at.last) ≡ filter is_failed at.asked =
    filter-append is_failed at.asked at.last ∙ ap (λ t. filter is_failed at.asked ++ t) none_failed ∙ append-nil (filter is_failed at.asked) in
    (whole, sym order ∙ append-nil (map line_of at.parts), rw append-nil at written, subst (λ t. FailWithin t (filter is_cut at.parts)) (sym none_more) at.failed_within)
  where
    refused : (b : Bool) → (b ≡ true → ⊥) → b ≡ false
    refused true f = absurd (f refl)
    refused false f = refl

-- a gathered line is the last one
pub lines_in_push : (lengths bytes line : List ℕ) → sum lengths ≡ length bytes → lines_of_lengths (lengths ++ length line ∷ []) (bytes ++ line) ≡ lines_of_lengths lengths bytes ++ line ∷ []
lines_in_push [] bytes line h =
    let none : bytes ≡ [] = nil_from_length bytes (sym h) in
    rw none (ap (λ t. t ∷ []) (take_all (length line) line (omega arith)))
lines_in_push (n ∷ lengths) bytes line h =
    let s = sum_by-cons (λ x. x) n lengths in
    let within : n ≤ length bytes = omega (arith, s, h) in
    let rest : sum lengths ≡ length (drop n bytes) = omega (arith, s, h, length-drop n bytes) in
    ap (λ t. t ∷ lines_of_lengths (lengths ++ length line ∷ []) (drop n (bytes ++ line))) (take-append-le n bytes line within)
    ∙ ap (λ t. take n bytes ∷ lines_of_lengths (lengths ++ length line ∷ []) t) (drop-append-le n bytes line within)
    ∙ ap (λ t. take n bytes ∷ t) (lines_in_push lengths (drop n bytes) line rest)

-- one more length
pub sum_push : (lengths : List ℕ) (n : ℕ) → sum (lengths ++ n ∷ []) ≡ sum lengths + n
sum_push lengths n = sum_by_push (λ x. x) lengths n

-- how long the lines are together
pub length_in_lines : (lengths bytes : List ℕ) → sum lengths ≡ length bytes → sum_by length (lines_of_lengths lengths bytes) ≡ length bytes
length_in_lines [] bytes h = h
length_in_lines (n ∷ lengths) bytes h =
    let s = sum_by-cons (λ x. x) n lengths in
    let within : n ≤ length bytes = omega (arith, s, h) in
    let rest : sum lengths ≡ length (drop n bytes) = omega (arith, s, h, length-drop n bytes) in
    omega (arith, sum_by-cons length (take n bytes) (lines_of_lengths lengths (drop n bytes)), length-take n bytes, length_in_lines lengths (drop n bytes) rest, length-drop n bytes, within)

-- how many lines there are
pub number_of_lines : (lengths bytes : List ℕ) → length (lines_of_lengths lengths bytes) ≡ length lengths
number_of_lines [] bytes = refl
number_of_lines (n ∷ lengths) bytes = ap suc (number_of_lines lengths (drop n bytes))

-- a count that grows at once
pub more_is : (n k : ℕ) → n < 2 ^ 64 → min (n + k) (2 ^ 64 - 1) ≡ saturating_sum n k
more_is n zero small = omega (arith, small)
more_is n (suc k) small = omega (arith, more_is n k small, small)

-- .. and in two steps
pub more_more : (n j k : ℕ) → saturating_sum (saturating_sum n j) k ≡ saturating_sum n (j + k)
more_more n j zero = ap (λ m. saturating_sum n m) (sym (add-zero j))
more_more n j (suc k) = ap saturating_next (more_more n j k) ∙ ap (λ m. saturating_sum n m) (sym (add-suc j k))
