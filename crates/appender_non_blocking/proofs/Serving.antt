-- What a worker took and wrote so far, step by step.
use Rattle.std.proofs.Common.{◌≡◌, ℕ, suc, ◌+◌, ◌-◌, ◌<◌, List, [], ◌∷◌, ◌++◌, Bool, true, false, ◌==◌, cond, length, take, drop, map, flat_map, count_by, Option, ap, sym, refl, ◌∙◌, subst, arith, append_assoc, append-nil, take-add, drop-drop, length-drop}
use Rattle.std.specs.Prelude.{if◌then◌else◌, nat_le, nat_lt, Result}
use Rattle.std.specs.List.{FoldsTo}
use Rattle.std.specs.Io.KnownBytes.{Appends, Keeps}
use Rattle.std.specs.declared.io.Error.{Error}
use Rattle.std.proofs.KnownBytes.{Appends-nil, Appends-trans, Appends-kept, Keeps-refl}
use Rattle.std.proofs.lemmas.Bool.Decides.{nat_tests}
use Rattle.std.proofs.lemmas.Fn.{FoldsTo-push}
use Rattle.std.proofs.lemmas.List.{map-append}
use Rattle.std.proofs.lemmas.List.Concat.{flat_map-append}
use Rattle.std.proofs.lemmas.List.Sums.{sum_by_push}
use Rattle.appender_channel.specs.TakeCases.{IfLine, IfEnd, IfEmpty}
use Rattle.appender_queue.specs.Queue.{saturating_next}
use Rattle.appender_queue.specs.declared.queue.Taken.{Taken}
use Rattle.appender_queue.specs.declared.queue.Taken.TheVariants.{Line, Shutdown, Gone, Empty}
use Rattle.appender_worker.specs.Batch.{saturating_sum}
use Rattle.appender_worker.specs.Core.{Core, Taking, Writing, Flushing, Ending, Over, Answer, Line as FoundLine, Wrote, Interrupted, Failed, is_taking, is_writing, is_flushing, after_took, after_wrote, after_flushed}
use Rattle.appender_worker.specs.CoreReplies.{found_in, answer_of}
use Rattle.appender_worker.specs.Parts.{Part, part, line_of, written_of, is_cut}
use Rattle.appender_worker.specs.Runs.{WritesOnce, taken_bytes, is_waiting}
use Rattle.appender_non_blocking.specs.Inside.Served.{Serves}

-- a worker may take until a take returns the end, and it has not taken after its last line; then it has counted the closing
abbrev pub PassAt : {Pass : Type 0} → (Pass → Type 0) → (Pass → Type 0) → (Pass → Pass → Type 0) → Core → Pass → Pass → Type 0
PassAt may has_ended closes (Taking waits) last pass = may pass × (last ≡ pass)
PassAt may has_ended closes (Writing rest repeats) last pass = may pass × (last ≡ pass)
PassAt may has_ended closes Flushing last pass = may pass × (last ≡ pass)
PassAt may has_ended closes (Ending n) last pass = has_ended pass × closes last pass
PassAt may has_ended closes Over last pass = has_ended pass × closes last pass

-- the line in hand, if there is one: the rest of it was not written yet
abbrev pub HandAt : Core → List Part → Type 0
HandAt (Writing rest repeats) (p ∷ []) = (drop p.written p.line ≡ rest) × (p.written < length p.line)
HandAt (Writing rest repeats) parts = ⊥
HandAt core [] = Unit {0}
HandAt core (p ∷ parts) = ⊥

no_hand : (core : Core) (hand : List Part) → is_writing core ≡ false → HandAt core hand → hand ≡ []
no_hand (Writing rest repeats) hand is h = cc
no_hand core [] is h = refl
no_hand (Taking waits) (p ∷ parts) is h = absurd h
no_hand Flushing (p ∷ parts) is h = absurd h
no_hand (Ending n) (p ∷ parts) is h = absurd h
no_hand Over (p ∷ parts) is h = absurd h

-- lines and bytes, after one more part
lines_push : (parts : List Part) (p : Part) → map line_of (parts ++ p ∷ []) ≡ map line_of parts ++ line_of p ∷ []
lines_push parts p = map-append line_of parts (p ∷ [])

bytes_push : (parts : List Part) (p : Part) → flat_map written_of (parts ++ p ∷ []) ≡ flat_map written_of parts ++ written_of p
bytes_push parts p = flat_map-append written_of parts (p ∷ []) ∙ ap (λ t. flat_map written_of parts ++ t) (append-nil (written_of p))

-- the count of lines given up, after a line
count_push : (parts : List Part) (p : Part) (cut : Bool) (n : ℕ) → is_cut p ≡ cut → n ≡ saturating_sum 0 (count_by is_cut parts)
    → (if cut then saturating_next n else n) ≡ saturating_sum 0 (count_by is_cut (parts ++ p ∷ []))
count_push parts p true n is e =
    let more : count_by is_cut (parts ++ p ∷ []) ≡ suc (count_by is_cut parts) =
    sum_by_push (λ x. cond (is_cut x) 1 0) parts p ∙ ap (λ b. count_by is_cut parts + cond b 1 0) is ∙ omega arith in
    ap saturating_next e ∙ sym (ap (saturating_sum 0) more)
count_push parts p false n is e =
    let same : count_by is_cut (parts ++ p ∷ []) ≡ count_by is_cut parts =
    sum_by_push (λ x. cond (is_cut x) 1 0) parts p ∙ ap (λ b. count_by is_cut parts + cond b 1 0) is ∙ omega arith in
    e ∙ sym (ap (saturating_sum 0) same)

is_cut_part : (p : Part) → p.written < length p.line → is_cut p ≡ true
is_cut_part p within = grind (arith, nat_tests, within)

-- nothing more was written
same_bytes : (start known grown : Option (List ℕ)) (bytes : List ℕ) → Appends start known bytes → Appends known grown [] → Appends start grown bytes
same_bytes start known grown bytes h none =
    subst (λ t. Appends start grown t) (append-nil bytes) (Appends-trans start known grown bytes [] h none)

module _ {Pass : Type 0} (takes : Pass → List ℕ → Pass → Type 0) (closes : Pass → Pass → Type 0) (may has_ended : Pass → Type 0) (first : Pass) (start : Option (List ℕ)) where
  -- the lines that were taken are those of these parts, the line in hand is the last one, and known bytes grew by what was written
  pub record Serving (pass : Pass) (now : Option (List ℕ)) (core : Core) (given_up : ℕ) : Type 0 where
    pub parts : List Part
    pub hand : List Part
    pub last : Pass
    pub taken : FoldsTo takes first (map line_of (parts ++ hand)) last
    pub at : PassAt may has_ended closes core last pass
    pub in_hand : HandAt core hand
    pub bytes : Appends start now (flat_map written_of (parts ++ hand))
    pub counted : given_up ≡ saturating_sum 0 (count_by is_cut parts)

  pub may_take_now : (pass : Pass) (now : Option (List ℕ)) (core : Core) (given_up : ℕ) → is_taking core ≡ true → Serving pass now core given_up → may pass
  may_take_now pass now (Taking waits) given_up is s = s.at.0
  may_take_now pass now (Writing rest repeats) given_up is s = cc
  may_take_now pass now Flushing given_up is s = cc
  may_take_now pass now (Ending n) given_up is s = cc
  may_take_now pass now Over given_up is s = cc

  pub serving_starts : may first → Serving first start (Taking true) 0
  serving_starts h = record { parts = []; hand = []; last = first; taken = refl; at = (h, refl); in_hand = tt; bytes = Appends-nil start; counted = refl }

  -- nothing was in hand, and these parts are all
  parts_only : (core : Core) (parts hand : List Part) → is_writing core ≡ false → HandAt core hand → parts ++ hand ≡ parts
  parts_only core parts hand is h = ap (λ t. parts ++ t) (no_hand core hand is h) ∙ append-nil parts

  -- no line was in hand, and none is
  moves : (old new : Core) (pass next : Pass) (known kept : Option (List ℕ)) (given_up : ℕ) → is_writing old ≡ false → HandAt new []
      → Keeps known kept → (s : Serving pass known old given_up) → PassAt may has_ended closes new s.last next → Serving next kept new given_up
  moves old new pass next known kept given_up is none keeps s at =
      let all = parts_only old s.parts s.hand is s.in_hand ∙ sym (append-nil s.parts) in
      record {
        parts = s.parts;
        hand = [];
        last = s.last;
        taken = subst (λ t. FoldsTo takes first (map line_of t) s.last) all s.taken;
        at = at;
        in_hand = none;
        bytes = Appends-kept start known kept _ (subst (λ t. Appends start known (flat_map written_of t)) all s.bytes) keeps;
        counted = s.counted;
      }

  -- a flush between two takes
  pub serving_kept : (pass : Pass) (known kept : Option (List ℕ)) (core : Core) (given_up : ℕ) → is_taking core ≡ true → Keeps known kept
      → Serving pass known core given_up → Serving pass kept core given_up
  serving_kept pass known kept (Taking waits) given_up is keeps s = moves (Taking waits) (Taking waits) pass pass known kept given_up refl tt keeps s s.at
  serving_kept pass known kept (Writing rest repeats) given_up is keeps s = cc
  serving_kept pass known kept Flushing given_up is keeps s = cc
  serving_kept pass known kept (Ending n) given_up is keeps s = cc
  serving_kept pass known kept Over given_up is keeps s = cc

  -- the last line is done with
  ends : (parts : List Part) (p : Part) (cut : Bool) (pass : Pass) (known : Option (List ℕ)) (given_up : ℕ) → may pass
      → FoldsTo takes first (map line_of (parts ++ p ∷ [])) pass → Appends start known (flat_map written_of (parts ++ p ∷ []))
      → given_up ≡ saturating_sum 0 (count_by is_cut parts) → is_cut p ≡ cut
      → Serving pass known (Taking cut) (if cut then saturating_next given_up else given_up)
  ends parts p cut pass known given_up h chain bytes counted is = record {
    parts = parts ++ p ∷ [];
    hand = [];
    last = pass;
    taken = subst (λ t. FoldsTo takes first (map line_of t) pass) (sym (append-nil (parts ++ p ∷ []))) chain;
    at = (h, refl);
    in_hand = tt;
    bytes = subst (λ t. Appends start known (flat_map written_of t)) (sym (append-nil (parts ++ p ∷ []))) bytes;
    counted = count_push parts p cut given_up is counted;
  }

  -- the last line is in hand
  goes_on : (parts : List Part) (p : Part) (rest : List ℕ) (repeats : ℕ) (pass : Pass) (known : Option (List ℕ)) (given_up : ℕ) → may pass
      → FoldsTo takes first (map line_of (parts ++ p ∷ [])) pass → Appends start known (flat_map written_of (parts ++ p ∷ []))
      → given_up ≡ saturating_sum 0 (count_by is_cut parts) → (drop p.written p.line ≡ rest) × (p.written < length p.line)
      → Serving pass known (Writing rest repeats) given_up
  goes_on parts p rest repeats pass known given_up h chain bytes counted is = record {
    parts = parts;
    hand = p ∷ [];
    last = pass;
    taken = chain;
    at = (h, refl);
    in_hand = is;
    bytes = bytes;
    counted = counted;
  }

  -- a line was taken, and nothing of it was written
  begins : (line : List ℕ) (parts : List Part) (waits : Bool) (pass : Pass) (known : Option (List ℕ)) (given_up : ℕ) → may pass
      → FoldsTo takes first (map line_of (parts ++ part line 0 ∷ [])) pass → Appends start known (flat_map written_of (parts ++ part line 0 ∷ []))
      → given_up ≡ saturating_sum 0 (count_by is_cut parts) → Serving pass known (after_took (Taking waits) (FoundLine line)) given_up
  begins [] parts waits pass known given_up h chain bytes counted = ends parts (part [] 0) false pass known given_up h chain bytes counted refl
  begins (byte ∷ line) parts waits pass known given_up h chain bytes counted =
      goes_on parts (part (byte ∷ line) 0) (byte ∷ line) 0 pass known given_up h chain bytes counted (refl, omega arith)

  takes_line : (waits : Bool) (pass next : Pass) (known : Option (List ℕ)) (given_up : ℕ) (line : List ℕ) → may next × takes pass line next
      → Serving pass known (Taking waits) given_up → Serving next known (after_took (Taking waits) (FoundLine line)) given_up
  takes_line waits pass next known given_up line h s =
      let p = part line 0 in
      let all : s.parts ++ s.hand ≡ s.parts = parts_only (Taking waits) s.parts s.hand refl s.in_hand in
      let here : FoldsTo takes first (map line_of s.parts) pass =
      subst (λ q. FoldsTo takes first (map line_of s.parts) q) s.at.1 (subst (λ t. FoldsTo takes first (map line_of t) s.last) all s.taken) in
      let chain : FoldsTo takes first (map line_of (s.parts ++ p ∷ [])) next =
      subst (λ t. FoldsTo takes first t next) (sym (lines_push s.parts p)) (FoldsTo-push takes first (map line_of s.parts) pass line next here h.1) in
      let same : flat_map written_of (s.parts ++ s.hand) ≡ flat_map written_of (s.parts ++ p ∷ []) =
      ap (flat_map written_of) all ∙ sym (bytes_push s.parts p ∙ append-nil (flat_map written_of s.parts)) in
      begins line s.parts waits next known given_up h.0 chain (subst (λ t. Appends start known t) same s.bytes) s.counted

  pub serving_took : (pass next : Pass) (known : Option (List ℕ)) (core : Core) (given_up : ℕ) (taken : Taken) → is_taking core ≡ true
      → IfLine taken (λ line. may next × takes pass line next) → IfEnd taken (has_ended next × closes pass next) → IfEmpty taken (may next × (next ≡ pass))
      → Serving pass known core given_up → Serving next known (after_took core (found_in taken)) given_up
  serving_took pass next known (Taking waits) given_up (Line ticket l) is p q r s = takes_line waits pass next known given_up l.items p s
  serving_took pass next known (Taking waits) given_up Shutdown is p q r s =
      moves (Taking waits) (Ending 2) pass next known known given_up refl tt (Keeps-refl known) s (q.0, subst (λ t. closes t next) (sym s.at.1) q.1)
  serving_took pass next known (Taking waits) given_up Gone is p q r s =
      moves (Taking waits) (Ending 2) pass next known known given_up refl tt (Keeps-refl known) s (q.0, subst (λ t. closes t next) (sym s.at.1) q.1)
  serving_took pass next known (Taking true) given_up Empty is p q r s =
      moves (Taking true) (Taking true) pass next known known given_up refl tt (Keeps-refl known) s (r.0, s.at.1 ∙ sym r.1)
  serving_took pass next known (Taking false) given_up Empty is p q r s =
      moves (Taking false) Flushing pass next known known given_up refl tt (Keeps-refl known) s (r.0, s.at.1 ∙ sym r.1)
  serving_took pass next known (Writing rest repeats) given_up taken is p q r s = cc
  serving_took pass next known Flushing given_up taken is p q r s = cc
  serving_took pass next known (Ending n) given_up taken is p q r s = cc
  serving_took pass next known Over given_up taken is p q r s = cc

  either : (two : Bool) (x y : Core) (pass : Pass) (known : Option (List ℕ)) (given_up : ℕ) → Serving pass known x given_up → Serving pass known y given_up
      → Serving pass known (if two then x else y) given_up
  either true x y pass known given_up p q = p
  either false x y pass known given_up p q = q

  pub serving_flushed : (pass : Pass) (known kept : Option (List ℕ)) (core : Core) (given_up : ℕ) → is_flushing core ≡ true → Keeps known kept
      → Serving pass known core given_up → Serving pass kept (after_flushed core) given_up
  serving_flushed pass known kept Flushing given_up is keeps s = moves Flushing (Taking true) pass pass known kept given_up refl tt keeps s s.at
  serving_flushed pass known kept (Ending n) given_up is keeps s =
      either (n == 2) (Ending 1) Over pass kept given_up (moves (Ending n) (Ending 1) pass pass known kept given_up refl tt keeps s s.at)
      (moves (Ending n) Over pass pass known kept given_up refl tt keeps s s.at)
  serving_flushed pass known kept (Taking waits) given_up is keeps s = cc
  serving_flushed pass known kept (Writing rest repeats) given_up is keeps s = cc
  serving_flushed pass known kept Over given_up is keeps s = cc

  -- after a write of n bytes, by whether n is 0 and whether it is the whole rest
  by_size : (none whole : Bool) (parts : List Part) (p : Part) (rest : List ℕ) (repeats : ℕ) (pass : Pass) (known : Option (List ℕ)) (given_up : ℕ) → may pass
      → FoldsTo takes first (map line_of (parts ++ p ∷ [])) pass → Appends start known (flat_map written_of (parts ++ p ∷ []))
      → given_up ≡ saturating_sum 0 (count_by is_cut parts) → (none ≡ true → is_cut p ≡ true) → (whole ≡ true → is_cut p ≡ false)
      → (whole ≡ false → (drop p.written p.line ≡ rest) × (p.written < length p.line))
      → Serving pass known (if none then Taking true else if whole then Taking false else Writing rest repeats)
      (if is_waiting (if none then Taking true else if whole then Taking false else Writing rest repeats) then saturating_next given_up else given_up)
  by_size true whole parts p rest repeats pass known given_up h chain bytes counted cut uncut more = ends parts p true pass known given_up h chain bytes counted (cut refl)
  by_size false true parts p rest repeats pass known given_up h chain bytes counted cut uncut more = ends parts p false pass known given_up h chain bytes counted (uncut refl)
  by_size false false parts p rest repeats pass known given_up h chain bytes counted cut uncut more =
      goes_on parts p rest repeats pass known given_up h chain bytes counted (more refl)

  -- after an interrupted write, by whether the line is tried again
  by_repeats : (again : Bool) (parts : List Part) (p : Part) (rest : List ℕ) (repeats : ℕ) (pass : Pass) (known : Option (List ℕ)) (given_up : ℕ) → may pass
      → FoldsTo takes first (map line_of (parts ++ p ∷ [])) pass → Appends start known (flat_map written_of (parts ++ p ∷ []))
      → given_up ≡ saturating_sum 0 (count_by is_cut parts) → is_cut p ≡ true → (drop p.written p.line ≡ rest) × (p.written < length p.line)
      → Serving pass known (if again then Writing rest repeats else Taking true)
      (if is_waiting (if again then Writing rest repeats else Taking true) then saturating_next given_up else given_up)
  by_repeats true parts p rest repeats pass known given_up h chain bytes counted cut more = goes_on parts p rest repeats pass known given_up h chain bytes counted more
  by_repeats false parts p rest repeats pass known given_up h chain bytes counted cut more = ends parts p true pass known given_up h chain bytes counted cut

  part_wrote : (answer : Answer) (parts : List Part) (p : Part) (rest : List ℕ) (repeats : ℕ) (pass : Pass) (known grown : Option (List ℕ)) (given_up : ℕ) → may pass
      → FoldsTo takes first (map line_of (parts ++ p ∷ [])) pass → Appends start known (flat_map written_of (parts ++ p ∷ []))
      → given_up ≡ saturating_sum 0 (count_by is_cut parts) → (drop p.written p.line ≡ rest) × (p.written < length p.line)
      → Appends known grown (taken_bytes (Writing rest repeats) answer)
      → Serving pass grown (after_wrote (Writing rest repeats) answer) (if is_waiting (after_wrote (Writing rest repeats) answer) then saturating_next given_up else given_up)
  part_wrote (Wrote n) parts p rest repeats pass known grown given_up h chain bytes counted in_hand more =
      let q = part p.line (p.written + n) in
      let within = in_hand.1 in
      let left : length rest ≡ length p.line - p.written = sym (ap length in_hand.0) ∙ length-drop p.written p.line in
      let more_chain : FoldsTo takes first (map line_of (parts ++ q ∷ [])) pass =
      subst (λ t. FoldsTo takes first t pass) (lines_push parts p ∙ sym (lines_push parts q)) chain in
      let piece : take p.written p.line ++ take n rest ≡ take (p.written + n) p.line =
      ap (λ t. take p.written p.line ++ take n t) (sym in_hand.0) ∙ sym (take-add p.written n p.line) in
      let same : flat_map written_of (parts ++ p ∷ []) ++ take n rest ≡ flat_map written_of (parts ++ q ∷ []) =
      ap (λ t. t ++ take n rest) (bytes_push parts p) ∙ append_assoc (flat_map written_of parts) (written_of p) (take n rest)
      ∙ ap (λ t. flat_map written_of parts ++ t) piece ∙ sym (bytes_push parts q) in
      let more_bytes : Appends start grown (flat_map written_of (parts ++ q ∷ [])) =
      subst (λ t. Appends start grown t) same (Appends-trans start known grown _ _ bytes more) in
      by_size (n == 0) (nat_le (length rest) n) parts q (drop n rest) repeats pass grown given_up h more_chain more_bytes counted
      (λ none. grind (arith, nat_tests, none, within)) (λ whole. grind (arith, nat_tests, whole, left, within))
      (λ short. (sym (drop-drop n p.written p.line) ∙ ap (λ t. drop n t) in_hand.0, grind (arith, nat_tests, short, left, within)))
  part_wrote Interrupted parts p rest repeats pass known grown given_up h chain bytes counted in_hand more =
      by_repeats (nat_lt repeats 100) parts p rest (repeats + 1) pass grown given_up h chain (same_bytes start known grown _ bytes more) counted (is_cut_part p in_hand.1) in_hand
  part_wrote Failed parts p rest repeats pass known grown given_up h chain bytes counted in_hand more =
      ends parts p true pass grown given_up h chain (same_bytes start known grown _ bytes more) counted (is_cut_part p in_hand.1)

  hand_wrote : (hand : List Part) (answer : Answer) (parts : List Part) (rest : List ℕ) (repeats : ℕ) (pass : Pass) (known grown : Option (List ℕ)) (given_up : ℕ) → may pass
      → FoldsTo takes first (map line_of (parts ++ hand)) pass → Appends start known (flat_map written_of (parts ++ hand))
      → given_up ≡ saturating_sum 0 (count_by is_cut parts) → HandAt (Writing rest repeats) hand → Appends known grown (taken_bytes (Writing rest repeats) answer)
      → Serving pass grown (after_wrote (Writing rest repeats) answer) (if is_waiting (after_wrote (Writing rest repeats) answer) then saturating_next given_up else given_up)
  hand_wrote [] answer parts rest repeats pass known grown given_up h chain bytes counted in_hand more = absurd in_hand
  hand_wrote (p ∷ []) answer parts rest repeats pass known grown given_up h chain bytes counted in_hand more =
      part_wrote answer parts p rest repeats pass known grown given_up h chain bytes counted in_hand more
  hand_wrote (p ∷ q ∷ hand) answer parts rest repeats pass known grown given_up h chain bytes counted in_hand more = absurd in_hand

  core_wrote : (core : Core) (answer : Answer) (pass : Pass) (known grown : Option (List ℕ)) (given_up : ℕ) → is_writing core ≡ true
      → Appends known grown (taken_bytes core answer) → Serving pass known core given_up
      → Serving pass grown (after_wrote core answer) (if is_waiting (after_wrote core answer) then saturating_next given_up else given_up)
  core_wrote (Writing rest repeats) answer pass known grown given_up is more s =
      hand_wrote s.hand answer s.parts rest repeats pass known grown given_up s.at.0
      (subst (λ q. FoldsTo takes first (map line_of (s.parts ++ s.hand)) q) s.at.1 s.taken) s.bytes s.counted s.in_hand more
  core_wrote (Taking waits) answer pass known grown given_up is more s = cc
  core_wrote Flushing answer pass known grown given_up is more s = cc
  core_wrote (Ending n) answer pass known grown given_up is more s = cc
  core_wrote Over answer pass known grown given_up is more s = cc

  pub serving_wrote : {W : Type 0} (contents : W → Option (List ℕ)) (writes : W → List ℕ → Result ℕ Error → W → Type 0) (before after : W) (old new : Core) (pass : Pass) (given_up counted : ℕ)
      → is_writing old ≡ true → WritesOnce contents writes before after old new → counted ≡ (if is_waiting new then saturating_next given_up else given_up)
      → Serving pass (contents before) old given_up → Serving pass (contents after) new counted
  serving_wrote contents writes before after old new pass given_up counted is w e s =
      let wrote = core_wrote old (answer_of w.answer) pass (contents before) (contents after) given_up is w.bytes s in
      subst (λ n. Serving pass (contents after) new n) (sym e)
      (subst (λ c. Serving pass (contents after) c (if is_waiting c then saturating_next given_up else given_up)) (sym w.next) wrote)

  pub serving_ends : {Done : Type 0} (returns : Pass → Done → Type 0) (pass : Pass) (done : Done) (known : Option (List ℕ)) (given_up : ℕ) → returns pass done
      → Serving pass known Over given_up → Serves takes closes has_ended returns first done start known given_up
  serving_ends returns pass done known given_up r s =
      let all : s.parts ++ s.hand ≡ s.parts = parts_only Over s.parts s.hand refl s.in_hand in
      record {
        lines = map line_of s.parts;
        last = s.last;
        ended = pass;
        taken = subst (λ t. FoldsTo takes first (map line_of t) s.last) all s.taken;
        closed = s.at.1;
        over = s.at.0;
        returned = r;
        written = record {
          parts = s.parts;
          order = refl;
          bytes = subst (λ t. Appends start known (flat_map written_of t)) all s.bytes;
          counted = s.counted;
        };
      }
