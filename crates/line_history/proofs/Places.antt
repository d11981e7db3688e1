-- Histories by their places: one line more, new ones, and all of them in another order.
use Rattle.std.proofs.Common.{⊎_elim, ◌≡◌, ◌∙◌, ◌≢◌, ℕ, zero, suc, ◌+◌, ◌<◌, ◌≤◌, ◌++◌, ◌∷◌, [], List, Bool, true, false, ◌==◌, eqb, cond, map, length, filter, slice_index_or, slice_set, take, refl, ap, sym, subst, arith, append-nil}
use Rattle.std.specs.List.{list_any, position_or_len, range_with_len}
use Rattle.std.proofs.lemmas.Bool.{cases_Bool, cases_lt}
use Rattle.std.proofs.lemmas.Bool.Decides.{nat_tests}
use Rattle.std.proofs.lemmas.List.{map-append, get_or-map, get_or-set_same, get_or-set_other, get_or-take, length-append, length-map, nil_from_length, same_from_push, set-get_or, take_more}
use Rattle.std.proofs.lemmas.List.Elements.{filter-append}
use Rattle.std.proofs.lemmas.List.FromFn.{length-range_with_len, get_or-range_with_len}
use Rattle.std.proofs.lemmas.List.Sums.{fails_before_first, passes_at_first, position_or_len_is}
use Rattle.std.proofs.lemmas.Map.Keys.{IsDistinct-from_apart}
use Rattle.std.proofs.lemmas.Map.Steps.{length-le_from_distinct_below}
use Rattle.line_history.specs.Lines.{AreNew}
use Rattle.line_history.specs.Interleaving.{PlacedLine, IsInterleaving, lines_of, lines_from}
use Rattle.line_history.proofs.Counts.{has_place, others, past_all}

-- of histories with the places 0, 1, 2, .. there are as many as places
pub how_many : {T : Type 0} (place : T → ℕ) (xs : List T) (n : ℕ) → map place xs ≡ range_with_len 0 n → length xs ≡ n
how_many place xs n places = sym (length-map xs place) ∙ ap (λ (ps : List ℕ). length ps) places ∙ length-range_with_len 0 n

-- and the one at a place has that place
pub at_place : {T : Type 0} (place : T → ℕ) (xs : List T) (n i : ℕ) (d : T) → map place xs ≡ range_with_len 0 n → i < n → place (slice_index_or xs i d) ≡ i
at_place place xs n i d places within =
    sym (get_or-map place xs i d 0 (omega (arith, how_many place xs n places, within))) ∙ ap (λ (ps : List ℕ). slice_index_or ps i 0) places ∙ get_or-range_with_len 0 n i 0 within ∙ omega arith

-- the lines of a place after one line more, sent from this place or from another one
by_place : (b : Bool) (es : List PlacedLine) (place p : ℕ) (line : List ℕ) (sent : List (List (List ℕ))) → (place == p) ≡ b → place < length sent
    → lines_from p es ≡ slice_index_or sent p []
    → lines_of (filter (λ e. e.place == p) es ++ cond b (record { place = place; line = line } ∷ []) []) ≡ slice_index_or (slice_set sent place (slice_index_or sent place [] ++ line ∷ [])) p []
by_place true es place p line sent is within each =
    let same : place ≡ p = grind (arith, nat_tests, is) in
    map-append (λ (e : PlacedLine). e.line) (filter (λ e. e.place == p) es) (record { place = place; line = line } ∷ [])
    ∙ ap (λ ls. ls ++ line ∷ []) (each ∙ ap (λ k. slice_index_or sent k []) (sym same))
    ∙ sym (get_or-set_same sent place (slice_index_or sent place [] ++ line ∷ []) [] within)
    ∙ ap (λ k. slice_index_or (slice_set sent place (slice_index_or sent place [] ++ line ∷ [])) k []) same
by_place false es place p line sent is within each =
    let other : p ≢ place = λ same. grind (arith, nat_tests, is, same) in
    ap lines_of (append-nil (filter (λ (e : PlacedLine). e.place == p) es)) ∙ each ∙ sym (get_or-set_other sent place p (slice_index_or sent place [] ++ line ∷ []) [] other)

-- one line more, from a place
pub one_more : (sent : List (List (List ℕ))) (lines : List (List ℕ)) (place : ℕ) (line : List ℕ) → place < length sent → IsInterleaving sent lines
    → IsInterleaving (slice_set sent place (slice_index_or sent place [] ++ line ∷ [])) (lines ++ line ∷ [])
one_more sent lines place line within whole =
    let e : PlacedLine = record { place = place; line = line } in
    record {
      entries = whole.entries ++ e ∷ [];
      all = map-append (λ (e : PlacedLine). e.line) whole.entries (e ∷ []) ∙ ap (λ ls. ls ++ line ∷ []) whole.all;
      each = λ p. ap lines_of (filter-append (λ (e : PlacedLine). e.place == p) whole.entries (e ∷ [])) ∙ by_place (place == p) whole.entries place p line sent refl within (whole.each p);
    }

module _ {T : Type 0} (place : T → ℕ) (lines : T → List (List ℕ)) where
  -- their places
  pub places_new : (xs : List T) (n : ℕ) → AreNew place lines n xs → map place xs ≡ range_with_len n (length xs)
  places_new [] n new = refl
  places_new (x ∷ xs) n new = ap (λ (k : ℕ). k ∷ map place xs) new.0.0 ∙ ap (λ (ps : List ℕ). n ∷ ps) (places_new xs (n + 1) new.1)

  no_lines : (xs : List T) (n p : ℕ) → AreNew place lines n xs → [] ≡ slice_index_or (map lines xs) p []
  no_lines [] n p new = refl
  no_lines (x ∷ xs) n zero new = sym new.0.1
  no_lines (x ∷ xs) n (suc p) new = no_lines xs (n + 1) p new.1

  -- nothing was sent yet
  pub nothing_sent : (xs : List T) (n : ℕ) → AreNew place lines n xs → IsInterleaving (map lines xs) []
  nothing_sent xs n new = record { entries = []; all = refl; each = λ p. no_lines xs n p new }

-- a place that is set to what it has
pub same_set : (sent : List (List (List ℕ))) (place : ℕ) → slice_set sent place (slice_index_or sent place [] ++ []) ≡ sent
same_set sent place = ap (λ ls. slice_set sent place ls) (append-nil (slice_index_or sent place [])) ∙ set-get_or sent place []

-- entries that were moved to other places
abbrev moved : (ℕ → ℕ) → List PlacedLine → List PlacedLine
moved f es = map (λ e. record { place = f e.place; line = e.line }) es

moved_lines : (f : ℕ → ℕ) (es : List PlacedLine) → lines_of (moved f es) ≡ lines_of es
moved_lines f [] = refl
moved_lines f (e ∷ es) = ap (λ ls. e.line ∷ ls) (moved_lines f es)

front_moved : (b c : Bool) (line : List ℕ) (p q : ℕ) (xs ys : List PlacedLine) → b ≡ c → lines_of xs ≡ lines_of ys
    → lines_of (cond b (record { place = p; line = line } ∷ xs) xs) ≡ lines_of (cond c (record { place = q; line = line } ∷ ys) ys)
front_moved true true line p q xs ys is same = ap (λ ls. line ∷ ls) same
front_moved false false line p q xs ys is same = same
front_moved true false line p q xs ys is same = cc
front_moved false true line p q xs ys is same = cc

-- what was moved to a place from one other place
moved_from : (f : ℕ → ℕ) (k p : ℕ) → ((q : ℕ) → (f q == k) ≡ (q == p)) → (es : List PlacedLine) → lines_from k (moved f es) ≡ lines_from p es
moved_from f k p same [] = refl
moved_from f k p same (e ∷ es) =
    front_moved (f e.place == k) (e.place == p) e.line (f e.place) e.place (filter (λ d. d.place == k) (moved f es)) (filter (λ d. d.place == p) es) (same e.place) (moved_from f k p same es)

front_none : (b : Bool) (e : PlacedLine) (xs : List PlacedLine) → b ≡ false → lines_of xs ≡ [] → lines_of (cond b (e ∷ xs) xs) ≡ []
front_none true e xs is none = cc
front_none false e xs is none = none

-- nothing was moved to a place
moved_nowhere : (f : ℕ → ℕ) (k n : ℕ) → ((q : ℕ) → q < n → (f q == k) ≡ false) → (es : List PlacedLine) → ((p : ℕ) → n ≤ p → length (lines_from p es) ≡ 0) → lines_from k (moved f es) ≡ []
moved_nowhere f k n other [] none = refl
moved_nowhere f k n other (e ∷ es) none =
    let at : e.place < n = grind (arith, has_place n e es none) in
    front_none (f e.place == k) (record { place = f e.place; line = e.line }) (filter (λ d. d.place == k) (moved f es)) (other e.place at) (moved_nowhere f k n other es (others n e es none))

-- the first of these places that is this one
abbrev index_of : List ℕ → ℕ → ℕ
index_of ps q = position_or_len (λ p. p == q) ps

-- all of these numbers are below n
below_all : (xs : List ℕ) (n : ℕ) → ((i : ℕ) → i < length xs → slice_index_or xs i 0 < n) → (q : ℕ) → list_any (eqb q) xs ≡ true → q < n
below_all [] n below q has = cc
below_all (x ∷ xs) n below q has =
    ⊎_elim (λ t. let same : q ≡ x = grind (arith, nat_tests, t) in omega (arith, same, below 0 (omega arith)))
    (λ f. below_all xs n (λ i h. below (suc i) (omega (arith, h))) q (rw f at has))
    (cases_Bool (eqb q x))

module _ (ps : List ℕ) (apart : (i j d : ℕ) → i < j → j < length ps → slice_index_or ps i d ≢ slice_index_or ps j d) where
  index_at : (q i : ℕ) → i < length ps → slice_index_or ps i 0 ≡ q → index_of ps q ≡ i
  index_at q i within is =
      position_or_len_is (λ p. p == q) ps i 0 (omega (arith, within))
      (λ k less. let other = apart k i 0 less within in grind (arith, nat_tests, other, is))
      (λ h. grind (arith, nat_tests, is))

  at_index : (q : ℕ) → index_of ps q < length ps → slice_index_or ps (index_of ps q) 0 ≡ q
  at_index q within = let passes = passes_at_first (λ p. p == q) ps 0 within in grind (arith, nat_tests, passes)

  by_index : (b : Bool) (k q : ℕ) → k < length ps → (q == slice_index_or ps k 0) ≡ b → (index_of ps q == k) ≡ b
  by_index true k q within is =
      let same : slice_index_or ps k 0 ≡ q = grind (arith, nat_tests, is) in
      let at : index_of ps q ≡ k = index_at q k within same in grind (arith, nat_tests, at)
  by_index false k q within is =
      let other : index_of ps q ≢ k = λ at. let same : slice_index_or ps k 0 ≡ q = ap (λ i. slice_index_or ps i 0) (sym at) ∙ at_index q (omega (arith, at, within)) in grind (arith, nat_tests, is, same) in
      grind (arith, nat_tests, other)

  with_one : (q : ℕ) → ((k d : ℕ) → k < length ps → eqb q (slice_index_or ps k d) ≡ false) → (i j d : ℕ) → i < j → j < length (q ∷ ps) → eqb (slice_index_or (q ∷ ps) i d) (slice_index_or (q ∷ ps) j d) ≡ false
  with_one q none i zero d less within = absurd (omega (arith, less))
  with_one q none zero (suc j) d less within = none j d (omega (arith, within))
  with_one q none (suc i) (suc j) d less within = let other = apart i j d (omega (arith, less)) (omega (arith, within)) in grind (arith, nat_tests, other)

  all_below : (n q : ℕ) → q < n → ((i : ℕ) → i < length ps → slice_index_or ps i 0 < n) → (i : ℕ) → i < length (q ∷ ps) → slice_index_or (q ∷ ps) i 0 < n
  all_below n q lt below zero within = lt
  all_below n q lt below (suc i) within = below i (omega (arith, within))

  -- so many different numbers below a number are all of them
  has_index : (n q : ℕ) → length ps ≡ n → ((i : ℕ) → i < length ps → slice_index_or ps i 0 < n) → q < n → index_of ps q < length ps
  has_index n q many below lt =
      ⊎_elim (λ has. has)
      (λ none.
      let other : (k d : ℕ) → k < length ps → eqb q (slice_index_or ps k d) ≡ false =
      λ k d within. let fails = fails_before_first (λ p. p == q) ps k d (omega (arith, none, within)) in grind (arith, nat_tests, fails) in
      let few = length-le_from_distinct_below (q ∷ ps) n (IsDistinct-from_apart eqb (q ∷ ps) (with_one q other)) (below_all (q ∷ ps) n (all_below n q lt below)) in
      absurd (omega (arith, few, many)))
      (cases_lt (index_of ps q) (length ps))

  -- what was sent from so many different places is what was sent
  pub placed : (sent lines : List (List (List ℕ))) (all : List (List ℕ)) → length ps ≡ length sent → length lines ≡ length ps
      → ((i : ℕ) → i < length ps → slice_index_or ps i 0 < length sent)
      → ((i : ℕ) → i < length ps → slice_index_or lines i [] ≡ slice_index_or sent (slice_index_or ps i 0) [])
      → IsInterleaving sent all → IsInterleaving lines all
  placed sent lines all long as_long below same whole =
      let es = whole.entries in
      let f = index_of ps in
      let none : (p : ℕ) → length sent ≤ p → length (lines_from p es) ≡ 0 = λ p le. ap (λ (l : List (List ℕ)). length l) (whole.each p) ∙ past_all sent p le in
      record {
        entries = moved f es;
        all = moved_lines f es ∙ whole.all;
        each = λ k. ⊎_elim
            (λ within. moved_from f k (slice_index_or ps k 0) (λ q. by_index (q == slice_index_or ps k 0) k q within refl) es ∙ whole.each (slice_index_or ps k 0) ∙ sym (same k within))
            (λ out.
            let other : (q : ℕ) → q < length sent → (f q == k) ≡ false = λ q lt. let has = has_index (length sent) q long below lt in grind (arith, nat_tests, has, out) in
            moved_nowhere f k (length sent) other es none ∙ sym (nil_from_length (slice_index_or lines k []) (past_all lines k (omega (arith, out, as_long)))))
            (cases_lt k (length ps));
      }

some : {T : Type 0} (xs : List T) (i : ℕ) → i < length xs → T
some [] i within = absurd (omega (arith, within))
some (x ∷ xs) i within = x

module _ {T : Type 0} (place : T → ℕ) (lines : T → List (List ℕ)) (sent : List (List (List ℕ))) where
  -- from this index on, each has the lines of its place, and none before it has its place
  pub record ComparedFrom (all : List T) (k : ℕ) : Type 0 where
    pub at : (i : ℕ) (d : T) → k ≤ i → i < length all → place (slice_index_or all i d) < length sent
    pub same : (i : ℕ) (d : T) → k ≤ i → i < length all → lines (slice_index_or all i d) ≡ slice_index_or sent (place (slice_index_or all i d)) []
    pub apart : (i j : ℕ) (d : T) → i < j → k ≤ j → j < length all → place (slice_index_or all i d) ≢ place (slice_index_or all j d)

  pub none_compared : (all : List T) (k : ℕ) → length all ≤ k → ComparedFrom all k
  none_compared all k le = record {
    at = λ i d from within. absurd (omega (arith, le, from, within));
    same = λ i d from within. absurd (omega (arith, le, from, within));
    apart = λ i j d less from within. absurd (omega (arith, le, from, within));
  }

  -- the last one of these first ones was compared too
  pub one_compared : (all xs ys : List T) (x : T) → xs ≡ take (length xs) all → length xs ≤ length all → xs ≡ ys ++ x ∷ []
      → place x < length sent → lines x ≡ slice_index_or sent (place x) [] → ((i : ℕ) (d : T) → i < length ys → place x ≢ place (slice_index_or ys i d))
      → ComparedFrom all (length xs) → (ys ≡ take (length ys) all) × ComparedFrom all (length ys)
  one_compared all xs ys x is few popped below same apart later =
      let k = length ys in
      let more : length xs ≡ k + 1 = ap (λ (zs : List T). length zs) popped ∙ length-append ys (x ∷ []) in
      let both : (d : T) → (ys ≡ take k all) × (x ≡ slice_index_or all k d) =
      λ d. same_from_push ys (take k all) x (slice_index_or all k d) (sym popped ∙ is ∙ ap (λ n. take n all) more ∙ take_more all k d (omega (arith, few, more))) in (
        (both x).0,
        record {
          at = λ i d from within. ⊎_elim (λ lt. later.at i d (omega (arith, lt, more)) within)
              (λ le. let here : k ≡ i = omega (arith, from, le) in subst (λ j. place (slice_index_or all j d) < length sent) here (subst (λ z. place z < length sent) (both d).1 below)) (cases_lt k i);
          same = λ i d from within. ⊎_elim (λ lt. later.same i d (omega (arith, lt, more)) within)
              (λ le. let here : k ≡ i = omega (arith, from, le) in
              subst (λ j. lines (slice_index_or all j d) ≡ slice_index_or sent (place (slice_index_or all j d)) []) here (subst (λ z. lines z ≡ slice_index_or sent (place z) []) (both d).1 same)) (cases_lt k i);
          apart = λ i j d less from within. ⊎_elim (λ lt. later.apart i j d less (omega (arith, lt, more)) within)
              (λ le. λ e.
              let here : k ≡ j = omega (arith, from, le) in
              let before : i < k = omega (arith, less, here) in
              let was : slice_index_or ys i d ≡ slice_index_or all i d = ap (λ (zs : List T). slice_index_or zs i d) (both d).0 ∙ get_or-take k all i d before in
              apart i d before (ap place ((both d).1 ∙ ap (λ n. slice_index_or all n d) here) ∙ sym e ∙ ap place (sym was)))
              (cases_lt k j);
        },
      )

  -- so many that were compared are all of them
  pub all_compared : (xs : List T) (all : List (List ℕ)) → length xs ≡ length sent → ComparedFrom xs 0 → IsInterleaving sent all → IsInterleaving (map lines xs) all
  all_compared xs all long compared whole =
      let ps = map place xs in
      let many : length ps ≡ length xs = length-map xs place in
      let here : (i d : ℕ) → (within : i < length xs) → slice_index_or ps i d ≡ place (slice_index_or xs i (some xs i within)) = λ i d within. get_or-map place xs i (some xs i within) d within in
      let apart : (i j d : ℕ) → i < j → j < length ps → slice_index_or ps i d ≢ slice_index_or ps j d =
      λ i j d less within. λ e.
      let inside : j < length xs = omega (arith, within, many) in
      let x = some xs j inside in
      compared.apart i j x less (omega arith) inside (sym (get_or-map place xs i x d (omega (arith, less, inside))) ∙ e ∙ get_or-map place xs j x d inside) in
      placed ps apart sent (map lines xs) all (many ∙ long) (length-map xs lines ∙ sym many)
      (λ i within. let inside : i < length xs = omega (arith, within, many) in rw (here i 0 inside) (compared.at i (some xs i inside) (omega arith) inside))
      (λ i within.
      let inside : i < length xs = omega (arith, within, many) in
      let x = some xs i inside in
      get_or-map lines xs i x [] inside ∙ compared.same i x (omega arith) inside ∙ ap (λ p. slice_index_or sent p []) (sym (here i 0 inside)))
      whole
