-- Elements of lists that are made of others.
use Rattle.std.proofs.Common.{◌≡◌, ◌∙◌, ℕ, ◌+◌, ◌<◌, zero, suc, Bool, false, cond, List, [], ◌∷◌, ◌++◌, length, get_or, map, take, drop, add-one, drop-cons, Option, None, Some, refl, sym, ap, arith}
use Rattle.std.specs.Option.{option_map_or}
use Rattle.std.specs.List.{Contains, AllPairs, count_by, filter_map, cons_option, enumerate_from, slice_get}
use Rattle.std.proofs.lemmas.List.{length-map, get_or-map, take_more}
use Rattle.std.proofs.lemmas.List.Elements.{All-contains_itself, All-weaker, filter_map-append}
use Rattle.std.proofs.lemmas.List.FromFn.{get_or-enumerate_from, length-enumerate_from}
use Rattle.std.proofs.lemmas.List.Kept.{AllPairs-cons}
use Rattle.std.proofs.lemmas.List.Sums.{sum_by-cons}
use Rattle.std.proofs.lemmas.Option.{slice_get_within, get_or_from_slice_get, slice_get-get_or}

-- one element more in front
pub Contains_later : {X : Type 0} (x : X) (xs : List X) (y : X) → Contains xs y → Contains (x ∷ xs) y
Contains_later x xs y (k, l, is) = (suc k, omega arith, is)

-- what `slice_get` finds is an element
pub Contains_found : {X : Type 0} (xs : List X) (k : ℕ) (x : X) → slice_get xs k ≡ Some x → Contains xs x
Contains_found xs k x at = (k, slice_get_within xs k x at, get_or_from_slice_get xs k x x at)

-- and each element is found
pub found_Contains : {X : Type 0} (xs : List X) (x : X) → Contains xs x → (k : ℕ) × (slice_get xs k ≡ Some x)
found_Contains xs x (k, l, is) = (k, slice_get-get_or xs k x l ∙ ap Some is)

-- ---- map

-- the values have that of each element
pub Contains_map : {X Y : Type 0} (f : X → Y) (xs : List X) (x : X) → Contains xs x → Contains (map f xs) (f x)
Contains_map f xs x (k, l, is) = (k, omega (arith, length-map xs f), get_or-map f xs k x (f x) l ∙ ap f is)

-- and each value is that of some element
pub map_Contains : {X Y : Type 0} (f : X → Y) (xs : List X) (y : Y) → Contains (map f xs) y → (x : X) × Contains xs x × (f x ≡ y)
map_Contains f [] y (k, l, is) = absurd (omega arith)
map_Contains f (x ∷ xs) y (zero, l, is) = (x, (0, omega arith, refl), is)
map_Contains f (x ∷ xs) y (suc k, l, is) =
    let w = map_Contains f xs y (k, omega arith, is) in
    (w.0, Contains_later x xs w.0 w.1, w.2)

-- ---- filter_map

-- what it makes of an element is there
pub Contains_filter_map : {X Y : Type 0} (h : X → Option Y) (xs : List X) (x : X) (y : Y) → Contains xs x → h x ≡ Some y → Contains (filter_map h xs) y
Contains_filter_map h [] x y (k, l, is) e = absurd (omega arith)
Contains_filter_map h (z ∷ xs) x y (zero, l, is) e =
    let first : h z ≡ Some y = ap h is ∙ e in
    rw first (0, omega arith, refl)
Contains_filter_map h (z ∷ xs) x y (suc k, l, is) e = later (h z) (filter_map h xs) y (Contains_filter_map h xs x y (k, omega arith, is) e)
  where
    later : {Y : Type 0} (o : Option Y) (ys : List Y) (y : Y) → Contains ys y → Contains (cons_option o ys) y
    later None ys y c = c
    later (Some v) ys y c = Contains_later v ys y c

-- and all that is there was made of some element
pub filter_map_Contains : {X Y : Type 0} (h : X → Option Y) (xs : List X) (y : Y) → Contains (filter_map h xs) y → (x : X) × Contains xs x × (h x ≡ Some y)
filter_map_Contains h [] y (k, l, is) = absurd (omega arith)
filter_map_Contains {X} {Y} h (x ∷ xs) y there = by (h x) refl (λ c. let w = filter_map_Contains h xs y c in (w.0, Contains_later x xs w.0 w.1, w.2)) there
  where
    by : (o : Option Y) → h x ≡ o → (Contains (filter_map h xs) y → (z : X) × Contains (x ∷ xs) z × (h z ≡ Some y)) → Contains (cons_option o (filter_map h xs)) y → (z : X) × Contains (x ∷ xs) z × (h z ≡ Some y)
    by None e later c = later c
    by (Some v) e later (zero, l, is) = (x, (0, omega arith, refl), e ∙ ap Some is)
    by (Some v) e later (suc k, l, is) = later (k, omega arith, is)

-- one element more makes one value more, if any
pub filter_map_take : {X Y : Type 0} (h : X → Option Y) (xs : List X) (i : ℕ) (d : X) → i < length xs → filter_map h (take (i + 1) xs) ≡ filter_map h (take i xs) ++ cons_option (h (get_or xs i d)) []
filter_map_take h xs i d short = ap (filter_map h) (take_more xs i d short) ∙ filter_map-append h (take i xs) (get_or xs i d ∷ [])

-- what it makes of the rest begins with what it makes of the first of them
pub filter_map_drop : {X Y : Type 0} (h : X → Option Y) (xs : List X) (i : ℕ) (d : X) → i < length xs → filter_map h (drop i xs) ≡ cons_option (h (get_or xs i d)) (filter_map h (drop (i + 1) xs))
filter_map_drop h xs i d short = rw (add-one, drop-cons xs i d) refl

-- If R of two elements implies S of their values, R for all pairs of elements implies S for all pairs of values.
pub all_pairs_filter_map : {X Y : Type 0} (R : X → X → Type 0) (S : Y → Y → Type 0) (h : X → Option Y) → ((a b : X) (v w : Y) → R a b → h a ≡ Some v → h b ≡ Some w → S v w) → (xs : List X) → AllPairs R xs → AllPairs S (filter_map h xs)
all_pairs_filter_map R S h keeps [] all = λ i j d less short. absurd (omega arith)
all_pairs_filter_map {X} {Y} R S h keeps (x ∷ xs) all = by (h x) refl (all_pairs_filter_map R S h keeps xs (λ i j d less short. all (suc i) (suc j) d (omega arith) (omega arith)))
  where
    by : (o : Option Y) → h x ≡ o → AllPairs S (filter_map h xs) → AllPairs S (cons_option o (filter_map h xs))
    by None e later = later
    by (Some v) e later =
        AllPairs-cons S v (filter_map h xs)
        (All-weaker (Contains (filter_map h xs)) (S v)
        (λ w there.
        let made = filter_map_Contains h xs w there in
        keeps x made.0 v w (rw made.1.2 at (all 0 (suc made.1.0) made.0 (omega arith) (omega (arith, made.1.1)))) e made.2)
        _ (All-contains_itself _))
        later

-- ---- enumerate_from

-- each element stands beside its place
pub Contains_enumerated : {X : Type 0} (xs : List X) (k : ℕ) (x : X) → slice_get xs k ≡ Some x → Contains (enumerate_from 0 xs) (k, x)
Contains_enumerated xs k x at =
    let short : k < length xs = slice_get_within xs k x at in
    let number : 0 + k ≡ k = omega arith in
    (k, omega (arith, length-enumerate_from 0 xs), get_or-enumerate_from 0 xs k (k, x) short ∙ rw (number, get_or_from_slice_get xs k x x at) refl)

-- and beside each place the element there
pub enumerated_Contains : {X : Type 0} (xs : List X) (e : ℕ × X) → Contains (enumerate_from 0 xs) e → slice_get xs e.0 ≡ Some e.1
enumerated_Contains {X} xs e (k, l, is) =
    let short : k < length xs = omega (arith, length-enumerate_from 0 xs) in
    let both : (0 + k, get_or xs k e.1) ≡ e = sym (get_or-enumerate_from 0 xs k e short) ∙ is in
    let number : e.0 ≡ k = sym (ap (λ (p : ℕ × X). p.0) both) ∙ omega arith in
    ap (slice_get xs) number ∙ slice_get-get_or xs k e.1 short ∙ ap (λ (p : ℕ × X). Some p.1) both

-- the places rise
pub numbers_rise : {X : Type 0} (xs : List X) → AllPairs (λ (a b : ℕ × X). a.0 < b.0) (enumerate_from 0 xs)
numbers_rise xs i j d less short =
    let high : j < length xs = omega (arith, length-enumerate_from 0 xs) in
    let low : i < length xs = omega arith in
    rw (get_or-enumerate_from 0 xs i d, get_or-enumerate_from 0 xs j d) (omega arith)

-- ---- counts

-- as many values pass as elements whose value passes
pub count_filter_map : {X Y : Type 0} (q : Y → Bool) (h : X → Option Y) (xs : List X) → count_by q (filter_map h xs) ≡ count_by (λ x. option_map_or q (h x) false) xs
count_filter_map q h [] = refl
count_filter_map {X} {Y} q h (x ∷ xs) =
    option (h x) (filter_map h xs) ∙ ap (λ (n : ℕ). cond (option_map_or q (h x) false) 1 0 + n) (count_filter_map q h xs)
    ∙ sym (sum_by-cons (λ x. cond (option_map_or q (h x) false) 1 0) x xs)
  where
    option : (o : Option Y) (ys : List Y) → count_by q (cons_option o ys) ≡ cond (option_map_or q o false) 1 0 + count_by q ys
    option None ys = omega arith
    option (Some v) ys = sum_by-cons (λ y. cond (q y) 1 0) v ys

-- the same of a map
pub count_map : {X Y : Type 0} (q : Y → Bool) (f : X → Y) (xs : List X) → count_by q (map f xs) ≡ count_by (λ x. q (f x)) xs
count_map q f [] = refl
count_map q f (x ∷ xs) =
    sum_by-cons (λ y. cond (q y) 1 0) (f x) (map f xs) ∙ ap (λ (n : ℕ). cond (q (f x)) 1 0 + n) (count_map q f xs)
    ∙ sym (sum_by-cons (λ x. cond (q (f x)) 1 0) x xs)

-- tests that agree at each place count the same
pub count_agree : {X : Type 0} (s : ℕ × X → Bool) (t : X → Bool) (n : ℕ) (xs : List X) → ((k : ℕ) (x : X) → slice_get xs k ≡ Some x → s (n + k, x) ≡ t x) → count_by s (enumerate_from n xs) ≡ count_by t xs
count_agree s t n [] same = refl
count_agree {X} s t n (x ∷ xs) same =
    let number : n + 0 ≡ n = omega arith in
    let first : s (n, x) ≡ t x = rw number at (same 0 x refl) in
    let rest : count_by s (enumerate_from (n + 1) xs) ≡ count_by t xs =
    count_agree s t (n + 1) xs (λ k y at. let more : n + suc k ≡ n + 1 + k = omega arith in rw more at (same (suc k) y at)) in
    sum_by-cons (λ e. cond (s e) 1 0) (n, x) (enumerate_from (n + 1) xs) ∙ rw (first, rest) refl ∙ sym (sum_by-cons (λ x. cond (t x) 1 0) x xs)
