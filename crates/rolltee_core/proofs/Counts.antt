-- Texts of counts that grow by one.
use Rattle.std.proofs.Common.{◌≡◌, refl, sym, ap, ◌∙◌, ℕ, List, [], ◌∷◌, ◌++◌, ◌<◌, ◌≤◌, arith, false, cond, not, ◌==◌, codes, append-nil, map, take, length, ◌+◌, slice_index_or}
use Rattle.std.specs.List.{filter, join_by}
use Rattle.std.proofs.lemmas.List.{flat_map_more, map-append, take_more}
use Rattle.std.proofs.lemmas.List.Elements.{filter-append}
use denote.Bor.{Bor}
use Rattle.rolltee_core.specs.Losses.{count_text, counts_text}

-- what separates the next count from these
abbrev pub separator_of : List (List ℕ × ℕ) → List ℕ
separator_of [] = []
separator_of (count ∷ counts) = codes "; "

-- those that are not 0
abbrev pub nonzero : List (List ℕ × ℕ) → List (List ℕ × ℕ)
nonzero = filter (λ count. not (count.1 == 0))

text_more : (xs : List (List ℕ × ℕ)) (y : List ℕ × ℕ) → join_by count_text (codes "; ") (xs ++ (y ∷ [])) ≡ join_by count_text (codes "; ") xs ++ (separator_of xs ++ count_text y)
text_more [] y = append-nil (count_text y)
text_more (x ∷ xs) y = sym (flat_map_more (λ z. codes "; " ++ count_text z) (count_text x) xs y)

separator_push : (xs : List (List ℕ × ℕ)) (y : List ℕ × ℕ) → separator_of (xs ++ (y ∷ [])) ≡ codes "; "
separator_push [] y = refl
separator_push (x ∷ xs) y = refl

pub none_more : (counts : List (List ℕ × ℕ)) (words : List ℕ) (n : ℕ) → n ≤ 0 → nonzero (counts ++ ((words, n) ∷ [])) ≡ nonzero counts
none_more counts words n none =
    let zero : n ≡ 0 = omega arith in
    rw zero (filter-append _ counts _ ∙ append-nil _)

one_more : (counts : List (List ℕ × ℕ)) (words : List ℕ) (n : ℕ) → 0 < n → nonzero (counts ++ ((words, n) ∷ [])) ≡ nonzero counts ++ ((words, n) ∷ [])
one_more counts words n some =
    let is_some : (n == 0) ≡ false = grind arith in
    filter-append _ counts _ ∙ ap (λ b. nonzero counts ++ cond (not b) ((words, n) ∷ []) []) is_some

pub separator_more : (counts : List (List ℕ × ℕ)) (words : List ℕ) (n : ℕ) → 0 < n → separator_of (nonzero (counts ++ ((words, n) ∷ []))) ≡ codes "; "
separator_more counts words n some = ap separator_of (one_more counts words n some) ∙ separator_push (nonzero counts) (words, n)

pub counts_text_more : (counts : List (List ℕ × ℕ)) (words : List ℕ) (n : ℕ) → 0 < n → counts_text (counts ++ ((words, n) ∷ [])) ≡ counts_text counts ++ (separator_of (nonzero counts) ++ count_text (words, n))
counts_text_more counts words n some = ap (join_by count_text (codes "; ")) (one_more counts words n some) ∙ text_more (nonzero counts) (words, n)

-- the first n counts, whose words are borrowed
abbrev pub seen : ℕ → List (Bor (List ℕ) × ℕ) → List (List ℕ × ℕ)
seen n counts = map (λ count. (count.0.now, count.1)) (take n counts)

pub seen_more : (counts : List (Bor (List ℕ) × ℕ)) (i : ℕ) (d : Bor (List ℕ) × ℕ) → i < length counts → seen (i + 1) counts ≡ seen i counts ++ (((slice_index_or counts i d).0.now, (slice_index_or counts i d).1) ∷ [])
seen_more counts i d within = ap (map (λ count. (count.0.now, count.1))) (take_more counts i d within) ∙ map-append _ (take i counts) _
