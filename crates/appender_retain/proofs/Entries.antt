-- The entries of a map.
use Rattle.std.proofs.Common.{◌≡◌, ◌∙◌, ◌&&◌, T, zero, suc, Bool, true, false, cond, List, [], ◌∷◌, None, Some, refl, sym, ap, arith, Ordering}
use Rattle.std.specs.List.{All, AllPairs, Contains}
use Rattle.std.specs.Cmp.{IsTotalOrder, eq_by_cmp_equiv}
use Rattle.std.specs.Ordering.{is_lt, eq_by_cmp, ordering_reverse}
use Rattle.std.specs.declared.cmp.Ordering.TheVariants.{Less, Equal, Greater}
use Rattle.std.specs.FinMap.{FinMap, entries, get, find, is_sorted, get-entries, entries_sorted}
use Rattle.std.specs.FinMap.Entries.{below_all}
use Rattle.std.proofs.lemmas.List.Elements.{All-nil, All-cons, All-contains}
use Rattle.std.proofs.lemmas.List.Kept.{AllPairs-cons}
use Rattle.std.proofs.lemmas.Map.Views.{tells_apart}
use Rattle.std.proofs.lemmas.Map.Lookups.{CmpEqualImpliesEq}
use Rattle.appender_retain.proofs.Elements.{Contains_later}

-- both sides of a test that holds
both_of : (a b : Bool) → T (a && b) → T a × T b
both_of true b t = (tt, t)
both_of false b t = absurd t

module _ {K X : Type 0} (R : K → K → Ordering) where
  -- a key below all is below each
  below_each : (x : K) (es : List (K × X)) → T (below_all R x es) → All (λ e. R x e.0 ≡ Less) es
  below_each x [] below = All-nil (λ e. R x e.0 ≡ Less)
  below_each x (e ∷ es) below =
      let w = both_of (is_lt (R x e.0)) (below_all R x es) below in
      All-cons (λ e. R x e.0 ≡ Less) e es (less (R x e.0) w.0) (below_each x es w.1)
    where
      less : (o : Ordering) → T (is_lt o) → o ≡ Less
      less Less t = refl
      less Equal t = absurd t
      less Greater t = absurd t

  rising : (es : List (K × X)) → T (is_sorted R es) → AllPairs (λ a b. R a.0 b.0 ≡ Less) es
  rising [] sorted = λ i j d less short. absurd (omega arith)
  rising (e ∷ es) sorted =
      let w = both_of (below_all R e.0 es) (is_sorted R es) sorted in
      AllPairs-cons (λ a b. R a.0 b.0 ≡ Less) e es (below_each e.0 es w.0) (rising es w.1)

-- the keys of a map rise
pub entries_rise : {K X : Type 0} {R : K → K → Ordering} (m : FinMap R X) → AllPairs (λ a b. R a.0 b.0 ≡ Less) (entries m)
entries_rise {R = R} m = rising R (entries m) (entries_sorted m)

module _ {K X : Type 0} {R : K → K → Ordering} (o : IsTotalOrder R) where
  find_there : (es : List (K × X)) (e : K × X) → T (is_sorted R es) → Contains es e → find R e.0 es ≡ Some e.1
  find_there [] e sorted (k, l, is) = absurd (omega arith)
  find_there (f ∷ es) e sorted (zero, l, is) =
      let itself : eq_by_cmp R e.0 e.0 ≡ true = (eq_by_cmp_equiv o).refl e.0 in
      rw (is, itself) refl
  find_there (f ∷ es) e sorted (suc k, l, is) =
      let there : Contains es e = (k, omega arith, is) in
      let w = both_of (below_all R f.0 es) (is_sorted R es) sorted in
      let greater : R e.0 f.0 ≡ Greater = o.antisymm e.0 f.0 ∙ ap ordering_reverse (All-contains (λ e. R f.0 e.0 ≡ Less) es e (below_each R f.0 es w.0) there) in
      rw greater (find_there es e w.1 there)

  -- an entry is what its key leads to
  pub entry_there : (m : FinMap R X) (e : K × X) → Contains (entries m) e → get m e.0 ≡ Some e.1
  entry_there m e there = get-entries m e.0 ∙ find_there (entries m) e (entries_sorted m) there

module _ {K X : Type 0} {R : K → K → Ordering} (exact : CmpEqualImpliesEq R) where
  found_there : (q : K) (es : List (K × X)) (v : X) → find R q es ≡ Some v → Contains es (q, v)
  found_there q [] v h = absurd (let nothing : None ≡ Some v = h in cc)
  found_there q (f ∷ es) v h = by (eq_by_cmp R q f.0) refl h (found_there q es v)
    where
      by : (b : Bool) → eq_by_cmp R q f.0 ≡ b → cond b (Some f.1) (find R q es) ≡ Some v → (find R q es ≡ Some v → Contains es (q, v)) → Contains (f ∷ es) (q, v)
      by true e is later =
          let key : q ≡ f.0 = tells_apart exact q f.0 e in
          let same : f.1 ≡ v = (let some : Some f.1 ≡ Some v = is in cc) in
          (0, omega arith, rw (key, ← same) refl)
      by false e is later = Contains_later f es (q, v) (later is)

  -- and the other way
  pub there_entry : (m : FinMap R X) (q : K) (v : X) → get m q ≡ Some v → Contains (entries m) (q, v)
  there_entry m q v h = found_there q (entries m) v (sym (get-entries m q) ∙ h)
