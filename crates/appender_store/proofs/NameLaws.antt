-- A map of names after one was removed or added.
use Rattle.std.proofs.Common.{◌≡◌, ◌≢◌, ◌∙◌, ◌⊎◌, ℕ, Bool, true, false, cond, List, Option, None, Some, inl, inr, refl, sym}
use Rattle.std.proofs.lemmas.Map.Views.{tells_apart}
use Rattle.std.proofs.lemmas.Map.Lookups.{exact_bytes}
use Rattle.std.specs.Ordering.{nat_cmp, eq_by_cmp}
use Rattle.std.specs.Cmp.{eq_by_cmp_equiv}
use Rattle.std.specs.Cmp.Lexicographic.{slice_cmp, nat_list_cmp_total}
use Rattle.std.specs.FinMap as fin
use Rattle.std.specs.FinMap.{get-insert, get-remove}
use Rattle.appender_store.specs.Content.{NameMap, Entry}
use Rattle.appender_store.specs.NameLaws.{RemovalsTakeOneName, AdditionsAddOneName}

-- a test of two names decides which of two values is meant
own_or_other : (name other : List ℕ) (own rest : Option Entry) → ((other ≡ name) × (cond (eq_by_cmp (slice_cmp nat_cmp) other name) own rest ≡ own)) ⊎ ((other ≢ name) × (cond (eq_by_cmp (slice_cmp nat_cmp) other name) own rest ≡ rest))
own_or_other name other own rest = by (eq_by_cmp (slice_cmp nat_cmp) other name) refl
  where
    differs : eq_by_cmp (slice_cmp nat_cmp) other name ≡ false → other ≢ name
    differs apart same =
        let itself : eq_by_cmp (slice_cmp nat_cmp) name name ≡ true = (eq_by_cmp_equiv nat_list_cmp_total).refl name in
        let both : true ≡ false = sym itself ∙ (rw same at apart) in
        cc

    by : (t : Bool) → eq_by_cmp (slice_cmp nat_cmp) other name ≡ t → ((other ≡ name) × (cond t own rest ≡ own)) ⊎ ((other ≢ name) × (cond t own rest ≡ rest))
    by true is = inl (tells_apart exact_bytes other name is, refl)
    by false is = inr (differs is, refl)

pub removals : RemovalsTakeOneName
removals names name other = rw (get-remove nat_list_cmp_total names name other) (own_or_other name other None _)

pub additions : AdditionsAddOneName
additions names name entry other = rw (get-insert nat_list_cmp_total names name entry other) (own_or_other name other _ _)

-- ---- what follows

module _ (names : NameMap) (name : List ℕ) where
  -- what is there after a removal was there before
  pub stood_before : (other : List ℕ) (e : Entry) → fin.get (fin.remove names name) other ≡ Some e → fin.get names other ≡ Some e
  stood_before other e now =
      elim (removals names name other) [
        | inl w ↦ absurd (let nothing : None ≡ Some e = sym w.1 ∙ now in cc)
        | inr w ↦ sym w.1 ∙ now
      ]

  module _ (entry : Entry) where
    -- what was added stands
    pub added_stands : fin.get (fin.insert names name entry) name ≡ Some entry
    added_stands = elim (additions names name entry name) [ inl w ↦ w.1 | inr w ↦ absurd (w.0 refl) ]

    -- what is there after an addition was added or was there before
    pub added_or_stood : (other : List ℕ) (e : Entry) → fin.get (fin.insert names name entry) other ≡ Some e → ((other ≡ name) × (entry ≡ e)) ⊎ (fin.get names other ≡ Some e)
    added_or_stood other e now =
        elim (additions names name entry other) [
          | inl w ↦ inl (w.0, (let both : Some entry ≡ Some e = sym w.1 ∙ now in cc))
          | inr w ↦ inr (sym w.1 ∙ now)
        ]
