-- The calls that are named, as a set and a map.
use Rattle.std.proofs.Common.{◌≡◌, ◌∙◌, ℕ, Bool, true, false, cond, ◌||◌, List, [], ◌∷◌, Some, refl, sym, ap}
use Rattle.std.specs.Ordering.{nat_cmp, is_eq, eq_by_cmp}
use Rattle.std.specs.Cmp.{eq_by_cmp_equiv}
use Rattle.std.specs.List.{list_any}
use Rattle.std.proofs.lemmas.Cmp.{nat_cmp_total}
use Rattle.std.specs.FinSet as set
use Rattle.std.specs.FinSet.{contains-from_list, contains-insert, same_set}
use Rattle.std.specs.FinMap as fin
use Rattle.std.specs.FinMap.{find, get-from_entries, get-insert, same_map, nat_cmp-IsAntisymmetric}
use Rattle.std.specs.BTreeSet as tree_set
use Rattle.std.specs.BTreeSet.{BTreeSet}
use Rattle.std.specs.BTreeMap as tree_map
use Rattle.std.specs.BTreeMap.{BTreeMap, is_at}
use Rattle.std.specs.Map.{lookup}
use Rattle.appender_store.specs.Inside.Calls.{failing_calls_of, append_limits_of}

-- the same number by either test
same_number : (k q : ℕ) → is_eq (nat_cmp k q) ≡ eq_by_cmp nat_cmp q k
same_number k q = (eq_by_cmp_equiv nat_cmp_total).symm k q

is_failing_as : (s : BTreeSet ℕ) (q : ℕ) → set.contains (failing_calls_of s) q ≡ list_any (is_at (nat_cmp q)) s.keys
is_failing_as s q = contains-from_list nat_cmp_total s.keys q

pub named_to_fail : (s : BTreeSet ℕ) (q : ℕ) → set.contains (failing_calls_of s) q ≡ tree_set.contains_by (nat_cmp q) s
named_to_fail s q = is_failing_as s q

or_either : (b c : Bool) → cond b true c ≡ (b || c)
or_either true c = refl
or_either false c = refl

pub failing_added : (s t : BTreeSet ℕ) (k : ℕ) → tree_set.Updates nat_cmp s t k true → failing_calls_of t ≡ set.insert (failing_calls_of s) k
failing_added s t k u =
    same_set nat_cmp_total nat_cmp-IsAntisymmetric _ _ (λ q.
    named_to_fail t q ∙ u.0 q ∙ ap (λ (b : Bool). cond b true (tree_set.contains nat_cmp s q)) (same_number k q)
    ∙ or_either (eq_by_cmp nat_cmp q k) (tree_set.contains nat_cmp s q)
    ∙ ap (λ (b : Bool). eq_by_cmp nat_cmp q k || b) (sym (named_to_fail s q))
    ∙ sym (contains-insert nat_cmp_total (failing_calls_of s) k q))

found : (es : List (ℕ × ℕ)) (q : ℕ) → find nat_cmp q es ≡ lookup (is_at (nat_cmp q)) es
found [] q = refl
found (e ∷ es) q = ap (cond (is_eq (nat_cmp q e.0)) (Some e.1)) (found es q)

pub limit_found : (m : BTreeMap ℕ ℕ) (q : ℕ) → fin.get (append_limits_of m) q ≡ tree_map.get_by (nat_cmp q) m
limit_found m q = get-from_entries nat_cmp_total m.entries q ∙ found m.entries q

pub limit_added : (m n : BTreeMap ℕ ℕ) (k v : ℕ) → tree_map.Updates nat_cmp m n k (Some v) → append_limits_of n ≡ fin.insert (append_limits_of m) k v
limit_added m n k v u =
    same_map nat_cmp_total nat_cmp-IsAntisymmetric _ _ (λ q.
    limit_found n q ∙ u.0 q ∙ ap (λ (b : Bool). cond b (Some v) (tree_map.get nat_cmp m q)) (same_number k q)
    ∙ ap (cond (eq_by_cmp nat_cmp q k) (Some v)) (sym (limit_found m q))
    ∙ sym (get-insert nat_cmp_total (append_limits_of m) k v q))
