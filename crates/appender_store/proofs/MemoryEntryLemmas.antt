-- The names of a folder in memory, as a finite map.
use Rattle.std.proofs.Common.{◌≡◌, ℕ, is_some, Bool, true, false, cond, List, [], ◌∷◌, Option, None, Some, map, refl, sym, ap, ◌∙◌, string_bytes, String, Vec, get_or, set, zero, suc, ◌++◌, ◌<◌, length, arith, Result, Ok, Err, OnErr}
use Rattle.std.proofs.lemmas.List.{nil_from_length, append-nil}
use Rattle.std.specs.Option.{option_map}
use Rattle.std.specs.Ordering.{nat_cmp, eq_by_cmp, is_eq}
use Rattle.std.specs.Cmp.Lexicographic.{slice_cmp, nat_list_cmp_total}
use Rattle.std.specs.Cmp.{eq_by_cmp_equiv}
use Rattle.std.specs.FinMap as fin
use Rattle.std.specs.FinMap.{find, entries-insert, len-entries, len-empty, get-from_entries, get-insert, get-remove, same_map, slice_cmp-IsAntisymmetric, nat_cmp-IsAntisymmetric}
use Rattle.std.specs.declared.alloc.Global.{Global}
use Rattle.std.specs.BTreeMap.{BTreeMap, get_by_text, is_at, UpdatesBy, IsOrdered}
use Rattle.std.specs.Map.{lookup}
use Rattle.std.proofs.lemmas.Map.Text.{btree_map_updates_text, is_eq-slice_cmp}
use Rattle.std.specs.List.Sorted.{IsStrictlySortedBy}
use Rattle.std.specs.declared.cmp.Ordering.TheVariants.{Less}
use Rattle.std.proofs.lemmas.Map.Keys.{sorted_tail, Less-from_sorted}
use Rattle.std.specs.Str.{bytes_eq}
use Rattle.std.specs.String.{string_cmp}
use Rattle.appender_store.specs.Content.{Entry}
use Rattle.appender_store.specs.Inside.Entries.{entry_of, named_entry, names_of}
use Rattle.appender_store.specs.declared.store.entries.Item.{Item}

entries_empty : fin.entries (fin.empty {X = Entry} {R = slice_cmp nat_cmp}) ≡ []
entries_empty = nil_from_length _ (sym (len-entries (fin.empty {X = Entry} {R = slice_cmp nat_cmp})) ∙ len-empty (slice_cmp nat_cmp) Entry)

find_name : (es : List (String Global × Item)) (q : List ℕ) → find (slice_cmp nat_cmp) q (map named_entry es) ≡ option_map entry_of (lookup (is_at (λ k. slice_cmp nat_cmp q (string_bytes k))) es)
find_name [] q = refl
find_name (e ∷ es) q =
    elim (is_eq (slice_cmp nat_cmp q (string_bytes e.0))) as (λ (t : Bool). cond t (Some (entry_of e.1)) (find (slice_cmp nat_cmp) q (map named_entry es)) ≡ option_map entry_of (cond t (Some e.1) (lookup (is_at (λ k. slice_cmp nat_cmp q (string_bytes k))) es))) [ true ↦ refl | false ↦ find_name es q ]

-- what a name leads to
pub get_name : (m : BTreeMap (String Global) Item) (q : List ℕ) → fin.get (names_of m) q ≡ option_map entry_of (get_by_text m q)
get_name m q = get-from_entries nat_list_cmp_total _ q ∙ find_name m.entries q

is_some_map : {X Y : Type 0} (f : X → Y) (o : Option X) → is_some (option_map f o) ≡ is_some o
is_some_map f None = refl
is_some_map f (Some x) = refl

-- whether a name is in use
pub in_use : (m : BTreeMap (String Global) Item) (q : List ℕ) → is_some (fin.get (names_of m) q) ≡ is_some (get_by_text m q)
in_use m q = ap is_some (get_name m q) ∙ is_some_map entry_of (get_by_text m q)

-- two names are one by either test
same_test : (name q : List ℕ) → eq_by_cmp (slice_cmp nat_cmp) q name ≡ bytes_eq name q
same_test name q = (eq_by_cmp_equiv nat_list_cmp_total).symm q name ∙ is_eq-slice_cmp name q

chosen : (t : Bool) (w : Option Item) (old : Option Item) → option_map entry_of (cond t w old) ≡ cond t (option_map entry_of w) (option_map entry_of old)
chosen true w old = refl
chosen false w old = refl

module _ (m n : BTreeMap (String Global) Item) (name : List ℕ) where
  -- what each name leads to after a change of one
  changed : (w : Option Item) → UpdatesBy string_cmp (λ k. slice_cmp nat_cmp name (string_bytes k)) m n w → (q : List ℕ) → fin.get (names_of n) q ≡ cond (eq_by_cmp (slice_cmp nat_cmp) q name) (option_map entry_of w) (fin.get (names_of m) q)
  changed w u q =
      get_name n q ∙ ap (option_map entry_of) (btree_map_updates_text name m n w u q) ∙ chosen (bytes_eq name q) w (get_by_text m q)
      ∙ ap (λ t. cond t (option_map entry_of w) (option_map entry_of (get_by_text m q))) (sym (same_test name q))
      ∙ ap (cond (eq_by_cmp (slice_cmp nat_cmp) q name) (option_map entry_of w)) (sym (get_name m q))

  pub one_added : (item : Item) → UpdatesBy string_cmp (λ k. slice_cmp nat_cmp name (string_bytes k)) m n (Some item) → names_of n ≡ fin.insert (names_of m) name (entry_of item)
  one_added item u =
      same_map nat_list_cmp_total (slice_cmp-IsAntisymmetric nat_cmp-IsAntisymmetric) _ _
      (λ q. changed (Some item) u q ∙ sym (get-insert nat_list_cmp_total (names_of m) name (entry_of item) q))

  pub one_removed : UpdatesBy string_cmp (λ k. slice_cmp nat_cmp name (string_bytes k)) m n None → names_of n ≡ fin.remove (names_of m) name
  one_removed u =
      same_map nat_list_cmp_total (slice_cmp-IsAntisymmetric nat_cmp-IsAntisymmetric) _ _
      (λ q. changed None u q ∙ sym (get-remove nat_list_cmp_total (names_of m) name q))

-- names in order are the map's entries
names_in_order : (es : List (String Global × Item)) → IsStrictlySortedBy string_cmp (map (λ e. e.0) es) → fin.entries (fin.from_entries {R = slice_cmp nat_cmp} (map named_entry es)) ≡ map named_entry es
names_in_order [] sorted = entries_empty
names_in_order (e ∷ []) sorted = entries-insert nat_list_cmp_total (fin.from_entries []) (string_bytes e.0) (entry_of e.1) ∙ ap (λ es. fin.put (slice_cmp nat_cmp) (string_bytes e.0) (entry_of e.1) es) entries_empty
names_in_order (e ∷ f ∷ es) sorted =
    let rest : fin.entries (fin.from_entries {R = slice_cmp nat_cmp} (map named_entry (f ∷ es))) ≡ map named_entry (f ∷ es) = names_in_order (f ∷ es) (sorted_tail string_cmp e.0 (map (λ e. e.0) (f ∷ es)) sorted) in
    let less : string_cmp e.0 f.0 ≡ Less = Less-from_sorted string_cmp (map (λ e. e.0) (e ∷ f ∷ es)) 0 1 e.0 sorted (omega arith) (omega arith) in
    entries-insert nat_list_cmp_total (fin.from_entries (map named_entry (f ∷ es))) (string_bytes e.0) (entry_of e.1) ∙ rw (rest, less) refl

pub entries_of : (m : BTreeMap (String Global) Item) → IsOrdered string_cmp m → fin.entries (names_of m) ≡ map named_entry m.entries
entries_of m ordered = names_in_order m.entries ordered

map_twice : {X Y Z : Type 0} (f : Y → Z) (g : X → Y) (xs : List X) → map f (map g xs) ≡ map (λ x. f (g x)) xs
map_twice f g [] = refl
map_twice f g (x ∷ xs) = ap (λ ys. f (g x) ∷ ys) (map_twice f g xs)

-- what a function gives of each entry, in the order of names
pub of_entries : {Y : Type 0} (f : List ℕ × Entry → Y) (m : BTreeMap (String Global) Item) → IsOrdered string_cmp m → map (λ e. f (named_entry e)) m.entries ≡ map f (fin.entries (names_of m))
of_entries f m ordered = sym (map_twice f named_entry m.entries) ∙ ap (map f) (sym (entries_of m ordered))

-- all is done once nothing is left
pub none_left : {X Y : Type 0} (g : X → Y) (done all : List Y) (left : List X) → left ≡ [] → done ++ map g left ≡ all → done ≡ all
none_left g done all left none is = let whole : done ++ [] ≡ all = rw none at is in sym (append-nil done) ∙ whole

pub always_on_err : {T E P : Type 0} (r : Result T E) → P → OnErr r P
always_on_err (Ok x) p = tt
always_on_err (Err e) p = p

-- ---- bodies

-- the bytes of a body that is there
pub bodies_item : (vs : List (Vec ℕ Global)) (at : ℕ) (d : Vec ℕ Global) → at < length vs → get_or (map (λ b. b.items) vs) at [] ≡ (get_or vs at d).items
bodies_item [] at d h = absurd (omega arith)
bodies_item (v ∷ vs) zero d h = refl
bodies_item (v ∷ vs) (suc at) d h = bodies_item vs at d (omega arith)

module _ (w : Vec ℕ Global) where
  -- a body with these bytes more
  pub bodies_set : (vs : List (Vec ℕ Global)) (at : ℕ) (more : List ℕ) → w.items ≡ get_or (map (λ b. b.items) vs) at [] ++ more → map (λ b. b.items) (set vs at w) ≡ set (map (λ b. b.items) vs) at (get_or (map (λ b. b.items) vs) at [] ++ more)
  bodies_set [] zero more e = refl
  bodies_set [] (suc at) more e = refl
  bodies_set (v ∷ vs) zero more e = ap (λ x. x ∷ map (λ b. b.items) vs) e
  bodies_set (v ∷ vs) (suc at) more e = ap (λ xs. v.items ∷ xs) (bodies_set vs at more e)

  -- a body as it was
  pub bodies_same : (vs : List (Vec ℕ Global)) (at : ℕ) → w.items ≡ get_or (map (λ b. b.items) vs) at [] → map (λ b. b.items) (set vs at w) ≡ map (λ b. b.items) vs
  bodies_same [] zero e = refl
  bodies_same [] (suc at) e = refl
  bodies_same (v ∷ vs) zero e = ap (λ x. x ∷ map (λ b. b.items) vs) e
  bodies_same (v ∷ vs) (suc at) e = ap (λ xs. v.items ∷ xs) (bodies_same vs at e)
