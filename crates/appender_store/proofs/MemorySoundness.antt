-- A folder in memory stays sound.
use Rattle.std.proofs.Common.{◌≡◌, ◌∙◌, ℕ, ℤ, Bool, true, List, [], ◌∷◌, ◌++◌, length, Option, None, Some, is_some, map, Vec, String, sym, ap}
use Rattle.std.proofs.lemmas.List.{length-map}
use Rattle.std.specs.Ordering.{nat_cmp}
use Rattle.std.specs.Cmp.Lexicographic.{slice_cmp}
use Rattle.std.specs.FinMap as fin
use Rattle.std.specs.FinMap.{get-empty}
use Rattle.std.specs.BTreeMap.{BTreeMap}
use Rattle.std.specs.declared.alloc.Global.{Global}
use Rattle.appender_store.specs.Content.{Entry, File, IsSound, IsLinkOrFolder}
use Rattle.appender_store.proofs.Contents.{sound_with_file, sound_with_other, sound_without}
use Rattle.appender_store.specs.Inside.Entries.{named_entry, names_of, bodies_of, content_of}
use Rattle.appender_store.specs.declared.store.entries.Item.{Item}

module _ (there : Bool) (bs : Vec (Vec ℕ Global) Global) (m n : BTreeMap (String Global) Item) (name : List ℕ) (sound : IsSound (content_of there bs m)) where
  -- without a name
  pub removed_sound : names_of n ≡ fin.remove (names_of m) name → IsSound (content_of there bs n)
  removed_sound names = rw names (sound_without (content_of there bs m) name sound)

  -- with a link or a folder
  pub entered_sound : (entry : Entry) → IsLinkOrFolder (Some entry) → names_of n ≡ fin.insert (names_of m) name entry → IsSound (content_of true bs n)
  entered_sound entry other names = rw names (sound_with_other (content_of there bs m) name sound entry other)

  -- with a file that has a new body
  pub filed_sound : (b : ℕ) (cs : Vec (Vec ℕ Global) Global) (bytes : List ℕ) (t : Option ℤ) → b ≡ length bs.items → bodies_of cs ≡ bodies_of bs ++ bytes ∷ [] → names_of n ≡ fin.insert (names_of m) name (File b t) → IsSound (content_of true cs n)
  filed_sound b cs bytes t is bodies names =
      let number : b ≡ length (bodies_of bs) = is ∙ sym (length-map bs.items (λ v. v.items)) in
      let with_number : names_of n ≡ fin.insert (names_of m) name (File (length (bodies_of bs)) t) = names ∙ ap (λ x. fin.insert (names_of m) name (File x t)) number in
      rw (bodies, with_number) (sound_with_file (content_of there bs m) name sound bytes t)

-- nothing is sound
pub empty_sound : (there : Bool) (bs : Vec (Vec ℕ Global) Global) (m : BTreeMap (String Global) Item) → m.entries ≡ [] → IsSound (content_of there bs m)
empty_sound there bs m none = record {
  absent = λ no_folder name. ap is_some (free name);
  bodies_there = λ name b t h. absurd (let nothing : None ≡ Some (File b t) = sym (free name) ∙ h in cc);
  one_name = λ n k b t u h g. absurd (let nothing : None ≡ Some (File b t) = sym (free n) ∙ h in cc);
}
  where
    free : (name : List ℕ) → fin.get (names_of m) name ≡ None
    free name = ap (λ es. fin.get (fin.from_entries {R = slice_cmp nat_cmp} (map named_entry es)) name) none ∙ get-empty (slice_cmp nat_cmp) name
