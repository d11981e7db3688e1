-- A folder stays sound.
use Rattle.std.proofs.Common.{◌≡◌, ◌≢◌, ◌∙◌, ℕ, ℤ, true, false, List, [], ◌∷◌, ◌++◌, length, Option, Some, is_some, arith, inl, inr, sym, ap, length-append}
use Rattle.std.specs.FinMap as map
use Rattle.appender_store.specs.Content.{Content, IsSound, IsLinkOrFolder, Entry, File, Link, Folder}
use Rattle.appender_store.proofs.NameLaws.{removals, stood_before, added_or_stood}

same_file : (a b : ℕ) (t u : Option ℤ) → File a t ≡ File b u → a ≡ b
same_file a b t u e = cc

is_no_file : (entry : Entry) (b : ℕ) (t : Option ℤ) → IsLinkOrFolder (Some entry) → entry ≢ File b t
is_no_file (File a u) b t other e = other
is_no_file (Link target) b t other e = cc
is_no_file Folder b t other e = cc

module _ (c : Content) (name : List ℕ) (sound : IsSound c) where
  -- with a file that has a new body
  pub sound_with_file : (bytes : List ℕ) (t : Option ℤ) → IsSound (record { there = true; bodies = c.bodies ++ bytes ∷ []; names = map.insert c.names name (File (length c.bodies) t) })
  sound_with_file bytes t = record {
    absent = λ no n. absurd (let both : true ≡ false = no in cc);
    bodies_there = λ n b u h. elim (added_or_stood c.names name (File (length c.bodies) t) n (File b u) h) [
      | inl w ↦ let same : length c.bodies ≡ b = same_file _ _ _ _ w.1 in omega (arith, length-append c.bodies (bytes ∷ []))
      | inr k ↦ omega (arith, length-append c.bodies (bytes ∷ []), sound.bodies_there n b u k)
    ];
    one_name = λ n m b u v h k. elim (added_or_stood c.names name (File (length c.bodies) t) n (File b u) h) [
      | inl w ↦ elim (added_or_stood c.names name (File (length c.bodies) t) m (File b v) k) [
        | inl x ↦ w.0 ∙ sym x.0
        | inr x ↦ absurd (let same : length c.bodies ≡ b = same_file _ _ _ _ w.1 in omega (arith, sound.bodies_there m b v x))
      ]
      | inr w ↦ elim (added_or_stood c.names name (File (length c.bodies) t) m (File b v) k) [
        | inl x ↦ absurd (let same : length c.bodies ≡ b = same_file _ _ _ _ x.1 in omega (arith, sound.bodies_there n b u w))
        | inr x ↦ sound.one_name n m b u v w x
      ]
    ];
  }

  -- with a link or a folder
  pub sound_with_other : (entry : Entry) → IsLinkOrFolder (Some entry) → IsSound (record c { there = true; names = map.insert c.names name entry })
  sound_with_other entry other = record {
    absent = λ no n. absurd (let both : true ≡ false = no in cc);
    bodies_there = λ n b u h. elim (added_or_stood c.names name entry n (File b u) h) [
      | inl w ↦ absurd (is_no_file entry b u other w.1)
      | inr k ↦ sound.bodies_there n b u k
    ];
    one_name = λ n m b u v h k. elim (added_or_stood c.names name entry n (File b u) h) [
      | inl w ↦ absurd (is_no_file entry b u other w.1)
      | inr w ↦ elim (added_or_stood c.names name entry m (File b v) k) [
        | inl x ↦ absurd (is_no_file entry b v other x.1)
        | inr x ↦ sound.one_name n m b u v w x
      ]
    ];
  }

  -- without a name
  pub sound_without : IsSound (record c { names = map.remove c.names name })
  sound_without = record {
    absent = λ no n. elim (removals c.names name n) [
      | inl w ↦ ap (λ (o : Option Entry). is_some o) w.1
      | inr w ↦ ap (λ (o : Option Entry). is_some o) w.1 ∙ sound.absent no n
    ];
    bodies_there = λ n b u h. sound.bodies_there n b u (stood_before c.names name n (File b u) h);
    one_name = λ n m b u v h k. sound.one_name n m b u v (stood_before c.names name n (File b u) h) (stood_before c.names name m (File b v) k);
  }
