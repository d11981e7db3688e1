-- What was written to a body, by the name that leads to it.
use Rattle.std.proofs.Common.{◌≡◌, ℕ, ℤ, Bool, true, false, List, [], ◌∷◌, ◌++◌, map, Option, None, Some, is_some, refl, ap, sym, ◌∙◌, subst, arith}
use Rattle.std.specs.Prelude.{if◌then◌else◌, ◌==◌}
use Rattle.std.specs.Option.{option_map_or}
use Rattle.std.specs.Str.{bytes_eq}
use Rattle.std.specs.FinMap as fin
use Rattle.std.proofs.lemmas.Slice.Eq.{bytes_eq-Decides}
use Rattle.appender_store.specs.Content.{Content, File}
use Rattle.appender_rolling.specs.Config.{Config}
use Rattle.appender_rolling.specs.Opening.{file_name_of}
use Rattle.appender_rolling.specs.declared.rolling.setup.Stamp.{Stamp}
use Rattle.appender_replay.specs.Run.{Attempt, WrittenAttempt, try_of, open_body, is_number, bytes_to_body, EachOf, HasItsName, NamesItsBody}
use Rattle.appender_replay.specs.Headline.{bytes_taken, open_stamp, written_to_name}

module _ (c : Config) (last : Content) (name : List ℕ) (b : ℕ) (t : Option ℤ) (at : fin.get last.names name ≡ Some (File b t)) where
  -- the attempt that opened the body has that name, and no other
  is_named : (a : Attempt) (x : ℕ) → a.body ≡ Some x → HasItsName c last a → NamesItsBody c last a → (x == b) ≡ bytes_eq (file_name_of c a.stamp) name
  is_named a x is own stands = by (x == b) refl
    where
      other : (d : Bool) → bytes_eq (file_name_of c a.stamp) name ≡ d → (x == b) ≡ false → (x == b) ≡ d
      other true e differs =
          let same : file_name_of c a.stamp ≡ name = (bytes_eq-Decides (file_name_of c a.stamp) name).0 e in
          let it : b ≡ x = stands x is b t (subst (λ (n : List ℕ). fin.get last.names n ≡ Some (File b t)) (sym same) at) in
          absurd (let equal : (x == b) ≡ true = grind arith in let both : true ≡ false = sym equal ∙ differs in cc)
      other false e differs = differs

      by : (d : Bool) → (x == b) ≡ d → (x == b) ≡ bytes_eq (file_name_of c a.stamp) name
      by true e =
          let it : x ≡ b = grind arith in
          let same : name ≡ file_name_of c a.stamp = own x is name t (subst (λ (y : ℕ). fin.get last.names name ≡ Some (File y t)) (sym it) at) in
          e ∙ sym ((bytes_eq-Decides (file_name_of c a.stamp) name).1 (sym same))
      by false e = other (bytes_eq (file_name_of c a.stamp) name) refl e

  abbrev has_name : Option Stamp → Bool
  has_name o = option_map_or (λ (s : Stamp). bytes_eq (file_name_of c s) name) o false

  open_named : (attempts : List WrittenAttempt) → EachOf (HasItsName c last) attempts → EachOf (NamesItsBody c last) attempts → is_number b (open_body attempts) ≡ has_name (open_stamp (map try_of attempts))
  open_named [] own stands = refl
  open_named ((a, writes) ∷ earlier) own stands = by a.body refl (open_named earlier own.1 stands.1)
    where
      by : (o : Option ℕ) → a.body ≡ o → is_number b (open_body earlier) ≡ has_name (open_stamp (map try_of earlier))
          → is_number b (if is_some o then o else open_body earlier) ≡ has_name (if is_some o then Some a.stamp else open_stamp (map try_of earlier))
      by None is so = so
      by (Some x) is so = is_named a x is own.0 stands.0

  -- to the body that has the name, what was written while the open file had it
  pub text_same : (attempts : List WrittenAttempt) → EachOf (HasItsName c last) attempts → EachOf (NamesItsBody c last) attempts → bytes_to_body b attempts ≡ written_to_name c name (map try_of attempts)
  text_same [] own stands = refl
  text_same ((a, writes) ∷ earlier) own stands =
      ap (λ (xs : List ℕ). xs ++ (if is_number b (open_body ((a, writes) ∷ earlier)) then bytes_taken writes else [])) (text_same earlier own.1 stands.1)
      ∙ ap (λ (x : Bool). written_to_name c name (map try_of earlier) ++ (if x then bytes_taken writes else [])) (open_named ((a, writes) ∷ earlier) own stands)
