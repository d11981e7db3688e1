-- How files end after an append.
use Rattle.std.proofs.Common.{◌≡◌, ◌⊎◌, ◌∙◌, inl, inr, refl, sym, ap, subst, arith, ℕ, zero, suc, ◌+◌, ◌-◌, ◌<◌, Bool, not, true, false, List, [], ◌∷◌, ◌++◌, length, take, Result, get_or, set, length-append}
use Rattle.std.proofs.lemmas.List.{get_or-append-add}
use Rattle.std.proofs.lemmas.Bool.Decides.{nat_tests}
use Rattle.std.specs.Io.BufRead.{ends_with_byte}
use Rattle.std.specs.Prelude.{IsTrue}
use Rattle.std.specs.declared.io.Error.{Error}
use Rattle.appender_store.specs.Content.{Content, body_at, after_append}
use Rattle.appender_store.specs.declared.store.Folder.{Ghosts}
use Rattle.appender_store.proofs.Appends.{after_append_nothing}
use Rattle.appender_rolling.specs.Appender.{Appending, AppendsNow}
use Rattle.appender_rolling.specs.Roller.{written_count}
use Rattle.rolltee_core.specs.Log.{EndsLine, EndsWhole, cut_after}

-- bytes that end with a newline do so after other bytes
pub ends_after : (xs bytes : List ℕ) → ends_with_byte 10 bytes ≡ true → ends_with_byte 10 (xs ++ bytes) ≡ true
ends_after xs [] ends = absurd (let never : false ≡ true = ends in cc)
ends_after xs (y ∷ ys) ends =
    let place : length (xs ++ y ∷ ys) - 1 ≡ length xs + (length (y ∷ ys) - 1) = omega (arith, length-append xs (y ∷ ys)) in
    let same : get_or (xs ++ y ∷ ys) (length (xs ++ y ∷ ys) - 1) 0 ≡ get_or (y ∷ ys) (length (y ∷ ys) - 1) 0
    = ap (λ k. get_or (xs ++ y ∷ ys) k 0) place ∙ get_or-append-add xs (y ∷ ys) (length (y ∷ ys) - 1) 0 in
    let some : 0 < length (xs ++ y ∷ ys) = omega (arith, length-append xs (y ∷ ys)) in
    grind (arith, nat_tests)

ends_set : (bodies : List (List ℕ)) (b : ℕ) (bytes : List ℕ) → ends_with_byte 10 bytes ≡ true
    → EndsLine (get_or (set bodies b (get_or bodies b [] ++ bytes)) b [])
ends_set [] zero bytes ends = inl refl
ends_set [] (suc b) bytes ends = inl refl
ends_set (x ∷ xs) zero bytes ends = inr (ends_after x bytes ends)
ends_set (x ∷ xs) (suc b) bytes ends = ends_set xs b bytes ends

-- a body to which bytes with a newline at their end were added
ends_appended : (c : Content) (b : ℕ) (bytes : List ℕ) → ends_with_byte 10 bytes ≡ true → EndsLine (body_at (after_append c b bytes) b)
ends_appended c b bytes ends = ends_set c.bodies b bytes ends

module _ {S F C : Type 0} (kind : Ghosts S F) where
  -- an effect that changes neither the content nor the open file
  pub whole_same : (old new : Appending S F C) → kind.content new.roller.folder ≡ kind.content old.roller.folder
      → kind.body new.roller.file ≡ kind.body old.roller.file → EndsWhole kind old → EndsWhole kind new
  whole_same old new content file whole is_known =
      subst (λ c. EndsLine (body_at c (kind.body new.roller.file))) (sym content)
      (subst (λ b. EndsLine (body_at (kind.content old.roller.folder) b)) (sym file) (whole is_known))

  -- bytes with a newline at their end were added
  pub whole_after : (bytes : List ℕ) (old new : Appending S F C)
      → (IsTrue kind.is_known → kind.content new.roller.folder ≡ after_append (kind.content old.roller.folder) (kind.body old.roller.file) bytes)
      → kind.body new.roller.file ≡ kind.body old.roller.file → ends_with_byte 10 bytes ≡ true → EndsWhole kind new
  whole_after bytes old new content file ends is_known =
      subst (λ c. EndsLine (body_at c (kind.body new.roller.file))) (sym (content is_known))
      (subst (λ b. EndsLine (body_at (after_append (kind.content old.roller.folder) (kind.body old.roller.file) bytes) b)) (sym file)
      (ends_appended (kind.content old.roller.folder) (kind.body old.roller.file) bytes ends))

  -- none were added
  pub whole_after_none : (bytes : List ℕ) (old new : Appending S F C)
      → (IsTrue kind.is_known → kind.content new.roller.folder ≡ after_append (kind.content old.roller.folder) (kind.body old.roller.file) bytes)
      → kind.body new.roller.file ≡ kind.body old.roller.file → bytes ≡ [] → EndsWhole kind old → EndsWhole kind new
  whole_after_none bytes old new content file none whole is_known =
      let same = content is_known
      ∙ ap (λ xs. after_append (kind.content old.roller.folder) (kind.body old.roller.file) xs) none
      ∙ after_append_nothing (kind.content old.roller.folder) (kind.body old.roller.file) in
      whole_same old new same file whole is_known

  -- Bytes were added by one append, and none of them, or a newline at their end.
  pub whole_appended : (bytes added : List ℕ) (answer : Result ℕ Error) (old new : Appending S F C) → AppendsNow kind bytes answer old new
      → added ≡ take (written_count answer) bytes → (EndsWhole kind old × (added ≡ [])) ⊎ (ends_with_byte 10 added ≡ true) → EndsWhole kind new
  whole_appended bytes added answer old new appends is ends =
      let content : IsTrue kind.is_known → kind.content new.roller.folder ≡ after_append (kind.content old.roller.folder) (kind.body old.roller.file) added
      = λ is_known. appends.writes.content is_known ∙ ap (λ xs. after_append (kind.content old.roller.folder) (kind.body old.roller.file) xs) (sym is) in
      elim ends [
        | inl none ↦ whole_after_none added old new content appends.writes.stays.file none.1 none.0
        | inr some ↦ whole_after added old new content appends.writes.stays.file some
      ]

-- a Boolean whose negation is false is true
pub is_so : (b : Bool) → not b ≡ false → b ≡ true
is_so true e = refl
is_so false e = sym e

-- What ends a file that ends with no part of a line, after bytes were added.
pub added_whole : (cut : Bool) (added : List ℕ) → cut_after cut added ≡ false → ((cut ≡ false) × (added ≡ [])) ⊎ (ends_with_byte 10 added ≡ true)
added_whole cut [] whole = inl (whole, refl)
added_whole cut (byte ∷ bytes) whole = inr (is_so (ends_with_byte 10 (byte ∷ bytes)) whole)
