-- Writes that a writer was asked for, one after another.
use Rattle.std.proofs.Common.{◌≡◌, ℕ, List, [], ◌∷◌, ◌++◌, Option, ap, subst, sym, refl, ◌∙◌}
use Rattle.std.specs.Prelude.{None, Some}
use Rattle.std.specs.Option.{option_map, option_or}
use Rattle.std.specs.IoError.{error_kind}
use Rattle.std.specs.declared.io.Error.{Error}
use Rattle.std.specs.declared.io.ErrorKind.{ErrorKind}
use Rattle.appender_worker.specs.Batch.{KeepsFirstFault}
use Rattle.appender_worker.specs.Parts.{Part}
use Rattle.appender_worker.specs.Tries.{WriteTry, write_try, reported_kind, first_fault, TriesWrites, FailWithin}

-- first these, and then those
pub asked_join : {W : Type 0} (tries : W → List ℕ → ℕ → Option ErrorKind → W → Type 0) (old : W) (ts us : List WriteTry) (mid new : W) → TriesWrites tries old ts mid → TriesWrites tries mid us new → TriesWrites tries old (ts ++ us) new
asked_join tries old [] us mid new a b = subst (λ w. TriesWrites tries w us new) (sym a) b
asked_join tries old (t ∷ ts) us mid new a b = (a.0, a.1, asked_join tries a.0 ts us mid new a.2 b)

pub asked_one : {W : Type 0} (tries : W → List ℕ → ℕ → Option ErrorKind → W → Type 0) (old : W) (bytes : List ℕ) (n : ℕ) (fault : Option ErrorKind) (new : W) → tries old bytes n fault new → TriesWrites tries old (write_try bytes n fault ∷ []) new
asked_one tries old bytes n fault new h = (new, h, refl)

pub fail_join : (ts us : List WriteTry) (ps qs : List Part) → FailWithin ts ps → FailWithin us qs → FailWithin (ts ++ us) (ps ++ qs)
fail_join [] us [] qs a b = b
fail_join [] us (p ∷ ps) qs a b = absurd a
fail_join (t ∷ ts) us [] qs a b = absurd a
fail_join (t ∷ ts) us (p ∷ ps) qs a b = (a.0, fail_join ts us ps qs a.1 b)

pub or_none : {A : Type 0} (a : Option A) → option_or a None ≡ a
or_none None = refl
or_none (Some x) = refl

or_join : {A : Type 0} (a b d : Option A) → option_or (option_or a b) d ≡ option_or a (option_or b d)
or_join None b d = refl
or_join (Some x) b d = refl

map_or : (a b : Option Error) → option_map error_kind (option_or a b) ≡ option_or (option_map error_kind a) (option_map error_kind b)
map_or None b = refl
map_or (Some e) b = refl

-- the first fault of these writes and then those
pub first_join : (ts us : List WriteTry) → first_fault (ts ++ us) ≡ option_or (first_fault ts) (first_fault us)
first_join [] us = refl
first_join (t ∷ ts) us =
    ap (λ o. option_or (option_map reported_kind t.fault) o) (first_join ts us) ∙ sym (or_join (option_map reported_kind t.fault) (first_fault ts) (first_fault us))

-- .. and then this one
pub first_push : (ts : List WriteTry) (bytes : List ℕ) (n : ℕ) (fault : Option ErrorKind) → first_fault (ts ++ write_try bytes n fault ∷ []) ≡ option_or (first_fault ts) (option_map reported_kind fault)
first_push ts bytes n fault =
    first_join ts (write_try bytes n fault ∷ []) ∙ ap (λ o. option_or (first_fault ts) o) (or_none (option_map reported_kind fault))

pub keeps_join : (ts us : List WriteTry) (old mid new : Option Error) → KeepsFirstFault ts old mid → KeepsFirstFault us mid new → KeepsFirstFault (ts ++ us) old new
keeps_join ts us old mid new a b = record {
  later = option_or a.later b.later;
  kept = b.kept ∙ ap (λ o. option_or o b.later) a.kept ∙ or_join old a.later b.later;
  kind = map_or a.later b.later ∙ ap (λ o. option_or o (option_map error_kind b.later)) a.kind ∙ ap (λ o. option_or (first_fault ts) o) b.kind
      ∙ sym (first_join ts us);
}

-- writes without a fault
pub keeps_same : (ts : List WriteTry) (old new : Option Error) → first_fault ts ≡ None → new ≡ old → KeepsFirstFault ts old new
keeps_same ts old new none same = record { later = None; kept = same ∙ sym (or_none old); kind = sym none }
