-- A record of which nothing or a part was written.
use Rattle.std.proofs.Common.{inl, inr, ◌≡◌, ◌≢◌, ◌∙◌, ℕ, suc, Bool, true, false, lt-ltb, List, [], Option, None, Some, refl, arith, append-nil}
use Rattle.std.specs.Prelude.{Result, Ok, Err, OnOk, OnErr, IfErr, zero}
use Rattle.std.specs.Io.KnownBytes.{Appends, Keeps}
use Rattle.std.specs.IoError.{error_kind}
use Rattle.std.specs.declared.io.Error.{Error}
use Rattle.std.specs.declared.io.ErrorKind.TheVariants.{WriteZero}
use Rattle.appender_log.specs.Written.{AppendsLine, AppendsLess, WritesPart}

stays : (known : Option (List ℕ)) → Keeps known known
stays None = tt
stays (Some xs) = refl

grown_is_kept : (old new : Option (List ℕ)) → Appends old new [] → Keeps old new
grown_is_kept None new grown = tt
grown_is_kept (Some xs) None grown = absurd grown
grown_is_kept (Some xs) (Some ys) grown = grown ∙ append-nil xs

pub whole : {T E : Type 0} (P : List ℕ → Type 0) (r : Result T E) (old new : Option (List ℕ)) (line : List ℕ) (after : Bool)
    → P line → OnOk r (after ≡ false × Appends old new line) → OnOk r (AppendsLine P old new)
whole P (Ok x) old new line after is (_, appends) = (line, is, appends)
whole P (Err e) old new line after is ok = tt

part : (P : List ℕ → Type 0) (old new : Option (List ℕ)) (line : List ℕ) (after : Bool) → P line → WritesPart line false after old new → AppendsLess P old new
part P old new line after is (inl (keeps, _)) = inl keeps
part P old new line after is (inr (n, less, appends, _)) = inr (line, is, n, less, appends)

pub beginning : {T E : Type 0} (P : List ℕ → Type 0) (r : Result T E) (old new : Option (List ℕ)) (line : List ℕ) (after : Bool)
    → P line → OnErr r (WritesPart line false after old new) → OnErr r (AppendsLess P old new)
beginning P (Ok x) old new line after is err = tt
beginning P (Err e) old new line after is err = part P old new line after is err

pub on_unwritten : {T E : Type 0} (P : List ℕ → Type 0) (r : Result T E) (old : Option (List ℕ)) → OnErr r (AppendsLess P old old)
on_unwritten P (Ok x) old = tt
on_unwritten P (Err e) old = inl (stays old)

kept : (old new : Option (List ℕ)) (line : List ℕ) (after : Bool)
    → WritesPart line false after old new → (after ≡ true → false ≡ true) → Keeps old new
kept old new line after (inl (keeps, _)) _ = keeps
kept old new line after (inr (zero, less, appends, _)) _ = grown_is_kept old new appends
kept old new line after (inr (suc n, less, appends, cut)) old_cut =
    let both : false ≡ true = old_cut (cut ∙ lt-ltb 0 (suc n) (omega arith)) in cc

pub nothing : {T : Type 0} (r : Result T Error) (old new : Option (List ℕ)) (line : List ℕ) (after : Bool)
    → OnErr r (WritesPart line false after old new)
    → IfErr r (λ e. error_kind e ≢ WriteZero → after ≡ true → false ≡ true)
    → IfErr r (λ e. error_kind e ≢ WriteZero → Keeps old new)
nothing (Ok x) old new line after writes cut = tt
nothing (Err e) old new line after writes cut = λ other. kept old new line after writes (cut other)
