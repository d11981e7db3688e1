-- What a worker took and wrote so far, where it may have taken more than it has passed on.
use Rattle.std.proofs.Common.{◌≡◌, ℕ, ◌+◌, List, [], ◌∷◌, ◌++◌, Bool, true, false, ◌==◌, length, drop, Option, Some, None, sym, refl, ◌∙◌, subst}
use Rattle.std.specs.Prelude.{if◌then◌else◌, nat_le, nat_lt, slice_get, Result, Vec}
use Rattle.std.specs.declared.alloc.Global.{Global}
use Rattle.std.specs.Io.KnownBytes.{Keeps}
use Rattle.std.specs.declared.io.Error.{Error}
use Rattle.appender_queue.specs.Queue.{saturating_next}
use Rattle.appender_queue.specs.declared.queue.Taken.{Taken}
use Rattle.appender_queue.specs.declared.queue.Taken.TheVariants.{Line, Shutdown, Gone, Empty}
use Rattle.appender_worker.specs.Core.{Core, Taking, Writing, Flushing, Ending, Over, Answer, Wrote, Interrupted, Failed, Line as FoundLine, is_taking, is_writing, is_flushing, after_took, after_wrote, after_flushed}
use Rattle.appender_worker.specs.CoreReplies.{found_in, answer_of}
use Rattle.appender_worker.specs.Runs.{WritesOnce, is_waiting}
use Rattle.appender_non_blocking.specs.Inside.Hand.{OnlyLines, Ahead, TakesAhead}
use Rattle.appender_non_blocking.specs.Inside.Served.{Serves}
use Rattle.appender_non_blocking.proofs.Serving.{Serving, may_take_now, serving_starts, serving_took, serving_wrote, serving_flushed, serving_kept, serving_ends}

-- whether the end was passed on
abbrev pub is_done : Core → Bool
is_done (Ending n) = true
is_done Over = true
is_done core = false

module _ {Pass : Type 0} (takes : Pass → List ℕ → Pass → Type 0) (closes : Pass → Pass → Type 0) (may has_ended : Pass → Type 0) where
  -- one more take, after lines
  pub ahead_line : (hand : List Taken) (ticket : ℕ) (line : Vec ℕ Global) (first last next : Pass) → OnlyLines hand → Ahead takes closes may has_ended hand first last
      → may next × takes last line.items next → Ahead takes closes may has_ended (hand ++ Line ticket line ∷ []) first next
  ahead_line [] ticket line first last next are a t = (next, (t.0, subst (λ p. takes p line.items next) a t.1), refl)
  ahead_line (Line n l ∷ rest) ticket line first last next are a t = (a.0, a.1, ahead_line rest ticket line a.0 last next are a.2 t)
  ahead_line (Shutdown ∷ rest) ticket line first last next are a t = absurd are
  ahead_line (Gone ∷ rest) ticket line first last next are a t = absurd are
  ahead_line (Empty ∷ rest) ticket line first last next are a t = absurd are

  -- the end, after lines
  pub ahead_shutdown : (hand : List Taken) (first last next : Pass) → OnlyLines hand → Ahead takes closes may has_ended hand first last
      → has_ended next × closes last next → Ahead takes closes may has_ended (hand ++ Shutdown ∷ []) first next
  ahead_shutdown [] first last next are a t = (refl, (t.0, subst (λ p. closes p next) a t.1))
  ahead_shutdown (Line n l ∷ rest) first last next are a t = (a.0, a.1, ahead_shutdown rest a.0 last next are a.2 t)
  ahead_shutdown (Shutdown ∷ rest) first last next are a t = absurd are
  ahead_shutdown (Gone ∷ rest) first last next are a t = absurd are
  ahead_shutdown (Empty ∷ rest) first last next are a t = absurd are

  pub ahead_gone : (hand : List Taken) (first last next : Pass) → OnlyLines hand → Ahead takes closes may has_ended hand first last
      → has_ended next × closes last next → Ahead takes closes may has_ended (hand ++ Gone ∷ []) first next
  ahead_gone [] first last next are a t = (refl, (t.0, subst (λ p. closes p next) a t.1))
  ahead_gone (Line n l ∷ rest) first last next are a t = (a.0, a.1, ahead_gone rest a.0 last next are a.2 t)
  ahead_gone (Shutdown ∷ rest) first last next are a t = absurd are
  ahead_gone (Gone ∷ rest) first last next are a t = absurd are
  ahead_gone (Empty ∷ rest) first last next are a t = absurd are

  -- the first one of the hand
  first_of : (taken : Taken) (rest : List Taken) (first last : Pass) → Ahead takes closes may has_ended (taken ∷ rest) first last
      → TakesAhead takes closes may has_ended taken rest first last
  first_of (Line n l) rest first last a = a
  first_of Shutdown rest first last a = a
  first_of Gone rest first last a = a
  first_of Empty rest first last a = absurd a

  pub popped : (hand : List Taken) (found : Option Taken) (taken : Taken) (first last : Pass) → found ≡ slice_get hand 0 → found ≡ Some taken
      → Ahead takes closes may has_ended hand first last → TakesAhead takes closes may has_ended taken (drop 1 hand) first last
  popped [] found taken first last is some a = cc
  popped (t ∷ rest) found taken first last is some a =
      let same : t ≡ taken = cc in
      subst (λ x. TakesAhead takes closes may has_ended x rest first last) same (first_of t rest first last a)

  -- a take under the lock, with nothing in hand
  pub takes_line_more : (hand rest : List Taken) (ticket : ℕ) (line : Vec ℕ Global) (passed pass mid last : Pass) → hand ≡ [] → Ahead takes closes may has_ended hand passed pass
      → takes pass line.items mid → may mid → Ahead takes closes may has_ended rest mid last → TakesAhead takes closes may has_ended (Line ticket line) rest passed last
  takes_line_more hand rest ticket line passed pass mid last none a t m more =
      let same : pass ≡ passed = subst (λ t. Ahead takes closes may has_ended t passed pass) none a in
      (mid, (m, subst (λ p. takes p line.items mid) same t), more)

  pub takes_shutdown : (hand rest : List Taken) (passed pass last : Pass) → hand ≡ [] → rest ≡ [] → Ahead takes closes may has_ended hand passed pass
      → has_ended last → closes pass last → TakesAhead takes closes may has_ended Shutdown rest passed last
  takes_shutdown hand rest passed pass last none left a e c =
      let same : pass ≡ passed = subst (λ t. Ahead takes closes may has_ended t passed pass) none a in
      (left, (e, subst (λ p. closes p last) same c))

  pub takes_gone : (hand rest : List Taken) (passed pass last : Pass) → hand ≡ [] → rest ≡ [] → Ahead takes closes may has_ended hand passed pass
      → has_ended last → closes pass last → TakesAhead takes closes may has_ended Gone rest passed last
  takes_gone hand rest passed pass last none left a e c =
      let same : pass ≡ passed = subst (λ t. Ahead takes closes may has_ended t passed pass) none a in
      (left, (e, subst (λ p. closes p last) same c))

  pub takes_none : (hand rest : List Taken) (passed pass last : Pass) → hand ≡ [] → rest ≡ [] → Ahead takes closes may has_ended hand passed pass
      → may last → last ≡ pass → TakesAhead takes closes may has_ended Empty rest passed last
  takes_none hand rest passed pass last none left a m e =
      let same : pass ≡ passed = subst (λ t. Ahead takes closes may has_ended t passed pass) none a in
      (left, (m, e ∙ same))

  pub ahead_none : (hand : List Taken) (pass : Pass) → hand ≡ [] → Ahead takes closes may has_ended hand pass pass
  ahead_none hand pass none = subst (λ t. Ahead takes closes may has_ended t pass pass) (sym none) refl

pub lines_more : (hand : List Taken) (ticket : ℕ) (line : Vec ℕ Global) → OnlyLines hand → OnlyLines (hand ++ Line ticket line ∷ [])
lines_more [] ticket line are = tt
lines_more (Line n l ∷ rest) ticket line are = lines_more rest ticket line are
lines_more (Shutdown ∷ rest) ticket line are = absurd are
lines_more (Gone ∷ rest) ticket line are = absurd are
lines_more (Empty ∷ rest) ticket line are = absurd are

pub none_in_hand : (hand : List Taken) (found : Option Taken) → found ≡ slice_get hand 0 → found ≡ None → hand ≡ []
none_in_hand [] found is none = refl
none_in_hand (t ∷ rest) found is none = cc

pub none_left : (hand : List Taken) (found : Option Taken) → found ≡ slice_get hand 0 → found ≡ None → drop 1 hand ≡ []
none_left [] found is none = refl
none_left (t ∷ rest) found is none = cc

pub lines_none : (hand : List Taken) → hand ≡ [] → OnlyLines hand
lines_none hand none = subst OnlyLines (sym none) tt

module _ {Pass : Type 0} (takes : Pass → List ℕ → Pass → Type 0) (closes : Pass → Pass → Type 0) (may has_ended : Pass → Type 0) (first : Pass) (start : Option (List ℕ)) where
  -- up to some shares the lines that were taken were passed on, and from there on the hand was taken; once the end was
  -- passed on, nothing is in hand
  pub record Holding (pass : Pass) (now : Option (List ℕ)) (core : Core) (given_up : ℕ) (hand : List Taken) : Type 0 where
    pub passed : Pass
    pub serving : Serving takes closes may has_ended first start passed now core given_up
    pub ahead : Ahead takes closes may has_ended hand passed pass
    pub none : is_done core ≡ true → hand ≡ []

  pub holding_starts : may first → Holding first start (Taking true) 0 []
  holding_starts h = record { passed = first; serving = serving_starts takes closes may has_ended first start h; ahead = refl; none = λ is. refl }

  -- with nothing in hand
  pub may_take_more : (pass : Pass) (now : Option (List ℕ)) (core : Core) (given_up : ℕ) (hand : List Taken) → is_taking core ≡ true → hand ≡ []
      → Holding pass now core given_up hand → may pass
  may_take_more pass now core given_up hand is none h =
      let same : pass ≡ h.passed = subst (λ t. Ahead takes closes may has_ended t h.passed pass) none h.ahead in
      subst may (sym same) (may_take_now takes closes may has_ended first start h.passed now core given_up is h.serving)

  still : (waits : Bool) (line : List ℕ) → is_done (after_took (Taking waits) (FoundLine line)) ≡ false
  still waits [] = refl
  still waits (byte ∷ bytes) = refl

  pub holding_took : (passed next : Pass) (known : Option (List ℕ)) (core : Core) (given_up : ℕ) (taken : Taken) (rest : List Taken) → is_taking core ≡ true
      → TakesAhead takes closes may has_ended taken rest passed next → Serving takes closes may has_ended first start passed known core given_up
      → Holding next known (after_took core (found_in taken)) given_up rest
  holding_took passed next known (Taking waits) given_up (Line ticket l) rest is a s = record {
    passed = a.0;
    serving = serving_took takes closes may has_ended first start passed a.0 known (Taking waits) given_up (Line ticket l) refl a.1 tt tt s;
    ahead = a.2;
    none = λ is. let no = still waits l.items in cc;
  }
  holding_took passed next known (Taking waits) given_up Shutdown rest is a s = record {
    passed = next;
    serving = serving_took takes closes may has_ended first start passed next known (Taking waits) given_up Shutdown refl tt a.1 tt s;
    ahead = subst (λ t. Ahead takes closes may has_ended t next next) (sym a.0) refl;
    none = λ is. a.0;
  }
  holding_took passed next known (Taking waits) given_up Gone rest is a s = record {
    passed = next;
    serving = serving_took takes closes may has_ended first start passed next known (Taking waits) given_up Gone refl tt a.1 tt s;
    ahead = subst (λ t. Ahead takes closes may has_ended t next next) (sym a.0) refl;
    none = λ is. a.0;
  }
  holding_took passed next known (Taking true) given_up Empty rest is a s = record {
    passed = next;
    serving = serving_took takes closes may has_ended first start passed next known (Taking true) given_up Empty refl tt tt a.1 s;
    ahead = subst (λ t. Ahead takes closes may has_ended t next next) (sym a.0) refl;
    none = λ is. a.0;
  }
  holding_took passed next known (Taking false) given_up Empty rest is a s = record {
    passed = next;
    serving = serving_took takes closes may has_ended first start passed next known (Taking false) given_up Empty refl tt tt a.1 s;
    ahead = subst (λ t. Ahead takes closes may has_ended t next next) (sym a.0) refl;
    none = λ is. a.0;
  }
  holding_took passed next known (Writing left repeats) given_up taken rest is a s = cc
  holding_took passed next known Flushing given_up taken rest is a s = cc
  holding_took passed next known (Ending n) given_up taken rest is a s = cc
  holding_took passed next known Over given_up taken rest is a s = cc

  -- a flush between two takes
  pub holding_kept : (pass : Pass) (known kept : Option (List ℕ)) (core : Core) (given_up : ℕ) (hand : List Taken) → is_taking core ≡ true → Keeps known kept
      → Holding pass known core given_up hand → Holding pass kept core given_up hand
  holding_kept pass known kept core given_up hand is keeps h = record {
    passed = h.passed;
    serving = serving_kept takes closes may has_ended first start h.passed known kept core given_up is keeps h.serving;
    ahead = h.ahead;
    none = h.none;
  }

  -- a take: the first one in hand, or one from the queue
  pub holding_next : (pass next : Pass) (known : Option (List ℕ)) (core : Core) (given_up : ℕ) (hand rest : List Taken) (taken : Taken) → is_taking core ≡ true
      → ((passed : Pass) → Ahead takes closes may has_ended hand passed pass → TakesAhead takes closes may has_ended taken rest passed next)
      → Holding pass known core given_up hand → Holding next known (after_took core (found_in taken)) given_up rest
  holding_next pass next known core given_up hand rest taken is more h = holding_took h.passed next known core given_up taken rest is (more h.passed h.ahead) h.serving

  by_test : (two : Bool) (x y : Core) → is_done x ≡ false → is_done y ≡ false → is_done (if two then x else y) ≡ false
  by_test true x y p q = p
  by_test false x y p q = q

  not_done : (core : Core) (answer : Answer) → is_writing core ≡ true → is_done (after_wrote core answer) ≡ false
  not_done (Writing rest repeats) (Wrote n) is =
      by_test (n == 0) (Taking true) (if nat_le (length rest) n then Taking false else Writing (drop n rest) repeats) refl
      (by_test (nat_le (length rest) n) (Taking false) (Writing (drop n rest) repeats) refl refl)
  not_done (Writing rest repeats) Interrupted is = by_test (nat_lt repeats 100) (Writing rest (repeats + 1)) (Taking true) refl refl
  not_done (Writing rest repeats) Failed is = refl
  not_done (Taking waits) answer is = cc
  not_done Flushing answer is = cc
  not_done (Ending n) answer is = cc
  not_done Over answer is = cc

  pub holding_wrote : {W : Type 0} (contents : W → Option (List ℕ)) (writes : W → List ℕ → Result ℕ Error → W → Type 0) (before after : W) (old new : Core) (pass : Pass) (given_up counted : ℕ) (hand : List Taken)
      → is_writing old ≡ true → WritesOnce contents writes before after old new → counted ≡ (if is_waiting new then saturating_next given_up else given_up)
      → Holding pass (contents before) old given_up hand → Holding pass (contents after) new counted hand
  holding_wrote contents writes before after old new pass given_up counted hand is w e h = record {
    passed = h.passed;
    serving = serving_wrote takes closes may has_ended first start contents writes before after old new h.passed given_up counted is w e h.serving;
    ahead = h.ahead;
    none = λ done. let is_now = subst (λ c. is_done c ≡ true) w.next done in let no = not_done old (answer_of w.answer) is in cc;
  }

  flushed_done : (core : Core) → is_flushing core ≡ true → is_done (after_flushed core) ≡ true → is_done core ≡ true
  flushed_done Flushing is done = cc
  flushed_done (Ending n) is done = refl
  flushed_done (Taking waits) is done = cc
  flushed_done (Writing rest repeats) is done = cc
  flushed_done Over is done = cc

  pub holding_flushed : (pass : Pass) (known kept : Option (List ℕ)) (core : Core) (given_up : ℕ) (hand : List Taken) → is_flushing core ≡ true → Keeps known kept
      → Holding pass known core given_up hand → Holding pass kept (after_flushed core) given_up hand
  holding_flushed pass known kept core given_up hand is keeps h = record {
    passed = h.passed;
    serving = serving_flushed takes closes may has_ended first start h.passed known kept core given_up is keeps h.serving;
    ahead = h.ahead;
    none = λ done. h.none (flushed_done core is done);
  }

  pub holding_ends : {Done : Type 0} (returns : Pass → Done → Type 0) (pass : Pass) (done : Done) (known : Option (List ℕ)) (given_up : ℕ) (hand : List Taken) → returns pass done
      → Holding pass known Over given_up hand → Serves takes closes has_ended returns first done start known given_up
  holding_ends returns pass done known given_up hand r h =
      let same : pass ≡ h.passed = subst (λ t. Ahead takes closes may has_ended t h.passed pass) (h.none refl) h.ahead in
      serving_ends takes closes may has_ended first start returns h.passed done known given_up (subst (λ p. returns p done) same r) h.serving
