-- The queue and the worker of a run are those of its account, and each reply is the one that the account demands.
use Rattle.std.proofs.Common.{◌≡◌, ◌≢◌, ◌⊎◌, ℕ, ℤ, ◌+◌, ◌-◌, ◌^◌, ◌<◌, ◌≤◌, nat_lt, nat_le, Bool, true, false, not, ◌&&◌, List, [], ◌∷◌, ◌++◌, length, drop, get_or, min, Option, None, Some, is_some, Result, Ok, Err, inl, inr, refl, ap, sym, ◌∙◌, subst, arith, length-append, length-drop, Vec}
use Rattle.std.specs.Prelude.{if◌then◌else◌, ◌==◌, ◌↔◌, unwrap_or, slice_index_or}
use Rattle.std.specs.declared.alloc.Global.{Global}
use Rattle.std.specs.declared.io.ErrorKind.{ErrorKind}
use Rattle.std.proofs.lemmas.List.{drop-append-le, drop-drop, drop_all, get_or-drop}
use Rattle.appender_worker.specs.Core.{Core, Taking, Writing, Flushing, Ending, Over, Wrote as DidWrite, Interrupted, Failed, Line, Last, Nothing, after_took, after_wrote, most_repeats}
use Rattle.appender_worker.specs.CoreReplies.{is_interruption}
use Rattle.appender_queue.specs.Queue.{Queue, new_queue, is_open, has_room, is_sent, is_before, has_line, places_of, saturating_next, one_less, after_acceptance, after_refusal, after_shut, after_take, after_closing}
use Rattle.appender_queue.specs.QueueReplies.{shut_reply}
use Rattle.appender_queue.specs.declared.queue.Shut.{Shut as ShutReply}
use Rattle.appender_queue.specs.declared.queue.Shut.TheVariants.{Sent, Already, Full as ShutFull, Closed as ShutClosed}
use Rattle.appender_store.specs.declared.store.Folder.{Ghosts}
use Rattle.appender_rolling.specs.Config.{Config}
use Rattle.appender_rolling.specs.Roller.{Rolling, written_count}
use Rattle.appender_rolling.specs.declared.rolling.Switch.{Switch}
use Rattle.appender_rolling.specs.declared.rolling.Switch.TheVariants.{None as Stayed}
use Rattle.appender_replay.specs.Start.{Start}
use Rattle.appender_replay.specs.Replay.{LeadsTo}
use Rattle.appender_replay.specs.Record.{StepWithReply, refusals, account_queue, account_core, RollerDoes, WorkerDoes}
use Rattle.appender_replay.specs.Headline as head
use Rattle.appender_replay.specs.Headline.{RunAccount, account, account_after}
use Rattle.appender_replay.specs.Inside.Steps.{Parts, parts, OffersCopy, WorkDoes, RunStepDoes, run_offer_reply, run_take_reply, written_answer, take_finds}
use Rattle.appender_replay.specs.declared.replay.whole.Step.TheVariants.{Offer, Shut, AddSender, DropSender, Work}
use Rattle.appender_replay.specs.declared.replay.whole.Reply.{Reply}
use Rattle.appender_replay.specs.declared.replay.whole.Reply.TheVariants.{Accepted, Full, Closed, Shut as DidShut, Senders, Took, TookShutdown, TookGone, TookEmpty, Wrote, Flushed}
use Rattle.appender_replay.proofs.Runs.{count_by_kind}

-- what the worker does next, by the fields of an account
abbrev pub CoreIs : Core → List ℕ → ℕ → Bool → ℕ → Bool → Type 0
CoreIs (Taking waits) rest interrupted whole flushes closed = (rest ≡ []) × (flushes ≡ 0) × (closed ≡ false) × (waits ≡ not whole)
CoreIs (Writing left repeats) rest interrupted whole flushes closed = (rest ≡ left) × (left ≢ []) × (interrupted ≡ repeats) × (flushes ≡ 0) × (closed ≡ false)
CoreIs Flushing rest interrupted whole flushes closed = (rest ≡ []) × (flushes ≡ 1) × (closed ≡ false)
CoreIs (Ending n) rest interrupted whole flushes closed = (rest ≡ []) × (flushes ≡ n) × (closed ≡ true) × ((n ≡ 1) ⊎ (n ≡ 2))
CoreIs Over rest interrupted whole flushes closed = (rest ≡ []) × (flushes ≡ 0) × (closed ≡ true)

abbrev pub CoreOf : Core → RunAccount → Type 0
CoreOf core a = CoreIs core a.rest a.interrupted a.whole a.flushes a.closed

pub core_is : (core : Core) (a : RunAccount) → CoreOf core a → core ≡ account_core a
core_is (Taking waits) a so = rw (so.0, so.1, so.2, so.3) refl
core_is (Writing [] repeats) a so = absurd (so.1 refl)
core_is (Writing (b ∷ left) repeats) a so =
    let some : (length (b ∷ left) == 0) ≡ false = grind arith in
    rw (so.0, so.2, some) refl
core_is Flushing a so = rw (so.0, so.1, so.2) refl
core_is (Ending n) a so = elim so.3 [ inl is ↦ rw (so.0, so.1, so.2, is) refl | inr is ↦ rw (so.0, so.1, so.2, is) refl ]
core_is Over a so = rw (so.0, so.1, so.2) refl

-- Queue and worker are those of the account, which has handed no more lines than it accepted.
pub record Stands (limit : ℕ) (lossy : Bool) (past : List StepWithReply) (a : RunAccount) (q : Queue) (core : Core) : Type 0 where
  pub queue : q ≡ account_queue limit lossy (refusals past) a
  pub worker : CoreOf core a
  pub most : a.handed ≤ length a.accepted

-- ---- tests of the queue, by the account

abbrev pub finds_line : RunAccount → Bool
finds_line a = nat_lt a.handed (length a.accepted) && nat_lt a.handed (unwrap_or a.shutdown (length a.accepted))

sent_same : (o : Option ℕ) → is_sent o ≡ is_some o
sent_same None = refl
sent_same (Some n) = refl

places_same : (o : Option ℕ) → places_of o ≡ (if is_some o then 1 else 0)
places_same None = refl
places_same (Some n) = refl

twice : (b : Bool) → (b && true) ≡ (b && b)
twice true = refl
twice false = refl

before_same : (o : Option ℕ) (h n : ℕ) → (nat_lt h n && is_before o h) ≡ (nat_lt h n && nat_lt h (unwrap_or o n))
before_same None h n = twice (nat_lt h n)
before_same (Some p) h n = refl

unclosed_is : (closed fits : Bool) → (not closed && fits) ≡ true → closed ≡ false
unclosed_is true fits e = cc
unclosed_is false fits e = refl

abbrev shut_by : Bool → Bool → Bool → ShutReply
shut_by closed sent room = if closed then ShutClosed else if sent then Already else if room then Sent else ShutFull

abbrev take_by : Bool → Bool → Bool → Bool → ℕ → Reply
take_by closed line sent gone k = if closed then TookGone else if line then Took k else if sent then TookShutdown else if gone then TookGone else TookEmpty

-- a write replies a switch exactly if a file was due
abbrev pub SwitchesIfDue : Config → RunAccount → StepWithReply → Type 0
SwitchesIfDue c a (Work m, Wrote switch answer) = (switch ≡ Stayed) ↔ (head.due_file c a.files m (length a.rest) ≡ None)
SwitchesIfDue c a t = Unit {0}

-- ---- the worker

took_line : (waits : Bool) (line : List ℕ) (flushes : ℕ) (closed : Bool) → flushes ≡ 0 → closed ≡ false → CoreIs (after_took (Taking waits) (Line line)) line 0 true flushes closed
took_line waits [] flushes closed f e = (refl, f, e, refl)
took_line waits (b ∷ line) flushes closed f e = (refl, (λ is. absurd (let both : ◌≡◌ {A = List ℕ} (b ∷ line) [] = is in cc)), refl, f, e)

took_nothing : (waits whole closed : Bool) (rest : List ℕ) (interrupted : ℕ) → rest ≡ [] → closed ≡ false → waits ≡ not whole → CoreIs (after_took (Taking waits) Nothing) rest interrupted whole (if whole then 1 else 0) closed
took_nothing true true closed rest i r e is = absurd (let both : true ≡ false = is in cc)
took_nothing true false closed rest i r e is = (r, refl, e, refl)
took_nothing false true closed rest i r e is = (r, refl, e)
took_nothing false false closed rest i r e is = absurd (let both : false ≡ true = is in cc)

flush_ends : (n flushes interrupted : ℕ) (rest : List ℕ) (closed : Bool) → rest ≡ [] → closed ≡ true → flushes ≡ n → ((n ≡ 1) ⊎ (n ≡ 2)) → CoreIs (if n == 2 then Ending 1 else Over) rest interrupted false (flushes - 1) closed
flush_ends n flushes i rest closed r e f (inl is) = rw (f, is) (r, refl, e)
flush_ends n flushes i rest closed r e f (inr is) = rw (f, is) (r, refl, e, inl refl)

wrote_some : (left : List ℕ) (repeats n flushes : ℕ) (closed : Bool) → flushes ≡ 0 → closed ≡ false
    → CoreIs (after_wrote (Writing left repeats) (DidWrite n)) (if n == 0 then [] else drop n left) repeats (not (n == 0)) flushes closed
wrote_some left repeats n flushes closed none e = by (n == 0) (nat_le (length left) n) refl
  where
    by : (z full : Bool) → nat_le (length left) n ≡ full
        → CoreIs (if z then Taking true else if full then Taking false else Writing (drop n left) repeats) (if z then [] else drop n left) repeats (not z) flushes closed
    by true full f = (refl, none, e, refl)
    by false true f = (drop_all n left (grind arith), none, e, refl)
    by false false f = (
      refl,
      λ is.
          let size : length (drop n left) ≡ length left - n = length-drop n left in
          let zero_left : length (drop n left) ≡ 0 = ap length is in
          let more : n < length left = grind arith in
          absurd (omega arith),
      refl,
      none,
      e,
    )

-- the account after an error of a write, by whether the write is tried again
abbrev pub after_error : RunAccount → Bool → RunAccount
after_error a again = if again then record a { interrupted = a.interrupted + 1 } else record a { rest = []; whole = false }

wrote_none : (left : List ℕ) (repeats : ℕ) (a : RunAccount) → CoreOf (Writing left repeats) a → (interrupts : Bool)
    → CoreOf (after_wrote (Writing left repeats) (if interrupts then Interrupted else Failed)) (after_error a (interrupts && nat_lt a.interrupted 100))
wrote_none left repeats a so false = (refl, so.3, so.4, refl)
wrote_none left repeats a so true = again (nat_lt repeats most_repeats) (nat_lt a.interrupted 100) (ap (λ (n : ℕ). nat_lt n 100) (sym so.2))
  where
    again : (t u : Bool) → t ≡ u → CoreOf (if t then Writing left (repeats + 1) else Taking true) (after_error a u)
    again true true e = (so.0, so.1, ap (λ (n : ℕ). n + 1) so.2, so.3, so.4)
    again false false e = (refl, so.3, so.4, refl)
    again true false e = absurd (let both : true ≡ false = e in cc)
    again false true e = absurd (let both : false ≡ true = e in cc)

-- ---- one more step

-- the count of the dropped lines goes on as the count of the refusals, up to its greatest value
one_more_refused : (n : ℕ) → saturating_next (min n (2 ^ 64 - 1)) ≡ min (n + 1) (2 ^ 64 - 1)
one_more_refused n = omega arith

is_less : (a b : ℕ) (c : Bool) → (nat_lt a b && c) ≡ true → a < b
is_less a b c e = grind arith

module _ {S F : Type 0} (kind : Ghosts S F) (limit : ℕ) (lossy : Bool) (c : Config) (past : List StepWithReply) (a : RunAccount) (old new : Parts S F) (so : Stands limit lossy past a old.queue old.worker) where
  abbrev q : Queue
  q = account_queue limit lossy (refusals past) a

  -- A step leads to the account after it, and its reply is the one that the account demands.
  pub record Steps (t : StepWithReply) : Type 0 where
    pub after : Stands limit lossy (t ∷ past) (account_after c a t) new.queue new.worker
    pub gets : SwitchesIfDue c a t → head.Replies limit c a t
    pub rolls : RollerDoes kind a.rest t old.roller new.roller

  kept : new.worker ≡ old.worker → CoreOf new.worker a
  kept e = subst (λ (k : Core). CoreOf k a) (sym e) so.worker

  room_same : a.closed ≡ false → has_room q ≡ head.account_has_room limit a
  room_same e = rw (e, length-drop a.handed a.accepted, places_same a.shutdown) refl

  -- an offer
  offer_same : run_offer_reply q ≡ head.account_offer_reply limit a
  offer_same = by (is_open q) refl
    where
      by : (o : Bool) → is_open q ≡ o → (if o then (if has_room q then Accepted (length a.accepted + 1) else Full) else Closed) ≡ (if o then (if head.account_has_room limit a then Accepted (length a.accepted + 1) else Full) else Closed)
      by true e = ap (λ (r : Bool). if r then Accepted (length a.accepted + 1) else Full) (room_same (unclosed_is a.closed (nat_lt (length a.accepted) (2 ^ 64 - 1)) e))
      by false e = refl

  refused : (b : Bool) (r : ℕ) → after_refusal (account_queue limit b r a) ≡ account_queue limit b (r + 1) a
  refused true r = rw one_more_refused refl
  refused false r = refl

  offered : (label : ℕ) (line : Vec ℕ Global) (reply : Reply) → CoreOf new.worker a → new.roller ≡ old.roller → OffersCopy q line.items reply new.queue → Steps (Offer label line, reply)
  offered label line reply co still (inl (none, some, same)) =
      subst (λ (r : Reply). Steps (Offer label line, r)) (sym none) (record { after = record { queue = same; worker = co; most = so.most }; gets = λ due. inl (refl, some); rolls = still })
  offered label line reply co still (inr (is, after)) = subst (λ (r : Reply). Steps (Offer label line, r)) (sym is) (by (is_open q) (has_room q) refl offer_same after)
    where
      by : (o r : Bool) → is_open q ≡ o → (if o then (if r then Accepted (length a.accepted + 1) else Full) else Closed) ≡ head.account_offer_reply limit a → new.queue ≡ (if o && r then after_acceptance q line.items else after_refusal q)
          → Steps (Offer label line, if o then (if r then Accepted (length a.accepted + 1) else Full) else Closed)
      by true true e gets after =
          let more : drop a.handed (a.accepted ++ line.items ∷ []) ≡ drop a.handed a.accepted ++ line.items ∷ [] = drop-append-le a.handed a.accepted (line.items ∷ []) so.most in
          let longer : length (a.accepted ++ line.items ∷ []) ≡ length a.accepted + 1 = length-append a.accepted (line.items ∷ []) in
          record {
            after = record { queue = rw (after, unclosed_is a.closed _ e, more, longer) refl; worker = co; most = rw longer (let most = so.most in omega arith) };
            gets = λ due. inr gets;
            rolls = still;
          }
      by true false e gets after = record { after = record { queue = after ∙ refused lossy (refusals past); worker = co; most = so.most }; gets = λ due. inr gets; rolls = still }
      by false r e gets after = record { after = record { queue = after ∙ refused lossy (refusals past); worker = co; most = so.most }; gets = λ due. inr gets; rolls = still }

  -- a shutdown
  shut_same : shut_reply q ≡ shut_by a.closed (is_some a.shutdown) (head.account_has_room limit a)
  shut_same = by a.closed refl ∙ ap (λ (s : Bool). shut_by a.closed s (head.account_has_room limit a)) (sent_same a.shutdown)
    where
      by : (x : Bool) → a.closed ≡ x → shut_by x (is_sent a.shutdown) (has_room q) ≡ shut_by x (is_sent a.shutdown) (head.account_has_room limit a)
      by true e = refl
      by false e = ap (λ (r : Bool). shut_by false (is_sent a.shutdown) r) (room_same e)

  shuts : (closed sent room : Bool) → CoreOf new.worker a → new.roller ≡ old.roller → shut_by closed sent room ≡ shut_by a.closed (is_some a.shutdown) (head.account_has_room limit a)
      → new.queue ≡ (if not closed && (not sent && room) then record q { shutdown = Some (length a.accepted) } else q) → Steps (Shut, DidShut (shut_by closed sent room))
  shuts true sent room co still is after = record { after = record { queue = after; worker = co; most = so.most }; gets = λ due. ap (λ (s : ShutReply). DidShut s) is; rolls = still }
  shuts false true room co still is after = record { after = record { queue = after; worker = co; most = so.most }; gets = λ due. ap (λ (s : ShutReply). DidShut s) is; rolls = still }
  shuts false false true co still is after = record { after = record { queue = after; worker = co; most = so.most }; gets = λ due. ap (λ (s : ShutReply). DidShut s) is; rolls = still }
  shuts false false false co still is after = record { after = record { queue = after; worker = co; most = so.most }; gets = λ due. ap (λ (s : ShutReply). DidShut s) is; rolls = still }

  -- a take: the first line of the queue is the next that is handed
  first_line : a.closed ≡ false → slice_index_or q.lines 0 [] ≡ get_or a.accepted a.handed []
  first_line unclosed = rw unclosed (get_or-drop a.handed a.accepted 0 [] ∙ ap (λ (k : ℕ). get_or a.accepted k []) (omega arith))

  took : (closed line sent gone waits : Bool) (m : ℤ) → a.closed ≡ closed → has_line q ≡ line → CoreOf (Taking waits) a → new.roller ≡ old.roller → take_by closed line sent gone (a.handed + 1) ≡ head.account_take_reply a
      → new.queue ≡ (if closed then record q { worker_waits = false }
      else if line then record q { lines = drop 1 q.lines; handed = a.handed + 1; worker_waits = false }
      else if sent then after_closing q
      else if gone then after_closing q
      else record q { worker_waits = waits })
      → new.worker ≡ after_took (Taking waits) (if closed then Last else if line then Line (slice_index_or q.lines 0 []) else if sent then Last else if gone then Last else Nothing)
      → Steps (Work m, take_by closed line sent gone (a.handed + 1))
  took true line sent gone waits m u l co still is after sees = absurd (let both : true ≡ false = sym u ∙ co.2 in cc)
  took false true sent gone waits m u l co still is after sees = record {
    after = record {
      queue = rw (after, u, drop-drop 1 a.handed a.accepted) refl;
      worker = rw (sees, first_line u) (took_line waits (get_or a.accepted a.handed []) a.flushes a.closed co.1 co.2);
      most = let less = is_less a.handed (length a.accepted) (is_before a.shutdown a.handed) l in omega (arith, less);
    };
    gets = λ due. (co.0, co.1, is);
    rolls = still;
  }
  took false false true gone waits m u l co still is after sees = record { after = record { queue = after; worker = rw sees (co.0, refl, refl, inr refl); most = so.most }; gets = λ due. (co.0, co.1, is); rolls = still }
  took false false false true waits m u l co still is after sees = record { after = record { queue = after; worker = rw sees (co.0, refl, refl, inr refl); most = so.most }; gets = λ due. (co.0, co.1, is); rolls = still }
  took false false false false waits m u l co still is after sees = record {
    after = record { queue = rw (after, co.3) refl; worker = rw sees (took_nothing waits a.whole a.closed a.rest a.interrupted co.0 co.2 co.3); most = so.most };
    gets = λ due. (co.0, co.1, is);
    rolls = still;
  }

  -- a write whose answer is an error
  wrote_err : (m : ℤ) (switch : Switch) (error : ErrorKind) (files : head.Files) → new.queue ≡ q → (b : Bool) → CoreOf new.worker (after_error a b)
      → Stands limit lossy ((Work m, Wrote switch (Err error)) ∷ past) (record (after_error a b) { files = files }) new.queue new.worker
  wrote_err m switch error files same true co = record { queue = same; worker = co; most = so.most }
  wrote_err m switch error files same false co = record { queue = same; worker = co; most = so.most }

  wrote : (left : List ℕ) (repeats : ℕ) (m : ℤ) (switch : Switch) (answer : Result ℕ ErrorKind) → CoreOf (Writing left repeats) a → new.queue ≡ q → new.worker ≡ after_wrote (Writing left repeats) (written_answer answer)
      → Stands limit lossy ((Work m, Wrote switch answer) ∷ past) (account_after c a (Work m, Wrote switch answer)) new.queue new.worker
  wrote left repeats m switch (Ok n) co same is = record {
    queue = same;
    worker = subst (λ (k : Core). CoreIs k (if n == 0 then [] else drop n a.rest) a.interrupted (not (n == 0)) a.flushes a.closed) (sym is)
        (rw (co.0, co.2) (wrote_some left repeats n a.flushes a.closed co.3 co.4));
    most = so.most;
  }
  wrote left repeats m switch (Err error) co same is =
      wrote_err m switch error (head.files_after_call false a.rest (Err error) (head.files_after_check c m (length a.rest) switch a.files)) same (is_interruption error && nat_lt a.interrupted 100)
      (subst (λ (k : Core). CoreOf k (after_error a (is_interruption error && nat_lt a.interrupted 100))) (sym is) (wrote_none left repeats a co (is_interruption error)))

  worked : (core : Core) (m : ℤ) (reply : Reply) → CoreOf core a → WorkDoes kind core m reply old new → Steps (Work m, reply)
  worked (Taking waits) m reply co does =
      let is : run_take_reply q ≡ head.account_take_reply a = rw (co.2, before_same a.shutdown a.handed (length a.accepted), sent_same a.shutdown) refl in
      subst (λ (r : Reply). Steps (Work m, r)) (sym (does.0 ∙ ap run_take_reply so.queue))
      (took a.closed (has_line q) (is_sent a.shutdown) (a.senders == 0) waits m refl refl co does.3 is
      (does.1 ∙ ap (λ (x : Queue). after_take x waits) so.queue) (does.2 ∙ ap (λ (x : Queue). after_took (Taking waits) (take_finds x)) so.queue))
  worked (Writing left repeats) m (Wrote switch answer) co does = record {
    after = wrote left repeats m switch answer co (does.3 ∙ so.queue) does.4;
    gets = λ due. (
      (λ none. co.1 (sym co.0 ∙ none)),
      subst (λ (xs : List ℕ). written_count answer ≤ length xs) (sym co.0) (subst (λ (k : ℕ). k ≤ length left) (sym (count_by_kind does.0 answer does.1)) does.2.writes.bound),
      due,
    );
    rolls = subst (λ (xs : List ℕ). RollerDoes kind xs (Work m, Wrote switch answer) old.roller new.roller) (sym co.0) (does.0, does.1, does.2);
  }
  worked (Writing left repeats) m _ co does = absurd does
  worked Flushing m (Flushed answer) co does = record {
    after = record {
      queue = does.3 ∙ so.queue;
      worker = subst (λ (k : Core). CoreIs k a.rest a.interrupted false (a.flushes - 1) a.closed) (sym does.4) (co.0, ap (λ (n : ℕ). n - 1) co.1, co.2, refl);
      most = so.most;
    };
    gets = λ due. (co.0, let one : a.flushes ≡ 1 = co.1 in omega arith);
    rolls = (does.0, does.1, does.2);
  }
  worked Flushing m _ co does = absurd does
  worked (Ending n) m (Flushed answer) co does =
      let some : 0 < n = elim co.3 [ inl e ↦ omega (arith, e) | inr e ↦ omega (arith, e) ] in
      record {
        after = record {
          queue = does.3 ∙ so.queue;
          worker = subst (λ (k : Core). CoreIs k a.rest a.interrupted false (a.flushes - 1) a.closed) (sym does.4) (flush_ends n a.flushes a.interrupted a.rest a.closed co.0 co.2 co.1 co.3);
          most = so.most;
        };
        gets = λ due. (co.0, let same : a.flushes ≡ n = co.1 in omega arith);
        rolls = (does.0, does.1, does.2);
      }
  worked (Ending n) m _ co does = absurd does
  worked Over m reply co does = subst (λ (r : Reply). Steps (Work m, r)) (sym does.0) (record {
    after = record { queue = does.1 ∙ so.queue; worker = subst (λ (k : Core). CoreOf k a) (sym does.2) co; most = so.most };
    gets = λ due. (co.0, co.1, rw co.2 refl);
    rolls = does.3;
  })

  pub steps : (t : StepWithReply) → RunStepDoes kind t old new → Steps t
  steps (Offer label line, reply) does = offered label line reply (kept does.1) does.2 (subst (λ (x : Queue). OffersCopy x line.items reply new.queue) so.queue does.0)
  steps (Shut, reply) does =
      subst (λ (r : Reply). Steps (Shut, r)) (sym (does.0 ∙ ap (λ (x : Queue). DidShut (shut_reply x)) so.queue))
      (shuts a.closed (is_sent a.shutdown) (has_room q) (kept does.2) does.3 shut_same (does.1 ∙ ap after_shut so.queue))
  steps (AddSender, reply) does = record {
    after = record { queue = does.1 ∙ ap (λ (x : Queue). record x { senders = saturating_next x.senders }) so.queue; worker = kept does.2; most = so.most };
    gets = λ due. does.0 ∙ ap (λ (x : Queue). Senders (saturating_next x.senders)) so.queue;
    rolls = does.3;
  }
  steps (DropSender, reply) does = record {
    after = record { queue = does.1 ∙ ap (λ (x : Queue). record x { senders = one_less x.senders }) so.queue; worker = kept does.2; most = so.most };
    gets = λ due. does.0 ∙ ap (λ (x : Queue). Senders (one_less x.senders)) so.queue;
    rolls = does.3;
  }
  steps (Work m, reply) does = worked old.worker m reply so.worker does

-- ---- all steps

-- these steps lead from a new queue and a new worker to this state
abbrev pub Leads : {S F : Type 0} → Ghosts S F → ℕ → Bool → Rolling S F → List StepWithReply → Parts S F → Type 0
Leads kind limit lossy first past = LeadsTo (λ (earlier : List StepWithReply). RunStepDoes kind) past (parts (new_queue limit lossy) (Taking true) first)

module _ {S F : Type 0} (kind : Ghosts S F) (limit : ℕ) (lossy : Bool) (c : Config) (start : Start) where
  begins : (b : Bool) → new_queue limit b ≡ account_queue limit b 0 (account c start [])
  begins true = refl
  begins false = refl

  pub stands : (first : Rolling S F) (past : List StepWithReply) (last : Parts S F) → Leads kind limit lossy first past last → Stands limit lossy past (account c start past) last.queue last.worker
  stands first [] last same = subst (λ (p : Parts S F). Stands limit lossy [] (account c start []) p.queue p.worker) (sym same) (record { queue = begins lossy; worker = (refl, refl, refl, refl); most = omega arith })
  stands first (t ∷ past) last (between, earlier, does) = (steps kind limit lossy c past (account c start past) between last (stands first past between earlier) t does).after

  pub rolls : (first : Rolling S F) (past : List StepWithReply) (last : Parts S F) → Leads kind limit lossy first past last → LeadsTo (WorkerDoes kind c start) past first last.roller
  rolls first [] last same = ap (λ (p : Parts S F). p.roller) same
  rolls first (t ∷ past) last (between, earlier, does) =
      (between.roller, rolls first past between earlier, (steps kind limit lossy c past (account c start past) between last (stands first past between earlier) t does).rolls)
