-- The lines that were handed, and what was written of them.
use Rattle.std.proofs.Common.{◌≡◌, ◌≢◌, ◌⊎◌, ℕ, suc, zero, ◌+◌, ◌-◌, ◌<◌, ◌≤◌, ◌==◌, nat_le, nat_lt, Bool, true, false, not, ◌&&◌, ◌||◌, if◌then◌else◌, List, [], ◌∷◌, ◌++◌, length, take, drop, get_or, Option, None, Some, is_some, length-drop, length-append, Result, Ok, Err, inl, inr, refl, ap, sym, ◌∙◌, subst, arith, append_assoc}
use Rattle.std.specs.Prelude.{ℤ, All}
use Rattle.std.specs.declared.io.ErrorKind.{ErrorKind}
use Rattle.std.proofs.lemmas.List.{append-nil, drop-drop, take_all, take_more, take-append-le}
use Rattle.std.proofs.lemmas.List.Elements.{All-cons, All-nil, All-head, All-tail}
use Rattle.std.proofs.Math.Seq.{take-add, length-take-le}
use Rattle.appender_worker.specs.Core.{most_repeats}
use Rattle.appender_worker.specs.CoreReplies.{is_interruption}
use Rattle.appender_rolling.specs.Config.{Config}
use Rattle.appender_rolling.specs.Roller.{written_count}
use Rattle.appender_rolling.specs.declared.rolling.setup.Stamp.{Stamp}
use Rattle.appender_rolling.specs.declared.rolling.Switch.{Switch}
use Rattle.appender_rolling.specs.declared.rolling.Switch.TheVariants.{None as Stayed, Opened as Switched, Failed as SwitchFailed}
use Rattle.appender_replay.specs.Start.{Start}
use Rattle.appender_replay.specs.Headline.{RunAccount, Files, Replies, Follows, account, account_after, account_after_write, account_take_reply, bytes_taken, of_no_byte, due_file, later_moment, files_after_try, files_after_check}
use Rattle.appender_replay.specs.Record.{StepWithReply, WrittenLine, accepted_labels, handed_labels, taken_line, line_after_write, written_by, written_lines, text_of_lines, whole_lines}
use Rattle.appender_replay.specs.Whole.{calls_of, IsDone, AreDone, IsBegun, HandsInOrder, TextLaw}
use Rattle.appender_replay.specs.declared.replay.whole.Step.TheVariants.{Offer, Shut, Work}
use Rattle.appender_replay.specs.declared.replay.whole.Reply.{Reply}
use Rattle.appender_replay.specs.declared.replay.whole.Reply.TheVariants.{Accepted, Shut as DidShut, Took, TookShutdown, TookGone, TookEmpty, Wrote, Flushed, Ended}
use Rattle.appender_queue.specs.declared.queue.Shut.TheVariants.{Sent}
use Rattle.appender_replay.proofs.Clocks.{nothing_of}
use Rattle.appender_replay.proofs.Accounts.{finds_line, after_error}

-- ---- beginnings

take_own : (m : ℕ) (xs : List ℕ) → take m xs ≡ take (length (take m xs)) xs
take_own zero xs = refl
take_own (suc m) [] = refl
take_own (suc m) (x ∷ xs) = ap (λ ys. x ∷ ys) (take_own m xs)

-- what a write of the rest adds to a beginning makes a longer one
longer : (line written : List ℕ) (n : ℕ) → written ≡ take (length written) line → written ++ take n (drop (length written) line) ≡ take (length written + n) line
longer line written n e = ap (λ w. w ++ take n (drop (length written) line)) e ∙ sym (take-add (length written) n line)

longer_begins : (line written : List ℕ) (n : ℕ) → written ≡ take (length written) line → written ++ take n (drop (length written) line) ≡ take (length (written ++ take n (drop (length written) line))) line
longer_begins line written n e = rw (longer line written n e) (take_own (length written + n) line)

-- ---- the newest line

-- the worker has the line in hand, with this rest and so many interruptions
pub record IsInHand (rest : List ℕ) (repeats : ℕ) (w : WrittenLine) : Type 0 where
  pub kept : w.is_given_up ≡ false
  pub rest_is : rest ≡ drop (length w.written) w.line
  pub repeats_are : repeats ≡ w.interruptions
  pub beginning : w.written ≡ take (length w.written) w.line
  pub some : length w.written < length w.line

-- what is known of the lines, by the rest of the line in hand
abbrev pub DoneBy : List ℕ → ℕ → List WrittenLine → Type 0
DoneBy rest repeats [] = rest ≡ []
DoneBy rest repeats (w ∷ earlier) = (((rest ≡ []) × IsDone w) ⊎ IsInHand rest repeats w) × All IsDone earlier

-- What a step leaves of the lines.
record Leaves (rest : List ℕ) (repeats : ℕ) (lines : List WrittenLine) : Type 0 where
  done : DoneBy rest repeats lines
  begun : All IsBegun lines

-- so many bytes are left
left : (rest : List ℕ) (repeats : ℕ) (w : WrittenLine) → IsInHand rest repeats w → length rest ≡ length w.line - length w.written
left rest repeats w h = ap length h.rest_is ∙ length-drop (length w.written) w.line

has_rest : (rest : List ℕ) (repeats : ℕ) (w : WrittenLine) → IsInHand rest repeats w → rest ≢ []
has_rest rest repeats w h none =
    let size = left rest repeats w h in
    let zero_left : length rest ≡ 0 = ap length none in
    let some = h.some in
    absurd (omega arith)

-- without a rest each is done
all_done : (rest : List ℕ) (repeats : ℕ) (lines : List WrittenLine) → rest ≡ [] → DoneBy rest repeats lines → All IsDone lines
all_done rest repeats [] none done = All-nil IsDone
all_done rest repeats (w ∷ earlier) none done = All-cons IsDone w earlier (elim done.0 [ inl is ↦ is.1 | inr h ↦ absurd (has_rest rest repeats w h none) ]) done.1

-- a line that is taken: nothing of it is written yet, and an empty one is whole
taken : (line : List ℕ) (earlier : List WrittenLine) → All IsDone earlier → All IsBegun earlier → Leaves line 0 (taken_line line ∷ earlier)
taken line earlier done begun = record {
  done = (by line, done);
  begun = All-cons IsBegun (taken_line line) earlier (record { beginning = refl; cut_short = λ e. absurd (let both : false ≡ true = e in cc) }) begun;
}
  where
    by : (line : List ℕ) → ((line ≡ []) × IsDone (taken_line line)) ⊎ IsInHand line 0 (taken_line line)
    by [] = inl (refl, inr refl)
    by (b ∷ line) = inr (record { kept = refl; rest_is = refl; repeats_are = refl; beginning = refl; some = omega arith })

-- ---- one write

module _ (a : RunAccount) (w : WrittenLine) (h : IsInHand a.rest a.interrupted w) (earlier : List WrittenLine) (done : All IsDone earlier) (begun : All IsBegun earlier) where
  -- the bytes that n more make
  abbrev more : ℕ → List ℕ
  more n = w.written ++ take n (drop (length w.written) w.line)

  grown : (n : ℕ) → n ≤ length a.rest → length (more n) ≡ length w.written + n
  grown n le =
      let room : n ≤ length (drop (length w.written) w.line) = subst (λ (xs : List ℕ). n ≤ length xs) h.rest_is le in
      length-append w.written (take n (drop (length w.written) w.line)) ∙ ap (λ m. length w.written + m) (length-take-le n (drop (length w.written) w.line) room)

  -- an answer of n bytes
  wrote : (n : ℕ) → n ≤ length a.rest → Leaves (if n == 0 then [] else drop n a.rest) a.interrupted (line_after_write w (Ok n) ∷ earlier)
  wrote n le = by (n == 0) (drop n a.rest) refl refl
    where
      now : length (more n) ≡ length w.written + n
      now = grown n le

      -- what is left of the rest
      fewer : (xs : List ℕ) → drop n a.rest ≡ xs → length xs ≡ length w.line - length w.written - n
      fewer xs f = sym (ap length f) ∙ length-drop n a.rest ∙ ap (λ m. m - n) (left a.rest a.interrupted w h)

      is_begun : (given_up : Bool) → (given_up ≡ true → n ≡ 0) → IsBegun (record w { written = more n; is_given_up = given_up })
      is_begun given_up none = record {
        beginning = longer_begins w.line w.written n h.beginning;
        cut_short = λ is. let size = now in let zero_more = none is in let some = h.some in omega arith;
      }

      by : (z : Bool) (xs : List ℕ) → (n == 0) ≡ z → drop n a.rest ≡ xs → Leaves (if z then [] else xs) a.interrupted (record w { written = more n; is_given_up = z } ∷ earlier)
      by true xs e f = record {
        done = (inl (refl, inl refl), done);
        begun = All-cons IsBegun _ earlier (is_begun true (λ is. grind arith)) begun;
      }
      by false [] e f =
          let none : 0 ≡ length w.line - length w.written - n = fewer [] f in
          let whole : w.written ++ take n (drop (length w.written) w.line) ≡ w.line = longer w.line w.written n h.beginning ∙ take_all _ _ (omega arith) in
          record {
            done = (inl (refl, inr whole), done);
            begun = All-cons IsBegun _ earlier (is_begun false (λ is. absurd (let both : false ≡ true = is in cc))) begun;
          }
      by false (b ∷ xs) e f =
          let size = fewer (b ∷ xs) f in
          let after = now in
          record {
            done = (
              inr (record {
                kept = refl;
                rest_is = sym f ∙ ap (drop n) h.rest_is ∙ drop-drop n (length w.written) w.line ∙ ap (λ m. drop m w.line) (sym now);
                repeats_are = h.repeats_are;
                beginning = longer_begins w.line w.written n h.beginning;
                some = omega arith;
              }),
              done,
            );
            begun = All-cons IsBegun _ earlier (is_begun false (λ is. absurd (let both : false ≡ true = is in cc))) begun;
          }

  -- an error
  failed : (kind : ErrorKind) → Leaves (account_after_write (Err kind) a).rest (account_after_write (Err kind) a).interrupted (line_after_write w (Err kind) ∷ earlier)
  failed kind = by (is_interruption kind)
    where
      again : (t g : Bool) → nat_lt a.interrupted 100 ≡ t → nat_le most_repeats w.interruptions ≡ g → Leaves (after_error a t).rest (after_error a t).interrupted (record w { interruptions = w.interruptions + 1; is_given_up = g } ∷ earlier)
      again true true e f = absurd (let same = h.repeats_are in let both : true ≡ false = grind arith in cc)
      again true false e f = record {
        done = (inr (record { kept = refl; rest_is = h.rest_is; repeats_are = ap (λ n. n + 1) h.repeats_are; beginning = h.beginning; some = h.some }), done);
        begun = All-cons IsBegun _ earlier (record { beginning = h.beginning; cut_short = λ is. h.some }) begun;
      }
      again false true e f = record {
        done = (inl (refl, inl refl), done);
        begun = All-cons IsBegun _ earlier (record { beginning = h.beginning; cut_short = λ is. h.some }) begun;
      }
      again false false e f = absurd (let same = h.repeats_are in let both : true ≡ false = grind arith in cc)

      by : (b : Bool) → Leaves (after_error a (b && nat_lt a.interrupted 100)).rest (after_error a (b && nat_lt a.interrupted 100)).interrupted (record w { interruptions = if b then w.interruptions + 1 else w.interruptions; is_given_up = not b || nat_le most_repeats w.interruptions } ∷ earlier)
      by true = again (nat_lt a.interrupted 100) (nat_le most_repeats w.interruptions) refl refl
      by false = record {
        done = (inl (refl, inl refl), done);
        begun = All-cons IsBegun _ earlier (record { beginning = h.beginning; cut_short = λ is. h.some }) begun;
      }

-- a write keeps the lines
same_lines : (a : RunAccount) (m : ℤ) (switch : Switch) (answer : Result ℕ ErrorKind) (lines : List WrittenLine) → whole_lines (written_by a (Work m, Wrote switch answer) lines) ≡ whole_lines lines
same_lines a m switch answer [] = refl
same_lines a m switch (Ok n) (w ∷ earlier) = refl
same_lines a m switch (Err kind) (w ∷ earlier) = refl

-- ---- what all writes took

abbrev text_of : Files → List ℕ
text_of f = bytes_taken (calls_of (f.newest ∷ f.earlier))

-- what a step wrote of the rest of the line in hand
abbrev piece_of : List ℕ → StepWithReply → List ℕ
piece_of rest (Work m, Wrote switch answer) = take (written_count answer) rest
piece_of rest t = []

check_text : (c : Config) (m : ℤ) (len : ℕ) (switch : Switch) (f : Files) → text_of (files_after_check c m len switch f) ≡ text_of f
check_text c m len switch f = by (due_file c f m len) switch
  where
    by : (o : Option Stamp) (switch : Switch) → text_of (files_after_try o switch (record f { latest = later_moment f.latest m })) ≡ text_of f
    by None switch = refl
    by (Some s) Stayed = refl
    by (Some s) Switched = refl
    by (Some s) SwitchFailed = refl

text_more : (c : Config) (a : RunAccount) (t : StepWithReply) → text_of (account_after c a t).files ≡ text_of a.files ++ piece_of a.rest t
text_more c a (Work m, Wrote switch answer) = ap (λ (xs : List ℕ). xs ++ take (written_count answer) a.rest) (check_text c m (length a.rest) switch a.files)
text_more c a (Work m, Flushed answer) = ap (λ (xs : List ℕ). text_of a.files ++ xs) (nothing_of (written_count (of_no_byte answer)))
text_more c a (Offer label line, Accepted k) = sym (append-nil (text_of a.files))
text_more c a (Shut, DidShut Sent) = sym (append-nil (text_of a.files))
text_more c a (s, r) = sym (append-nil (text_of a.files))

-- ---- one step

-- What a step does to the lines: what is known of them, and the bytes that it adds.
record Steps (after : RunAccount) (rest : List ℕ) (t : StepWithReply) (lines now : List WrittenLine) : Type 0 where
  leaves : Leaves after.rest after.interrupted now
  text : text_of_lines lines ++ piece_of rest t ≡ text_of_lines now

line_steps : (limit : ℕ) (c : Config) (a : RunAccount) (t : StepWithReply) (lines : List WrittenLine) → Replies limit c a t → DoneBy a.rest a.interrupted lines → All IsBegun lines → Steps (account_after c a t) a.rest t lines (written_by a t lines)
line_steps limit c a (Work m, Took k) lines gets done begun = record { leaves = taken (get_or a.accepted a.handed []) lines (all_done a.rest a.interrupted lines gets.0 done) begun; text = refl }
line_steps limit c a (Work m, Wrote switch answer) [] gets done begun = absurd (gets.0 done)
line_steps limit c a (Work m, Wrote switch (Ok n)) (w ∷ earlier) gets done begun = elim done.0 [
  | inl is ↦ absurd (gets.0 is.0)
  | inr h ↦ record {
    leaves = wrote a w h earlier done.1 (All-tail IsBegun w earlier begun) n gets.1;
    text = append_assoc (text_of_lines earlier) w.written (take n a.rest) ∙ ap (λ xs. text_of_lines earlier ++ (w.written ++ take n xs)) h.rest_is;
  }
]
line_steps limit c a (Work m, Wrote switch (Err kind)) (w ∷ earlier) gets done begun = elim done.0 [
  | inl is ↦ absurd (gets.0 is.0)
  | inr h ↦ record {
    leaves = failed a w h earlier done.1 (All-tail IsBegun w earlier begun) kind;
    text = append-nil (text_of_lines earlier ++ w.written);
  }
]
line_steps limit c a (Offer label line, Accepted k) lines gets done begun = record { leaves = record { done = done; begun = begun }; text = append-nil (text_of_lines lines) }
line_steps limit c a (Shut, DidShut Sent) lines gets done begun = record { leaves = record { done = done; begun = begun }; text = append-nil (text_of_lines lines) }
line_steps limit c a (s, r) lines gets done begun = record { leaves = record { done = done; begun = begun }; text = append-nil (text_of_lines lines) }

-- ---- the order

-- What is known of the handed lines and of their labels.
record InOrder (past : List StepWithReply) (accepted : List (List ℕ)) (handed : ℕ) (lines : List WrittenLine) : Type 0 where
  most : handed ≤ length accepted
  whole : whole_lines lines ≡ take handed accepted
  count : length (accepted_labels past) ≡ length accepted
  labels : handed_labels past ≡ take handed (accepted_labels past)

-- the line that is taken is the next
takes_next : (a : RunAccount) (k : ℕ) → Took k ≡ account_take_reply a → (k ≡ a.handed + 1) × (a.handed < length a.accepted)
takes_next a k e = by a.closed (finds_line a) (is_some a.shutdown) (a.senders == 0) refl e
  where
    by : (x l s g : Bool) → finds_line a ≡ l → Took k ≡ (if x then Ended else if l then Took (a.handed + 1) else if s then TookShutdown else if g then TookGone else TookEmpty) → (k ≡ a.handed + 1) × (a.handed < length a.accepted)
    by true l s g f e = absurd (let no : ◌≡◌ {A = Reply} (Took k) Ended = e in cc)
    by false true s g f e = (let same : ◌≡◌ {A = Reply} (Took k) (Took (a.handed + 1)) = e in cc, grind arith)
    by false false true g f e = absurd (let no : ◌≡◌ {A = Reply} (Took k) TookShutdown = e in cc)
    by false false false true f e = absurd (let no : ◌≡◌ {A = Reply} (Took k) TookGone = e in cc)
    by false false false false f e = absurd (let no : ◌≡◌ {A = Reply} (Took k) TookEmpty = e in cc)

order_on : (limit : ℕ) (c : Config) (past : List StepWithReply) (a : RunAccount) (t : StepWithReply) (lines : List WrittenLine) → Replies limit c a t → InOrder past a.accepted a.handed lines
    → InOrder (t ∷ past) (account_after c a t).accepted (account_after c a t).handed (written_by a t lines)
order_on limit c past a (Offer label line, Accepted k) lines gets so =
    let one : length (a.accepted ++ line.items ∷ []) ≡ length a.accepted + 1 = length-append a.accepted (line.items ∷ []) in
    let few : a.handed ≤ length (accepted_labels past) = rw so.count so.most in
    record {
      most = rw one (let most = so.most in omega arith);
      whole = so.whole ∙ sym (take-append-le a.handed a.accepted (line.items ∷ []) so.most);
      count = length-append (accepted_labels past) (label ∷ []) ∙ ap (λ n. n + 1) so.count ∙ sym one;
      labels = so.labels ∙ sym (take-append-le a.handed (accepted_labels past) (label ∷ []) few);
    }
order_on limit c past a (Work m, Took k) lines gets so =
    let next = takes_next a k gets.2 in
    let place : k - 1 ≡ a.handed = let ticket = next.0 in omega arith in
    let less : a.handed < length (accepted_labels past) = rw so.count next.1 in
    record {
      most = let less = next.1 in omega arith;
      whole = ap (λ xs. xs ++ get_or a.accepted a.handed [] ∷ []) so.whole ∙ sym (take_more a.accepted a.handed [] next.1);
      count = so.count;
      labels = ap (λ xs. xs ++ get_or (accepted_labels past) (k - 1) 0 ∷ []) so.labels ∙ ap (λ n. take a.handed (accepted_labels past) ++ get_or (accepted_labels past) n 0 ∷ []) place ∙ sym (take_more (accepted_labels past) a.handed 0 less);
    }
order_on limit c past a (Work m, Wrote switch (Ok n)) lines gets so = record { most = so.most; whole = same_lines a m switch (Ok n) lines ∙ so.whole; count = so.count; labels = so.labels }
order_on limit c past a (Work m, Wrote switch (Err kind)) lines gets so = by (is_interruption kind && nat_lt a.interrupted 100)
  where
    by : (b : Bool) → InOrder ((Work m, Wrote switch (Err kind)) ∷ past) (after_error a b).accepted (after_error a b).handed (written_by a (Work m, Wrote switch (Err kind)) lines)
    by true = record { most = so.most; whole = same_lines a m switch (Err kind) lines ∙ so.whole; count = so.count; labels = so.labels }
    by false = record { most = so.most; whole = same_lines a m switch (Err kind) lines ∙ so.whole; count = so.count; labels = so.labels }
order_on limit c past a (Shut, DidShut Sent) lines gets so = record { most = so.most; whole = so.whole; count = so.count; labels = so.labels }
order_on limit c past a (s, r) lines gets so = record { most = so.most; whole = so.whole; count = so.count; labels = so.labels }

-- ---- all steps

module _ (limit : ℕ) (c : Config) (start : Start) where
  -- What is known after these steps.
  record LinesSoFar (past : List StepWithReply) : Type 0 where
    leaves : Leaves (account c start past).rest (account c start past).interrupted (written_lines c start past)
    text : text_of (account c start past).files ≡ text_of_lines (written_lines c start past)
    order : InOrder past (account c start past).accepted (account c start past).handed (written_lines c start past)

  lines_so_far : (past : List StepWithReply) → Follows limit c start past → LinesSoFar past
  lines_so_far [] all = record { leaves = record { done = refl; begun = All-nil IsBegun }; text = refl; order = record { most = omega arith; whole = refl; count = refl; labels = refl } }
  lines_so_far (t ∷ past) all =
      let so = lines_so_far past all.0 in
      let a : RunAccount = account c start past in
      let step = line_steps limit c a t (written_lines c start past) all.1 so.leaves.done so.leaves.begun in
      record {
        leaves = step.leaves;
        text = text_more c a t ∙ ap (λ text. text ++ piece_of a.rest t) so.text ∙ step.text;
        order = order_on limit c past a t (written_lines c start past) all.1 so.order;
      }

  are_done : (rest : List ℕ) (repeats : ℕ) (lines : List WrittenLine) → DoneBy rest repeats lines → AreDone rest lines
  are_done rest repeats [] done = tt
  are_done rest repeats (w ∷ earlier) done = ((λ none. All-head IsDone w earlier (all_done rest repeats (w ∷ earlier) none done)), done.1)

  pub in_order : (past : List StepWithReply) → Follows limit c start past → HandsInOrder c start past
  in_order past all = let so = (lines_so_far past all).order in record { most = so.most; labels = so.labels }

  pub text_law : (past : List StepWithReply) → Follows limit c start past → TextLaw c start past
  text_law past all =
      let so = lines_so_far past all in
      record {
        lines = so.order.whole;
        text = so.text;
        begun = so.leaves.begun;
        done = are_done (account c start past).rest (account c start past).interrupted (written_lines c start past) so.leaves.done;
      }
