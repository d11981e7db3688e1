-- The law of the files goes on with each try and each write.
use Rattle.std.proofs.Common.{◌≡◌, ◌≢◌, ℕ, ◌+◌, ◌<◌, ◌==◌, ℤ, Bool, true, false, List, [], ◌∷◌, ◌++◌, length, take, map, filter, Option, None, Some, is_some, inl, inr, arith, refl, ap, sym, ◌∙◌, subst, append_assoc}
use Rattle.std.specs.Prelude.{if◌then◌else◌, All, cond}
use Rattle.std.specs.FinMap as fin
use Rattle.std.proofs.lemmas.List.{append-nil, length-set}
use Rattle.std.proofs.lemmas.List.Elements.{All-cons, All-nil, All-head, All-tail}
use Rattle.appender_names.specs.Rotation.{period_of}
use Rattle.appender_store.specs.Content.{Content, Entry, File, IsSound, body_at, after_append, after_make_folder}
use Rattle.appender_store.specs.Folder.{NotedCounts}
use Rattle.appender_store.specs.NameLaws.{NameLaws}
use Rattle.appender_store.proofs.Appends.{after_append_nothing, after_append_twice, after_append_at}
use Rattle.appender_rolling.specs.Config.{Config, log_files_of, IsStamp, max_before, max_after}
use Rattle.appender_rolling.specs.declared.rolling.setup.Stamp.{Stamp}
use Rattle.appender_rolling.specs.Kept.{KeepsBodies, AddsNoFile, AddsNoOtherFile, HadFile, OpeningPartsKeepBodies}
use Rattle.appender_rolling.specs.Opening.{file_name_of, IsRefusalEffect}
use Rattle.appender_rolling.specs.Roller.{written_count}
use Rattle.appender_replay.specs.Headline.{FileCall, Try, bytes_taken, failures_in}
use Rattle.appender_replay.specs.Run.{Attempt, WrittenAttempt, FileKey, file_key, is_same_key, try_of, open_body, is_number, bytes_to_body, bytes_under, Carried, Succeeded, OnlyAttemptsChange, EachOf, OpenDistinctBodies, ContainsItsBytes, CarriesItsNumber, HasItsName, NamesItsBody, LeavesSurvivors, FileLaw}
use Rattle.appender_replay.proofs.NamesLeft.{leads_to}
use Rattle.appender_replay.proofs.NamesLead.{leaves}
use Rattle.appender_replay.proofs.Periods.{IsLaterKey, same_key_is_same, later_key_differs, later_key_still}

same_body : (a b : ℕ) → ◌≡◌ {A = Option ℕ} (Some a) (Some b) → a ≡ b
same_body a b e = cc

same_file : (a b : ℕ) (t u : Option ℤ) → ◌≡◌ {A = Option Entry} (Some (File a t)) (Some (File b u)) → a ≡ b
same_file a b t u e = cc

-- ---- lists of attempts

pub each_map : (P Q : Attempt → Type 0) (attempts : List WrittenAttempt) → ((a : Attempt) → P a → Q a) → EachOf P attempts → EachOf Q attempts
each_map P Q [] f all = tt
each_map P Q ((a, writes) ∷ earlier) f all = (f a all.0, each_map P Q earlier f all.1)

both_map : (P Q R : Attempt → Type 0) (attempts : List WrittenAttempt) → ((a : Attempt) → P a → Q a → R a) → EachOf P attempts → EachOf Q attempts → EachOf R attempts
both_map P Q R [] f p q = tt
both_map P Q R ((a, writes) ∷ earlier) f p q = (f a p.0 q.0, both_map P Q R earlier f p.1 q.1)

-- no attempt of these opened the body
abbrev NoneOpened : ℕ → Attempt → Type 0
NoneOpened b a = a.body ≡ Some b → ⊥

other_number : (b : ℕ) (o : Option ℕ) → (o ≡ Some b → ⊥) → is_number b o ≡ false
other_number b None other = refl
other_number b (Some x) other = by (x == b) refl
  where
    by : (t : Bool) → (x == b) ≡ t → t ≡ false
    by false e = refl
    by true e = let same : x ≡ b = grind arith in absurd (other (ap (λ (y : ℕ). Some y) same))

pick_other : (b : ℕ) (o p : Option ℕ) → is_number b o ≡ false → is_number b p ≡ false → is_number b (if is_some o then o else p) ≡ false
pick_other b None p e f = f
pick_other b (Some x) p e f = e

open_other : (b : ℕ) (attempts : List WrittenAttempt) → EachOf (NoneOpened b) attempts → is_number b (open_body attempts) ≡ false
open_other b [] none = refl
open_other b ((a, writes) ∷ earlier) none = pick_other b a.body (open_body earlier) (other_number b a.body none.0) (open_other b earlier none.1)

nothing_more : (t : Bool) (xs : List ℕ) → xs ++ (if t then [] else []) ≡ xs
nothing_more true xs = append-nil xs
nothing_more false xs = append-nil xs

-- nothing was written to it
bytes_other : (b : ℕ) (attempts : List WrittenAttempt) → EachOf (NoneOpened b) attempts → bytes_to_body b attempts ≡ []
bytes_other b [] none = refl
bytes_other b ((a, writes) ∷ earlier) none = rw (bytes_other b earlier none.1, open_other b ((a, writes) ∷ earlier) none) refl

-- ---- periods and numbers

-- each attempt has a later key than those before it
abbrev pub IsRising : Config → List WrittenAttempt → Type 0
IsRising c [] = Unit {0}
IsRising c ((a, writes) ∷ earlier) = EachOf (λ e. IsLaterKey (file_key c e.stamp) (file_key c a.stamp)) earlier × IsRising c earlier

-- the latest moment was in the period of this stamp at the write
abbrev pub WasIn : Config → Stamp → FileCall → Type 0
WasIn c s w = period_of c.rotation w.latest ≡ period_of c.rotation s.moment

abbrev pub EachInPeriod : Config → List WrittenAttempt → Type 0
EachInPeriod c [] = Unit {0}
EachInPeriod c ((a, writes) ∷ earlier) = All (WasIn c a.stamp) writes × EachInPeriod c earlier

module _ (c : Config) where
  -- the writes under a key are all or none
  all_or_none : (s : Stamp) (key : FileKey) (writes : List FileCall) → All (WasIn c s) writes
      → filter (λ (w : FileCall). is_same_key (period_of c.rotation w.latest, s.number) key) writes ≡ (if is_same_key (file_key c s) key then writes else [])
  all_or_none s key [] at = by (is_same_key (file_key c s) key)
    where
      by : (t : Bool) → ◌≡◌ {A = List FileCall} [] (if t then [] else [])
      by true = refl
      by false = refl
  all_or_none s key (w ∷ writes) at =
      let here : is_same_key (period_of c.rotation w.latest, s.number) key ≡ is_same_key (file_key c s) key = ap (λ (p : Option ℤ). is_same_key (p, s.number) key) (All-head (WasIn c s) w writes at) in
      by (is_same_key (period_of c.rotation w.latest, s.number) key) (is_same_key (file_key c s) key) here (filter (λ (v : FileCall). is_same_key (period_of c.rotation v.latest, s.number) key) writes) (all_or_none s key writes (All-tail (WasIn c s) w writes at))
    where
      by : (t u : Bool) → t ≡ u → (rest : List FileCall) → rest ≡ (if u then writes else []) → cond t (w ∷ rest) rest ≡ (if u then w ∷ writes else [])
      by true true e rest so = ap (λ (ws : List FileCall). w ∷ ws) so
      by false false e rest so = so
      by true false e rest so = absurd (let same : true ≡ false = e in cc)
      by false true e rest so = absurd (let same : false ≡ true = e in cc)

  under_earlier : (key : FileKey) (attempts : List WrittenAttempt) → EachOf (λ e. IsLaterKey (file_key c e.stamp) key) attempts → EachInPeriod c attempts → bytes_under c key attempts ≡ []
  under_earlier key [] later at = refl
  under_earlier key ((a, writes) ∷ earlier) later at =
      let other : is_same_key (file_key c a.stamp) key ≡ false = (later_key_differs (file_key c a.stamp) key later.0).1 in
      rw (under_earlier key earlier later.1 at.1, all_or_none a.stamp key writes at.0, other) refl

  -- if all succeeded, what each opened got what was written under its key
  number_law : (attempts : List WrittenAttempt) → failures_in (map try_of attempts) ≡ 0 → OpenDistinctBodies attempts → IsRising c attempts → EachInPeriod c attempts → EachOf (CarriesItsNumber c attempts) attempts
  number_law [] fine apart rising at = tt
  number_law ((a, writes) ∷ earlier) fine apart rising at = (own, others earlier (number_law earlier (before fine) apart.1 rising.1 at.1) apart.0 rising.0)
    where
      opened : (t : Bool) (n : ℕ) → n + (if t then 0 else 1) ≡ 0 → (t ≡ true) × (n ≡ 0)
      opened true n e = (refl, omega (arith, e))
      opened false n e = absurd (omega (arith, e))

      before : failures_in (map try_of earlier) + (if is_some a.body then 0 else 1) ≡ 0 → failures_in (map try_of earlier) ≡ 0
      before e = (opened (is_some a.body) (failures_in (map try_of earlier)) e).1

      here : open_body ((a, writes) ∷ earlier) ≡ a.body
      here = rw ((opened (is_some a.body) (failures_in (map try_of earlier)) fine).0) refl

      own : CarriesItsNumber c ((a, writes) ∷ earlier) a
      own b is =
          let none : bytes_to_body b earlier ≡ [] = bytes_other b earlier (each_map (λ e. (x : ℕ) → a.body ≡ Some x → e.body ≡ Some x → ⊥) (NoneOpened b) earlier (λ e f same. f b is same) apart.0) in
          let mine : is_number b (open_body ((a, writes) ∷ earlier)) ≡ true = ap (is_number b) (here ∙ is) ∙ (let t : (b == b) ≡ true = grind arith in t) in
          let key : filter (λ (w : FileCall). is_same_key (period_of c.rotation w.latest, a.stamp.number) (file_key c a.stamp)) writes ≡ writes =
          all_or_none a.stamp (file_key c a.stamp) writes at.0 ∙ ap (λ (t : Bool). if t then writes else []) (same_key_is_same (file_key c a.stamp)) in
          rw (none, mine, under_earlier (file_key c a.stamp) earlier rising.0 at.1, key) refl

      others : (part : List WrittenAttempt) → EachOf (CarriesItsNumber c earlier) part → EachOf (λ e. (x : ℕ) → a.body ≡ Some x → e.body ≡ Some x → ⊥) part → EachOf (λ e. IsLaterKey (file_key c e.stamp) (file_key c a.stamp)) part
          → EachOf (CarriesItsNumber c ((a, writes) ∷ earlier)) part
      others [] so apart later = tt
      others ((e, ws) ∷ part) so apart later = (
        λ b is.
            let other : is_number b (open_body ((a, writes) ∷ earlier)) ≡ false = ap (is_number b) here ∙ other_number b a.body (λ same. apart.0 b same is) in
            let key : is_same_key (file_key c a.stamp) (file_key c e.stamp) ≡ false = (later_key_differs (file_key c e.stamp) (file_key c a.stamp) later.0).0 in
            rw (other, all_or_none a.stamp (file_key c e.stamp) writes at.0, key) (ap (λ (xs : List ℕ). xs ++ []) (so.0 b is)),
        others part so.1 apart.1 later.1,
      )

-- ---- what is known of the files

-- names of later periods are others, and in one period those of greater numbers
abbrev pub OtherNames : Config → Type 0
OtherNames c = (s t : Stamp) → IsStamp c s → IsStamp c t → IsLaterKey (file_key c s) (file_key c t) → file_name_of c t ≢ file_name_of c s

-- Of an attempt: what it opened is there, held before it what it held at first, has no other name than the attempt's, and is what has that name if a
-- file does. It left the survivors.
pub record IsOwner (c : Config) (first now : Content) (a : Attempt) : Type 0 where
  pub in_range : IsStamp c a.stamp
  pub there : (x : ℕ) → a.body ≡ Some x → x < length now.bodies
  pub began : (x : ℕ) → a.body ≡ Some x → body_at a.before x ≡ body_at first x
  pub own : HasItsName c now a
  pub stands : NamesItsBody c now a
  pub leaves : LeavesSurvivors c a

-- What is known of the files after a newest try and those before it, and that this was seen of each.
pub record FilesSoFar (c : Config) (newest : Try) (tries : List Try) (first now : Content) (b : ℕ) (Seen : Attempt → Type 0) : Type 0 where
  pub attempt : Attempt
  pub writes : List FileCall
  pub earlier : List WrittenAttempt
  pub newest_is : try_of (attempt, writes) ≡ newest
  pub earlier_are : map try_of earlier ≡ tries
  pub leads : OnlyAttemptsChange c ((attempt, writes) ∷ earlier) first now
  pub bodies : (x : ℕ) → body_at now x ≡ body_at first x ++ bytes_to_body x ((attempt, writes) ∷ earlier)
  pub open_is : open_body ((attempt, writes) ∷ earlier) ≡ Some b
  pub there : b < length now.bodies
  pub apart : OpenDistinctBodies ((attempt, writes) ∷ earlier)
  pub owners : EachOf (IsOwner c first now) ((attempt, writes) ∷ earlier)
  pub rising : IsRising c ((attempt, writes) ∷ earlier)
  pub in_period : EachInPeriod c ((attempt, writes) ∷ earlier)
  pub seen : EachOf Seen ((attempt, writes) ∷ earlier)

-- What is known of an attempt that succeeded.
pub record Succeeds (c : Config) (a : Attempt) (b : ℕ) : Type 0 where
  pub did : Succeeded c a b
  pub sound : IsSound did.unlinked
  pub sound_before : IsSound a.before
  pub unlinked_there : b < length did.unlinked.bodies
  pub there : b < length a.after.bodies

module _ (c : Config) (first : Content) where
  -- a change that keeps every body and its name
  owners_kept : (P : Attempt → Type 0) (attempts : List WrittenAttempt) (old new : Content) → KeepsBodies old new → ((a : Attempt) → IsOwner c first old a → P a → HadFile (file_name_of c a.stamp) old new) → EachOf P attempts → EachOf (IsOwner c first old) attempts → EachOf (IsOwner c first new) attempts
  owners_kept P attempts old new keeps stay all so = both_map P (IsOwner c first old) (IsOwner c first new) attempts
      (λ a p o. record {
        in_range = o.in_range;
        there = λ x is. keeps.more x (o.there x is);
        began = o.began;
        own = λ x is m t k. o.own x is m t (keeps.names x (o.there x is) m t k);
        stands = λ x is y t k. o.stands x is y t (stay a o p y t k);
        leaves = o.leaves;
      }) all so

  module _ (newest : Try) (tries : List Try) where
    pub law_so_far : (last : Content) (b : ℕ) (Seen : Attempt → Type 0) → FilesSoFar c newest tries first last b Seen → FileLaw c (newest ∷ tries) first last Seen b
    law_so_far last b Seen so =
        let attempts : List WrittenAttempt = (so.attempt, so.writes) ∷ so.earlier in
        let are : map try_of attempts ≡ newest ∷ tries = ap (λ (t : Try). t ∷ map try_of so.earlier) so.newest_is ∙ ap (λ (ts : List Try). newest ∷ ts) so.earlier_are in
        record {
          attempts = attempts;
          are_tries = are;
          are_seen = so.seen;
          leads = so.leads;
          bodies = so.bodies;
          open_is = so.open_is;
          apart = so.apart;
          each = each_map (IsOwner c first last) (ContainsItsBytes attempts last) attempts (λ a o b is. so.bodies b ∙ ap (λ (xs : List ℕ). xs ++ bytes_to_body b attempts) (sym (o.began b is))) so.owners;
          leaves = each_map (IsOwner c first last) (LeavesSurvivors c) attempts (λ a o. o.leaves) so.owners;
          under_its_name = each_map (IsOwner c first last) (HasItsName c last) attempts (λ a o. o.own) so.owners;
          names_its_body = each_map (IsOwner c first last) (NamesItsBody c last) attempts (λ a o. o.stands) so.owners;
          in_its_number = λ fine. number_law c attempts (ap failures_in are ∙ fine) so.apart so.rising so.in_period;
          stamps = each_map (IsOwner c first last) (λ a. IsStamp c a.stamp) attempts (λ a o. o.in_range) so.owners;
        }

    -- ---- a write, or a flush

    with_piece : (t : Bool) (had before ws piece : List ℕ) → (had ++ (before ++ (if t then ws else []))) ++ (if t then piece else []) ≡ had ++ (before ++ (if t then ws ++ piece else []))
    with_piece true had before ws piece = append_assoc had (before ++ ws) piece ∙ ap (λ (xs : List ℕ). had ++ xs) (append_assoc before ws piece)
    with_piece false had before ws piece = append-nil (had ++ (before ++ []))

    pub a_call : (now : Content) (b : ℕ) (Seen : Attempt → Type 0) (w : FileCall) → period_of c.rotation w.latest ≡ period_of c.rotation newest.stamp.moment → FilesSoFar c newest tries first now b Seen
        → FilesSoFar c (record newest { calls = w ∷ newest.calls }) tries first (after_append now b (take (written_count w.answer) w.bytes)) b Seen
    a_call now b Seen w at so =
        let piece : List ℕ = take (written_count w.answer) w.bytes in
        let open_now : Option ℕ = open_body ((so.attempt, so.writes) ∷ so.earlier) in
        let carried : now ≡ after_append so.attempt.after b (bytes_taken so.writes) = subst (λ (o : Option ℕ). Carried o (bytes_taken so.writes) so.attempt.after now) so.open_is so.leads.2 in
        record {
          attempt = so.attempt;
          writes = w ∷ so.writes;
          earlier = so.earlier;
          newest_is = ap (λ (t : Try). record t { calls = w ∷ t.calls }) so.newest_is;
          earlier_are = so.earlier_are;
          leads = (
            so.leads.0,
            so.leads.1,
            subst (λ (o : Option ℕ). Carried o (bytes_taken (w ∷ so.writes)) so.attempt.after (after_append now b piece)) (sym so.open_is)
                (rw carried (after_append_twice so.attempt.after b (bytes_taken so.writes) piece)),
          );
          bodies = λ x.
              let to : is_number x open_now ≡ (b == x) = ap (is_number x) so.open_is in
              after_append_at now b x piece so.there ∙ ap (λ (t : Bool). body_at now x ++ (if t then piece else [])) (sym to)
              ∙ ap (λ (xs : List ℕ). xs ++ (if is_number x open_now then piece else [])) (so.bodies x)
              ∙ with_piece (is_number x open_now) (body_at first x) (bytes_to_body x so.earlier) (bytes_taken so.writes) piece;
          open_is = so.open_is;
          there = rw (length-set now.bodies b (body_at now b ++ piece)) so.there;
          apart = so.apart;
          owners = each_map (IsOwner c first now) (IsOwner c first (after_append now b piece)) ((so.attempt, so.writes) ∷ so.earlier)
              (λ a o. record { in_range = o.in_range; there = λ x is. rw (length-set now.bodies b (body_at now b ++ piece)) (o.there x is); began = o.began; own = o.own; stands = o.stands; leaves = o.leaves }) so.owners;
          rising = so.rising;
          in_period = (
            All-cons (WasIn c so.attempt.stamp) w so.writes
                (at ∙ ap (λ (t : Try). period_of c.rotation t.stamp.moment) (sym so.newest_is)) so.in_period.0,
            so.in_period.1,
          );
          seen = so.seen;
        }

  -- ---- attempts

  module _ (parts : OpeningPartsKeepBodies) (maps : NameLaws) where
    keeps_on : (a b c : Content) → KeepsBodies a b → KeepsBodies b c → KeepsBodies a c
    keeps_on a b c k l = record {
      bytes = λ x. l.bytes x ∙ k.bytes x;
      more = λ x lt. l.more x (k.more x lt);
      names = λ x lt m t h. k.names x lt m t (l.names x (k.more x lt) m t h);
    }

    -- the parts of an attempt that succeeded keep what was there
    record KeepsParts (a : Attempt) (b : ℕ) (did : Succeeded c a b) : Type 0 where
      ready : KeepsBodies a.before (after_make_folder did.pruned)
      opened : AddsNoOtherFile (file_name_of c a.stamp) (after_make_folder did.pruned) did.unlinked
      linked : AddsNoFile did.unlinked a.after
      all : KeepsBodies a.before a.after

    keeps_parts : (a : Attempt) (b : ℕ) (did : Succeeded c a b) → KeepsParts a b did
    keeps_parts a b did =
        let ready = keeps_on a.before did.pruned (after_make_folder did.pruned) (parts.retention (log_files_of c (Some (file_name_of c a.stamp))) (max_before c) a.before did.pruned did.only_old).keeps (parts.folder did.pruned).keeps in
        let opened = parts.opening (file_name_of c a.stamp) (after_make_folder did.pruned) did.unlinked b did.opens in
        let made = parts.link c (file_name_of c a.stamp) did.unlinked did.linked did.links in
        let left = parts.retention (log_files_of c (Some (file_name_of c a.stamp))) (max_after c) did.linked a.after did.only_old_last in
        let linked : AddsNoFile did.unlinked a.after = record { keeps = keeps_on did.unlinked did.linked a.after made.keeps left.keeps; stay = λ other x t h. made.stay other x t (left.stay other x t h) } in
        record {
          ready = ready;
          opened = opened;
          linked = linked;
          all = keeps_on a.before (after_make_folder did.pruned) a.after ready (keeps_on (after_make_folder did.pruned) did.unlinked a.after opened.keeps linked.keeps);
        }

    -- one that opens the body x owns it
    owner : (s : Stamp) (x : ℕ) (before after : Content) (noted_before noted_after : NotedCounts) → IsStamp c s
        → (did : Succeeds c (record { stamp = s; body = Some x; before = before; after = after; noted_before = noted_before; noted_after = noted_after }) x) → body_at before x ≡ body_at first x
        → IsOwner c first after (record { stamp = s; body = Some x; before = before; after = after; noted_before = noted_before; noted_after = noted_after })
    owner s x before after noted_before noted_after is_stamp d began =
        let a : Attempt = record { stamp = s; body = Some x; before = before; after = after; noted_before = noted_before; noted_after = noted_after } in
        let keeps = keeps_parts a x d.did in
        let to = leads_to maps (file_name_of c s) (after_make_folder d.did.pruned) d.did.unlinked x d.did.opens in
        let it : (y : ℕ) → ◌≡◌ {A = Option ℕ} (Some x) (Some y) → x ≡ y = λ y. same_body x y in
        record {
          in_range = is_stamp;
          there = λ y ay. subst (λ (z : ℕ). z < length after.bodies) (it y ay) d.there;
          began = λ y ay. subst (λ (z : ℕ). body_at before z ≡ body_at first z) (it y ay) began;
          own = λ y ay m t k.
              let at : fin.get after.names m ≡ Some (File x t) = subst (λ (z : ℕ). fin.get after.names m ≡ Some (File z t)) (sym (it y ay)) k in
              d.sound.one_name m (file_name_of c s) x t to.0 (keeps.linked.keeps.names x d.unlinked_there m t at) to.1;
          stands = λ y ay z t k. same_file z x t to.0 (sym (keeps.linked.stay (file_name_of c s) z t k) ∙ to.1) ∙ it y ay;
          leaves = λ some quiet. leaves maps c (length before.bodies) a x d.did (inr (elim quiet [ inl q ↦ inl q | inr gone ↦ inr (gone, d.sound_before) ])) (λ y lt. lt);
        }

    -- the opening
    pub files_begin : (s : Stamp) (x : ℕ) (after : Content) (noted_before noted_after : NotedCounts) (Seen : Attempt → Type 0) → IsStamp c s
        → Succeeds c (record { stamp = s; body = Some x; before = first; after = after; noted_before = noted_before; noted_after = noted_after }) x
        → Seen (record { stamp = s; body = Some x; before = first; after = after; noted_before = noted_before; noted_after = noted_after })
        → FilesSoFar c (record { stamp = s; opened = true; calls = [] }) [] first after x Seen
    files_begin s x after noted_before noted_after Seen is_stamp d seen =
        let a : Attempt = record { stamp = s; body = Some x; before = first; after = after; noted_before = noted_before; noted_after = noted_after } in
        let keeps = keeps_parts a x d.did in
        record {
          attempt = a;
          writes = [];
          earlier = [];
          newest_is = refl;
          earlier_are = refl;
          leads = (refl, d.did, sym (after_append_nothing after x));
          bodies = λ y. keeps.all.bytes y ∙ sym (append-nil (body_at first y)) ∙ ap (λ (xs : List ℕ). body_at first y ++ xs) (sym (nothing_more (is_number y (Some x)) []));
          open_is = refl;
          there = d.there;
          apart = (tt, tt);
          owners = (owner s x first after noted_before noted_after is_stamp d refl, tt);
          rising = (tt, tt);
          in_period = (All-nil (WasIn c s), tt);
          seen = (seen, tt);
        }

    module _ (others : OtherNames c) (newest : Try) (tries : List Try) (old : Content) (b : ℕ) (Seen : Attempt → Type 0) (so : FilesSoFar c newest tries first old b Seen)
        (s : Stamp) (is_stamp : IsStamp c s) (later : IsLaterKey (file_key c newest.stamp) (file_key c s)) (new : Content) (noted_old noted_new : NotedCounts) where
      abbrev attempts : List WrittenAttempt
      attempts = (so.attempt, so.writes) ∷ so.earlier

      abbrev IsBefore : Attempt → Type 0
      IsBefore e = IsLaterKey (file_key c e.stamp) (file_key c s)

      are : map try_of attempts ≡ newest ∷ tries
      are = ap (λ (t : Try). t ∷ map try_of so.earlier) so.newest_is ∙ ap (λ (ts : List Try). newest ∷ ts) so.earlier_are

      all_before : EachOf IsBefore attempts
      all_before =
          let last : IsBefore so.attempt = subst (λ (t : Try). IsLaterKey (file_key c t.stamp) (file_key c s)) (sym so.newest_is) later in
          (last, each_map (λ e. IsLaterKey (file_key c e.stamp) (file_key c so.attempt.stamp)) IsBefore so.earlier (λ e k. later_key_still (file_key c e.stamp) (file_key c so.attempt.stamp) (file_key c s) k last) so.rising.0)

      earlier_name : (e : Attempt) → IsOwner c first old e → IsBefore e → file_name_of c s ≢ file_name_of c e.stamp
      earlier_name e o k = others e.stamp s o.in_range is_stamp k

      -- one that fails
      pub a_failure : IsRefusalEffect c (file_name_of c s) old new → Seen (record { stamp = s; body = None; before = old; after = new; noted_before = noted_old; noted_after = noted_new })
          → FilesSoFar c (record { stamp = s; opened = false; calls = [] }) (newest ∷ tries) first new b Seen
      a_failure little seen =
          let keeps = parts.refusal c (file_name_of c s) old new little in
          let never : (x : ℕ) → ◌≡◌ {A = Option ℕ} None (Some x) → ⊥ = λ x is. (let both : ◌≡◌ {A = Option ℕ} None (Some x) = is in cc) in
          record {
            attempt = record { stamp = s; body = None; before = old; after = new; noted_before = noted_old; noted_after = noted_new };
            writes = [];
            earlier = attempts;
            newest_is = refl;
            earlier_are = are;
            leads = (so.leads, little, rw so.open_is (sym (after_append_nothing new b)));
            bodies = λ x. keeps.keeps.bytes x ∙ so.bodies x ∙ ap (λ (xs : List ℕ). body_at first x ++ xs) (sym (nothing_more (is_number x (open_body attempts)) (bytes_to_body x attempts)));
            open_is = so.open_is;
            there = keeps.keeps.more b so.there;
            apart = (each_map IsBefore (λ e. (x : ℕ) → ◌≡◌ {A = Option ℕ} None (Some x) → e.body ≡ Some x → ⊥) attempts (λ e k x is. absurd (never x is)) all_before, so.apart);
            owners = (
              record {
                in_range = is_stamp;
                there = λ x is. absurd (never x is);
                began = λ x is. absurd (never x is);
                own = λ x is. absurd (never x is);
                stands = λ x is. absurd (never x is);
                leaves = λ some. absurd (let both : false ≡ true = some in cc);
              },
              owners_kept IsBefore attempts old new keeps.keeps (λ e o k. keeps.stay (file_name_of c e.stamp) (λ same. earlier_name e o k (sym same))) all_before so.owners,
            );
            rising = (all_before, so.rising);
            in_period = (All-nil (WasIn c s), so.in_period);
            seen = (seen, so.seen);
          }

      -- one that succeeds
      pub a_success : (x : ℕ) → Succeeds c (record { stamp = s; body = Some x; before = old; after = new; noted_before = noted_old; noted_after = noted_new }) x
          → Seen (record { stamp = s; body = Some x; before = old; after = new; noted_before = noted_old; noted_after = noted_new })
          → FilesSoFar c (record { stamp = s; opened = true; calls = [] }) (newest ∷ tries) first new x Seen
      a_success x d seen =
          let a : Attempt = record { stamp = s; body = Some x; before = old; after = new; noted_before = noted_old; noted_after = noted_new } in
          let keeps = keeps_parts a x d.did in
          let ready : Content = after_make_folder d.did.pruned in
          let at_ready : EachOf (IsOwner c first ready) attempts =
          owners_kept IsBefore attempts old ready keeps.ready (λ e o k. (parts.retention (log_files_of c (Some (file_name_of c s))) (max_before c) old d.did.pruned d.did.only_old).stay (file_name_of c e.stamp)) all_before so.owners in
          let at_opened : EachOf (IsOwner c first d.did.unlinked) attempts =
          owners_kept IsBefore attempts ready d.did.unlinked keeps.opened.keeps (λ e o k. keeps.opened.stay (file_name_of c e.stamp) (λ same. others e.stamp s o.in_range is_stamp k (sym same))) all_before at_ready in
          -- what is opened for another name is another body
          let other : (e : Attempt) → IsOwner c first ready e → IsBefore e → e.body ≡ Some x → ⊥ = λ e o k is.
          elim d.did.opens.1 [
            | inl found ↦ others e.stamp s o.in_range is_stamp k (o.own x is (file_name_of c s) found.0 found.1)
            | inr fresh ↦ let below : x < length ready.bodies = o.there x is in absurd (omega (arith, fresh.2))
          ] in
          let none : EachOf (NoneOpened x) attempts = both_map (IsOwner c first ready) IsBefore (NoneOpened x) attempts other at_ready all_before in
          record {
            attempt = a;
            writes = [];
            earlier = attempts;
            newest_is = refl;
            earlier_are = are;
            leads = (so.leads, d.did, sym (after_append_nothing new x));
            bodies = λ y. keeps.all.bytes y ∙ so.bodies y ∙ ap (λ (xs : List ℕ). body_at first y ++ xs) (sym (nothing_more (is_number y (Some x)) (bytes_to_body y attempts)));
            open_is = refl;
            there = d.there;
            apart = (each_map (NoneOpened x) (λ e. (y : ℕ) → ◌≡◌ {A = Option ℕ} (Some x) (Some y) → e.body ≡ Some y → ⊥) attempts (λ e f y is same. f (same ∙ ap (λ (z : ℕ). Some z) (sym (same_body x y is)))) none, so.apart);
            owners = (
              owner s x old new noted_old noted_new is_stamp d (so.bodies x ∙ ap (λ (xs : List ℕ). body_at first x ++ xs) (bytes_other x attempts none) ∙ append-nil (body_at first x)),
              owners_kept IsBefore attempts d.did.unlinked new keeps.linked.keeps (λ e o k. keeps.linked.stay (file_name_of c e.stamp)) all_before at_opened,
            );
            rising = (all_before, so.rising);
            in_period = (All-nil (WasIn c s), so.in_period);
            seen = (seen, so.seen);
          }
