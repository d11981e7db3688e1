use Rattle.std.proofs.Common.{◌≡◌, ◌≢◌, ◌<◌, [], ℕ, arith, length, rules, slice_index_or, subst}
use Rattle.std.proofs.lemmas.List.{length-map}
use Rattle.line_history.proofs.Places.{ComparedFrom, all_compared, how_many, one_compared}
use Rattle.line_history.proofs.halves.QueueHalves.compare_all.Goals as goal

pub loop-sender-preserved : goal.loop-sender-preserved
loop-sender-preserved g c =
    let inv = c.loop-sender.invariant in
    let x = c.in-Some.sender in
    let ys = c.pop.new.self.items in
    let sent = c.args.self.now.sent in
    let below : x.place < length sent = search rules in
    let same : x.lines ≡ slice_index_or sent x.place [] = search rules in
    let apart : (i : ℕ) (d : _) → i < length ys → x.place ≢ (slice_index_or ys i d).place = search rules in
    let step = one_compared (λ s. s.place) (λ s. s.lines) sent c.args.senders.items c.loop-sender.senders.items ys x inv.left inv.few c.in-Some.ensures.items below same apart inv.compared in
    let left : c.apart_from_all.new.others.items ≡ ys = c.apart_from_all.ensures.same.2 in
    let self : c.apart_from_all.new.self ≡ c.args.self.now = search rules in
    rw left (record { same = self; left = step.0; few = search (rules, arith); compared = step.1 })

pub returns-clause-same : goal.returns-clause-same
returns-clause-same g c lines whole =
    let inv = c.loop-sender.invariant in
    let none : length c.loop-sender.senders.items ≡ 0 = search rules in
    let long : length c.args.senders.items ≡ length c.args.self.now.sent =
    search (rules, arith, how_many (λ k. k.place) c.self.inside.sent.items _ c.self.invariant.0, length-map c.self.inside.sent.items (λ k. k.lines), c.requires) in
    let compared = subst (λ n. ComparedFrom (λ s. s.place) (λ s. s.lines) c.args.self.now.sent c.args.senders.items n) none inv.compared in
    all_compared (λ s. s.place) (λ s. s.lines) c.args.self.now.sent c.args.senders.items lines long compared whole
