use Rattle.std.proofs.Common.{◌≡◌, ◌∙◌, List, map, length, take, sym, ap, subst}
use Rattle.std.proofs.lemmas.Result.{IfOk-weaker}
use Rattle.appender_store.specs.Folder.{listed_row}
use Rattle.appender_retain.specs.Rank.{IsPlan}
use Rattle.appender_retain.specs.Inside.Candidate.{rank_in, removal_count}
use Rattle.appender_retain.specs.declared.retain.Candidate.{Candidate}
use Rattle.appender_retain.proofs.Ranks.{InOrder, plans}
use Rattle.appender_retain.proofs.Candidates.{candidates_in_order, places_gone}
use Rattle.appender_retain.proofs.retain.plan_log_files.Goals as goal

pub returns : goal.returns
returns c =
    let all : List Candidate = c.sort_unstable.new.self.items in
    let order : InOrder c.args.log.now (map listed_row c.args.listed.now) (map rank_in all) =
    candidates_in_order c.args.log.now (map listed_row c.args.listed.now) c.in_ok-all.all.items all c.in_ok-all.ensures c.sort_unstable.ensures.permutation c.sort_unstable.ensures.sorted in
    let count : c.how_many-count.result ≡ removal_count c.args.max (length all) =
    c.how_many-count.ensures ∙ ap (removal_count c.args.max) (c.len.ensures ∙ sym c.deref.ensures.len ∙ ap length c.deref.ensures.value) in
    IfOk-weaker c.places.result _ _
    (λ gone is.
    subst (IsPlan c.args.log.now c.args.max (map listed_row c.args.listed.now))
    (sym (is ∙ ap (λ (xs : List Candidate). map (λ (x : Candidate). x.place) (take c.how_many-count.result xs)) c.deref.ensures.value ∙ places_gone c.args.max c.how_many-count.result all count))
    (plans c.args.log.now (map listed_row c.args.listed.now) (map rank_in all) c.args.max order))
    c.places.ensures
