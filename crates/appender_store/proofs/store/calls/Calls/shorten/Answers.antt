use Rattle.std.proofs.Common.{◌≡◌, ◌∙◌, ℕ, ap, rules}
use Rattle.std.specs.FinMap as fin
use Rattle.appender_store.specs.Inside.Calls.{append_limits_of}
use Rattle.appender_store.specs.MemoryState.{lesser_limit}
use Rattle.appender_store.proofs.MemoryCallLemmas.{limit_added}
use Rattle.appender_store.proofs.store.calls.Calls.shorten.Goals as goal
use Rattle.appender_store.proofs.store.calls.Calls.shorten.Goals.{in-Some, in-None}

pub returns-clause-ok : goal.returns-clause-ok
returns-clause-ok c =
    let least : c.match-limit_at.least ≡ lesser_limit (fin.get (append_limits_of c.args.self.now.shortened) c.args.call) c.args.limit =
    elim c.match-limit_at.branch [ in-Some w ↦ search rules | in-None w ↦ search rules ] in
    limit_added c.args.self.now.shortened c.insert.new.self c.args.call _ c.in_ok-insert.ensures.updates ∙ ap (λ (n : ℕ). fin.insert (append_limits_of c.args.self.now.shortened) c.args.call n) least
