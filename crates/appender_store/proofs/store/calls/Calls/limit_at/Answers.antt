use Rattle.std.proofs.Common.{◌≡◌, ◌∙◌, sym, rules}
use Rattle.std.specs.Ordering.{nat_cmp}
use Rattle.std.specs.BTreeMap.{get_by}
use Rattle.appender_store.proofs.MemoryCallLemmas.{limit_found}
use Rattle.appender_store.proofs.store.calls.Calls.limit_at.Goals as goal

pub returns : goal.returns
returns c =
    let found : c.copied.result ≡ get_by (nat_cmp c.args.call) c.args.self.now.shortened = search rules in
    found ∙ sym (limit_found c.args.self.now.shortened c.args.call)
