use Rattle.std.proofs.Common.{◌≡◌, ◌∙◌, ℕ, List, rules, string_bytes, ap}
use Rattle.std.specs.FinMap as fin
use Rattle.appender_store.specs.Inside.Entries.{names_of, entry_of}
use Rattle.appender_store.proofs.MemoryEntryLemmas.{one_added}
use Rattle.appender_store.proofs.store.entries.put_item.Goals as goal

pub returns-clause-ok : goal.returns-clause-ok
returns-clause-ok c =
    let name : string_bytes c.in_ok-key.key ≡ c.args.name.now = search rules in
    one_added c.args.names.now c.insert.new.self (string_bytes c.in_ok-key.key) c.args.item c.in_ok-insert.ensures.updates
    ∙ ap (λ (k : List ℕ). fin.insert (names_of c.args.names.now) k (entry_of c.args.item)) name
