use Rattle.std.proofs.Common.{◌∙◌, length, ap, rules}
use Rattle.std.specs.FinMap as fin
use Rattle.appender_store.specs.Content.{File}
use Rattle.appender_store.specs.Inside.Entries.{names_of, bodies_of}
use Rattle.appender_store.specs.MemoryState.{MemoryState}
use Rattle.appender_store.proofs.NameLaws.{added_stands}
use Rattle.appender_store.proofs.store.memory.MemoryFolderFolder.open.Goals as goal

pub returns-in_ok-body-in-Free-clause-call : goal.returns-in_ok-body-in-Free-clause-call
returns-in_ok-body-in-Free-clause-call c = record {
  called = search rules;
  in_use = search rules;
  created = λ _. ap (λ (s : MemoryState). fin.get s.content.names c.args.name.now) c.in_ok-body-in-Free.ensures.ok
      ∙ added_stands (names_of c.args.self.now.names) c.args.name.now (File (length (bodies_of c.args.self.now.bodies)) c.args.self.now.created);
}
