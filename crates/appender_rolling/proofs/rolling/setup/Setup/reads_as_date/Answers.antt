use Rattle.std.proofs.Common.{◌≡◌, ◌↔◌, true, ℤ, subst, string_bytes}
use Rattle.appender_names.specs.Name.{Naming, Reads}
use Rattle.appender_rolling.proofs.Clashes.{reads_exactly}
use Rattle.appender_rolling.proofs.Numbered.{named}
use Rattle.appender_rolling.proofs.rolling.setup.Setup.reads_as_date.Goals as goal

pub returns : goal.returns
returns c =
    let is = named c.self.inside.names (string_bytes c.self.inside.link) c.self.inside.link_optional c.self.inside.max_files c.self.inside.by_name c.self.inside.max_bytes c.self.inside.continues c.self.invariant in
    rw (← c.self.view_is) (subst (λ (n : Naming). (c.is_some.result ≡ true) ↔ ((s : ℤ) × Reads n c.args.name.now s)) is
    (reads_exactly c.self.inside.names c.args.name.now c.read.result c.is_some.result c.read.ensures.exact c.is_some.ensures))
