use Rattle.std.proofs.Common.{ap}
use Rattle.rolltee_core.proofs.Taken.{reader_made}
use Rattle.rolltee_core.proofs.tee.reader.Goals as goal

pub returns : goal.returns
returns g c =
    let made = c.with_capacity.ensures in
    reader_made (λ i. g.I.Read.remaining i.input) c.with_capacity.result c.requires (ap g.I.Read.remaining c.new.ensures) made.inner made.empty made.capacity
