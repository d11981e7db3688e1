use Rattle.std.proofs.Common.{rules, ◌≡◌, ◌<◌, length, drop, sym, subst, arith}
use Rattle.std.proofs.lemmas.List.{length-append, length-drop, take-append-le}
use Rattle.std.specs.Io.KnownBytes.{Consumes}
use Rattle.program_io.proofs.blocking.BlockingInputRead.read.Goals as goal

pub returns-clause-bytes : goal.returns-clause-bytes
returns-clause-bytes g c =
    let part = c.read_blocking.new.buf in
    let rest = drop c.asked-most.result c.args.buf.now in
    let long : length part ≡ c.asked-most.result = search rules in
    let read = c.in_ok-length.ensures in
    let remaining = g.I.Read.remaining in (
      subst (Consumes (remaining c.args.self.now.input) (remaining c.read_blocking.new.self.input)) (sym (take-append-le c.in_ok-length.length part rest read.bound.0)) read.bytes.0,
      λ none some. read.bytes.1 none (
          let room : 0 < length c.args.buf.now = omega (arith, some, long, length-append part rest, length-drop c.asked-most.result c.args.buf.now, c.asked-most.ensures.room) in
          omega (arith, long, c.asked-most.ensures.some room)),
    )
