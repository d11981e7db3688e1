use Rattle.std.proofs.Common.{◌≡◌, arith, length, refl, subst, vec_len}
use Rattle.std.proofs.lemmas.Bool.{false≢true}
use Rattle.appender_worker.specs.Served.{ServesLines}
use Rattle.appender_non_blocking.specs.Account.{IsAccount, new_guard}
use Rattle.appender_non_blocking.proofs.Work.{made, worked}
use Rattle.appender_non_blocking.proofs.non_blocking.work.run_started.Goals as goal

-- there is a sender for each work
pub run_all-senders-requires-clause-long : goal.run_all-senders-requires-clause-long
run_all-senders-requires-clause-long g c κs within =
    omega (arith, made _ _ _ c.requires.new.1, c.requires.parts.0, c.args.senders.ok.0)

pub run_all-senders-requires-clause-room : goal.run_all-senders-requires-clause-room
run_all-senders-requires-clause-room g c κs within =
    omega (arith, made _ _ _ c.requires.new.1, c.requires.room, c.args.senders.ok.0)

-- each sender came back
pub end-requires-after_bounds : goal.end-requires-after_bounds
end-requires-after_bounds g c κs within =
    (omega (arith, made _ _ _ c.requires.new.1, c.run_all-senders.ensures.senders, c.run_all-senders.result.0.ok.0), c.requires.parts.1, c.requires.parts.2)

pub unreachable-requires : goal.unreachable-requires
unreachable-requires g c = false≢true (c.in-None.ensures.always refl)

pub returns : goal.returns
returns g c = λ lossy writer new first.
    let ran = c.run_all-senders.ensures in
    let done = c.run_all-senders.result.1.items in
    let ended = c.run_all-senders.result.0.items in
    let account = c.in-Some.account in
    let written = c.in-Some.written in
    let wrote = c.in-Some.ensures.wrote in
    let each : g.L.QueueHistories.senders ≡ length c.args.works.items = omega (arith, c.requires.parts.0, c.args.works.ok.0) in
    let many : vec_len c.run_all-senders.result.0 ≡ length c.args.works.items = omega (arith, made _ _ _ new, each, ran.senders, c.run_all-senders.result.0.ok.0) in
    record {
      ended = ended;
      each = worked g.K.CountedWork.does lossy _ c.args.works.items done _ ended each new ran.senders ran.works ran.each;
      taken = wrote.0;
      arrived = wrote.1;
      handed = wrote.2;
      account = subst (λ n. IsAccount account.accepted account.handed account.left account.dropped (new_guard n) ended) many c.in-Some.ensures.account;
      wrote = subst (λ t. ServesLines t (g.W.Write.contents written.writer) wrote.0 written.given_up) first wrote.3;
    }
