use Rattle.std.proofs.Common.{refl}
use Rattle.demo_command.proofs.WithoutMemory.{without_memory}
use Rattle.monitor.proofs.NoMemory.{ends_in}
use Rattle.monitor.proofs.demo.told_demo.Goals as goal

pub returns-in_default-clause-run : goal.returns-in_default-clause-run
returns-in_default-clause-run g c = without_memory c.args.seed c.args.samples g.O.Sink.tells _ _ _ _ refl

pub returns-in_default-clause-last : goal.returns-in_default-clause-last
returns-in_default-clause-last g c = λ tells some.
    ends_in (g.K.Station.told c.args.station.now) _ (c.tell_no_memory.ensures.last tells)

pub returns-clause-last : goal.returns-clause-last
returns-clause-last g c = λ tells some. ends_in (g.K.Station.told c.args.station.now) _ (c.tell_fault.ensures.last tells some)
