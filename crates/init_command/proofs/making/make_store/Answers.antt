use Rattle.std.proofs.Common.{rules}
use Rattle.init_command.proofs.MakingMoments.{none_yet, as_begun, told_made}
use Rattle.init_command.proofs.making.make_store.Goals as goal

pub returns-in_default-clause-any_moment : goal.returns-in_default-clause-any_moment
returns-in_default-clause-any_moment g c = λ tells none.
    let k = g.K.Station in
    none_yet (k.clock c.args.station.now) (k.moments c.args.station.now) (k.told c.args.station.now) _ _ (k.leaves c.args.station.now)
    (g.met.K.Station.only_now tells c.args.station.now) none

pub returns-in-Err-clause-any_moment : goal.returns-in-Err-clause-any_moment
returns-in-Err-clause-any_moment g c = λ tells none.
    let k = g.K.Station in
    as_begun (k.clock c.args.station.now) (k.moments c.args.station.now) (k.told c.args.station.now) _ _
    (k.clock c.init.new.station) (k.moments c.init.new.station) (c.init.ensures.any_moment tells none)

pub returns-in-Ok-tell-clause-any_moment : goal.returns-in-Ok-tell-clause-any_moment
returns-in-Ok-tell-clause-any_moment g c = λ tells none.
    let k = g.K.Station in
    let made = c.in-Ok-init.ensures.made tells in
    told_made (k.clock c.args.station.now) (k.moments c.args.station.now) (k.told c.args.station.now) _ _
    (k.clock c.init.new.station) (k.clock c.tell.new.self) (k.moments c.init.new.station) (k.moments c.tell.new.self)
    (k.told c.init.new.station) (k.told c.tell.new.self) c.bytes.result.now (k.seen c.init.new.station)
    (k.leaves c.init.new.station) (k.leaves c.tell.new.self) c.tell.result (c.init.ensures.any_moment tells none)
    (c.init.ensures.told tells) made.0 made.1 (search rules) (c.tell.ensures.time tells) (c.tell.ensures.crash tells)
    (c.tell.ensures.told tells)

pub returns-clause-any_moment : goal.returns-clause-any_moment
returns-clause-any_moment g c = λ tells none.
    let k = g.K.Station in
    let made = c.in-Ok-init.ensures.made tells in
    told_made (k.clock c.args.station.now) (k.moments c.args.station.now) (k.told c.args.station.now) _ _
    (k.clock c.init.new.station) (k.clock c.tell.new.self) (k.moments c.init.new.station) (k.moments c.tell.new.self)
    (k.told c.init.new.station) (k.told c.tell.new.self) c.bytes.result.now (k.seen c.init.new.station)
    (k.leaves c.init.new.station) (k.leaves c.tell.new.self) c.tell.result (c.init.ensures.any_moment tells none)
    (c.init.ensures.told tells) made.0 made.1 (search rules) (c.tell.ensures.time tells) (c.tell.ensures.crash tells)
    (c.tell.ensures.told tells)
