use Rattle.std.proofs.Common.{rules, arith, ap, ◌∙◌, ◌≡◌, ◌<◌, length}
use Rattle.std.specs.Prelude.{option_map}
use Rattle.count_workers.proofs.on_round_making.Settled.{fit_all, room_all, rests, done}
use Rattle.count_workers.proofs.on_lane_loans.Walking.{some_of}
use Rattle.count_workers.proofs.on_round_making.Ran.{ring_so_far, feeders_so_far, back_so_far}
use Rattle.count_workers.proofs.round_making.making.make_round.Goals as goal

pub run_round-requires-clause-awaited : goal.run_round-requires-clause-awaited
run_round-requires-clause-awaited g c κs within =
    λ v d m. (c.requires.resting.each_return v (some_of c.args.workers.now c.requires.resting.workers_few.0) d
    (omega (arith, m, c.requires.resting.returns_long))).awaited

pub settle_all-requires-clause-feeders : goal.settle_all-requires-clause-feeders
settle_all-requires-clause-feeders g c κs within = λ h d m.
    let readers : length c.run_round.new.readers ≡ length c.args.readers.now = search rules in
    let workers : length c.run_round.new.workers ≡ length c.args.workers.now = search rules in
    let few : h < length c.args.readers.now = omega (arith, m, readers) in
    let l = some_of c.args.lanes.now (omega (arith, few, c.requires.long)) in
    let e = feeders_so_far g.C.Source.tells g.C.Source.left g.C.Source.faults _ _ _ _ _ _ (c.requires.resting.each_reader h d few).feeders
    (c.lend_lanes.ensures.lent h d l few) (c.run_round.ensures.readers h d (omega (arith, few, c.lend_lanes.ensures.long.0))) in
    omega (arith, e, workers)

pub settle_all-requires-clause-rings : goal.settle_all-requires-clause-rings
settle_all-requires-clause-rings g c κs within = λ v h d e m k.
    let readers : length c.run_round.new.readers ≡ length c.args.readers.now = search rules in
    let workers : length c.run_round.new.workers ≡ length c.args.workers.now = search rules in
    let few : h < length c.args.readers.now = omega (arith, k, readers) in
    let mine : v < length c.args.workers.now = omega (arith, m, workers) in
    let l = some_of c.args.lanes.now (omega (arith, few, c.requires.long)) in
    ring_so_far g.C.Source.tells g.C.Source.left g.C.Source.faults (length c.args.workers.now) h v _ _ _ _ _ _ _ mine
    (c.requires.resting.each_reader h e few).feeders (c.lend_lanes.ensures.lent h e l few)
    (c.run_round.ensures.readers h e (omega (arith, few, c.lend_lanes.ensures.long.0))) (c.run_round.ensures.workers v d mine)
    (c.requires.resting.rings v h d e mine few).one

pub settle_returns-requires-clause-rings : goal.settle_returns-requires-clause-rings
settle_returns-requires-clause-rings g c = λ v d e m.
    let first : length c.run_round.new.workers ≡ length c.args.workers.now = search rules in
    let workers : length c.settle_all.new.workers ≡ length c.run_round.new.workers = search rules in
    let mine : v < length c.args.workers.now = omega (arith, m, workers, first) in
    back_so_far _ _ _ _ _ (c.requires.resting.each_return v d e mine).one (c.run_round.ensures.workers v d mine)
    (c.settle_all.ensures.workers v d) (c.run_round.ensures.collected.same v e (omega (arith, mine, c.requires.resting.returns_long)))

pub return_lanes-requires-clause-fit : goal.return_lanes-requires-clause-fit
return_lanes-requires-clause-fit g c κs within =
    fit_all g.C.Source.tells g.C.Source.left g.C.Source.faults c.args.depot.now.pool c.lend_lanes.new.pool c.run_round.new.depot.pool c.args.depot.now.board
    c.begin_windows.new.board c.run_round.new.depot.board c.args.readers.now c.lend_lanes.new.readers c.run_round.new.readers
    c.settle_all.new.readers c.args.workers.now c.run_round.new.workers c.settle_all.new.workers c.settle_returns.new.workers
    c.args.returns.now c.run_round.new.returns c.settle_returns.new.returns c.args.lanes.now c.lend_lanes.new.lanes (search rules)

pub return_lanes-requires-clause-room : goal.return_lanes-requires-clause-room
return_lanes-requires-clause-room g c κs within =
    room_all g.C.Source.tells g.C.Source.left g.C.Source.faults c.args.depot.now.pool c.lend_lanes.new.pool c.run_round.new.depot.pool c.args.depot.now.board
    c.begin_windows.new.board c.run_round.new.depot.board c.args.readers.now c.lend_lanes.new.readers c.run_round.new.readers
    c.settle_all.new.readers c.args.workers.now c.run_round.new.workers c.settle_all.new.workers c.settle_returns.new.workers
    c.args.returns.now c.run_round.new.returns c.settle_returns.new.returns c.args.lanes.now c.lend_lanes.new.lanes (search rules)

pub returns-clause-resting : goal.returns-clause-resting
returns-clause-resting g c = rests g.C.Source.tells g.C.Source.left g.C.Source.faults c.args.depot.now.pool c.lend_lanes.new.pool
    c.run_round.new.depot.pool c.args.depot.now.board c.begin_windows.new.board c.run_round.new.depot.board c.args.readers.now c.lend_lanes.new.readers
    c.run_round.new.readers c.settle_all.new.readers c.args.workers.now c.run_round.new.workers c.settle_all.new.workers
    c.settle_returns.new.workers c.args.returns.now c.run_round.new.returns c.settle_returns.new.returns c.args.lanes.now
    c.lend_lanes.new.lanes (search rules) c.return_lanes.new.pool c.return_lanes.new.readers c.return_lanes.new.lanes
    c.return_lanes.ensures.returned c.return_lanes.ensures.long c.return_lanes.ensures.pool

pub returns-clause-done : goal.returns-clause-done
returns-clause-done g c = done g.C.Source.tells g.C.Source.left g.C.Source.faults c.args.depot.now.pool c.lend_lanes.new.pool
    c.run_round.new.depot.pool c.args.depot.now.board c.begin_windows.new.board c.run_round.new.depot.board c.args.readers.now c.lend_lanes.new.readers
    c.run_round.new.readers c.settle_all.new.readers c.args.workers.now c.run_round.new.workers c.settle_all.new.workers
    c.settle_returns.new.workers c.args.returns.now c.run_round.new.returns c.settle_returns.new.returns c.args.lanes.now
    c.lend_lanes.new.lanes (search rules) c.return_lanes.new.pool c.return_lanes.new.readers c.return_lanes.new.lanes
    c.return_lanes.ensures.returned c.return_lanes.ensures.long c.return_lanes.ensures.pool

pub returns-clause-sources : goal.returns-clause-sources
returns-clause-sources g c = λ h d m.
    let number = g.C.Source.number in
    let few : h < length c.args.readers.now = omega (arith, m, c.requires.long) in
    let lent_few : h < length c.lend_lanes.new.readers = omega (arith, few, c.lend_lanes.ensures.long.0) in
    let readers : length c.run_round.new.readers ≡ length c.args.readers.now = search rules in
    let settled : length c.settle_all.new.readers ≡ length c.run_round.new.readers = search rules in
    let back_few : h < length c.settle_all.new.readers = omega (arith, few, readers, settled) in
    let r = some_of c.args.readers.now c.requires.resting.gauges_few.0 in
    let lent = (c.lend_lanes.ensures.lent h r d few).src in
    let ran = c.run_round.ensures.sources h r lent_few in
    let still = (c.settle_all.ensures.readers h r).src in
    let back = (c.return_lanes.ensures.returned h r d back_few).src in
    ap (option_map number) (back ∙ still) ∙ (ran ∙ ap (option_map number) lent)

pub run_round-requires-clause-idle : goal.run_round-requires-clause-idle
run_round-requires-clause-idle g c κs within = λ v d m. (c.requires.resting.each_worker v d m).idle
