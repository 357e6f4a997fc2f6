use Rattle.std.proofs.Common.{rules, arith, ◌≡◌, ◌<◌, length, slice_index_or}
use Rattle.count_workers.proofs.on_collector.Coming.{none_came}
use Rattle.count_workers.proofs.running.round.run_round.Goals as goal

pub begin_all-requires : goal.begin_all-requires
begin_all-requires g c = c.requires.idle

pub run_all-requires-clause-on : goal.run_all-requires-clause-on
run_all-requires-clause-on g c κs within = record {
  work = λ v d m. (
      let long : length c.begin_all.new.workers ≡ length c.args.workers.now = search rules in
      let mine : v < length c.args.workers.now = omega (arith, m, long) in
      let wide = (c.begin_all.ensures v d mine).takers in let few = (c.requires.work v d mine).takers in
      record { takers = omega (arith, wide, few) });
  grid = c.requires.grid;
}

pub returns-clause-collected : goal.returns-clause-collected
returns-clause-collected g c = c.collect_rest.ensures c.args.depot.now.board c.args.depot.now.pool c.args.returns.now
    (c.run_all.ensures.collects c.args.depot.now.board c.args.depot.now.pool c.args.returns.now
    (none_came c.args.depot.now.board c.args.depot.now.pool c.args.returns.now c.requires.awaited))

pub returns-clause-workers : goal.returns-clause-workers
returns-clause-workers g c = λ v d m. (
    let long : length c.begin_all.new.workers ≡ length c.args.workers.now = search rules in
    (c.run_all.ensures.workers v d (omega (arith, m, long))).to_end (slice_index_or c.args.workers.now v d) (c.begin_all.ensures v d m))
