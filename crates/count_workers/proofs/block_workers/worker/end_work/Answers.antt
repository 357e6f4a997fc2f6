use Rattle.std.proofs.Common.{refl, arith, ap, vec_len}
use Rattle.count_workers.proofs.on_running.Turns.{works_same, works_both}
use Rattle.count_workers.proofs.on_block_workers.Steps.{worked_hands, work_ended}
use Rattle.count_workers.proofs.block_workers.worker.end_work.Goals as goal

pub loop-init : goal.loop-init
loop-init g c = record { can = c.requires; on = works_same c.args.worker.now }

pub loop-preserved : goal.loop-preserved
loop-preserved g c = record {
  can = (let t = c.work_once.ensures.takers in let few = c.loop.invariant.can.takers in record { takers = omega (arith, t, few) });
  on = works_both c.args.worker.now c.loop.worker c.work_once.new.worker c.loop.invariant.on c.work_once.ensures;
}

pub returns-then-worker-len : goal.returns-then-worker-len
returns-then-worker-len g c =
    let came = c.fetch_all.ensures.came in
    let wide = ap (λ t. vec_len t) came.takers in
    let at = came.gauge in
    record {
      to_end = λ first h. work_ended first c.fetch_all.new.worker _
          (worked_hands first c.loop.worker c.fetch_all.new.worker (c.loop.invariant.on.on first h) came) (omega (arith, wide, at))
          c.fetch_all.ensures.idle refl refl refl c.feed_waiting.ensures.fed c.feed_waiting.ensures.same;
    }
