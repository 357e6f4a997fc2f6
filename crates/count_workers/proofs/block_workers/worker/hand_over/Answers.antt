use Rattle.std.proofs.Common.{refl, subst, rules, ◌∙◌, [], ◌∷◌}
use Rattle.count_workers.specs.declared.block_workers.worker.Worker.{Worker}
use Rattle.count_workers.specs.block_workers.Working.{HandsOver}
use Rattle.count_workers.proofs.on_block_workers.Steps.{hands_none, hands_counted, hands_both}
use Rattle.count_workers.proofs.block_workers.worker.hand_over.Goals as goal

pub loop-init : goal.loop-init
loop-init g c = record { came = hands_none c.args.worker.now _ refl refl refl refl refl; same = refl }

pub returns-in-Ok : goal.returns-in-Ok
returns-in-Ok g c = hands_both c.args.worker.now c.loop.worker c.offer.new.worker [] (c.args.filled ∷ []) c.loop.invariant.came
    (subst (λ f. HandsOver c.loop.worker c.offer.new.worker (f ∷ [])) c.loop.invariant.same c.in-Ok.ensures.handed)

pub returns-then-not-is_waiting : goal.returns-then-not-is_waiting
returns-then-not-is_waiting g c =
    let mid = c.offer.new.worker in
    let now : Worker = record mid { back = c.feed_waiting.new.feeder } in
    let before : HandsOver c.args.worker.now mid [] =
    hands_both c.args.worker.now c.loop.worker mid [] [] c.loop.invariant.came c.in-Err.ensures.same in
    hands_both c.args.worker.now mid now [] (c.args.filled ∷ []) before
    (subst (λ f. HandsOver mid now (f ∷ [])) (c.in-Err.ensures.given ∙ c.loop.invariant.same)
    (hands_counted mid now c.in-Err.given c.count.result refl refl refl (c.is_waiting.ensures (search rules)) refl c.count.ensures
    c.feed_waiting.ensures.fed c.feed_waiting.ensures.same))

pub loop-preserved-then-not-fetch : goal.loop-preserved-then-not-fetch
loop-preserved-then-not-fetch g c = record {
  came = hands_both c.args.worker.now c.offer.new.worker c.fetch.new.worker [] []
      (hands_both c.args.worker.now c.loop.worker c.offer.new.worker [] [] c.loop.invariant.came c.in-Err.ensures.same) c.fetch.ensures;
  same = c.in-Err.ensures.given ∙ c.loop.invariant.same;
}

pub loop-preserved : goal.loop-preserved
loop-preserved g c = record {
  came = hands_both c.args.worker.now c.offer.new.worker c.fetch.new.worker [] []
      (hands_both c.args.worker.now c.loop.worker c.offer.new.worker [] [] c.loop.invariant.came c.in-Err.ensures.same) c.fetch.ensures;
  same = c.in-Err.ensures.given ∙ c.loop.invariant.same;
}
