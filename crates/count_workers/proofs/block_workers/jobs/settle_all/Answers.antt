use borrow.Author.Count.{below_more}
use Rattle.std.proofs.Common.{rules, arith, ◌<◌, length, get_or, subst, ◌∙◌}
use Rattle.std.proofs.lemmas.List.{get_or_default}
use Rattle.std.proofs.Math.ListN.{length-set}
use Rattle.count_workers.specs.block_workers.Jobs.{SameWork, Fifo}
use Rattle.count_workers.proofs.on_block_workers.Settling.{set_related, work_on, work_same, read_on, read_same, ring_still, fifo_back}
use Rattle.count_workers.proofs.block_workers.jobs.settle_all.Goals as goal

pub loop-v-init : goal.loop-v-init
loop-v-init g c = record {
  wide = search rules;
  long = search rules;
  workers = λ u d. work_same _;
  readers = λ h d. read_same _;
  fifo = λ u h d e l. absurd (omega (arith, l));
}

pub settle_worker-requires-clause-takers : goal.settle_worker-requires-clause-takers
settle_worker-requires-clause-takers g c κs p =
    let w = c.index-workers-v.result in omega (
      arith,
      (c.loop-v.invariant.workers c.loop-v.v w).takers,
      c.requires.takers c.loop-v.v w (omega (arith, c.loop-v.invariant.wide)),
      c.loop-v.invariant.long,
    )

pub settle_worker-requires-clause-feeders : goal.settle_worker-requires-clause-feeders
settle_worker-requires-clause-feeders g c κs p h d m = omega (
  arith,
  (c.loop-v.invariant.readers h d).feeders,
  c.requires.feeders h d (omega (arith, m, c.loop-v.invariant.long)),
  c.loop-v.invariant.wide,
)

pub settle_worker-requires-clause-rings : goal.settle_worker-requires-clause-rings
settle_worker-requires-clause-rings g c κs p h d m =
    let w = c.index-workers-v.result in
    ring_still _ _ _ _ h c.loop-v.v (c.loop-v.invariant.workers c.loop-v.v w) (c.loop-v.invariant.readers h d)
    (c.requires.rings c.loop-v.v h w d (omega (arith, c.loop-v.invariant.wide)) (omega (arith, m, c.loop-v.invariant.long)))

pub loop-v-preserved : goal.loop-v-preserved
loop-v-preserved g c =
    let v = c.loop-v.v in let w = c.index-workers-v.result in
    let ws = c.loop-v.workers in let rs = c.loop-v.readers in
    let ws0 = c.args.workers.now in let rs0 = c.args.readers.now in
    let l : v < length ws = omega arith in
    record {
      wide = length-set ws v c.settle_worker.new.worker ∙ c.loop-v.invariant.wide;
      long = c.settle_worker.ensures.long ∙ c.loop-v.invariant.long;
      workers = set_related SameWork ws0 ws v c.settle_worker.new.worker l c.loop-v.invariant.workers
          (λ d. work_on (get_or ws0 v d) (get_or ws v d) c.settle_worker.new.worker (c.loop-v.invariant.workers v d)
          (subst (λ x. SameWork x c.settle_worker.new.worker) (get_or_default ws v w d l) c.settle_worker.ensures.worker));
      readers = λ h d. read_on (get_or rs0 h d) (get_or rs h d) (get_or c.settle_worker.new.readers h d) (c.loop-v.invariant.readers h d)
          (c.settle_worker.ensures.readers h d);
      fifo = λ u h d e m n. below_more (λ i. Fifo (get_or ws0 i d) (get_or rs0 h e) h i) v (λ i k. c.loop-v.invariant.fifo i h d e k n)
          (fifo_back (get_or ws0 v d) (get_or ws v d) (get_or rs0 h e) (get_or rs h e) h v (c.loop-v.invariant.workers v d)
          (c.loop-v.invariant.readers h e)
          (subst (λ x. Fifo x (get_or rs h e) h v) (get_or_default ws v w d l)
          (c.settle_worker.ensures.fifo h e (omega (arith, n, c.loop-v.invariant.long))))) u m;
    }
