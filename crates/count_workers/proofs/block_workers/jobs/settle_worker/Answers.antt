use borrow.Author.Count.{below_more}
use Rattle.std.proofs.Common.{rules, arith, ◌<◌, length, get_or, subst, ◌∙◌}
use Rattle.std.proofs.lemmas.List.{get_or_default}
use Rattle.std.proofs.Math.ListN.{length-set}
use Rattle.count_workers.specs.block_workers.Jobs.{SameRead, Fifo}
use Rattle.count_workers.proofs.on_block_workers.Settling.{set_related, work_on, work_same, read_on, read_same, ring_still, fifo_back}
use Rattle.count_workers.proofs.block_workers.jobs.settle_worker.Goals as goal

pub loop-g-init : goal.loop-g-init
loop-g-init g c = record {
  long = search rules;
  worker = work_same _;
  readers = λ h d. read_same _;
  fifo = λ h d l. absurd (omega (arith, l));
}

pub settle_one-requires-clause-at : goal.settle_one-requires-clause-at
settle_one-requires-clause-at g c κs p =
    let r = c.index-readers-g.result in (
      omega (arith, c.loop-g.invariant.worker.takers, c.requires.takers, c.loop-g.invariant.long),
      omega (
        arith,
        (c.loop-g.invariant.readers c.loop-g.g r).feeders,
        c.requires.feeders c.loop-g.g r (omega (arith, c.loop-g.invariant.long)),
      ),
    )

pub settle_one-requires-clause-ring : goal.settle_one-requires-clause-ring
settle_one-requires-clause-ring g c κs p =
    let r = c.index-readers-g.result in
    ring_still _ _ _ _ c.loop-g.g c.args.v c.loop-g.invariant.worker (c.loop-g.invariant.readers c.loop-g.g r)
    (c.requires.rings c.loop-g.g r (omega (arith, c.loop-g.invariant.long)))

pub loop-g-preserved : goal.loop-g-preserved
loop-g-preserved g c =
    let v = c.args.v in let k = c.loop-g.g in let r = c.index-readers-g.result in
    let w0 = c.args.worker.now in let w = c.loop-g.worker in
    let rs = c.loop-g.readers in let rs0 = c.args.readers.now in
    let l : k < length rs = omega arith in
    record {
      long = length-set rs k c.settle_one.new.reader ∙ c.loop-g.invariant.long;
      worker = work_on w0 w c.settle_one.new.worker c.loop-g.invariant.worker c.settle_one.ensures.worker;
      readers = set_related SameRead rs0 rs k c.settle_one.new.reader l c.loop-g.invariant.readers
          (λ d. read_on (get_or rs0 k d) (get_or rs k d) c.settle_one.new.reader (c.loop-g.invariant.readers k d)
          (subst (λ x. SameRead x c.settle_one.new.reader) (get_or_default rs k r d l) c.settle_one.ensures.reader));
      fifo = λ h d m. below_more (λ i. Fifo w0 (get_or rs0 i d) i v) k (λ i u. c.loop-g.invariant.fifo i d u)
          (fifo_back w0 w (get_or rs0 k d) (get_or rs k d) k v c.loop-g.invariant.worker (c.loop-g.invariant.readers k d)
          (subst (λ x. Fifo w x k v) (get_or_default rs k r d l) c.settle_one.ensures.fifo)) h m;
    }
