use Rattle.std.proofs.Common.{arith, ◌<◌, ◌∙◌, length, sym, subst}
use Rattle.std.proofs.lemmas.List.{get_or-set_other, get_or_default}
use Rattle.std.proofs.Math.ListN.{length-set}
use Rattle.count_workers.specs.block_workers.Working.{IsIdle, WorkedSoFar}
use Rattle.count_workers.proofs.on_running.Turns.{done_more}
use Rattle.count_workers.proofs.running.round.begin_all.Goals as goal

pub begin_work-requires : goal.begin_work-requires
begin_work-requires c =
    let k = c.loop-v.v in let r = c.index-workers-v.result in
    subst IsIdle (sym (c.loop-v.invariant.rest k r (omega arith))) (c.requires k r (omega (arith, c.loop-v.invariant.long)))

pub loop-v-preserved : goal.loop-v-preserved
loop-v-preserved c =
    let k = c.loop-v.v in let ws = c.loop-v.workers in let ws0 = c.args.workers.now in let y = c.begin_work.new.worker in
    let l : k < length ws = omega arith in
    record {
      long = length-set ws k y ∙ c.loop-v.invariant.long;
      done = done_more WorkedSoFar ws0 ws k y l c.loop-v.invariant.done
          (λ d. subst (λ x. WorkedSoFar x y) (get_or_default ws k _ d l ∙ c.loop-v.invariant.rest k d (omega arith)) c.begin_work.ensures);
      rest = λ j d m. get_or-set_other ws k j y d (λ e. omega arith) ∙ c.loop-v.invariant.rest j d (omega arith);
    }
