use Rattle.std.proofs.Common.{arith, ◌<◌, ◌∙◌, length, subst}
use Rattle.std.proofs.lemmas.List.{get_or-set_other, get_or_default}
use Rattle.std.proofs.Math.ListN.{length-set}
use Rattle.count_workers.specs.Hiring.{SameButLine}
use Rattle.count_workers.proofs.on_running.Turns.{done_more}
use Rattle.count_workers.proofs.hiring.dismiss_all.Goals as goal

pub loop-v-preserved : goal.loop-v-preserved
loop-v-preserved c =
    let k = c.loop-v.v in let ws = c.loop-v.workers in let ws0 = c.args.workers.now in let y = c.dismiss_one.new.worker in
    let l : k < length ws = omega arith in
    record {
      long = length-set ws k y ∙ c.loop-v.invariant.long;
      done = done_more SameButLine ws0 ws k y l c.loop-v.invariant.done
          (λ d. subst (λ x. SameButLine x y) (get_or_default ws k _ d l ∙ c.loop-v.invariant.rest k d (omega arith)) c.dismiss_one.ensures);
      rest = λ j d m. get_or-set_other ws k j y d (λ e. omega arith) ∙ c.loop-v.invariant.rest j d (omega arith);
    }
