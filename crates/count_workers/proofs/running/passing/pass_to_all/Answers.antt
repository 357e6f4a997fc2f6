use Rattle.std.proofs.Common.{◌<◌, ◌∙◌, length, get_or, set, refl, subst, arith}
use Rattle.std.proofs.lemmas.List.{get_or_default}
use Rattle.std.proofs.Math.ListN.{length-set}
use Rattle.count_workers.specs.block_workers.Working.{WorksOn}
use Rattle.count_workers.proofs.on_block_workers.Settling.{set_related}
use Rattle.count_workers.proofs.on_running.Turns.{works_same, works_both, can_still}
use Rattle.count_workers.proofs.running.passing.pass_to_all.Goals as goal

pub loop-v-init : goal.loop-v-init
loop-v-init g c = record {
  on = record { long = refl; work = λ u d. works_same (get_or c.args.workers.now u d) };
  can = c.requires;
}

pub pass_to-came-requires : goal.pass_to-came-requires
pass_to-came-requires g c = c.loop-v.invariant.can c.loop-v.v _ (omega arith)

pub loop-v-preserved : goal.loop-v-preserved
loop-v-preserved g c =
    let ws0 = c.args.workers.now in let ws = c.loop-v.workers in let k = c.loop-v.v in let y = c.pass_to-came.new.worker in
    let l : k < length ws = omega arith in
    let inv = c.loop-v.invariant.on in
    let step : (d : _) → WorksOn (get_or ws k d) y = λ d.
    subst (λ w. WorksOn w y) (get_or_default ws k _ d l) c.pass_to-came.ensures in
    let still : (u : _) (d : _) → WorksOn (get_or ws u d) (get_or (set ws k y) u d) =
    set_related WorksOn ws ws k y l (λ u d. works_same (get_or ws u d)) step in
    record {
      on = record {
        long = length-set ws k y ∙ inv.long;
        work = λ u d. works_both (get_or ws0 u d) (get_or ws u d) (get_or (set ws k y) u d) (inv.work u d) (still u d);
      };
      can = can_still ws (set ws k y) (length-set ws k y) still c.loop-v.invariant.can;
    }
