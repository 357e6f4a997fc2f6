use Rattle.std.proofs.Common.{refl, rules, ap, ◌≡◌, ◌<◌, ◌∙◌, ◌++◌, ◌∷◌, [], length, get_or, subst, vec_len}
use Rattle.std.proofs.lemmas.List.{get_or_default}
use Rattle.count_workers.specs.gauge_ring.Ends.{taken, IsSameTaker}
use Rattle.count_workers.specs.declared.block_workers.item.Item.TheVariants.{Mark}
use Rattle.count_workers.specs.block_workers.Dealing.{block_of}
use Rattle.count_workers.proofs.on_running.Turns.{works_same}
use Rattle.count_workers.proofs.on_block_workers.Steps.{none_taken, mark_taken, block_taken}
use Rattle.count_workers.proofs.block_workers.worker.work_once.Goals as goal

pub returns-then-gauge-len : goal.returns-then-gauge-len
returns-then-gauge-len g c = works_same c.args.worker.now

pub returns-in-None : goal.returns-in-None
returns-in-None g c =
    let w = c.args.worker.now in let t = c.take.new.self in
    let l : w.gauge < length w.takers.items = search rules in
    let r = c.index_mut.result.now in
    let at : r ≡ get_or w.takers.items w.gauge r = search rules in
    record {
      takers = refl;
      on = λ first h. none_taken first w t h l
          (λ d. subst (λ x. IsSameTaker x t) (at ∙ get_or_default w.takers.items w.gauge r d l) c.take.ensures.same) _ refl refl refl refl refl refl
          (λ d. c.in-None.ensures.none.0 ∙ ap (λ x. taken x) (at ∙ get_or_default w.takers.items w.gauge r d l));
    }

pub returns-in-Some-Mark : goal.returns-in-Some-Mark
returns-in-Some-Mark g c =
    let w = c.args.worker.now in let t = c.take.new.self in
    let l : w.gauge < length w.takers.items = search rules in
    let r = c.index_mut.result.now in
    let at : r ≡ get_or w.takers.items w.gauge r = search rules in
    let came : taken t ≡ taken r ++ Mark ∷ [] = search rules in
    record {
      takers = refl;
      on = λ first h. mark_taken first w t h l
          (λ d. subst (λ x. IsSameTaker x t) (at ∙ get_or_default w.takers.items w.gauge r d l) c.take.ensures.same) _ refl refl refl refl refl refl
          (λ d. came ∙ ap (λ x. taken x ++ Mark ∷ []) (at ∙ get_or_default w.takers.items w.gauge r d l));
    }

pub returns-in-Some-Block : goal.returns-in-Some-Block
returns-in-Some-Block g c =
    let w = c.args.worker.now in let t = c.take.new.self in let f = c.in-Some-Block.filled in
    let l : w.gauge < length w.takers.items = search rules in
    let r = c.index_mut.result.now in
    let at : r ≡ get_or w.takers.items w.gauge r = search rules in
    let came : taken t ≡ taken r ++ block_of f ∷ [] = search rules in
    record {
      takers = ap (λ x. vec_len x) c.hand_over.ensures.takers;
      on = λ first h. block_taken first w t h l
          (λ d. subst (λ x. IsSameTaker x t) (at ∙ get_or_default w.takers.items w.gauge r d l) c.take.ensures.same) _ _ f c.hand_over.ensures
          refl refl refl refl refl refl (λ d. came ∙ ap (λ x. taken x ++ block_of f ∷ []) (at ∙ get_or_default w.takers.items w.gauge r d l));
    }
