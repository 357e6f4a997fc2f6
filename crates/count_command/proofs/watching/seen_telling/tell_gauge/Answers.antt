use Rattle.std.proofs.Common.{◌≡◌, ◌∷◌, ◌++◌, [], List, ℕ, inl, inr, refl, slice_index_or, ◌∙◌, ap, arith}
use Rattle.count_command.specs.held_samples.Told.{seen_line}
use Rattle.count_command.specs.watching.Steps.{IsSeenLineOf, IsStep}
use Rattle.count_command.proofs.on_held_samples.Going.{told_either}
use Rattle.count_command.proofs.on_watching.OnlySeen.{only_tells, told_where}
use Rattle.count_command.proofs.on_watching.SeenNumbers.{steps_more, steps_told}
use Rattle.count_command.proofs.watching.seen_telling.tell_gauge.Goals as goal

step_line : (name : List ℕ) (start step held m : ℕ) (line : List ℕ) → IsStep start step held m → line ≡ seen_line name m →
    IsSeenLineOf name start step held line
step_line name start step held m line is same = record { number = m; held_once = inr is; is = same }

held_line : (name : List ℕ) (start step held : ℕ) (line : List ℕ) → line ≡ seen_line name held → IsSeenLineOf name start step held line
held_line name start step held line same = record { number = held; held_once = inl refl; is = same }

pub returns-in_err-tell-clause-only : goal.returns-in_err-tell-clause-only
returns-in_err-tell-clause-only g c = λ tells.
    only_tells g.K.Station _ _ _ _ c.seen.result.now (c.loop-i.invariant.only tells)
    (step_line c.args.name.now c.args.start c.args.step c.args.held _ _ c.if-not-is_step.ensures.step c.seen.ensures)
    (c.tell.ensures.time tells) (c.tell.ensures.seen tells) (c.tell.ensures.crash tells).none_new
    (told_either c.tell.result _ _ _ (c.tell.ensures.told tells))

pub returns-clause-only : goal.returns-clause-only
returns-clause-only g c = λ tells.
    only_tells g.K.Station _ _ _ _ c.seen-2.result.now (c.loop-i.invariant.only tells)
    (held_line c.args.name.now c.args.start c.args.step c.args.held _ c.seen-2.ensures)
    (c.tell-2.ensures.time tells) (c.tell-2.ensures.seen tells) (c.tell-2.ensures.crash tells).none_new
    (told_either c.tell-2.result _ _ _ (c.tell-2.ensures.told tells))

pub loop-i-preserved : goal.loop-i-preserved
loop-i-preserved g c =
    let is : (tells : g.K.Station.tells) → g.K.Station.told c.tell.new.self ≡ g.K.Station.told c.loop-i.station
    ++ seen_line c.args.name.now (slice_index_or c.args.ends.now c.loop-i.i 0) ∷ [] = λ tells.
    (c.in_ok-tell.ensures.told tells).0 ∙ ap (λ (l : List ℕ). g.K.Station.told c.loop-i.station ++ l ∷ []) c.seen.ensures in
    record {
      only = λ tells.
          only_tells g.K.Station _ _ _ _ c.seen.result.now (c.loop-i.invariant.only tells)
          (step_line c.args.name.now c.args.start c.args.step c.args.held _ _ c.if-not-is_step.ensures.step c.seen.ensures)
          (c.tell.ensures.time tells) (c.tell.ensures.seen tells) (c.tell.ensures.crash tells).none_new
          (told_either c.tell.result _ _ _ (c.tell.ensures.told tells));
      steps = λ tells. steps_more c.args.name.now c.args.start c.args.step c.args.held c.loop-i.least c.loop-i.i
          (slice_index_or c.args.ends.now c.loop-i.i 0) _ _ _ (c.loop-i.invariant.steps tells) c.if-not-is_step.ensures.step
          c.if-not-is_step.ensures.least (is tells);
      later = omega (arith, c.loop-i.invariant.later, c.tell.ensures.cause.later);
    }

pub returns-clause-told : goal.returns-clause-told
returns-clause-told g c = λ tells. told_where c.tell-2.result _ _ _ (c.tell-2.ensures.told tells) (λ is.
    steps_told c.args.name.now c.args.start c.args.step c.args.held c.loop-i.least c.loop-i.i _ _ _ (c.loop-i.invariant.steps tells)
    (omega arith) (is ∙ ap (λ (l : List ℕ). g.K.Station.told c.loop-i.station ++ l ∷ []) c.seen-2.ensures))
