use Rattle.std.proofs.Common.{◌-◌, ℕ, [], sym, ◌∙◌, ap, subst}
use Rattle.tally.specs.Counts.{Counts, total_of}
use Rattle.tally.specs.declared.cells.TheConstants.{MAX_TOTAL}
use Rattle.recount.specs.Counted.{HasCountedSamples, HoldsPairs}
use Rattle.recount.proofs.Taken.{recount_of}
use Rattle.recount.proofs.count.count_again.Goals as goal

pub take_samples-requires-clause-none : goal.take_samples-requires-clause-none
take_samples-requires-clause-none g c κs within =
    let grid = c.new-classifier.result.grid in
    let gain = c.new-classifier.result.gain in
    subst (λ (start : ℕ). HasCountedSamples (λ (t : Counts). t.classes)
    (λ (t : Counts). MAX_TOTAL - total_of t.cells) HoldsPairs start grid gain c.in_ok-count.count [])
    (ap (λ (t : Counts). MAX_TOTAL - total_of t.cells) c.in_ok-pairs.ensures)
    (c.in_ok-count.ensures grid gain (ap (λ x. x.classes) c.new-classifier.ensures.grid ∙ sym c.classes-classes.ensures.value))

pub finish-requires-clause-counted : goal.finish-requires-clause-counted
finish-requires-clause-counted g c =
    let w = c.in_ok-take_samples.ensures.counted in
    (MAX_TOTAL, (_, (_, (w.0, w.1.0))))

pub returns-clause-counted : goal.returns-clause-counted
returns-clause-counted g c =
    let w = c.in_ok-take_samples.ensures.counted in (
      w.0,
      (
        recount_of _ _ _ _ c.new-classifier.ensures.grid c.new-classifier.ensures.gain c.take_samples.new.count c.finish.result w.0 w.1.0
            (c.finish.ensures.holds MAX_TOTAL _ _ w.0 w.1.0) c.finish.ensures.classes,
        (w.1.1.0, w.1.1.1),
      ),
    )
