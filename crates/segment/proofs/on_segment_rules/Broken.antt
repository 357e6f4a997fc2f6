-- The tests find the first broken rule: none is broken exactly where the parts are those of a segment.
use Rattle.std.proofs.Common.{◌≡◌, Option, Some, None, refl, sym, ap, ◌∙◌}
use Rattle.std.specs.Prelude.{◌↔◌, IsNone}
use Rattle.calibration.specs.Grid.{GridValue}
use Rattle.segment.specs.declared.segment_rules.rule.BrokenRule.{BrokenRule}
use Rattle.segment.specs.segment_rules.Parts.{PartsValue}
use Rattle.segment.specs.segment_rules.Rules.{IsOrdered, AreSegmentParts}
use Rattle.segment.specs.segment_rules.Tests.{order_broken, first_wrong_entry, first_wrong_end, first_broken}
use Rattle.lemmas.proofs.Outcomes.{both_none, none_both}
use Rattle.segment.proofs.on_segment_rules.Chosen.{no_place, kept, kept_none}
use Rattle.segment.proofs.on_segment_rules.Ordered.{cells_kept, kept_cells, bins_kept, kept_bins}
use Rattle.segment.proofs.on_segment_rules.Residues.{residue_of, residue_true}
use Rattle.segment.proofs.on_segment_rules.Ended.{ended_of, ended_true}
use Rattle.segment.proofs.on_segment_rules.Summed.{summed_of, summed_none}

ordered_of : (g : GridValue) (p : PartsValue) → first_wrong_entry g p ≡ None → IsOrdered g p
unfolding first_wrong_entry
ordered_of g p e =
    let a = both_none _ _ e in
    let b = both_none _ _ a.1 in
    let c = both_none _ _ b.1 in
    let d = both_none _ _ c.1 in
    record {
      cells = cells_kept g.classes p.cells (no_place 0 _ a.0);
      crossings = bins_kept 1 g.classes 0 p.crossings (no_place 1 _ b.0);
      peaks = bins_kept g.reference g.classes 0 p.peaks (no_place 2 _ c.0);
      valleys = bins_kept 0 g.reference 0 p.valleys (no_place 3 _ d.0);
      ranges = bins_kept 1 g.classes 0 p.ranges (no_place 4 _ d.1);
    }

ordered_none : (g : GridValue) (p : PartsValue) → IsOrdered g p → first_wrong_entry g p ≡ None
unfolding first_wrong_entry
ordered_none g p o =
    none_both _ _ (ap (order_broken 0) (kept_cells g.classes p.cells o.cells))
    (none_both _ _ (ap (order_broken 1) (kept_bins 1 g.classes 0 p.crossings o.crossings))
    (none_both _ _ (ap (order_broken 2) (kept_bins g.reference g.classes 0 p.peaks o.peaks))
    (none_both _ _ (ap (order_broken 3) (kept_bins 0 g.reference 0 p.valleys o.valleys))
    (ap (order_broken 4) (kept_bins 1 g.classes 0 p.ranges o.ranges)))))

pub rules_kept : (g : GridValue) (p : PartsValue) → first_broken g p ≡ None → AreSegmentParts g p
unfolding first_broken first_wrong_end
rules_kept g p e =
    let a = both_none _ _ e in
    let b = both_none _ _ a.1 in
    let c = both_none _ _ b.1 in
    let d = both_none _ _ c.1 in
    record {
      ordered = ordered_of g p a.0;
      summed = summed_of p b.0;
      residue = residue_of g.classes p.residue (kept _ _ c.0);
      ended = ended_of g.classes p.ends p.residue (kept _ _ d.0) (kept _ _ d.1);
    }

pub none_broken : (g : GridValue) (p : PartsValue) → AreSegmentParts g p → first_broken g p ≡ None
unfolding first_broken first_wrong_end
none_broken g p s =
    let f = ended_true g.classes p.ends p.residue s.ended in
    none_both _ _ (ordered_none g p s.ordered) (none_both _ _ (summed_none p s.summed)
    (none_both _ _ (kept_none _ _ (residue_true g.classes p.residue s.residue)) (none_both _ _ (kept_none _ _ f.0) (kept_none _ _ f.1))))

pub none_exactly : (g : GridValue) (p : PartsValue) (o : Option BrokenRule) → o ≡ first_broken g p → IsNone o ↔ AreSegmentParts g p
none_exactly g p None e = (λ n. rules_kept g p (sym e), λ s. refl)
none_exactly g p (Some r) e = (λ n. absurd (cc), λ s. absurd (some_not r (e ∙ none_broken g p s)))
  where
    some_not : (r : BrokenRule) → Some r ≡ None → ⊥
    some_not r e = cc
