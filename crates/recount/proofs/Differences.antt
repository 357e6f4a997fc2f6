-- The first difference between a segment and what a recount found.
use Rattle.std.specs.Prelude.{MatchOption}
use Rattle.std.proofs.Common.{◌≡◌, ◌≢◌, ℕ, ℤ, List, Option, Some, None, refl, sym, ◌∙◌, ap, subst}
use Rattle.calibration.specs.Gain.{GainValue}
use Rattle.calibration.specs.History.{history}
use Rattle.turning_points.specs.three_point.Run.{three_point}
use Rattle.tally.specs.Counts.{Counts, count_of}
use Rattle.segment.specs.Counts.{kinds_of}
use Rattle.segment.specs.declared.counts.SampleCounts.{SampleCounts}
use Rattle.segment.specs.Segment.{SegmentValue}
use Rattle.segment.specs.Figures.{halves_of}
use Rattle.recount.specs.Counted.{IsRecount}
use Rattle.recount.specs.Compared.{AreSame, Compares, IsCellOther, IsFirstOther, used_differ, missing_differ, refused_differ, cell_differs, all_same}
use Rattle.recount.specs.declared.compare.Difference.{Difference}
use Rattle.recount.specs.declared.compare.What.{What}
use Rattle.recount.specs.declared.compare.What.TheVariants.{Used, Missing, Refused, Cell}
use Rattle.recount.specs.declared.count.Recount.{Recount}

abbrev pub differs : What → ℕ → ℕ → Option Difference
differs what held found = Some (record { what = what; held = held; found = found })

-- Of a recount by the gain, the samples are those of its counts.
module _ (v : SegmentValue) (r : Recount) (gain : GainValue) (w : List ℤ) (is : IsRecount v.grid gain r w)
    (result : Option Difference) where
  abbrev pub Comparing : Type 0
  Comparing = Compares v (kinds_of v.grid gain w) (three_point (history v.grid gain w)) result

  of_counts : Compares v r.counts (three_point (history v.grid gain w)) result → Comparing
  of_counts c = subst (λ (k : SampleCounts). Compares v k (three_point (history v.grid gain w)) result) is.counts c

  pub used_first : result ≡ differs Used v.used r.counts.used → v.used ≢ r.counts.used → Comparing
  used_first e other = of_counts (subst (λ (o : Option Difference). Compares v r.counts (three_point (history v.grid gain w)) o) (sym e)
      (used_differ other))

  pub missing_first : result ≡ differs Missing v.missing r.counts.missing → v.used ≡ r.counts.used → v.missing ≢ r.counts.missing
      → Comparing
  missing_first e used other = of_counts (subst (λ (o : Option Difference). Compares v r.counts (three_point (history v.grid gain w)) o)
      (sym e) (missing_differ used other))

  pub refused_first : result ≡ differs Refused v.refused r.counts.refused → v.used ≡ r.counts.used → v.missing ≡ r.counts.missing
      → v.refused ≢ r.counts.refused → Comparing
  refused_first e used missing other = of_counts (subst (λ (o : Option Difference). Compares v r.counts
      (three_point (history v.grid gain w)) o) (sym e) (refused_differ used missing other))

  module _ (used : v.used ≡ r.counts.used) (missing : v.missing ≡ r.counts.missing) (refused : v.refused ≡ r.counts.refused) where
    pub none_differs : result ≡ None → AreSame v.grid.classes (halves_of v) (count_of r.pairs.cells) → Comparing
    none_differs e same =
        of_counts (subst (λ (o : Option Difference). Compares v r.counts (three_point (history v.grid gain w)) o) (sym e)
        (all_same (used, missing, refused) (λ lo hi up inside. same lo hi up inside ∙ is.halves lo hi up)))

    first_cell : (other : Difference) → (o : IsCellOther v.grid.classes (halves_of v) (count_of r.pairs.cells) other)
        → IsFirstOther v.grid.classes (halves_of v) (three_point (history v.grid gain w)) o.lo o.hi
    first_cell other o = record {
      ordered = o.first.ordered;
      within = o.first.within;
      differ = λ e. o.first.differ (e ∙ sym (is.halves o.lo o.hi o.first.ordered));
      before = λ a b up inside earlier. o.first.before a b up inside earlier ∙ is.halves a b up;
    }

    pub cell_first : (other : Difference) → result ≡ Some other → IsCellOther v.grid.classes (halves_of v) (count_of r.pairs.cells) other
        → Comparing
    cell_first other e o =
        of_counts (subst (λ (x : Option Difference). Compares v r.counts (three_point (history v.grid gain w)) x)
        (sym (e ∙ ap Some o.is ∙ ap (λ (k : ℕ). differs (Cell o.lo o.hi) (halves_of v o.lo o.hi) k) (is.halves o.lo o.hi o.first.ordered)))
        (cell_differs o.lo o.hi (used, missing, refused) (first_cell other o)))

-- what a search of the cells answers, where the readings are the same
abbrev pub CellsAnswer : SegmentValue → Counts → Option Difference → Type 0
CellsAnswer v found result = MatchOption result (AreSame v.grid.classes (halves_of v) (count_of found.cells))
    (IsCellOther v.grid.classes (halves_of v) (count_of found.cells))

pub cells_compared : (v : SegmentValue) (r : Recount) (gain : GainValue) (w : List ℤ) (is : IsRecount v.grid gain r w)
    → v.used ≡ r.counts.used → v.missing ≡ r.counts.missing → v.refused ≡ r.counts.refused
    → (result : Option Difference) → CellsAnswer v r.pairs result → Compares v (kinds_of v.grid gain w)
    (three_point (history v.grid gain w)) result
cells_compared v r gain w is used missing refused None same = none_differs v r gain w is None used missing refused refl same
cells_compared v r gain w is used missing refused (Some other) o = cell_first v r gain w is (Some other) used missing refused other refl o
