-- The text of all gauges, line by line.
use Rattle.std.proofs.Common.{◌≡◌, ◌<◌, ℕ, suc, ◌+◌, List, [], ◌++◌, length, map, sym, ap, ◌∙◌, subst, arith, append_assoc, append-nil}
use Rattle.std.proofs.lemmas.List.{take_all}
use Rattle.std.specs.Prelude.{ℤ, slice_index_or}
use Rattle.calibration.specs.Grid.{GridValue}
use Rattle.calibration.specs.History.{history}
use Rattle.turning_points.specs.Points.{points}
use Rattle.four_point.specs.Reduction.{IsFourPointResult}
use Rattle.count_workers.proofs.on_lane_loans.Walking.{map_at, some_of}
use Rattle.segment.specs.Segment.{SegmentValue, Stands}
use Rattle.tally.specs.Counts.{count_of}
use Rattle.demo_command.specs.declared.made.TheConstants.{GAUGES}
use Rattle.demo_command.specs.Made.{demo_grid, demo_gain, levels_at, made_at}
use Rattle.demo_command.specs.Summary.{IsResidueOf, IsSummary, gauge_line, gauge_lines, table_halves, head_line}
use Rattle.demo_command.specs.Totals.{IsTotal}
use Rattle.demo_command.proofs.MadeBytes.{length-made}

abbrev pub residue_at : List SegmentValue → ℕ → List ℕ
residue_at totals g = slice_index_or (map (λ (v : SegmentValue). v.reducer.residue) totals) g []

abbrev pub line_at : ℕ → ℕ → List SegmentValue → ℕ → List ℕ
line_at seed samples totals g = gauge_line g (table_halves (levels_at seed samples g)) (length (residue_at totals g))

pub text_starts : (seed samples : ℕ) (totals : List SegmentValue) (text : List ℕ) → text ≡ [] ++ head_line seed samples
    → text ≡ head_line seed samples ++ gauge_lines (line_at seed samples totals) 0
text_starts seed samples totals text is = is ∙ sym (append-nil (head_line seed samples))

module _ (seed samples : ℕ) (totals : List SegmentValue) (long : length totals ≡ GAUGES)
    (all : (g : ℕ) (d : SegmentValue) → g < GAUGES → IsTotal seed samples g samples (slice_index_or totals g d)) where
  stands_at : (g : ℕ) (d : SegmentValue) → g < GAUGES → Stands (slice_index_or totals g d) demo_gain (made_at seed samples g)
  stands_at g d lt =
      let t = all g d lt in
      subst (λ (l : List ℤ). Stands (slice_index_or totals g d) demo_gain l)
      (take_all samples (made_at seed samples g) (omega (arith, length-made samples (seed + g)))) t.stands

  residue_is : (g : ℕ) (d : SegmentValue) → g < GAUGES → residue_at totals g ≡ (slice_index_or totals g d).reducer.residue
  residue_is g d lt = map_at (λ (v : SegmentValue). v.reducer.residue) totals g [] d (omega (arith, lt, long))

  -- one line more, which is that of the segment v
  pub text_more : (g : ℕ) (v : SegmentValue) (text text2 : List ℕ) → g < GAUGES → v ≡ slice_index_or totals g v
      → ((w : List ℤ) → Stands v demo_gain w
      → text2 ≡ text ++ gauge_line g (table_halves (history demo_grid demo_gain w)) (length v.reducer.residue))
      → text ≡ head_line seed samples ++ gauge_lines (line_at seed samples totals) g
      → text2 ≡ head_line seed samples ++ gauge_lines (line_at seed samples totals) (g + 1)
  text_more g v text text2 lt is one was =
      let stands : Stands v demo_gain (made_at seed samples g) = subst (λ (x : SegmentValue). Stands x demo_gain (made_at seed samples g))
      (sym is) (stands_at g v lt) in
      let line = line_at seed samples totals g in
      one (made_at seed samples g) stands
      ∙ ap (λ (l : List ℕ). text ++ gauge_line g (table_halves (levels_at seed samples g)) (length l))
      (ap (λ (x : SegmentValue). x.reducer.residue) is ∙ sym (residue_is g v lt))
      ∙ ap (λ (l : List ℕ). l ++ line) was ∙ append_assoc (head_line seed samples) (gauge_lines (line_at seed samples totals) g) line
      ∙ ap (λ (k : ℕ). head_line seed samples ++ gauge_lines (line_at seed samples totals) k) (let e : suc g ≡ g + 1 = omega arith in e)

  pub text_all : (text : List ℕ) (k : ℕ) → k ≡ GAUGES → text ≡ head_line seed samples ++ gauge_lines (line_at seed samples totals) k
      → IsSummary seed samples text
  text_all text k four is = record {
    residue = residue_at totals;
    residues = λ g lt. let d = some_of totals (omega (arith, long)) in
        let s = stands_at g d lt in
        let t = all g d lt in
        subst (IsResidueOf (levels_at seed samples g)) (sym (residue_is g d lt)) (record {
          cycles = count_of (slice_index_or totals g d).tally.cells;
          result = subst (λ (h : List ℕ). IsFourPointResult (points h) (count_of (slice_index_or totals g d).tally.cells)
              (slice_index_or totals g d).reducer.residue)
              (ap (λ (x : GridValue). history x demo_gain (made_at seed samples g)) t.grid) s.history.result;
        });
    is = is ∙ ap (λ (n : ℕ). head_line seed samples ++ gauge_lines (line_at seed samples totals) n) four;
  }
