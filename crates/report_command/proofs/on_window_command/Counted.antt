-- The figures of the joined segments.
use Rattle.std.proofs.Common.{◌≡◌, ◌<◌, ℕ, ℤ, ◌-◌, List, length, get_or, refl, sym, ap, subst, ◌∙◌}
use Rattle.std.specs.Prelude.{sum_by}
use Rattle.std.proofs.lemmas.List.{get_or-map, get_or_default}
use Rattle.calibration.specs.Grid.{GridValue}
use Rattle.recording.specs.declared.head.Head.{Head}
use Rattle.turning_points.specs.three_point.Sums.{sum_at_range}
use Rattle.turning_points.proofs.on_three_point.Sums.{sum_at_range-same}
use Rattle.simple_counts.specs.level_crossing.Crossings.{crossing_count}
use Rattle.simple_counts.specs.Simple.{peak_count, range_count, valley_count}
use Rattle.segment.specs.segment_rules.Parts.{PartsValue}
use Rattle.segment.specs.Segment.{SegmentValue, Stands, empty_at}
use Rattle.segment.specs.Figures.{halves_of}
use Rattle.segment_store.specs.Holds.{AllStand, gain_at}
use Rattle.segment_store.specs.Keeps.{kept_halves}
use Rattle.report.specs.Figures.{Agree, Figures, figures, figures_of}
use Rattle.report.proofs.SegmentFigures.{figures_stand}
use Rattle.segment.proofs.Counted.{same_counts}
use Rattle.site_config.specs.declared.config.Config.{Config}
use Rattle.report_command.specs.site_report.Report.{Agrees, names_of}
use Rattle.report_command.specs.declared.window_counts.counting.Times.{Times}
use Rattle.report_command.specs.window_counts.Counted.{AreCounted, pair_of}
use Rattle.report_command.specs.window_command.Printing.{AreWindowFigures, bodies_in, figures_in, samples_in, window_at}

same_pair : (a b c d : ℕ) → a ≡ c → b ≡ d → pair_of a b ≡ pair_of c d
same_pair a b c d e f = ap (λ x. pair_of x b) e ∙ ap (pair_of c) f

pub named : (joined : List SegmentValue) (g : ℕ) (d : SegmentValue) → g < length joined
    → names_of joined g ≡ pair_of (get_or joined g d).from (get_or joined g d).to
named joined g d lt = same_pair (names_of joined g).0 (names_of joined g).1 (get_or joined g d).from (get_or joined g d).to
    (get_or-map (λ (x : SegmentValue). x.from) joined g d 0 lt) (get_or-map (λ (x : SegmentValue). x.to) joined g d 0 lt)

-- what the bodies keep, with what only a segment tells
abbrev pub kept_in : ℕ → SegmentValue → ℕ × ℕ → List PartsValue → Figures
kept_in classes v window bodies = record (figures_of v) {
  samples = record {
    samples = window.1 - window.0;
    used = sum_by (λ b. b.used) bodies;
    missing = sum_by (λ b. b.missing) bodies;
    refused = sum_by (λ b. b.refused) bodies;
  };
  pairs = kept_halves bodies;
  half_units = λ k. sum_at_range (kept_halves bodies) k (classes - k);
}

abbrev pub kept_figures : Config → Times → List Head → List PartsValue → List SegmentValue → ℕ → Figures
kept_figures c t heads bodies joined g =
    kept_in c.setup.grid.classes (get_or joined g (empty_at c.setup.grid 0 0 1)) (window_at t heads bodies g) (bodies_in t heads bodies g)

pub are_kept : (c : Config) (t : Times) (heads : List Head) (bodies : List PartsValue) (joined : List SegmentValue) (window : ℕ × ℕ) (g : ℕ)
    → window ≡ window_at t heads bodies g
    → AreWindowFigures c.setup.grid.classes window (bodies_in t heads bodies g) (kept_figures c t heads bodies joined g)
are_kept c t heads bodies joined window g is = record {
  samples = ap (λ (x : ℕ × ℕ). x.1 - x.0) (sym is);
  used = refl;
  missing = refl;
  refused = refl;
  pairs = λ lo hi. refl;
  half_units = λ k. refl;
}

agree_in : (grid : GridValue) (v u : SegmentValue) (window : ℕ × ℕ) (bodies : List PartsValue) → v ≡ u → v.grid ≡ grid
    → window ≡ pair_of v.from v.to → v.used ≡ sum_by (λ b. b.used) bodies → v.missing ≡ sum_by (λ b. b.missing) bodies
    → v.refused ≡ sum_by (λ b. b.refused) bodies → ((lo hi : ℕ) → halves_of v lo hi ≡ kept_halves bodies lo hi)
    → Agree grid (figures_of v) (kept_in grid.classes u window bodies)
agree_in grid v u window bodies same over named used missing refused halves = record {
  samples = same_counts _ _ _ _ _ _ _ _ (ap (λ (x : ℕ × ℕ). x.1 - x.0) (sym named)) used missing refused;
  half_units = λ j one to. ap (λ (x : GridValue). sum_at_range (halves_of v) j (x.classes - j)) over ∙ sum_at_range-same (halves_of v)
      (kept_halves bodies) j (grid.classes - j) halves;
  pairs = λ lo hi lt to. halves lo hi;
  crossings = λ l one to. ap (λ (x : SegmentValue). crossing_count x.crossings l) same;
  peaks = λ l to. ap (λ (x : SegmentValue). peak_count x.simple l) same;
  valleys = λ l to. ap (λ (x : SegmentValue). valley_count x.simple l) same;
  ranges = λ j one to. ap (λ (x : SegmentValue). range_count x.simple j) same;
}

module _ (c : Config) (t : Times) (heads : List Head) (bodies : List PartsValue) (joined : List SegmentValue)
    (counted : AreCounted c.setup t heads bodies joined) where
  pub windows_are : (g : ℕ) → g < length joined → names_of joined g ≡ window_at t heads bodies g
  windows_are g lt =
      let d = empty_at c.setup.grid 0 0 1 in
      named joined g d lt ∙ sym (counted g d lt).name

  pub agrees_in : (w : ℕ → List ℤ) → AllStand c.setup w bodies → Agrees c joined (figures_in c w (names_of joined))
  agrees_in w all g d lt rules =
      let k = counted g d lt in
      let moved : Stands (get_or joined g d) (gain_at c.setup g) (samples_in (w g) (names_of joined g)) =
      subst (λ p. Stands (get_or joined g d) (gain_at c.setup g) (samples_in (w g) p)) (sym (named joined g d lt)) (k.stands w all) in
      subst (λ (x : GridValue). Agree x (figures_of (get_or joined g d)) (figures x (gain_at c.setup g)
      (samples_in (w g) (names_of joined g)))) k.grid
      (figures_stand (get_or joined g d) (gain_at c.setup g) (samples_in (w g) (names_of joined g)) moved rules)

  pub agrees_kept : Agrees c joined (kept_figures c t heads bodies joined)
  agrees_kept g d lt rules =
      let k = counted g d lt in
      agree_in c.setup.grid (get_or joined g d) (get_or joined g (empty_at c.setup.grid 0 0 1)) (window_at t heads bodies g)
      (bodies_in t heads bodies g) (get_or_default joined g d (empty_at c.setup.grid 0 0 1) lt) k.grid k.name k.used k.missing k.refused
      (k.halves rules)
