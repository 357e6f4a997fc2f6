-- The report of a site.
--   figures_by    the figures of each gauge's samples
--   gauge_lines   the texts of all gauges, by the figures of each
--   detail_lines  the lines of the details, by the damage of each
--   IsReport      a text is the report of these figures
--   AreOver       the segment of each gauge is over this grid
--   Agrees        the segment of each gauge has these figures wherever a number is printed
--   IsWindowReport   of a window: before the text of each gauge the line of its window
use Rattle.std.specs.Prelude.{◌≡◌, ◌<◌, ℕ, ℤ, List, [], ◌∷◌, ◌++◌, length, map, slice_index, slice_index_or}
use Rattle.calibration.specs.Grid.{GridValue}
use Rattle.damage.specs.declared.exact_frac.frac.Frac.{Frac}
use Rattle.report.specs.Figures.{Figures, Agree, figures, figures_of}
use Rattle.report.specs.Lines.{lines_from}
use Rattle.report.specs.Window.{window_line}
use Rattle.report.specs.Texts.{gauge_text, detail_text}
use Rattle.segment.specs.Segment.{SegmentValue, IsSegment}
use Rattle.segment_store.specs.Holds.{gain_at}
use Rattle.site_config.specs.declared.config.Config.{Config}
use Rattle.site_config.specs.declared.config.NamedDetail.{NamedDetail}
use Rattle.site_config.specs.Valid.{name_of}
use Rattle.report_command.specs.site_report.Damages.{AreDamages}

abbrev pub figures_by : Config → (ℕ → List ℤ) → ℕ → Figures
figures_by c w g = figures c.setup.grid (gain_at c.setup g) (w g)

abbrev pub text_of_gauge : Config → (ℕ → Figures) → ℕ → List ℕ
text_of_gauge c figures g = gauge_text c.setup.grid (name_of c g) (figures g)

abbrev pub gauge_lines : Config → (ℕ → Figures) → List ℕ
gauge_lines c figures = lines_from (text_of_gauge c figures) 0 (length c.gauges)

abbrev pub detail_line : Config → NamedDetail → Frac → List ℕ
detail_line c d damage = detail_text d.name (name_of c d.gauge) damage

abbrev pub detail_lines : Config → List NamedDetail → List Frac → List ℕ
detail_lines c [] damages = []
detail_lines c (d ∷ details) [] = []
detail_lines c (d ∷ details) (f ∷ damages) = detail_line c d f ++ detail_lines c details damages

pub record IsReport (c : Config) (figures : ℕ → Figures) (text : List ℕ) : Type 0 where
  pub damages : List Frac
  pub are_damages : AreDamages c figures damages
  pub is_text : text ≡ gauge_lines c figures ++ detail_lines c c.details damages

abbrev pub AreOver : GridValue → List SegmentValue → Type 0
AreOver grid segments = (g : ℕ) (v : SegmentValue) → g < length segments → (slice_index_or segments g v).grid ≡ grid

abbrev pub Agrees : Config → List SegmentValue → (ℕ → Figures) → Type 0
Agrees c held figures = (g : ℕ) (v : SegmentValue) → g < length held → IsSegment (slice_index_or held g v)
    → Agree c.setup.grid (figures_of (slice_index_or held g v)) (figures g)

-- ---- of a window of time

abbrev pub names_of : List SegmentValue → ℕ → ℕ × ℕ
names_of segments g = (
  slice_index (map (λ (v : SegmentValue). v.from) segments) g,
  slice_index
      (map (λ (v : SegmentValue). v.to) segments) g,
)

-- the line of a gauge's window, and its text
abbrev pub window_of_gauge : Config → (ℕ → ℕ × ℕ) → (ℕ → Figures) → ℕ → List ℕ
window_of_gauge c windows figures g =
    window_line (name_of c g) (windows g).0 (windows g).1 ++ text_of_gauge c figures g

abbrev pub window_lines : Config → (ℕ → ℕ × ℕ) → (ℕ → Figures) → List ℕ
window_lines c windows figures = lines_from (window_of_gauge c windows figures) 0 (length c.gauges)

pub record IsWindowReport (c : Config) (windows : ℕ → ℕ × ℕ) (figures : ℕ → Figures) (text : List ℕ) : Type 0 where
  pub damages : List Frac
  pub are_damages : AreDamages c figures damages
  pub is_text : text ≡ window_lines c windows figures ++ detail_lines c c.details damages
