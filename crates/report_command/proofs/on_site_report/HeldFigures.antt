-- The figures of held segments: their own, or those of the samples that they stand for.
use Rattle.std.proofs.Common.{◌≡◌, ◌<◌, ℕ, List, length, sym, subst}
use Rattle.std.specs.Prelude.{slice_index_or}
use Rattle.segment.specs.Segment.{SegmentValue, IsSegment}
use Rattle.report.specs.Figures.{Agree, Figures, figures_of}
use Rattle.calibration.specs.Grid.{GridValue}
use Rattle.site_config.specs.declared.config.Config.{Config}
use Rattle.report_command.specs.site_report.Report.{Agrees}

pub agree_held : (c : Config) (held : List SegmentValue) (figures : ℕ → Figures) (g k : ℕ) (segment : SegmentValue) → Agrees c held figures
    → k ≡ g → g < length held → segment ≡ slice_index_or held k segment → segment.grid ≡ c.setup.grid → IsSegment segment
    → Agree segment.grid (figures_of segment) (figures g)
agree_held c held figures g k segment agrees same lt is grid rules =
    let there : segment ≡ slice_index_or held g segment = subst (λ j. segment ≡ slice_index_or held j segment) same is in
    let own = agrees g segment lt (subst IsSegment there rules) in
    subst (λ (x : GridValue). Agree x (figures_of segment) (figures g)) (sym grid)
    (subst (λ (v : SegmentValue). Agree c.setup.grid (figures_of v) (figures g)) (sym there) own)
