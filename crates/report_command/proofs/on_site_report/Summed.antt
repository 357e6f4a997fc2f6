-- The damages of the details so far.
--   damage_here   the damage of a detail by the segment of its gauge, by the figures that agree with it
--   damages_more  one damage more
use Rattle.std.proofs.Common.{◌≡◌, ◌<◌, ℕ, List, [], ◌∷◌, ◌++◌, length, refl, subst}
use Rattle.std.specs.Prelude.{slice_index_or}
use Rattle.calibration.specs.Grid.{GridValue}
use Rattle.damage.specs.declared.exact_frac.frac.Frac.{Frac}
use Rattle.report.specs.Figures.{Agree, Figures, figures_of}
use Rattle.segment.specs.Segment.{SegmentValue, IsSegment}
use Rattle.site_config.specs.declared.config.Config.{Config}
use Rattle.site_config.specs.declared.config.NamedDetail.{NamedDetail}
use Rattle.report_command.specs.site_report.Damages.{IsDamageOf}
use Rattle.report_command.specs.site_report.Report.{Agrees}
use Rattle.report_command.proofs.on_site_report.HeldFigures.{agree_held}
use Rattle.lemmas.proofs.Lists.{each_more}

pub damage_here : (c : Config) (held : List SegmentValue) (figures : ℕ → Figures) (item d : NamedDetail) (segment : SegmentValue)
    (damage : Frac)
    → Agrees c held figures → item ≡ d → item.gauge < length held → segment ≡ slice_index_or held item.gauge segment → segment.grid
    ≡ c.setup.grid
    → IsSegment segment → ((f : Figures) → Agree segment.grid (figures_of segment) f →
    IsDamageOf segment.grid item.detail f.half_units damage)
    → IsDamageOf c.setup.grid d.detail (figures d.gauge).half_units damage
damage_here c held figures item d segment damage agrees same lt is grid rules by =
    subst (λ (x : NamedDetail). IsDamageOf c.setup.grid x.detail (figures x.gauge).half_units damage) same
    (subst (λ (x : GridValue). IsDamageOf x item.detail (figures item.gauge).half_units damage) grid
    (by (figures item.gauge) (agree_held c held figures item.gauge item.gauge segment agrees refl lt is grid rules)))

pub damages_more : (c : Config) (figures : ℕ → Figures) (xs ys : List Frac) (x : Frac) (k : ℕ) → ys ≡ xs ++ x ∷ [] → k ≡ length xs
    → ((i : ℕ) (d : NamedDetail) (f : Frac) → i < length xs
    → IsDamageOf c.setup.grid (slice_index_or c.details i d).detail (figures (slice_index_or c.details i d).gauge).half_units
    (slice_index_or xs i f))
    → ((d : NamedDetail) → IsDamageOf c.setup.grid (slice_index_or c.details k d).detail
    (figures (slice_index_or c.details k d).gauge).half_units x)
    → (i : ℕ) (d : NamedDetail) (f : Frac) → i < length ys
    → IsDamageOf c.setup.grid (slice_index_or c.details i d).detail (figures (slice_index_or c.details i d).gauge).half_units
    (slice_index_or ys i f)
damages_more c figures xs ys x k is long was here i d f lt = each_more
    (λ (j : ℕ) (y : Frac). (e : NamedDetail) →
    IsDamageOf c.setup.grid (slice_index_or c.details j e).detail (figures (slice_index_or c.details j e).gauge).half_units y)
    xs ys x k is long (λ j y within e. was j e y within) here i f lt d
