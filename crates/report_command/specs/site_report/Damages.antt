-- The damage of each weld detail of a site.
--   AreHalves      a list that has the half units at each range
--   IsDamageOf     a fraction is the damage of a detail, by the half units of a gauge
--   AreDamages     so it is of each detail, by the figures of its gauge
use Rattle.std.specs.Prelude.{◌≡◌, ◌<◌, ◌≤◌, ℕ, List, length, slice_index, slice_index_or}
use Rattle.calibration.specs.Grid.{GridValue}
use Rattle.damage.specs.declared.exact_frac.frac.Frac.{Frac}
use Rattle.damage.specs.sn_curve.Detail.{DetailValue}
use Rattle.damage.specs.miner.Damage.{IsDamage}
use Rattle.report.specs.Figures.{Figures}
use Rattle.site_config.specs.declared.config.Config.{Config}
use Rattle.site_config.specs.declared.config.NamedDetail.{NamedDetail}

-- of the ranges 1 and so on below `classes`; range 0 does no damage
pub record AreHalves (half_units : ℕ → ℕ) (classes : ℕ) (halves : List ℕ) : Type 0 where
  pub places : length halves ≡ classes
  pub each : (k : ℕ) → 1 ≤ k → k < classes → slice_index halves k ≡ half_units k

pub record IsDamageOf (grid : GridValue) (detail : DetailValue) (half_units : ℕ → ℕ) (damage : Frac) : Type 0 where
  pub halves : List ℕ
  pub are_halves : AreHalves half_units grid.classes halves
  pub is_damage : IsDamage detail grid halves damage

pub record AreDamages (c : Config) (figures : ℕ → Figures) (damages : List Frac) : Type 0 where
  pub one_each : length damages ≡ length c.details
  pub each : (i : ℕ) (d : NamedDetail) (f : Frac) → i < length damages →
      IsDamageOf c.setup.grid (slice_index_or c.details i d).detail
      (figures (slice_index_or c.details i d).gauge).half_units
      (slice_index_or damages i f)
