-- What every configuration meets that was read.
--   name_of, file_of   a gauge's name and that of its file, by its number
--   IsConfig           the limits of a site, and names that can be told apart
use Rattle.std.specs.Prelude.{◌≡◌, ◌<◌, ◌≤◌, ℕ, List, [], true, length, slice_index_or}
use Rattle.site_config.specs.declared.config.Config.{Config}
use Rattle.site_config.specs.declared.config.Gauge.{Gauge}
use Rattle.site_config.specs.declared.config.NamedDetail.{NamedDetail}
use Rattle.site_config.specs.declared.limits.TheConstants.{MAX_GAUGES, MAX_DETAILS, MAX_BLOCK, MAX_WORKERS}
use Rattle.site_config.specs.Fields.{is_name}

abbrev pub no_gauge : Gauge
no_gauge = record { name = []; file = [] }

abbrev pub name_of : Config → ℕ → List ℕ
name_of c g = (slice_index_or c.gauges g no_gauge).name

abbrev pub file_of : Config → ℕ → List ℕ
file_of c g = (slice_index_or c.gauges g no_gauge).file

pub record IsConfig (c : Config) : Type 0 where
  pub some : 1 ≤ length c.gauges
  pub few : length c.gauges ≤ MAX_GAUGES
  pub gains : length c.setup.gains ≡ length c.gauges
  pub few_details : length c.details ≤ MAX_DETAILS
  pub block : (1 ≤ c.block) × (c.block ≤ MAX_BLOCK)
  pub workers : (1 ≤ c.workers) × (c.workers ≤ MAX_WORKERS)
  -- a gauge's name has 1 to 32 letters, digits, dashes and underscores, and no other gauge has it
  pub names : (g : ℕ) → g < length c.gauges → is_name (name_of c g) ≡ true
  pub differ : (g h : ℕ) → g < length c.gauges → h < length c.gauges → name_of c g ≡ name_of c h → g ≡ h
  -- a detail has a name of the same kind, and is on a gauge
  pub detail_names : (d : ℕ) (any : NamedDetail) → d < length c.details →
      is_name (slice_index_or c.details d any).name ≡ true
  pub on : (d : ℕ) (any : NamedDetail) → d < length c.details → (slice_index_or c.details d any).gauge < length c.gauges
