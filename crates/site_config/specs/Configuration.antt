-- What the bytes of a configuration mean, or the first fault in them.
--   grid_in, count_in, gauges_in, details_in   each part, in the order in which its faults are told
--   document                                   the table that bytes spell, by the crate toml
--   config_of_bytes                            the whole
-- The grid comes first, then the count, then each gauge, then each detail; within a part its keys come in the order in
-- which they stand here.
use Rattle.std.specs.Prelude.{◌-◌, ◌/◌, ◌++◌, if◌then◌else◌, ℕ, pos, neg_ℤ, List, [], ◌∷◌, length, map, codes, Option, Some, None, Result, Ok, Err, nat_lt, ◌==◌, ok_or}
use Rattle.std.specs.Str.{is_utf8}
use Rattle.std.specs.Cmp.Lexicographic.{pointwise}
use Rattle.toml.specs.Data.{Data, as_table, Members, get_member}
use Rattle.toml.specs.Parse.{parse_document}
use Rattle.calibration.specs.Gain.{GainValue}
use Rattle.calibration.specs.Grid.{GridValue}
use Rattle.damage.specs.sn_curve.Detail.{DetailValue, categories, is_among, partial_factors}
use Rattle.damage.specs.declared.sn_curve.detail.Kind.{Kind}
use Rattle.damage.specs.declared.sn_curve.detail.Kind.TheVariants.{Normal, Shear}
use Rattle.calibration.specs.declared.grid.TheConstants.{MIN_CLASSES, MAX_CLASSES, MAX_SPAN, MAX_LOW_KPA}
use Rattle.calibration.specs.declared.gain.TheConstants.{MAX_NUM, MAX_DEN, MAX_OFFSET}
use Rattle.site_config.specs.declared.limits.TheConstants.{MAX_BYTES, MAX_GAUGES, MAX_DETAILS, MAX_BLOCK, DEFAULT_BLOCK, MAX_WORKERS, DEFAULT_WORKERS}
use Rattle.site_config.specs.Keys.{grid_key, count_key, gauge_key, detail_key}
use Rattle.site_config.specs.Fields.{◌>>=◌, within_limits, number_at, number_or, natural_at, natural_or, text_at, name_at, file_at, place_of, unless_taken_before, items_in}
use Rattle.site_config.specs.declared.config.Config.{Config}
use Rattle.site_config.specs.declared.config.Gauge.{Gauge}
use Rattle.site_config.specs.declared.config.NamedDetail.{NamedDetail}
use Rattle.site_config.specs.declared.fault.Key.{Key}
use Rattle.site_config.specs.declared.fault.Part.TheVariants as parts
use Rattle.site_config.specs.declared.fault.KeyName.TheVariants as key
use Rattle.site_config.specs.declared.fault.ConfigFault.{ConfigFault}
use Rattle.site_config.specs.declared.fault.ConfigFault.TheVariants.{Missing, Kind as WrongKind, Limit, NoSuchGauge, TooLong, NotToml}

-- The grid: the limits are those of `calibration`. The span's limit is told as one of the width.
unfoldable pub grid_in : Members → Result GridValue ConfigFault
grid_in ms = do
  value ← ok_or (get_member (codes "grid") ms) (Missing (grid_key key.Itself))
  part ← ok_or (as_table value) (WrongKind (grid_key key.Itself))
  classes ← natural_at (grid_key key.Classes) MIN_CLASSES MAX_CLASSES part
  width ← natural_at (grid_key key.Width) 1 (MAX_SPAN / (classes - 1)) part
  low ← number_at (grid_key key.Low) (neg_ℤ (pos MAX_LOW_KPA)) (pos MAX_LOW_KPA) part
  reference ← natural_at (grid_key key.Reference) 1 (classes - 1) part
  Ok (record { classes = classes; w2 = width; low_kpa = low; reference = reference })

-- How it is counted: samples per block and workers, each with a default.
unfoldable pub count_part : Data → Result (ℕ × ℕ) ConfigFault
count_part value = do
  part ← ok_or (as_table value) (WrongKind (count_key key.Itself))
  block ← natural_or DEFAULT_BLOCK (count_key key.Block) 1 MAX_BLOCK part
  workers ← natural_or DEFAULT_WORKERS (count_key key.Workers) 1 MAX_WORKERS part
  Ok (block, workers)

abbrev pub count_if : Option Data → Result (ℕ × ℕ) ConfigFault
count_if None = Ok (DEFAULT_BLOCK, DEFAULT_WORKERS)
count_if (Some value) = count_part value

unfoldable pub count_in : Members → Result (ℕ × ℕ) ConfigFault
count_in ms = count_if (get_member (codes "count") ms)

-- The gauges, at least one table, and the gain of each.
pub record Gauges : Type 0 where
  pub names : List Gauge
  pub gains : List GainValue

abbrev pub gauge_names : List Gauge → List (List ℕ)
gauge_names gauges = map (λ g. g.name) gauges

-- a table, behind those of the gauges before it
unfoldable pub gauge_in : List Gauge → Data → Result (Gauge × GainValue) ConfigFault
gauge_in before value = do
  part ← ok_or (as_table value) (WrongKind (gauge_key (length before) key.Itself))
  name ← name_at (gauge_key (length before) key.Name) part
  file ← file_at (gauge_key (length before) key.File) part
  num ← number_at (gauge_key (length before) key.Num) (neg_ℤ (pos MAX_NUM)) (pos MAX_NUM) part
  den ← natural_or 1 (gauge_key (length before) key.Den) 1 MAX_DEN part
  offset ← number_or (pos 0) (gauge_key (length before) key.Offset) (neg_ℤ (pos MAX_OFFSET)) (pos MAX_OFFSET) part
  name ← unless_taken_before parts.Gauge (length before) (gauge_names before) name
  Ok (record { name = name; file = file }, record { num = num; den = den; offset = offset })

abbrev pub gauges_after : Gauges → List Data → Result Gauges ConfigFault
gauges_after before [] = Ok before
gauges_after before (value ∷ values) = gauge_in before.names value >>=
    λ g. gauges_after (record { names = before.names ++ g.0 ∷ []; gains = before.gains ++ g.1 ∷ [] }) values

unfoldable pub gauges_in : Members → Result Gauges ConfigFault
gauges_in ms = do
  value ← ok_or (get_member (codes "gauge") ms) (Missing (gauge_key 0 key.Itself))
  values ← items_in parts.Gauge 1 MAX_GAUGES value
  gauges_after (record { names = []; gains = [] }) values

-- The details, none or more tables, each on a gauge.
abbrev pub kind_named : List ℕ → Option Kind
kind_named text = if pointwise ◌==◌ text (codes "normal") then Some Normal
    else if pointwise ◌==◌ text (codes "shear") then Some Shear else None

unfoldable pub kind_at : Key → Members → Result Kind ConfigFault
kind_at key ms = do
  text ← text_at key ms
  ok_or (kind_named text) (Limit key)

-- one of the numbers of a list
unfoldable pub choice_at : Key → List ℕ → Members → Result ℕ ConfigFault
choice_at key numbers ms = do
  n ← natural_at key 0 65535 ms
  within_limits (is_among n numbers) key n

unfoldable pub curve_in : ℕ → Members → Result DetailValue ConfigFault
curve_in i part = do
  kind ← kind_at (detail_key i key.Kind) part
  category ← choice_at (detail_key i key.Category) (categories kind) part
  gamma ← choice_at (detail_key i key.Gamma) partial_factors part
  Ok (record { kind = kind; category = category; gamma = gamma })

abbrev pub detail_names : List NamedDetail → List (List ℕ)
detail_names details = map (λ d. d.name) details

unfoldable pub detail_in : List Gauge → List NamedDetail → Data → Result NamedDetail ConfigFault
detail_in gauges before value = do
  part ← ok_or (as_table value) (WrongKind (detail_key (length before) key.Itself))
  name ← name_at (detail_key (length before) key.Name) part
  gauge ← text_at (detail_key (length before) key.Gauge) part
  detail ← curve_in (length before) part
  place ← ok_or (place_of gauge (gauge_names gauges)) (NoSuchGauge (length before))
  name ← unless_taken_before parts.Detail (length before) (detail_names before) name
  Ok (record { name = name; gauge = place; detail = detail })

abbrev pub details_after : List Gauge → List NamedDetail → List Data → Result (List NamedDetail) ConfigFault
details_after gauges before [] = Ok before
details_after gauges before (value ∷ values) = detail_in gauges before value >>=
    λ d. details_after gauges (before ++ d ∷ []) values

unfoldable pub details_part : List Gauge → Data → Result (List NamedDetail) ConfigFault
details_part gauges value = do
  values ← items_in parts.Detail 0 MAX_DETAILS value
  details_after gauges [] values

abbrev pub details_if : List Gauge → Option Data → Result (List NamedDetail) ConfigFault
details_if gauges None = Ok []
details_if gauges (Some value) = details_part gauges value

unfoldable pub details_in : List Gauge → Members → Result (List NamedDetail) ConfigFault
details_in gauges ms = details_if gauges (get_member (codes "detail") ms)

-- the table that bytes spell
unfoldable pub document : List ℕ → Result Members ConfigFault
document bytes = if is_utf8 bytes then ok_or (parse_document bytes) NotToml else Err NotToml

-- the configuration of a table
unfoldable pub config_in : Members → Result Config ConfigFault
config_in ms = do
  grid ← grid_in ms
  count ← count_in ms
  gauges ← gauges_in ms
  details ← details_in gauges.names ms
  Ok (record {
    setup = record { grid = grid; gains = gauges.gains };
    gauges = gauges.names;
    details = details;
    block = count.0;
    workers = count.1;
  })

-- what bytes mean, however many they are
abbrev pub configuration_in : List ℕ → Result Config ConfigFault
configuration_in bytes = document bytes >>= config_in

unfoldable pub config_of_bytes : List ℕ → Result Config ConfigFault
config_of_bytes bytes = if nat_lt MAX_BYTES (length bytes) then Err TooLong else configuration_in bytes
