use Rattle.std.proofs.Common.{◌≡◌, [], length, map, drop}
use Rattle.toml.specs.View.{view}
use Rattle.site_config.specs.Configuration.{gauges_after}
use Rattle.site_config.proofs.gauges.gauges_of.Given as goal

-- the gauges so far, with the tables that are left, are the whole
abbrev pub invariant-loop-value : goal.invariant-loop-value
invariant-loop-value l = record {
  whole : gauges_after (record { names = l.read-inside.names.items; gains = l.read-inside.gains.items })
      (map view (drop l.value-index l.fn.values)) ≡ gauges_after (record { names = []; gains = [] }) (map view l.fn.values);
  long : length l.read-inside.names.items ≡ l.value-index;
}
