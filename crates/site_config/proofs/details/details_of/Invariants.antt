use Rattle.std.proofs.Common.{◌≡◌, [], length, map, drop}
use Rattle.toml.specs.View.{view}
use Rattle.site_config.specs.Configuration.{details_after}
use Rattle.site_config.proofs.details.details_of.Given as goal

-- the details so far, with the tables that are left, are the whole
abbrev pub invariant-loop-value : goal.invariant-loop-value
invariant-loop-value l = record {
  whole : details_after l.gauges l.details.items (map view (drop l.value-index l.fn.values)) ≡ details_after l.gauges []
      (map view l.fn.values);
  long : length l.details.items ≡ l.value-index;
}
