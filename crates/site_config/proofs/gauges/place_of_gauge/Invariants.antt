use Rattle.std.proofs.Common.{◌≡◌, drop}
use Rattle.site_config.specs.Fields.{place_of}
use Rattle.site_config.proofs.Lists.{place_from}
use Rattle.site_config.specs.Configuration.{gauge_names}
use Rattle.site_config.proofs.gauges.place_of_gauge.Given as goal

-- no gauge so far has the name
abbrev pub invariant-loop-i : goal.invariant-loop-i
invariant-loop-i l = place_from l.i l.name (gauge_names (drop l.i l.gauges)) ≡ place_of l.name (gauge_names l.gauges)
