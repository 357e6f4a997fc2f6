use Rattle.std.proofs.Common.{◌≡◌, drop}
use Rattle.site_config.specs.Fields.{place_of}
use Rattle.site_config.proofs.Lists.{place_from}
use Rattle.site_config.specs.Configuration.{detail_names}
use Rattle.site_config.proofs.details.place_of_detail.Given as goal

-- no detail so far has the name
abbrev pub invariant-loop-i : goal.invariant-loop-i
invariant-loop-i l = place_from l.i l.name (detail_names (drop l.i l.details)) ≡ place_of l.name (detail_names l.details)
