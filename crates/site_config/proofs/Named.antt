-- The name of a gauge of a configuration, as code reads it, and how long a name is at most.
use Rattle.std.proofs.Common.{◌≡◌, ◌<◌, ◌≤◌, ℕ, true, List, length, sym, ap, ◌∙◌, arith}
use Rattle.std.specs.Prelude.{slice_index_or}
use Rattle.std.proofs.lemmas.List.{get_or_default}
use Rattle.std.proofs.lemmas.Bool.Decides.{nat_tests}
use Rattle.site_config.specs.declared.config.Config.{Config}
use Rattle.site_config.specs.declared.config.Gauge.{Gauge}
use Rattle.site_config.specs.declared.limits.TheConstants.{MAX_NAME_BYTES}
use Rattle.site_config.specs.Fields.{is_name}
use Rattle.site_config.specs.Valid.{name_of, no_gauge}

pub name_is : (c : Config) (g : ℕ) (gauges : List Gauge) (here : Gauge) (name : List ℕ) → g < length c.gauges → gauges ≡ c.gauges
    → name ≡ (slice_index_or gauges g here).name → name_of c g ≡ name
name_is c g gauges here name lt same is = ap (λ (x : Gauge). x.name) (get_or_default c.gauges g no_gauge here lt)
    ∙ ap (λ (l : List Gauge). (slice_index_or l g here).name) (sym same) ∙ sym is

pub short_name : (name : List ℕ) → is_name name ≡ true → length name ≤ MAX_NAME_BYTES
short_name name is = grind (arith, nat_tests, is)
