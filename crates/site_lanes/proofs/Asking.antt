-- Names that were asked for while recordings were opened.
--   up_to          those of the gauges up to this one
--   all_asked      all
--   refused_asks   by the answer for the gauge that was the last
--   opened_own     it is the gauge's
use Rattle.std.proofs.Common.{◌≡◌, ◌<◌, ◌≤◌, ◌+◌, ℕ, List, [], ◌∷◌, length, take, refl, sym, subst, arith}
use Rattle.std.proofs.lemmas.List.{length-map, take_all}
use Rattle.std.specs.Prelude.{Err}
use Rattle.outside.specs.Site.{Asked, Asks}
use Rattle.site_config.specs.Valid.{file_of}
use Rattle.site_config.specs.declared.config.Config.{Config}
use Rattle.site_config.specs.declared.config.Gauge.{Gauge}
use Rattle.site_config.specs.recorded.Asked.{AsksFirst, file_names}
use Rattle.site_config.proofs.on_recorded.Asking.{asks_more}
use Rattle.status.specs.declared.status.Status.{Status}
use Rattle.status.specs.declared.status.Status.TheVariants.{Done, Usage, Config as BadConfig, Store as BadStore, Recording, Torn, ReadFault, WriteFault, DiskFault, OutOfMemory, TooLong, Differs}
use Rattle.site_lanes.specs.Asked.{IsOfGauge, AsksUpTo, OpeningAsks}
use Rattle.site_lanes.specs.Opening.{opened_status}
use Rattle.site_lanes.specs.declared.opening.OpenFault.{OpenFault}
use Rattle.site_lanes.specs.declared.opening.OpenFault.TheVariants as fault

-- those of the gauges below g were asked for
module _ (c : Config) (g : ℕ) (a b : Asked) (asks : Asks a b (take g (file_names c))) where
  pub up_to : (d : Asked) → g < length c.gauges → Asks b d (file_of c g ∷ []) → AsksUpTo g a d (file_names c)
  up_to d lt one = (omega (arith, lt, length-map c.gauges (λ (gauge : Gauge). gauge.file)), asks_more c g a b asks d lt one)

  pub all_asked : length c.gauges ≤ g → Asks a b (file_names c)
  all_asked le = subst (λ (names : List (List ℕ)). Asks a b names)
      (take_all g (file_names c) (omega (arith, le, length-map c.gauges (λ (gauge : Gauge). gauge.file)))) asks

module _ (g : ℕ) (a b : Asked) (names : List (List ℕ)) (up : AsksUpTo g a b names) where
  first : AsksFirst a b names
  first = (g + 1, omega (arith, up.0), up.1)

  pub refused_asks : (s : Status) → IsOfGauge g s → OpeningAsks (Err s) a b names
  refused_asks (Recording h f) own = subst (λ (n : ℕ). AsksUpTo n a b names) (sym own) up
  refused_asks Done own = first
  refused_asks Usage own = first
  refused_asks (BadConfig f) own = first
  refused_asks (BadStore f) own = first
  refused_asks (Torn h bytes) own = first
  refused_asks ReadFault own = first
  refused_asks WriteFault own = first
  refused_asks DiskFault own = first
  refused_asks OutOfMemory own = first
  refused_asks (TooLong h) own = first
  refused_asks (Differs h what held found) own = first

status_own : (g : ℕ) (f : OpenFault) → IsOfGauge g (opened_status g f)
status_own g (fault.Recording f) = refl
status_own g fault.ReadFault = tt

pub opened_own : (g : ℕ) (f : OpenFault) (s : Status) → s ≡ opened_status g f → IsOfGauge g s
opened_own g f s is = subst (IsOfGauge g) (sym is) (status_own g f)
