-- Memory ran out while the words were read.
--   Untouched   nothing was asked for and nothing printed
--   LeftEarly   besides, the line of the answer is told at most, and nothing else changes
--   ends_of     that line is the last, unless the station's count rose
use Rattle.std.proofs.Common.{◌≡◌, ◌⊎◌, inl, inr, ⊎_elim, [], ◌∷◌, ◌++◌}
use Rattle.outside.specs.Fault.{CountRose}
use Rattle.outside.specs.Site.{AsksNothing}
use Rattle.outside.specs.station.Station.{Image, Lines}
use Rattle.file_commands.specs.file_tasks.Run.{Outside}
use Rattle.status.specs.declared.status.Status.TheVariants.{OutOfMemory}
use Rattle.status.specs.fault_lines.FaultLine.{fault_line}
use Rattle.status.specs.Shown.{Shown, Tells, Ends}
use Rattle.monitor.specs.Outside.{outside_in}

pub record Untouched (before after : Outside) : Type 0 where
  pub written : after.written ≡ before.written
  pub asked : AsksNothing before.names_asked after.names_asked
  pub faults : after.site_faults ≡ before.site_faults
  pub back : after.out ≡ 0
  pub files : before.site_tells → after.files ≡ before.files

pub record LeftEarly (before after : Shown) : Type 0 where
  pub counts : before.station_tells → before.leaves before.seen
  pub only : before.station_tells → (lines : Lines) (image : Image) → before.moments before.clock lines image →
      (lines ≡ before.told) × before.leaves image
  pub tells : before.station_tells → Tells (fault_line OutOfMemory []) before after
  pub last : before.station_tells → CountRose before.station_faults after.station_faults ⊎
      (after.told ≡ before.told ++ fault_line OutOfMemory [] ∷ [])
  pub same : Untouched (outside_in before) (outside_in after)

pub ends_of : (before after : Shown) → LeftEarly before after → before.station_tells → Ends (fault_line OutOfMemory []) before after
ends_of before after left k = ⊎_elim (λ rose. inl rose) (λ is. inr (before.told, is)) (left.last k)
