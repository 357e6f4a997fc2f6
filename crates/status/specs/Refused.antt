-- The answer for a store that is not resumed.
--   store_status   by what the store is refused for
--   IsRefused      what a store is refused for, by its image
--   IsRefusedAs    the same, by what is told of it
use Rattle.std.specs.Prelude.{◌≡◌, ℕ, List, Err}
use Rattle.outside.specs.station.Station.{Image}
use Rattle.calibration.specs.declared.setup.Setup.{Setup}
use Rattle.segment_store.specs.Opening.{Resumes}
use Rattle.segment_store.specs.declared.fault.ResumeFault.{ResumeFault}
use Rattle.segment_store.specs.declared.fault.ResumeFault.TheVariants as resume
use Rattle.status.specs.declared.status.StoreFault.{StoreFault}
use Rattle.status.specs.declared.status.StoreFault.TheVariants as store
use Rattle.status.specs.declared.status.Status.{Status}
use Rattle.status.specs.declared.status.Status.TheVariants.{Store as BadStore, DiskFault, OutOfMemory}

abbrev pub store_status : ResumeFault → Status
store_status resume.NotAStore = BadStore store.NotAStore
store_status (resume.Version v) = BadStore (store.Version v)
store_status (resume.Differs field kept found) = BadStore (store.Differs field kept found)
store_status (resume.Damaged index damage) = BadStore (store.Damaged index damage)
store_status resume.DiskFault = DiskFault
store_status resume.OutOfMemory = OutOfMemory

-- the first thing wrong with a store, in the order of the file
abbrev pub IsRefused : Setup → Image → ResumeFault → Type 0
IsRefused setup image fault = Resumes {X = ℕ × List ℕ} setup image (λ x. x) (Err fault)

abbrev pub IsRefusedAs : Setup → Image → StoreFault → Type 0
IsRefusedAs setup image told =
    (fault : ResumeFault) × (store_status fault ≡ BadStore told) × IsRefused setup image fault
