-- What holds of each answer of a kind.
--   by_printing       of printing
--   by_store_status   for a store that is not resumed
use Rattle.segment_store.specs.declared.fault.ResumeFault.{ResumeFault}
use Rattle.segment_store.specs.declared.fault.ResumeFault.TheVariants as resume
use Rattle.status.specs.declared.status.StoreFault.{StoreFault}
use Rattle.status.specs.declared.status.StoreFault.TheVariants as store
use Rattle.status.specs.declared.status.Status.{Status}
use Rattle.status.specs.declared.status.Status.TheVariants.{Done, Usage, Config, Store, Recording, Torn, ReadFault, WriteFault, DiskFault, OutOfMemory, TooLong, Differs}
use Rattle.status.specs.Printing.{IsPrinting}
use Rattle.status.specs.Refused.{store_status}

pub by_printing : (P : Status → Type 0) → P Done → P WriteFault → (s : Status) → IsPrinting s → P s
by_printing P d w Done is = d
by_printing P d w WriteFault is = w
by_printing P d w Usage is = absurd is
by_printing P d w (Config f) is = absurd is
by_printing P d w (Store f) is = absurd is
by_printing P d w (Recording g f) is = absurd is
by_printing P d w (Torn g b) is = absurd is
by_printing P d w ReadFault is = absurd is
by_printing P d w DiskFault is = absurd is
by_printing P d w OutOfMemory is = absurd is
by_printing P d w (TooLong g) is = absurd is
by_printing P d w (Differs g x y z) is = absurd is

pub by_store_status : (P : Status → Type 0) → ((f : StoreFault) → P (Store f)) → P DiskFault → P OutOfMemory → (f : ResumeFault) →
    P (store_status f)
by_store_status P s d m resume.NotAStore = s store.NotAStore
by_store_status P s d m (resume.Version v) = s (store.Version v)
by_store_status P s d m (resume.Differs field kept found) = s (store.Differs field kept found)
by_store_status P s d m (resume.Damaged index damage) = s (store.Damaged index damage)
by_store_status P s d m resume.DiskFault = d
by_store_status P s d m resume.OutOfMemory = m
