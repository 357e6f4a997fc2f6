-- What holds of each answer that reading a configuration may refuse with.
use Rattle.site_config.specs.declared.fault.ConfigFault.{ConfigFault}
use Rattle.status.specs.declared.status.Status.{Status}
use Rattle.status.specs.declared.status.Status.TheVariants.{Done, Usage, Config as BadConfig, Store as BadStore, Recording, Torn, ReadFault, WriteFault, DiskFault, OutOfMemory, TooLong, Differs}
use Rattle.status.specs.config_reading.Reading.{IsRefusal}
use Rattle.std.proofs.Common.{◌≢◌}
use Rattle.status.specs.Printing.{IsPrinting}

pub by_refusal : (P : Status → Type 0) → ((f : ConfigFault) → P (BadConfig f)) → P ReadFault → P OutOfMemory → (s : Status) →
    IsRefusal s → P s
by_refusal P c r m (BadConfig f) is = c f
by_refusal P c r m ReadFault is = r
by_refusal P c r m OutOfMemory is = m
by_refusal P c r m Done is = absurd is
by_refusal P c r m Usage is = absurd is
by_refusal P c r m (BadStore f) is = absurd is
by_refusal P c r m (Recording g f) is = absurd is
by_refusal P c r m (Torn g b) is = absurd is
by_refusal P c r m WriteFault is = absurd is
by_refusal P c r m DiskFault is = absurd is
by_refusal P c r m (TooLong g) is = absurd is
by_refusal P c r m (Differs g x y z) is = absurd is

pub unread_other : (s : Status) → IsRefusal s → (s ≢ WriteFault) × (s ≢ DiskFault) × (IsPrinting s → ⊥)
unread_other = by_refusal (λ s. (s ≢ WriteFault) × (s ≢ DiskFault) × (IsPrinting s → ⊥))
    (λ f. ((λ is. absurd cc), (λ is. absurd cc), λ p. p)) ((λ is. absurd cc), (λ is. absurd cc), λ p. p)
    ((λ is. absurd cc), (λ is. absurd cc), λ p. p)
