-- What holds of the answer for a store that is not resumed.
use Rattle.std.proofs.Common.{◌≡◌, ◌≤◌, ◌⊎◌, inr, ℕ, refl, sym, subst, arith}
use Rattle.std.specs.Prelude.{Result, Err}
use Rattle.outside.specs.Fault.{CountRose}
use Rattle.segment_store.specs.Opening.{IsUnharmed}
use Rattle.segment_store.specs.declared.fault.ResumeFault.{ResumeFault}
use Rattle.segment_store.specs.declared.fault.ResumeFault.TheVariants as fault
use Rattle.status.specs.declared.status.Status.{Status}
use Rattle.status.specs.declared.status.Status.TheVariants.{Done, OutOfMemory}
use Rattle.status.specs.Printing.{IsReporting}
use Rattle.status.specs.Refused.{store_status}
use Rattle.status.proofs.AnswerCases.{by_store_status}

store_kind : (f : ResumeFault) → IsReporting (store_status f)
store_kind = by_store_status IsReporting (λ f. tt) tt tt

pub kind_of_store : (s : Status) (f : ResumeFault) → s ≡ store_status f → IsReporting s
kind_of_store s f is = subst IsReporting (sym is) (store_kind f)

-- over a store that reads, nothing but a fault of the disk and want of memory is refused
pub refused_complete : (X : Type 0) (f : ResumeFault) (before between now : ℕ) → IsUnharmed {X = X} (Err f) →
    (◌≡◌ {A = Result X ResumeFault} (Err f) (Err fault.DiskFault) → CountRose before between)
    → between ≤ now → (CountRose before now → ⊥) → (store_status f ≡ Done) ⊎ (store_status f ≡ OutOfMemory)
refused_complete X fault.NotAStore before between now u d le none = absurd u
refused_complete X (fault.Version v) before between now u d le none = absurd u
refused_complete X (fault.Differs field kept found) before between now u d le none = absurd u
refused_complete X (fault.Damaged index damage) before between now u d le none = absurd u
refused_complete X fault.DiskFault before between now u d le none = absurd (none (omega (arith, d refl, le)))
refused_complete X fault.OutOfMemory before between now u d le none = inr refl
