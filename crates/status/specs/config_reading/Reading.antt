-- What is answered for a configuration.
--   IsFront     so many bytes of a buffer are what a source had, as far as there was room
--   MeansAs     the answer is the meaning, unless a read failed or memory ran out
--   IsRefusal   what reading a configuration may refuse with
use Rattle.std.specs.Prelude.{◌≡◌, ℕ, List, min, length, take, Result, Ok, Err}
use Rattle.site_config.specs.declared.config.Config.{Config}
use Rattle.site_config.specs.declared.fault.ConfigFault.{ConfigFault}
use Rattle.status.specs.declared.status.Status.{Status}
use Rattle.status.specs.declared.status.Status.TheVariants as status

pub record IsFront (n : ℕ) (bytes : List ℕ) (room : ℕ) (left : List ℕ) : Type 0 where
  pub many : n ≡ min room (length left)
  pub same : take n bytes ≡ take n left

abbrev pub MeansAs : Result Config ConfigFault → Result Config Status → Type 0
MeansAs meaning (Ok config) = meaning ≡ Ok config
MeansAs meaning (Err (status.Config fault)) = meaning ≡ Err fault
MeansAs meaning (Err status.ReadFault) = Unit {0}
MeansAs meaning (Err status.OutOfMemory) = Unit {0}
MeansAs meaning (Err answer) = ⊥

abbrev pub IsRefusal : Status → Type 0
IsRefusal (status.Config fault) = Unit {0}
IsRefusal status.ReadFault = Unit {0}
IsRefusal status.OutOfMemory = Unit {0}
IsRefusal answer = ⊥
