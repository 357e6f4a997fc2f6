-- What each answer of `compact` says.
use Rattle.std.proofs.Common.{◌≡◌, ◌≢◌, ◌⊎◌, ◌++◌, inl, inr, ℕ, ℤ, List, refl, sym, subst}
use Rattle.std.specs.Prelude.{Result, Ok, Err}
use Rattle.outside.specs.Fault.{CountRose}
use Rattle.outside.specs.station.Station.{Image}
use Rattle.calibration.specs.declared.setup.Setup.{Setup}
use Rattle.segment.specs.segment_rules.Parts.{PartsValue}
use Rattle.segment_store.specs.Copy.{IsCopy, copies_of, copy_of, in_version_two}
use Rattle.segment_store.specs.Held.{ends_of}
use Rattle.segment_store.specs.Holds.{Holds, AllStand}
use Rattle.segment_store.specs.Moments.{StoreValue}
use Rattle.segment_store.specs.declared.compacting.CompactFault.{CompactFault}
use Rattle.segment_store.specs.declared.compacting.CompactFault.TheVariants as faults
use Rattle.store_bytes.specs.store_head.Head.{HeadValue}
use Rattle.site_config.specs.declared.config.Config.{Config}
use Rattle.status.specs.declared.status.Status.{Status}
use Rattle.status.specs.declared.status.Status.TheVariants.{Done, Usage, Config as BadConfig, Store as BadStore, Recording, Torn, ReadFault, WriteFault, DiskFault, OutOfMemory, TooLong, Differs}
use Rattle.report_command.specs.Answers.{MayAnswerOver}
use Rattle.segment_store.specs.Image.{IsStoreOf}
use Rattle.status.specs.Printing.{IsReporting}
use Rattle.report_command.specs.compact_command.Copying.{IsCompact, Copies, IsCopying}

pub compact_by : (s : StoreValue) (bodies : List PartsValue) → IsCopy s bodies → IsCompact s.head bodies (ends_of s.held) (copy_of s)
compact_by s bodies c = record {
  copies = copies_of s.held;
  reads = c.reads;
  one_each = c.one_each;
  kept = c.kept;
  stand = c.stand;
  closed = refl;
}

module _ (head : HeadValue) (bodies : List PartsValue) (ends old new : List ℕ) where
  -- what is copied holds what is held
  pub copy_holds : (s : Status) (setup : Setup) (w : ℕ → List ℤ) → head.setup ≡ setup → AllStand setup w bodies → s ≡ Done
      → Copies s head bodies ends old new → (image : Image) × Holds setup w ends image × (new ≡ old ++ image)
  copy_holds s setup w of stand is copies =
      let c = subst (λ (x : Status). Copies x head bodies ends old new) is copies in
      let k = c.1 in (
        c.0,
        record {
          head = in_version_two head;
          of_setup = of;
          bodies = k.copies;
          reads = k.reads;
          stand = subst (λ (x : Setup). AllStand x w k.copies) of (k.stand w (subst (λ (x : Setup). AllStand x w bodies) (sym of) stand));
        },
        c.2,
      )

pub by_copying : (P : Status → Type 0) → P Done → P WriteFault → P OutOfMemory → (s : Status) → IsCopying s → P s
by_copying P d w m Done is = d
by_copying P d w m WriteFault is = w
by_copying P d w m OutOfMemory is = m
by_copying P d w m Usage is = absurd is
by_copying P d w m (BadConfig f) is = absurd is
by_copying P d w m (BadStore f) is = absurd is
by_copying P d w m (Recording g f) is = absurd is
by_copying P d w m (Torn g b) is = absurd is
by_copying P d w m ReadFault is = absurd is
by_copying P d w m DiskFault is = absurd is
by_copying P d w m (TooLong g) is = absurd is
by_copying P d w m (Differs g x y z) is = absurd is

pub copied_kind : (s : Status) → IsCopying s → IsReporting s
copied_kind = by_copying IsReporting tt tt tt

pub copied_answer : (c : Config) (image : Image) (s : Status) → IsCopying s → IsStoreOf c.setup image → MayAnswerOver c image s
copied_answer c image s is reads = by_copying (MayAnswerOver c image) reads reads tt s is

pub copied_complete : (s : Status) (before now : ℕ) → IsCopying s → (s ≡ WriteFault → CountRose before now) → (CountRose before now → ⊥) →
    (s ≡ Done) ⊎ (s ≡ OutOfMemory)
copied_complete s before now is write none =
    by_copying (λ (x : Status). (x ≡ WriteFault → CountRose before now) → (x ≡ Done) ⊎ (x ≡ OutOfMemory)) (λ w. inl refl)
    (λ w. absurd (none (w refl))) (λ w. inr refl) s is write

pub copied_other : (s : Status) → IsCopying s → (s ≢ ReadFault) × (s ≢ DiskFault)
copied_other =
    by_copying (λ s. (s ≢ ReadFault) × (s ≢ DiskFault)) ((λ is. absurd cc), (λ is. absurd cc)) ((λ is. absurd cc), (λ is. absurd cc))
    ((λ is. absurd cc), (λ is. absurd cc))

-- what is known unless memory ran out
pub known_ok : (r : Result (Unit {0}) CompactFault) (P : Type 0) → (r ≡ Err faults.OutOfMemory) ⊎ P → (u : Unit {0}) → r ≡ Ok u → P
known_ok r P (inl e) u is = absurd cc
known_ok r P (inr p) u is = p

pub known_failed : (r : Result (Unit {0}) CompactFault) (P : Type 0) → (r ≡ Err faults.OutOfMemory) ⊎ P → r ≡ Err faults.WriteFault → P
known_failed r P (inl e) is = absurd cc
known_failed r P (inr p) is = p
