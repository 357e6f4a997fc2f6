-- Answers that come before any round, or behind rounds that did not end: nothing is claimed with them of what is held or
-- told, and nothing is printed.
--   IsEarly                                                 such an answer
--   opening_early, resume_early, refusal_early              those of opening, of resuming, of reading the configuration
--   resume_counting, resume_not_read, resume_disk           what resuming may answer
--   held_early, cut_early, prints_early, where_early        what is claimed with them
--   not_write_early                                         which they are not
use Rattle.std.proofs.Common.{◌≡◌, ◌≢◌, ℕ, ℤ, List, refl}
use Rattle.outside.specs.station.Station.{Image}
use Rattle.segment_store.specs.declared.fault.ResumeFault.{ResumeFault}
use Rattle.segment_store.specs.declared.fault.ResumeFault.TheVariants as resume
use Rattle.site_config.specs.declared.config.Config.{Config}
use Rattle.site_config.specs.declared.fault.ConfigFault.{ConfigFault}
use Rattle.site_config.specs.recorded.Recorded.{Recorded}
use Rattle.site_lanes.specs.Answers.{IsOpening}
use Rattle.status.specs.config_reading.Reading.{IsRefusal}
use Rattle.status.specs.Refused.{store_status}
use Rattle.status.specs.declared.status.RecordingFault.{RecordingFault}
use Rattle.status.specs.declared.status.StoreFault.{StoreFault}
use Rattle.status.specs.declared.status.Status.{Status}
use Rattle.status.specs.declared.status.Status.TheVariants.{Done, Usage, Config as BadConfig, Store as BadStore, Recording, Torn, ReadFault, WriteFault, DiskFault, OutOfMemory, TooLong, Differs}
use Rattle.status.proofs.AnswerCases.{by_store_status}
use Rattle.status.proofs.on_config_reading.Refusing.{by_refusal}
use Rattle.count_command.specs.Acknowledging.{WhereCounted}
use Rattle.count_command.specs.Answer.{IsCounting}
use Rattle.count_command.specs.Holding.{HeldAt, HeldCut}
use Rattle.count_command.specs.Printed.{Prints}

abbrev pub IsEarly : Status → Type 0
IsEarly Done = ⊥
IsEarly WriteFault = ⊥
IsEarly (Torn g bytes) = ⊥
IsEarly (TooLong g) = ⊥
IsEarly (Differs g what held found) = ⊥
IsEarly status = Unit {0}

by_early : (P : Status → Type 0) → P Usage → ((f : ConfigFault) → P (BadConfig f)) → ((f : StoreFault) → P (BadStore f)) →
    ((g : ℕ) (f : RecordingFault) → P (Recording g f)) → P ReadFault → P DiskFault → P OutOfMemory →
    (s : Status) → IsEarly s → P s
by_early P u c b o r d m Usage is = u
by_early P u c b o r d m (BadConfig f) is = c f
by_early P u c b o r d m (BadStore f) is = b f
by_early P u c b o r d m (Recording g f) is = o g f
by_early P u c b o r d m ReadFault is = r
by_early P u c b o r d m DiskFault is = d
by_early P u c b o r d m OutOfMemory is = m
by_early P u c b o r d m Done is = absurd is
by_early P u c b o r d m WriteFault is = absurd is
by_early P u c b o r d m (Torn g bytes) is = absurd is
by_early P u c b o r d m (TooLong g) is = absurd is
by_early P u c b o r d m (Differs g w x y) is = absurd is

pub by_opening : (P : Status → Type 0) → ((g : ℕ) (f : RecordingFault) → P (Recording g f)) → P ReadFault → (s : Status) → IsOpening s → P s
by_opening P o r (Recording g f) is = o g f
by_opening P o r ReadFault is = r
by_opening P o r Done is = absurd is
by_opening P o r Usage is = absurd is
by_opening P o r (BadConfig f) is = absurd is
by_opening P o r (BadStore f) is = absurd is
by_opening P o r (Torn g bytes) is = absurd is
by_opening P o r WriteFault is = absurd is
by_opening P o r DiskFault is = absurd is
by_opening P o r OutOfMemory is = absurd is
by_opening P o r (TooLong g) is = absurd is
by_opening P o r (Differs g w x y) is = absurd is

pub opening_early : (s : Status) → IsOpening s → IsEarly s
opening_early = by_opening IsEarly (λ g f. tt) tt

pub resume_early : (f : ResumeFault) → IsEarly (store_status f)
resume_early = by_store_status IsEarly (λ f. tt) tt tt

pub resume_counting : (f : ResumeFault) → IsCounting (store_status f)
resume_counting = by_store_status IsCounting (λ f. tt) tt tt

pub resume_not_read : (f : ResumeFault) → store_status f ≢ ReadFault
resume_not_read = by_store_status (λ s. s ≢ ReadFault) (λ f is. absurd cc) (λ is. absurd cc) (λ is. absurd cc)

pub resume_disk : (f : ResumeFault) → store_status f ≡ DiskFault → f ≡ resume.DiskFault
resume_disk resume.NotAStore is = absurd cc
resume_disk (resume.Version v) is = absurd cc
resume_disk (resume.Differs field kept found) is = absurd cc
resume_disk (resume.Damaged index damage) is = absurd cc
resume_disk resume.DiskFault is = refl
resume_disk resume.OutOfMemory is = absurd cc

pub refusal_early : (s : Status) → IsRefusal s → IsEarly s
refusal_early = by_refusal IsEarly (λ f. tt) tt tt

pub held_early : (r : Recorded) (leaves : Image → Type 0) (s : Status) → IsEarly s → HeldAt s r leaves
held_early r leaves = by_early (λ s. HeldAt s r leaves) tt (λ f. tt) (λ f. tt) (λ g f. tt) tt tt tt

pub cut_early : (r : Recorded) (leaves : Image → Type 0) (s : Status) → IsEarly s → HeldCut s r leaves
cut_early r leaves = by_early (λ s. HeldCut s r leaves) tt (λ f. tt) (λ f. tt) (λ g f. tt) tt tt tt

pub prints_early : (c : Config) (w : ℕ → List ℤ) (old new : List ℕ) → new ≡ old → (s : Status) → IsEarly s → Prints s c w old new
prints_early c w old new is =
    by_early (λ s. Prints s c w old new) is (λ f. is) (λ f. is) (λ g f. is) is is is

pub where_early : (U P : Type 0) (s : Status) → IsEarly s → WhereCounted s U P
where_early U P = by_early (λ s. WhereCounted s U P) tt (λ f. tt) (λ f. tt) (λ g f. tt) tt tt tt

pub not_write_early : (s : Status) → IsEarly s → s ≢ WriteFault
not_write_early = by_early (λ s. s ≢ WriteFault) (λ is. absurd cc) (λ f is. absurd cc) (λ f is. absurd cc) (λ g f is. absurd cc)
    (λ is. absurd cc) (λ is. absurd cc) (λ is. absurd cc)
