-- A run of `audit` that asked for no file.
--   IsEarly       its answers
--   left_early    the line of the answer was told at most
--   left_unread   the configuration was refused, or memory ran out before it was read
--   by_refused    the answer for a store that is refused; store_early, ..: what it is and is not
use Rattle.std.proofs.Common.{◌≡◌, ◌≢◌, ◌⊎◌, inl, ℕ, ℤ, List, [], ◌∷◌, ◌++◌, refl, subst}
use Rattle.std.specs.Prelude.{Result, Ok, Err}
use Rattle.outside.specs.Fault.{CountRose}
use Rattle.outside.specs.Site.{Files, Asked, AsksNothing}
use Rattle.outside.specs.station.Station.{Image}
use Rattle.segment_store.specs.Moments.{StoreValue}
use Rattle.segment_store.specs.Opening.{Resumes}
use Rattle.segment_store.specs.declared.fault.ResumeFault.{ResumeFault}
use Rattle.segment_store.specs.declared.fault.ResumeFault.TheVariants as resume
use Rattle.site_config.specs.Configuration.{config_of_bytes}
use Rattle.site_config.specs.declared.config.Config.{Config}
use Rattle.site_config.specs.declared.fault.ConfigFault.{ConfigFault}
use Rattle.site_config.specs.recorded.Asked.{names_in}
use Rattle.site_config.proofs.on_recorded.Asking.{none_is_first}
use Rattle.status.specs.Refused.{store_status}
use Rattle.status.specs.Shown.{Shown, Tells}
use Rattle.status.specs.config_reading.Reading.{MeansAs, IsRefusal}
use Rattle.status.specs.declared.status.Status.{Status}
use Rattle.status.specs.declared.status.Status.TheVariants.{Done, Usage, Config as BadConfig, Store as BadStore, Recording, Torn, ReadFault, WriteFault, DiskFault, OutOfMemory, TooLong, Differs}
use Rattle.status.specs.declared.status.StoreFault.{StoreFault}
use Rattle.status.specs.fault_lines.FaultLine.{fault_line, name_by}
use Rattle.status.proofs.AnswerCases.{by_store_status}
use Rattle.status.proofs.on_config_reading.Refusing.{by_refusal, unread_other}
use Rattle.audit_command.specs.Answers.{AuditAnswers, IsSound}
use Rattle.audit_command.specs.Asked.{AuditAsks}
use Rattle.audit_command.specs.Audited.{SegmentChoice, FindsDifference}
use Rattle.audit_command.specs.AuditRun.{AuditRuns}
use Rattle.audit_command.specs.Printing.{Prints}
use Rattle.audit_command.proofs.Ended.{unread_answer, unread_complete}

abbrev pub IsEarly : Status → Type 0
IsEarly (BadConfig f) = Unit {0}
IsEarly (BadStore f) = Unit {0}
IsEarly ReadFault = Unit {0}
IsEarly DiskFault = Unit {0}
IsEarly OutOfMemory = Unit {0}
IsEarly status = ⊥

by_early : (P : Status → Type 0) → ((f : ConfigFault) → P (BadConfig f)) → ((f : StoreFault) → P (BadStore f)) → P ReadFault → P DiskFault
    → P OutOfMemory → (s : Status) → IsEarly s → P s
by_early P c b r d m (BadConfig f) is = c f
by_early P c b r d m (BadStore f) is = b f
by_early P c b r d m ReadFault is = r
by_early P c b r d m DiskFault is = d
by_early P c b r d m OutOfMemory is = m
by_early P c b r d m Done is = absurd is
by_early P c b r d m Usage is = absurd is
by_early P c b r d m (Recording g f) is = absurd is
by_early P c b r d m (Torn g bytes) is = absurd is
by_early P c b r d m WriteFault is = absurd is
by_early P c b r d m (TooLong g) is = absurd is
by_early P c b r d m (Differs g what held found) is = absurd is

same_line : (a b : List ℕ) (s : Status) → IsEarly s → fault_line s a ≡ fault_line s b
same_line a b = by_early (λ s. fault_line s a ≡ fault_line s b) (λ f. refl) (λ f. refl) refl refl refl

finds_early : (c : Config) (meant : SegmentChoice) (w : ℕ → List ℤ) (s : Status) → IsEarly s → FindsDifference c meant w s
finds_early c meant w = by_early (FindsDifference c meant w) (λ f. tt) (λ f. tt) tt tt tt

prints_early : (c : Config) (old new : List ℕ) → new ≡ old → (s : Status) → IsEarly s → Prints s c old new
prints_early c old new same = by_early (λ s. Prints s c old new) (λ f. same) (λ f. same) same same same

asks_early : (a b : Asked) (names : List (List ℕ)) → AsksNothing a b → (s : Status) → IsEarly s → AuditAsks s a b names
asks_early a b names none =
    by_early (λ s. AuditAsks s a b names) (λ f. none) (λ f. none) (none_is_first a b names none) none (none_is_first a b names none)

module _ (before after : Shown) (s : Status) where
  pub left_early : IsEarly s → (before.station_tells → Tells (fault_line s []) before after)
      → (before.station_tells → CountRose before.station_faults after.station_faults ⊎ (after.told ≡ before.told ++ fault_line s [] ∷ []))
      → after.written ≡ before.written → AsksNothing before.names_asked after.names_asked → after.site_faults ≡ before.site_faults
      → (before.station_tells → before.config_tells → AuditAnswers (config_of_bytes before.config) before.seen before.files s)
      → (before.station_tells → before.config_tells → IsSound (config_of_bytes before.config) before.seen before.files →
      ¬ CountRose before.config_faults after.config_faults → ¬ CountRose before.station_faults after.station_faults →
      (s ≡ Done) ⊎ (s ≡ OutOfMemory))
      → (s ≡ ReadFault → CountRose before.config_faults after.config_faults)
      → (s ≡ DiskFault → CountRose before.station_faults after.station_faults)
      → AuditRuns before after s
  left_early early told ends written none steady answers complete read disk =
      let line = same_line [] (name_by (config_of_bytes before.config) s) s early in
      record {
        answer_is = λ k t c. answers k c;
        complete = λ k t c sound source site station out. complete k c sound source station;
        stands = λ k t c config is w n holds. finds_early config _ _ s early;
        prints = λ o c config is. prints_early config before.written after.written written s early;
        nothing = λ o other. written;
        quiet = λ k c. subst (λ (l : List ℕ). Tells l before after) line (told k);
        silent = λ k done. absurd (subst IsEarly done early);
        last = λ k c other. subst (λ (l : List ℕ). CountRose before.station_faults after.station_faults ⊎
            (after.told ≡ before.told ++ l ∷ [])) line (ends k);
        named = λ usage. subst IsEarly usage early;
        read = λ is. inl (read is);
        steady = λ other. steady;
        write = λ is. absurd (subst IsEarly is early);
        disk = disk;
        asked = λ c. asks_early before.names_asked after.names_asked (names_in (config_of_bytes before.config)) none s early;
      }

  pub left_unread : IsRefusal s → (before.station_tells → Tells (fault_line s []) before after)
      → (before.station_tells → CountRose before.station_faults after.station_faults ⊎ (after.told ≡ before.told ++ fault_line s [] ∷ []))
      → after.written ≡ before.written → AsksNothing before.names_asked after.names_asked → after.site_faults ≡ before.site_faults
      → (before.config_tells → MeansAs (config_of_bytes before.config) (Err s))
      → (s ≡ ReadFault → CountRose before.config_faults after.config_faults) → AuditRuns before after s
  left_unread is told ends written none steady means cause =
      let read = config_of_bytes before.config in
      left_early (by_refusal IsEarly (λ f. tt) tt tt s is) told ends written none steady
      (λ k c. unread_answer read before.seen before.files s is (means c))
      (λ k c sound source station. unread_complete read before.seen before.files s is (means c) sound (λ e. source (cause e))) cause
      (λ e. absurd ((unread_other s is).1 e))

module _ (read : Result Config ConfigFault) (c : Config) (is : read ≡ Ok c) (image : Image) (files : Files) where
  pub by_refused : (see : StoreValue → ℕ × List ℕ) (f : ResumeFault) → Resumes c.setup image see (Err f) →
      AuditAnswers read image files (store_status f)
  by_refused see resume.NotAStore h = (c, is, (resume.NotAStore, refl, h))
  by_refused see (resume.Version v) h = (c, is, (resume.Version v, refl, h))
  by_refused see (resume.Differs field kept found) h = (c, is, (resume.Differs field kept found, refl, h))
  by_refused see (resume.Damaged index damage) h = (c, is, (resume.Damaged index damage, refl, h))
  by_refused see resume.DiskFault h = (c, is, tt)
  by_refused see resume.OutOfMemory h = tt

pub store_early : (f : ResumeFault) → IsEarly (store_status f)
store_early = by_store_status IsEarly (λ f. tt) tt tt

pub store_not_read : (f : ResumeFault) → store_status f ≢ ReadFault
store_not_read = by_store_status (λ s. s ≢ ReadFault) (λ f is. absurd cc) (λ is. absurd cc) (λ is. absurd cc)

pub store_disk : (f : ResumeFault) → store_status f ≡ DiskFault → f ≡ resume.DiskFault
store_disk resume.DiskFault is = refl
store_disk resume.NotAStore is = absurd cc
store_disk (resume.Version v) is = absurd cc
store_disk (resume.Differs field kept found) is = absurd cc
store_disk (resume.Damaged index damage) is = absurd cc
store_disk resume.OutOfMemory is = absurd cc
