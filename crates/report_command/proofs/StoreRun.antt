-- What a run over the store alone did, by how it ended.
--   unread, no_line   the configuration was refused, or memory ran out before it was read
--   told              a run by the configuration, whose line is told then
--   no_room           there was no room for what is written
--   not_resumed       the store was not walked over, or
--   refused_store     not resumed
--   ended             what is written of the store was written
use Rattle.std.proofs.Common.{◌≡◌, ◌≢◌, ◌≤◌, ◌⊎◌, ◌++◌, inr, ℕ, List, [], ◌∷◌, ◌∙◌, refl, sym, subst, arith}
use Rattle.std.specs.Prelude.{Result, Ok, Err}
use Rattle.outside.specs.Fault.{CountRose}
use Rattle.outside.specs.declared.source.Source as source
use Rattle.outside.specs.declared.sink.Sink as sink
use Rattle.outside.specs.declared.station.station.Station as station
use Rattle.outside.specs.station.Station.{Image, Lines}
use Rattle.outside.proofs.Faults.{rose_more}
use Rattle.outside.proofs.on_station.Told.{last_after}
use Rattle.lemmas.proofs.Outcomes.{same_ok}
use Rattle.calibration.specs.declared.setup.Setup.{Setup}
use Rattle.segment.specs.segment_rules.Parts.{PartsValue}
use Rattle.store_bytes.specs.store_head.Head.{HeadValue}
use Rattle.segment_store.specs.Held.{ends_of}
use Rattle.segment_store.specs.Image.{Reads, IsStoreOf}
use Rattle.segment_store.specs.Moments.{IsThere, StoreValue}
use Rattle.segment_store.specs.Opening.{IsUnharmed, Resumes}
use Rattle.segment_store.specs.Quiet.{IsQuiet}
use Rattle.segment_store.specs.declared.fault.ResumeFault.{ResumeFault}
use Rattle.segment_store.specs.declared.fault.ResumeFault.TheVariants as fault
use Rattle.segment_store.proofs.Quiet.{quiet_starts}
use Rattle.site_config.specs.Configuration.{config_of_bytes}
use Rattle.site_config.specs.declared.config.Config.{Config}
use Rattle.site_config.specs.declared.fault.ConfigFault.{ConfigFault}
use Rattle.status.specs.config_reading.Reading.{MeansAs, IsRefusal}
use Rattle.status.proofs.on_config_reading.Refusing.{by_refusal, unread_other}
use Rattle.status.specs.fault_lines.FaultLine.{fault_line}
use Rattle.status.specs.Shown.{Shown, Tells}
use Rattle.status.proofs.on_fault_lines.Telling.{quiet_tells}
use Rattle.status.proofs.AnswerCases.{by_printing, by_store_status}
use Rattle.status.proofs.Refusals.{refused_complete, kind_of_store}
use Rattle.status.specs.declared.status.Status.{Status}
use Rattle.status.specs.declared.status.Status.TheVariants.{Done, Usage, Config as BadConfig, Store as BadStore, Recording, Torn, ReadFault, WriteFault, DiskFault, OutOfMemory, TooLong, Differs}
use Rattle.status.specs.Printing.{IsPrinting, IsReporting}
use Rattle.status.specs.Refused.{store_status, IsRefused}
use Rattle.report_command.specs.Answers.{MayAnswerOver, ReportAnswers}
use Rattle.report_command.specs.StoreRun.{Writing, StoreRuns, IsUntold, store_shown}
use Rattle.report_command.specs.compact_command.Copying.{IsCopying}
use Rattle.report_command.proofs.on_compact_command.Copied.{copied_answer, copied_complete, copied_other, copied_kind}

no_config : (config : Result Config ConfigFault) (c : Config) (f : ConfigFault) → config ≡ Ok c → config ≡ Err f → ⊥
no_config config c f sound means = cc

-- over a sound configuration reading fails, or memory runs out
refused_sound : (config : Result Config ConfigFault) (c : Config) (before now : ℕ) → config ≡ Ok c → (CountRose before now → ⊥) →
    (s : Status) → IsRefusal s → MeansAs config (Err s) → (s ≡ ReadFault → CountRose before now) → (s ≡ Done) ⊎ (s ≡ OutOfMemory)
refused_sound config c before now sound none =
    by_refusal (λ (s : Status). MeansAs config (Err s) → (s ≡ ReadFault → CountRose before now) → (s ≡ Done) ⊎ (s ≡ OutOfMemory))
    (λ f means rose. absurd (no_config config c f sound means)) (λ means rose. absurd (none (rose refl))) (λ means rose. inr refl)

-- an answer over a configuration that was read
over_config : (config : Result Config ConfigFault) (c : Config) (image : Image) → config ≡ Ok c → (s : Status) → MayAnswerOver c image s →
    ReportAnswers config image s
over_config config c image is Done a = (c, is, a)
over_config config c image is WriteFault a = (c, is, a)
over_config config c image is (BadStore f) a = (c, is, a)
over_config config c image is DiskFault a = (c, is, a)
over_config config c image is OutOfMemory a = tt
over_config config c image is ReadFault a = tt
over_config config c image is Usage a = absurd a
over_config config c image is (BadConfig f) a = absurd a
over_config config c image is (Recording g f) a = absurd a
over_config config c image is (Torn g b) a = absurd a
over_config config c image is (TooLong g) a = absurd a
over_config config c image is (Differs g x y z) a = absurd a

unread_answer : (config : Result Config ConfigFault) (image : Image) (s : Status) → IsRefusal s → MeansAs config (Err s) →
    ReportAnswers config image s
unread_answer config image s is =
    by_refusal (λ (x : Status). MeansAs config (Err x) → ReportAnswers config image x) (λ f m. m) (λ m. tt) (λ m. tt) s is

-- what a refused store is answered with
other_status : (f : ResumeFault) → (store_status f ≢ ReadFault) × (store_status f ≢ WriteFault) × (IsPrinting (store_status f) → ⊥)
other_status = by_store_status (λ s. (s ≢ ReadFault) × (s ≢ WriteFault) × (IsPrinting s → ⊥))
    (λ f. ((λ is. absurd cc), (λ is. absurd cc), λ p. p)) ((λ is. absurd cc), (λ is. absurd cc), λ p. p)
    ((λ is. absurd cc), (λ is. absurd cc), λ p. p)

disk_only : (X : Type 0) (f : ResumeFault) → store_status f ≡ DiskFault → ◌≡◌ {A = Result X ResumeFault} (Err f) (Err fault.DiskFault)
disk_only X fault.NotAStore is = absurd cc
disk_only X (fault.Version v) is = absurd cc
disk_only X (fault.Differs field kept found) is = absurd cc
disk_only X (fault.Damaged index damage) is = absurd cc
disk_only X fault.DiskFault is = refl
disk_only X fault.OutOfMemory is = absurd cc

refused_answer : (f : ResumeFault) (c : Config) (image : Image) → IsRefused c.setup image f → MayAnswerOver c image (store_status f)
refused_answer fault.NotAStore c image r = (fault.NotAStore, refl, r)
refused_answer (fault.Version v) c image r = (fault.Version v, refl, r)
refused_answer (fault.Differs field kept found) c image r = (fault.Differs field kept found, refl, r)
refused_answer (fault.Damaged index damage) c image r = (fault.Damaged index damage, refl, r)
refused_answer fault.DiskFault c image r = tt
refused_answer fault.OutOfMemory c image r = tt

-- a refusal is the same, whatever resuming gives
refused_as : {X : Type 0} (setup : Setup) (image : Image) (see : X → ℕ × List ℕ) (f : ResumeFault) → Resumes setup image see (Err f)
    → IsRefused setup image f
refused_as setup image see fault.NotAStore r = r
refused_as setup image see (fault.Version v) r = r
refused_as setup image see (fault.Differs field kept found) r = r
refused_as setup image see (fault.Damaged index damage) r = r
refused_as setup image see fault.DiskFault r = tt
refused_as setup image see fault.OutOfMemory r = tt

pub reads_as : {setup : Setup} (s : StoreValue) {seen old : Image} {leaves : Image → Type 0} → s.head.setup ≡ setup → IsThere s seen leaves
    → seen ≡ old → IsStoreOf setup old
reads_as s of_setup there same = record {
  head = s.head;
  bodies = there.0;
  ends = ends_of s.held;
  of_setup = of_setup;
  reads = subst (Reads s.head there.0 (ends_of s.held)) same there.1.reads;
}

-- what is left where the configuration was not read
pub record Unread (before after : Shown) (s : Status) : Type 0 where
  pub refusal : IsRefusal s
  pub means : before.config_tells → MeansAs (config_of_bytes before.config) (Err s)
  pub cause : s ≡ ReadFault → CountRose before.config_faults after.config_faults
  pub written : after.written ≡ before.written
  pub quiet : before.station_tells → Tells (fault_line s []) before after
  pub last : before.station_tells → s ≢ Done → CountRose before.station_faults after.station_faults
      ⊎ (after.told ≡ before.told ++ fault_line s [] ∷ [])

pub unread : {Writes : Writing} {before after : Shown} {s : Status} → Unread before after s → StoreRuns Writes before after s
unread {before = before} {after = after} {s = s} u =
    let other = unread_other s u.refusal in
    let config = config_of_bytes before.config in
    record {
      writes = λ o k reads c is printing. absurd (other.2 printing);
      nothing = λ o not. u.written;
      quiet = u.quiet;
      silent = λ k is. absurd (other.2 (subst IsPrinting (sym is) tt));
      last = u.last;
      answer_is = λ k reads. unread_answer config before.seen s u.refusal (u.means reads);
      complete = λ k reads sound source disk output.
          refused_sound config sound.0 before.config_faults after.config_faults sound.1 source s u.refusal (u.means reads) u.cause;
      kind = by_refusal IsReporting (λ f. tt) tt tt s u.refusal;
      read = u.cause;
      write = λ is. absurd (other.0 is);
      disk = λ is. absurd (other.1 is);
    }

pub no_line : {before after : Shown} → after.written ≡ before.written
    → (before.station_tells → Tells (fault_line OutOfMemory []) before after)
    → (before.station_tells → CountRose before.station_faults after.station_faults
    ⊎ (after.told ≡ before.told ++ fault_line OutOfMemory [] ∷ []))
    → Unread before after OutOfMemory
no_line written quiet last = record {
  refusal = tt;
  means = λ reads. tt;
  cause = λ is. absurd cc;
  written = written;
  quiet = quiet;
  last = λ k some. last k;
}

module _ {Writes : Writing} {C K O : Type 0} (t : source.Ghosts C) {v : station.Ghosts K} {p : sink.Ghosts O} (config config2 : C)
    {station between : K} (station2 : K) {out out2 : O} {c : Config} {s : Status} where
  pub told : (t.tells → config_of_bytes (t.left config) ≡ Ok c) → IsUntold Writes v p c station between out out2 s
      → (v.tells → Tells (fault_line s []) (store_shown t v p config between out) (store_shown t v p config2 station2 out2))
      → (v.tells → s ≡ Done → v.told station2 ≡ v.told between)
      → (v.tells → s ≢ Done → CountRose (v.faults between) (v.faults station2)
      ⊎ (v.told station2 ≡ v.told between ++ fault_line s [] ∷ []))
      → v.faults between ≤ v.faults station2
      → StoreRuns Writes (store_shown t v p config station out) (store_shown t v p config2 station2 out2) s
  told means run quiet silent last later = record {
    writes = λ o k reads config is printing.
        subst (λ (x : Config). Writes x (v.seen station) s (p.written out) (p.written out2)) (same_ok (means reads) is)
        (run.writes o k printing);
    nothing = run.nothing;
    quiet = λ k. quiet_tells (fault_line s []) _ _ _ _ _ _ _ _ _ _ _ _ _ _ _ (run.quiet k) (quiet k);
    silent = λ k done. silent k done ∙ (run.quiet k).told_same;
    last = λ k some. last_after _ _ _ _ _ _ (fault_line s []) run.later (run.quiet k).told_same (last k some);
    answer_is = λ k reads. over_config (config_of_bytes (t.left config)) c (v.seen station) (means reads) s (run.answer_is k);
    complete = λ k reads sound config3 disk output.
        run.complete k (subst (λ (x : Config). IsStoreOf x.setup (v.seen station)) (same_ok sound.1 (means reads)) sound.2)
        (λ rose. disk (rose_more _ _ _ rose later)) output;
    kind = run.kind;
    read = λ is. absurd (run.no_read is);
    write = run.write;
    disk = λ is. rose_more _ _ _ (run.disk is) later;
  }

module _ {Writes : Writing} {K O : Type 0} {v : station.Ghosts K} {p : sink.Ghosts O} {c : Config} {station : K} {out : O} where
  pub no_room : (v.tells → (lines : Lines) (image : Image) → v.moments station (v.clock station) lines image →
      (lines ≡ v.told station) × v.leaves station image) → IsUntold Writes v p c station station out out OutOfMemory
  no_room only = record {
    writes = λ o k printing. absurd printing;
    nothing = λ o not. refl;
    quiet = λ k. quiet_starts _ _ _ _ _ (only k);
    later = omega arith;
    answer_is = λ k. tt;
    complete = λ k is disk output. inr refl;
    kind = tt;
    no_read = λ is. absurd cc;
    write = λ is. absurd cc;
    disk = λ is. absurd cc;
  }

  -- X: what comes of a store that is not refused
  pub not_resumed : (X : Type 0) {station2 : K} {s : Status} (f : ResumeFault) → s ≡ store_status f
      → (v.tells → IsRefused c.setup (v.seen station) f)
      → (v.tells → IsStoreOf c.setup (v.seen station) → IsUnharmed {X = X} (Err f))
      → (◌≡◌ {A = Result X ResumeFault} (Err f) (Err fault.DiskFault) → CountRose (v.faults station) (v.faults station2))
      → (v.tells → IsQuiet (v.clock station) (v.moments station) (v.clock station2) (v.moments station2) (v.told station)
      (v.told station2) (v.seen station) (v.seen station2) (v.leaves station) (v.leaves station2))
      → v.faults station ≤ v.faults station2 → IsUntold Writes v p c station station2 out out s
  not_resumed X {station2 = station2} {s = s} f is refused unharmed cause quiet later = record {
    writes = λ o k printing. absurd ((other_status f).2 (subst IsPrinting is printing));
    nothing = λ o not. refl;
    quiet = quiet;
    later = later;
    answer_is = λ k. subst (λ (x : Status). MayAnswerOver c (v.seen station) x) (sym is)
        (refused_answer f c (v.seen station) (refused k));
    complete = λ k store disk output. subst (λ (x : Status). (x ≡ Done) ⊎ (x ≡ OutOfMemory)) (sym is)
        (refused_complete X f (v.faults station) (v.faults station2) (v.faults station2) (unharmed k store) cause (omega arith) disk);
    kind = kind_of_store s f is;
    no_read = λ read. absurd ((other_status f).0 (sym is ∙ read));
    write = λ write. absurd ((other_status f).1 (sym is ∙ write));
    disk = λ disk. cause (disk_only X f (sym is ∙ disk));
  }

  pub refused_store : {station2 : K} {s : Status} (f : ResumeFault) → s ≡ store_status f
      → (v.tells → Resumes c.setup (v.seen station) (λ (s : StoreValue). (s.place, ends_of s.held)) (Err f))
      → (v.tells → (head : HeadValue) (bodies : List PartsValue) (ends : List ℕ) → head.setup ≡ c.setup →
      Reads head bodies ends (v.seen station) → IsUnharmed {X = StoreValue} (Err f))
      → (◌≡◌ {A = Result StoreValue ResumeFault} (Err f) (Err fault.DiskFault) → CountRose (v.faults station) (v.faults station2))
      → (v.tells → IsQuiet (v.clock station) (v.moments station) (v.clock station2) (v.moments station2) (v.told station)
      (v.told station2) (v.seen station) (v.seen station2) (v.leaves station) (v.leaves station2))
      → v.faults station ≤ v.faults station2 → IsUntold Writes v p c station station2 out out s
  refused_store f is answer unharmed cause quiet later =
      not_resumed StoreValue f is (λ k. refused_as c.setup (v.seen station) (λ (s : StoreValue). (s.place, ends_of s.held)) f (answer k))
      (λ k r. unharmed k r.head r.bodies r.ends r.of_setup r.reads) cause quiet later

  pub ended : {station2 : K} {out2 : O} {s : Status}
      → (v.tells → IsQuiet (v.clock station) (v.moments station) (v.clock station2) (v.moments station2) (v.told station)
      (v.told station2) (v.seen station) (v.seen station2) (v.leaves station) (v.leaves station2))
      → v.faults station ≤ v.faults station2 → (v.tells → IsStoreOf c.setup (v.seen station)) → IsCopying s
      → (p.tells → (IsPrinting s → ⊥) → p.written out2 ≡ p.written out)
      → (s ≡ WriteFault → CountRose (p.faults out) (p.faults out2))
      → (p.tells → v.tells → IsPrinting s → Writes c (v.seen station) s (p.written out) (p.written out2))
      → IsUntold Writes v p c station station2 out out2 s
  ended {out2 = out2} {s = s} quiet later store kind nothing write writes = record {
    writes = writes;
    nothing = nothing;
    quiet = quiet;
    later = later;
    answer_is = λ k. copied_answer c (v.seen station) s kind (store k);
    complete = λ k is disk output. copied_complete s (p.faults out) (p.faults out2) kind write output;
    kind = copied_kind s kind;
    no_read = (copied_other s kind).0;
    write = write;
    disk = λ is. absurd ((copied_other s kind).1 is);
  }

pub printing_copies : (s : Status) → IsPrinting s → IsCopying s
printing_copies = by_printing IsCopying tt tt
