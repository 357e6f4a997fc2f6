-- A run over a store that was resumed, and by a configuration.
--   new_faulty         no read failed of lanes that were not read
--   rose_by            the cause of a read fault
--   stored_refused     a recording is refused
--   stored_opened      all were opened
--   configured_early   the store is refused, or there is no memory for the lanes
use Rattle.std.proofs.Common.{◌≡◌, ◌≢◌, ◌≤◌, inl, inr, ℕ, ◌+◌, ◌-◌, ◌^◌, min, List, length, slice_index, refl, sym, ◌∙◌, arith}
use Rattle.std.specs.Prelude.{Err}
use Rattle.std.specs.List.{All}
use Rattle.std.proofs.lemmas.Bool.{cases_lt}
use Rattle.outside.specs.Fault.{CountRose}
use Rattle.outside.specs.Site.{Asks}
use Rattle.outside.specs.station.Station.{Image, Lines}
use Rattle.outside.specs.declared.source.Source as source
use Rattle.outside.specs.declared.site.Site as site
use Rattle.outside.specs.declared.sink.Sink as sink
use Rattle.outside.specs.declared.station.station.Station as station
use Rattle.outside.specs.Site.{Files}
use Rattle.recording.specs.declared.lane_ends.end.End.TheVariants as end
use Rattle.recording.specs.declared.head.Head.{Head}
use Rattle.count_workers.specs.declared.lane_loans.lane.Lane.{Lane}
use Rattle.segment_store.specs.Held.{ends_of}
use Rattle.segment_store.specs.Holds.{Holds}
use Rattle.segment_store.specs.Moments.{StoreValue}
use Rattle.segment_store.proofs.Quiet.{quiet_starts}
use Rattle.segment_store.specs.Quiet.{StaysQuiet}
use Rattle.site_config.specs.Valid.{name_of}
use Rattle.site_config.specs.declared.config.Config.{Config}
use Rattle.site_config.specs.recorded.Recorded.{recordings}
use Rattle.site_config.specs.recorded.Asked.{file_names}
use Rattle.site_lanes.specs.Answers.{AllOpened, IsOpening, OpenAnswers}
use Rattle.site_lanes.specs.Asked.{OpeningAsks}
use Rattle.site_lanes.specs.Lanes.{AreLanes, IsNew, IsFaulty}
use Rattle.status.specs.declared.status.Status.{Status}
use Rattle.status.specs.declared.status.Status.TheVariants.{Done, Usage, Config as BadConfig, Store as BadStore, Recording, Torn, ReadFault, WriteFault, DiskFault, OutOfMemory, TooLong, Differs}
use Rattle.count_command.specs.declared.course.Course.{Course}
use Rattle.count_command.specs.held_samples.Pace.{window_of}
use Rattle.count_command.specs.Answer.{RunAnswers, MayAnswerOver, IsEnding, IsRunning, IsCounting, IsComplete}
use Rattle.count_command.specs.Asked.{CountAsks}
use Rattle.count_command.specs.Opened.{OpenedRuns}
use Rattle.count_command.specs.Stored.{StoredRuns, ConfiguredRuns}
use Rattle.count_command.proofs.Appending.{truly_quiet}
use Rattle.count_command.proofs.Asking.{opening_asks, ending_asks}
use Rattle.count_command.proofs.AtEnd.{run_answers}
use Rattle.count_command.proofs.Early.{IsEarly, by_opening, opening_early, held_early, cut_early, prints_early, where_early, not_write_early}
use Rattle.count_command.proofs.Pacing.{paced_quiet}
use Rattle.count_command.proofs.SeenOn.{paced_by}
use Rattle.count_command.proofs.WithoutMemory.{or_still}
use Rattle.count_command.proofs.on_held_samples.Going.{going_starts, stored_beginning, safe_quiet}
use Rattle.count_command.proofs.on_held_samples.Pace.{paced_starts}

running : (s : Status) → IsOpening s → IsRunning s
running = by_opening IsRunning (λ g f. tt) tt

pub running_counts : (s : Status) → IsRunning s → IsCounting s
running_counts Done is = tt
running_counts WriteFault is = tt
running_counts (Torn g bytes) is = tt
running_counts (TooLong g) is = tt
running_counts ReadFault is = tt
running_counts DiskFault is = tt
running_counts OutOfMemory is = tt
running_counts (Recording g f) is = tt
running_counts (BadStore f) is = tt
running_counts Usage is = absurd is
running_counts (BadConfig f) is = absurd is
running_counts (Differs g w x y) is = absurd is

-- of lanes that were not read no read failed
pub new_faulty : {C : Type 0} (faults : C → ℕ) (lanes : List (Lane C)) → All IsNew lanes → All (IsFaulty faults) lanes
new_faulty faults lanes new g d lt src has is = absurd (other (sym (new g d lt) ∙ is))
  where
    other : end.More ≡ end.ReadFault → ⊥
    other same = cc

-- a read fault raised the site's count, if not before the sources went back, then by it
pub rose_by : {A : Type 0} (a b d : ℕ) → (A → CountRose a b) → ((CountRose b d → ⊥) → A) → a ≤ b → b ≤ d → CountRose a d
rose_by {A} a b d before back le later = elim (cases_lt d (min (a + 1) (2 ^ 64 - 1))) [
  | inr rose ↦ rose
  | inl low ↦ let none : CountRose b d → ⊥ = λ rose. omega (arith, rose, low, le) in omega (arith, before (back none), later)
]

refused_runs : (c : Config) (heads : List Head) (n : ℕ → ℕ) (files : Files) (s : Status) → IsOpening s →
    OpenAnswers c heads n files (Err s) → RunAnswers c heads n files s
refused_runs c heads n files =
    by_opening (λ (s : Status). OpenAnswers c heads n files (Err s) → RunAnswers c heads n files s) (λ g f a. a) (λ a. tt)

not_disk : (s : Status) → IsOpening s → s ≢ DiskFault
not_disk = by_opening (λ s. s ≢ DiskFault) (λ g f is. absurd cc) (λ is. absurd cc)

ending_runs : (s : Status) → IsEnding s → IsRunning s
ending_runs Done is = tt
ending_runs WriteFault is = tt
ending_runs (Torn g bytes) is = tt
ending_runs (TooLong g) is = tt
ending_runs ReadFault is = tt
ending_runs DiskFault is = tt
ending_runs OutOfMemory is = tt
ending_runs Usage is = absurd is
ending_runs (BadConfig f) is = absurd is
ending_runs (BadStore f) is = absurd is
ending_runs (Recording g f) is = absurd is
ending_runs (Differs g w x y) is = absurd is

module _ {S Src K O : Type 0} (course : Course) (t : site.Ghosts S Src) (v : station.Ghosts K) (p : sink.Ghosts O) (c : Config)
    (s s2 : S) where
  pub stored_refused : (store : StoreValue) (lanes : List (Lane Src)) (k : K) (o : O) (answer : Status)
      → (v.tells → (lines : Lines) (image : Image) → v.moments k (v.clock k) lines image → (lines ≡ v.told k) × v.leaves k image)
      → IsOpening answer
      → (t.tells → OpenAnswers c store.head.heads (slice_index (ends_of store.held)) (t.files s) (Err answer))
      → OpeningAsks (Err answer) (t.names_asked s) (t.names_asked s2) (file_names c)
      → (answer ≡ ReadFault → CountRose (t.faults s) (t.faults s2))
      → StoredRuns course t v p c store store lanes s s2 k k o o answer
  stored_refused store lanes k o answer only opening answers asks cause =
      let r = recordings c (t.files s) in
      let early = opening_early answer opening in
      let still : v.tells → StaysQuiet v k k = λ tells.
      quiet_starts (v.clock k) (v.moments k) (v.told k) (v.seen k) (v.leaves k) (only tells) in
      record {
        going = λ tells shows stored. going_starts r _ _ _ _ _ _ stored (only tells);
        appends = λ tells files front on.
            going_starts (recordings c files) _ _ _ _ _ _ (stored_beginning store front _ _ on) (only tells);
        paced = λ tells front on.
            paced_by course answer c (ends_of store.held) (paced_starts (name_of c) (window_of c) store front _ _ _ _ _ _ on (only tells));
        ended = λ tells shows stored. held_early r (v.leaves k) answer early;
        cut = λ tells shows stored none. cut_early r (v.leaves k) answer early;
        memory = λ tells shows stored none. or_still (still tells) _ answer course;
        acknowledged = λ tells shows. where_early _ _ answer early;
        prints = λ writes tells shows stored. prints_early c r.samples (p.written o) (p.written o) refl answer early;
        nothing = λ writes other. refl;
        answer_is = λ shows. refused_runs c store.head.heads _ (t.files s) answer opening (answers shows);
        kind = running answer opening;
        quiet = λ tells leaves. still tells;
        opens = λ tells shows. inl (still tells);
        read = λ is none. cause is;
        write = λ is. absurd (not_write_early answer early is);
        disk = λ is. absurd (not_disk answer opening is);
        asked = opening_asks (t.names_asked s) (t.names_asked s2) (file_names c) answer opening asks;
      }

  pub stored_opened : (u : source.Ghosts Src) (store store2 : StoreValue) (lanes lanes2 : List (Lane Src)) (k k2 : K) (o o2 : O)
      (answer : Status) → OpenedRuns course u v p c store store2 lanes lanes2 k k2 o o2 answer → (t.tells → u.tells)
      → (t.tells → AreLanes u.tells u.left (recordings c (t.files s)) lanes)
      → (t.tells → AllOpened c store.head.heads (slice_index (ends_of store.held)) (t.files s) (length c.gauges))
      → Asks (t.names_asked s) (t.names_asked s2) (file_names c)
      → StoredRuns course t v p c store store2 lanes2 s s2 k k2 o o2 answer
  stored_opened u store store2 lanes lanes2 k k2 o o2 answer run sources are opened asks =
      let files = t.files s in
      record {
        going = λ tells shows stored. run.going tells (sources shows) files (are shows) stored;
        appends = run.appends;
        paced = run.paced;
        ended = λ tells shows stored. run.ended tells (sources shows) files (are shows) stored;
        cut = λ tells shows stored none. run.cut tells (sources shows) files (are shows) stored none;
        memory = λ tells shows stored none. run.memory tells (sources shows) files (are shows) stored none;
        acknowledged = λ tells shows. run.acknowledged tells (sources shows) files (are shows);
        prints = λ writes tells shows stored. run.prints writes tells (sources shows) files (are shows) stored;
        nothing = run.nothing;
        answer_is = λ shows. run_answers c store.head.heads (slice_index (ends_of store.held)) files (opened shows) answer run.kind
            (run.answer_is (sources shows) files (are shows));
        kind = ending_runs answer run.kind;
        quiet = run.quiet;
        opens = λ tells shows. inr (opened shows);
        read = λ is none. absurd (run.read is none);
        write = run.write;
        disk = run.disk;
        asked = ending_asks (t.names_asked s) (t.names_asked s2) (file_names c) answer run.kind asks;
      }

  pub configured_early : (k k2 : K) (o : O) (answer : Status) → IsEarly answer → (v.tells → StaysQuiet v k k2)
      → (v.tells → t.tells → MayAnswerOver c (v.seen k) (t.files s) answer) → IsCounting answer
      → (v.tells → (n : List ℕ) → Holds c.setup (recordings c (t.files s)).samples n (v.seen k) → IsComplete answer) → answer ≢ ReadFault
      → (answer ≡ DiskFault → CountRose (v.faults k) (v.faults k2)) → v.faults k ≤ v.faults k2
      → CountAsks answer (t.names_asked s) (t.names_asked s2) (file_names c) → t.faults s2 ≡ t.faults s
      → ConfiguredRuns course t v p c s s2 k k2 o o answer
  configured_early k k2 o answer early still answers kind complete no_read disk later asks none =
      let r = recordings c (t.files s) in
      record {
        safe = λ tells shows a holds. safe_quiet r a _ _ _ _ _ _ _ _ _ _ holds (still tells);
        appends = λ tells files first front ends reads. truly_quiet (recordings c files) first front _ _ (still tells);
        paced = λ tells first front ends reads. paced_quiet course answer c first front ends _ _ (still tells);
        ended = λ tells shows a holds. held_early r (v.leaves k2) answer early;
        cut = λ tells shows a holds none. cut_early r (v.leaves k2) answer early;
        memory = λ tells shows a holds none. or_still (still tells) _ answer course;
        acknowledged = λ tells shows n h. where_early _ _ answer early;
        prints = λ writes tells shows a holds. prints_early c r.samples (p.written o) (p.written o) refl answer early;
        nothing = λ writes other. refl;
        answer_is = answers;
        complete = λ tells shows n h fit sound. complete tells n h;
        kind = kind;
        refused = λ gauge fault is. none;
        quiet = λ tells leaves. still tells;
        opens = λ tells shows. inl (still tells);
        read = λ is. absurd (no_read is);
        write = λ is. absurd (not_write_early answer early is);
        disk = disk;
        later = later;
        asked = asks;
      }
