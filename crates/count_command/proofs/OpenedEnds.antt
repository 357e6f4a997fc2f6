-- What rounds over opened lanes have done, by how they end.
--   opened_nothing   memory ran out before the first of them
--   opened_failed    a call of the station failed in one
--   opened_unshown   memory ran out beside the puts of one, and each lane has ended
--   opened_fault     a lane has not ended soundly
--   opened_untold    all have, and a line of what was seen was not told
--   opened_printed   all have, what was seen was told, and the report was printed or was not
--   made_as          what the rounds did, by their answer; held_all: that all is held
use Rattle.std.proofs.Common.{◌≡◌, ◌≢◌, ◌≤◌, ◌<◌, inr, ℕ, ℤ, List, length, refl, ◌∙◌, subst, arith}
use Rattle.std.specs.List.{All}
use Rattle.std.specs.Prelude.{Some, Result, Ok, Err, slice_index}
use Rattle.outside.specs.Fault.{CountRose}
use Rattle.outside.specs.Site.{Files}
use Rattle.outside.specs.station.Station.{Image, Lines, MomentsSince}
use Rattle.outside.specs.declared.source.Source as source
use Rattle.outside.specs.declared.sink.Sink as sink
use Rattle.outside.specs.declared.station.station.Station as station
use Rattle.outside.proofs.on_station.Moments.{started}
use Rattle.recording.specs.declared.lane_ends.end.End.{End}
use Rattle.count_workers.specs.declared.lane_loans.lane.Lane.{Lane}
use Rattle.count_workers.proofs.on_lane_loans.Walking.{some_of}
use Rattle.segment.specs.segment_rules.Parts.{PartsValue}
use Rattle.store_bytes.specs.store_head.Head.{HeadValue}
use Rattle.segment_store.specs.Held.{ends_of}
use Rattle.segment_store.specs.Moments.{StoreValue, InNoWrite}
use Rattle.segment_store.specs.Quiet.{StaysQuiet}
use Rattle.site_config.specs.declared.config.Config.{Config}
use Rattle.site_config.specs.Valid.{name_of}
use Rattle.site_config.specs.recorded.Recorded.{Recorded, recordings}
use Rattle.site_lanes.specs.Ending.{lane_fault, FirstFault, NoFaultBelow}
use Rattle.site_lanes.specs.Lanes.{AreLanes, AreHeldTo, HasSource, IsFaulty, HasNotFailed}
use Rattle.status.specs.declared.status.Status.{Status}
use Rattle.status.specs.declared.status.Status.TheVariants.{Done, Torn, ReadFault, WriteFault, DiskFault, OutOfMemory}
use Rattle.status.specs.Printing.{IsPrinting}
use Rattle.status.proofs.AnswerCases.{by_printing}
use Rattle.count_command.specs.declared.course.Course.{Course}
use Rattle.count_command.specs.declared.course.Course.TheVariants.{Count, Watch}
use Rattle.count_command.specs.held_samples.Kept.{Kept, recorded, beginning}
use Rattle.count_command.specs.held_samples.Going.{HoldsSince, IsStored, IsStoredAs}
use Rattle.count_command.specs.held_samples.Pace.{Paced, window_of}
use Rattle.count_command.specs.held_samples.Told.{Acknowledges}
use Rattle.count_command.specs.held_rounds.Made.{RoundsMade}
use Rattle.count_command.specs.watching.Seen.{TellsSeen, IsSeenLine, TellsOnlySeen}
use Rattle.count_command.specs.Acknowledging.{AreShort, WhereCounted, TellsAll}
use Rattle.count_command.specs.Answer.{IsEnding}
use Rattle.count_command.specs.Holding.{HeldAt, LeavesStore, QuietOr}
use Rattle.count_command.specs.Opened.{OpenedRuns}
use Rattle.count_command.specs.Pacing.{MayTellSeen, PacedBy}
use Rattle.count_command.specs.Printed.{AllStandFor, Prints}
use Rattle.count_command.proofs.on_held_samples.Going.{going_starts, stored_beginning, stored_still, rose_since}
use Rattle.count_command.proofs.on_held_samples.Pace.{paced_starts, paced_where}
use Rattle.count_command.proofs.on_watching.OnlySeen.{going_seen}
use Rattle.count_command.proofs.SeenOn.{paced_by, seen_paced}
use Rattle.count_command.proofs.WithoutMemory.{or_still}
use Rattle.count_command.proofs.AtEnd.{by_fault, ending, cut_printing, not_write, not_disk, read_lane, same_nothing, end_fault, end_printing, held_fault, held_limited, held_printing, all_held, are_whole, whole_cut, acknowledges, acknowledges_cut, told_starts, stand_for, fault_stored, printing_stored}

-- where no memory ran out
no_memory_fault : (course : Course) (P Q : Type 0) (g : ℕ) (e : End) (s : Status) → lane_fault g e ≡ Some s → QuietOr s course P Q
no_memory_fault course P Q g = by_fault (λ (s : Status). QuietOr s course P Q) g (λ b. tt) tt tt

no_memory_printed : (course : Course) (P Q : Type 0) (s : Status) → IsPrinting s → QuietOr s course P Q
no_memory_printed course P Q = by_printing (λ (s : Status). QuietOr s course P Q) tt tt

disk_stored : (course : Course) → LeavesStore course DiskFault → ⊥
disk_stored Count leaves = leaves
disk_stored Watch leaves = leaves

tells_torn : (course : Course) (g b block : ℕ) (r : Recorded) (n : List ℕ) (told told2 : Lines) → Acknowledges block r n told told2 →
    TellsAll course (Torn g b) block r n told told2
tells_torn Count g b block r n told told2 a = a
tells_torn Watch g b block r n told told2 a = a

-- what is told and done behind the rounds
abbrev pub GoesOn : {K : Type 0} → Course → station.Ghosts K → Config → List ℕ → List ℕ → K → K → Type 0
GoesOn Count v c starts held old new = old ≡ new
GoesOn Watch v c starts held old new = TellsOnlySeen v (IsSeenLine c starts held) old new

abbrev pub TellsBy : Course → ℕ → Recorded → List ℕ → Lines → Lines → Type 0
TellsBy Count block r n told told2 = told ≡ told2
TellsBy Watch block r n told told2 = TellsSeen block r n told told2

going_on : {K : Type 0} (course : Course) (v : station.Ghosts K) (c : Config) (starts held : List ℕ) (kept : Kept) (r : Recorded)
    (a m : List ℕ) (start : ℕ) (past : MomentsSince) (told : Lines) (old new : K) → GoesOn course v c starts held old new →
    HoldsSince kept r a start past told (v.clock old) (v.moments old) (v.told old) (v.leaves old) m →
    HoldsSince kept r a start past told (v.clock new) (v.moments new) (v.told new) (v.leaves new) m
going_on {K} Count v c starts held kept r a m start past told old new same so_far =
    subst (λ (x : K). HoldsSince kept r a start past told (v.clock x) (v.moments x) (v.told x) (v.leaves x) m) same so_far
going_on Watch v c starts held kept r a m start past told old new on so_far = going_seen v on so_far

paced_on : {K : Type 0} (course : Course) (v : station.Ghosts K) (c : Config) (answer : Status) → MayTellSeen answer Watch →
    (head : HeadValue) (front : List PartsValue) (starts : List ℕ) (start : ℕ) (past : MomentsSince) (told : Lines) (old new : K)
    (s : StoreValue) → GoesOn course v c starts (ends_of s.held) old new →
    Paced (name_of c) (window_of c) head front start past told (v.clock old) (v.moments old) (v.told old) (v.seen old) (v.leaves old) s
    (Unit {0}) → PacedBy course answer c head front starts start past told (v.clock new) (v.moments new) (v.told new) (v.leaves new)
paced_on {K} Count v c answer may head front starts start past told old new s same so_far =
    subst (λ (x : K). PacedBy Count answer c head front starts start past told (v.clock x) (v.moments x) (v.told x) (v.leaves x)) same
    (paced_by Count answer c starts (paced_where (λ e. tt) so_far))
paced_on Watch v c answer may head front starts start past told old new s on so_far = seen_paced v answer may c starts s on so_far

may_tell : (s : Status) → IsPrinting s → MayTellSeen s Watch
may_tell = by_printing (λ (s : Status). MayTellSeen s Watch) tt tt

stored_on : {K : Type 0} (course : Course) (v : station.Ghosts K) (c : Config) (starts held : List ℕ) (kept : Kept) (s : StoreValue)
    (old new : K) → GoesOn course v c starts held old new →
    IsStoredAs kept s (v.seen old) (v.leaves old) → IsStoredAs kept s (v.seen new) (v.leaves new)
stored_on {K} Count v c starts held kept s old new same stored =
    subst (λ (x : K). IsStoredAs kept s (v.seen x) (v.leaves x)) same stored
stored_on Watch v c starts held kept s old new on stored = stored_still kept s _ _ _ _ stored on.seen_same on.none_new

-- with `Done`, and with `WriteFault`
tells_done : (course : Course) (block : ℕ) (r : Recorded) (n : List ℕ) (told told2 told3 : Lines) → Acknowledges block r n told told2 →
    TellsBy course block r n told2 told3 → TellsAll course Done block r n told told3
tells_done Count block r n told told2 told3 a same = subst (Acknowledges block r n told) same a
tells_done Watch block r n told told2 told3 a seen = record { between = told2; held = a; seen = seen }

tells_unwritten : (course : Course) (block : ℕ) (r : Recorded) (n : List ℕ) (told told2 : Lines) →
    TellsAll course Done block r n told told2 → TellsAll course WriteFault block r n told told2
tells_unwritten Count block r n told told2 a = a
tells_unwritten Watch block r n told told2 a = a

not_read : (s : Status) → IsPrinting s → s ≢ ReadFault
not_read = by_printing (λ (s : Status). s ≢ ReadFault) (λ is. absurd cc) (λ is. absurd cc)

not_disk_printed : (s : Status) → IsPrinting s → s ≢ DiskFault
not_disk_printed = by_printing (λ (s : Status). s ≢ DiskFault) (λ is. absurd cc) (λ is. absurd cc)

-- what the rounds did, where their answer is this one
pub made_as : {C K E : Type 0} {t : source.Ghosts C} {v : station.Ghosts K} {c : Config} {old new : StoreValue}
    {lanes lanes2 : List (Lane C)} {station station2 : K} {r q : Result (Unit {0}) E} → r ≡ q
    → RoundsMade t v c old new lanes lanes2 station station2 r → RoundsMade t v c old new lanes lanes2 station station2 q
made_as {E = E} {t = t} {v = v} {c = c} {old = old} {new = new} {lanes = lanes} {lanes2 = lanes2} {station = station}
    {station2 = station2} is made =
    subst (λ (x : Result (Unit {0}) E). RoundsMade t v c old new lanes lanes2 station station2 x) is made

-- over a store, lanes and a station at entry
module _ {C K O : Type 0} (t : source.Ghosts C) (v : station.Ghosts K) (p : sink.Ghosts O) (c : Config)
    (store : StoreValue) (lanes : List (Lane C)) (station : K) (out : O) where
  pub opened_nothing : (course : Course) → (v.tells → (lines : Lines) (f : Image) → v.moments station (v.clock station) lines f →
      (lines ≡ v.told station) × v.leaves station f) → All HasSource lanes → All (IsFaulty t.faults) lanes →
      OpenedRuns course t v p c store store lanes lanes station station out out OutOfMemory
  opened_nothing course only sources faulty =
      let still : v.tells → StaysQuiet v station station = λ tells. record {
        run = started _ _ (InNoWrite (v.told station) (v.leaves station)) (only tells);
        told_same = refl;
        seen_same = refl;
        none_new = λ f has. has;
      } in
      record {
        going = λ tells reads files are stored. going_starts (recordings c files) _ _ _ _ _ _ stored (only tells);
        appends = λ tells files front on.
            going_starts (recordings c files) _ _ _ _ _ _ (stored_beginning store front _ _ on) (only tells);
        paced = λ tells front on.
            paced_by course OutOfMemory c (ends_of store.held)
            (paced_starts (name_of c) (window_of c) store front _ _ _ _ _ _ on (only tells));
        ended = λ tells reads files are stored. tt;
        cut = λ tells reads files are stored none. tt;
        memory = λ tells reads files are stored none. or_still (still tells) _ OutOfMemory course;
        acknowledged = λ tells reads files are. tt;
        prints = λ shows tells reads files are stored. refl;
        nothing = λ shows other. refl;
        answer_is = λ reads files are. tt;
        kind = tt;
        quiet = λ tells leaves. still tells;
        read = λ is. absurd cc;
        write = λ is. absurd cc;
        disk = λ is. absurd cc;
        later = omega arith;
        sources = sources;
        faulty = faulty;
        count = refl;
      }

  module _ (store2 : StoreValue) (lanes2 : List (Lane C)) (station2 : K) where
    pub opened_failed : (course : Course) {E : Type 0} (e : E) → RoundsMade t v c store store2 lanes lanes2 station station2 (Err e) →
        OpenedRuns course t v p c store store2 lanes lanes2 station station2 out out DiskFault
    opened_failed course e made = record {
      going = made.going;
      appends = made.appends;
      paced = λ tells front on.
          paced_by course DiskFault c (ends_of store.held) (paced_where (λ other. absurd (other refl)) (made.paced tells front on));
      ended = λ tells reads files are stored. tt;
      cut = λ tells reads files are stored none. tt;
      memory = λ tells reads files are stored none. tt;
      acknowledged = λ tells reads files are. tt;
      prints = λ shows tells reads files are stored. refl;
      nothing = λ shows other. refl;
      answer_is = λ reads files are. tt;
      kind = tt;
      quiet = λ tells leaves. absurd (disk_stored course leaves);
      read = λ is. absurd cc;
      write = λ is. absurd cc;
      disk = λ is. made.cause.failed;
      later = made.cause.later;
      sources = made.sources;
      faulty = made.faulty;
      count = made.gauges.1;
    }

    -- the rounds ended with the lanes
    module _ {E : Type 0} (u : Unit {0}) (made : RoundsMade {E = E} t v c store store2 lanes lanes2 station station2 (Ok u))
        (held : AreHeldTo (ends_of store.held) lanes) (many : length lanes ≡ length c.gauges) where
      many2 : length lanes2 ≡ length c.gauges
      many2 = made.gauges.1 ∙ many

      abbrev ends2 : List ℕ
      ends2 = ends_of store2.held

      pub opened_fault : (course : Course) (s : Status) → FirstFault lanes2 (Some s) →
          OpenedRuns course t v p c store store2 lanes lanes2 station station2 out out s
      opened_fault course s f =
          let d = some_of lanes2 (omega (arith, f.1)) in
          let is = f.2 d in
          record {
            going = made.going;
            appends = made.appends;
            paced = λ tells front on. paced_by course s c (ends_of store.held) (paced_where (λ other. refl) (made.paced tells front on));
            ended = λ tells reads files are stored.
                by_fault (λ (x : Status). HeldAt x (recordings c files) (v.leaves station2)) f.0 (λ b. tt) tt tt _ s is;
            cut = λ tells reads files are stored none.
                held_fault c files lanes2 reads (made.read reads files are) ends2 made.held made.ended many2 store2 _ _
                (made.stored tells reads files are stored) refl none s f.0 _ is;
            memory = λ tells reads files are stored none. no_memory_fault course _ _ f.0 _ s is;
            acknowledged = λ tells reads files are.
                let r = recordings c files in
                let here = made.read reads files are in
                let n = ends_of store.held in
                let told = v.told station in
                by_fault (λ (x : Status). WhereCounted x (All HasNotFailed lanes2 × AreShort r)
                (TellsAll course x c.block r n told (v.told station2))) f.0
                (λ b unharmed. tells_torn course f.0 b c.block r n told (v.told station2)
                (acknowledges_cut c files lanes2 reads here ends2 made.held made.ended many2 unharmed.0 unharmed.1
                (made.lines tells reads files are n told (told_starts c.block r n told lanes reads are held)
                (whole_cut c files lanes2 reads here ends2 made.held made.ended many2 unharmed.0 unharmed.1)))) tt tt _ s is;
            prints = λ shows tells reads files are stored. same_nothing s c (recordings c files).samples _ f.0 _ is;
            nothing = λ shows other. refl;
            answer_is = λ reads files are.
                end_fault c files lanes2 reads (made.read reads files are) ends2 made.held made.ended many2 s f.0 f.1 f.2 f.3;
            kind = by_fault IsEnding f.0 (λ b. tt) tt tt _ s is;
            quiet = λ tells leaves. absurd (fault_stored course f.0 _ s is leaves);
            read = λ read none. none f.0 d f.1 (read_lane f.0 _ s is read);
            write = λ same. absurd (not_write f.0 _ s is same);
            disk = λ same. absurd (not_disk f.0 _ s is same);
            later = made.cause.later;
            sources = made.sources;
            faulty = made.faulty;
            count = made.gauges.1;
          }

      -- what is told of the rounds where each lane has ended soundly
      told_all : v.tells → t.tells → (files : Files) → AreLanes t.tells t.left (recordings c files) lanes →
          NoFaultBelow lanes2 (length lanes2) →
          Acknowledges c.block (recordings c files) (ends_of store.held) (v.told station) (v.told station2)
      told_all tells reads files are none =
          let r = recordings c files in
          let here = made.read reads files are in
          let n = ends_of store.held in
          let told = v.told station in
          acknowledges c files lanes2 reads here ends2 made.held made.ended many2 none
          (made.lines tells reads files are n told (told_starts c.block r n told lanes reads are held)
          (are_whole c files lanes2 reads here ends2 made.held made.ended many2 none))

      -- what is held then
      pub held_all : t.tells → (files : Files) → AreLanes t.tells t.left (recordings c files) lanes →
          NoFaultBelow lanes2 (length lanes2) → (g : ℕ) → g < length c.gauges →
          slice_index (ends_of store2.held) g ≡ length ((recordings c files).samples g)
      held_all reads files are none =
          all_held c files lanes2 reads (made.read reads files are) ends2 made.held made.ended many2 none

      stand_all : v.tells → t.tells → length store2.held ≡ length c.gauges → (files : Files) →
          AreLanes t.tells t.left (recordings c files) lanes → IsStored (recordings c files) store (v.seen station) (v.leaves station) →
          NoFaultBelow lanes2 (length lanes2) → AllStandFor c.setup (recordings c files).samples store2.held
      stand_all tells reads gauges files are stored none =
          stand_for (recordings c files) store2 _ _ (made.stored tells reads files are stored)
          (λ k lt. held_all reads files are none k (omega (arith, lt, gauges)))

      -- what stands behind the rounds ends at this station
      module _ (course : Course) (station3 : K) (on : v.tells → GoesOn course v c (ends_of store.held) ends2 station2 station3)
          (later : v.faults station2 ≤ v.faults station3) where
        pub opened_untold : CountRose (v.faults station2) (v.faults station3) →
            OpenedRuns course t v p c store store2 lanes lanes2 station station3 out out DiskFault
        opened_untold rose = record {
          going = λ tells reads files are stored.
              going_on course v _ _ _ (recorded (recordings c files)) (recordings c files) (ends_of store.held) ends2 _ _ _ station2
              station3 (on tells) (made.going tells reads files are stored);
          appends = λ tells files front is.
              going_on course v _ _ _ (beginning store.head front) (recordings c files) (ends_of store.held) ends2 _ _ _ station2 station3
              (on tells) (made.appends tells files front is);
          paced = λ tells front is.
              paced_on course v c DiskFault tt store.head front _ _ _ _ station2 station3 store2 (on tells)
              (paced_where (λ d. refl) (made.paced tells front is));
          ended = λ tells reads files are stored. tt;
          cut = λ tells reads files are stored none. tt;
          memory = λ tells reads files are stored none. tt;
          acknowledged = λ tells reads files are. tt;
          prints = λ shows tells reads files are stored. refl;
          nothing = λ shows other. refl;
          answer_is = λ reads files are. tt;
          kind = tt;
          quiet = λ tells leaves. absurd (disk_stored course leaves);
          read = λ is. absurd cc;
          write = λ is. absurd cc;
          disk = λ is. rose_since _ _ _ made.cause.later rose;
          later = omega (arith, made.cause.later, later);
          sources = made.sources;
          faulty = made.faulty;
          count = made.gauges.1;
        }

        pub opened_printed : (none : NoFaultBelow lanes2 (length lanes2)) → length store2.held ≡ length c.gauges →
            (v.tells → t.tells → (files : Files) → AreLanes t.tells t.left (recordings c files) lanes →
            TellsBy course c.block (recordings c files) (ends_of store.held) (v.told station2) (v.told station3)) →
            (out2 : O) (s : Status) → IsPrinting s →
            (p.tells → (w : ℕ → List ℤ) → AllStandFor c.setup w store2.held → Prints s c w (p.written out) (p.written out2)) →
            (s ≡ WriteFault → CountRose (p.faults out) (p.faults out2)) →
            OpenedRuns course t v p c store store2 lanes lanes2 station station3 out out2 s
        opened_printed none gauges seen out2 s kind prints write = record {
          going = λ tells reads files are stored.
              going_on course v _ _ _ (recorded (recordings c files)) (recordings c files) (ends_of store.held) ends2 _ _ _ station2
              station3 (on tells) (made.going tells reads files are stored);
          appends = λ tells files front is.
              going_on course v _ _ _ (beginning store.head front) (recordings c files) (ends_of store.held) ends2 _ _ _ station2 station3
              (on tells) (made.appends tells files front is);
          paced = λ tells front is.
              paced_on course v c s (may_tell s kind) store.head front _ _ _ _ station2 station3 store2 (on tells)
              (paced_where (λ d. refl) (made.paced tells front is));
          ended = λ tells reads files are stored.
              held_printing c files lanes2 reads (made.read reads files are) ends2 made.held made.ended many2 store2 _ _
              (stored_on course v _ _ _ (recorded (recordings c files)) store2 station2 station3 (on tells)
              (made.stored tells reads files are stored)) refl none s kind;
          cut = λ tells reads files are stored unharmed. cut_printing (recordings c files) _ s kind;
          memory = λ tells reads files are stored none. no_memory_printed course _ _ s kind;
          acknowledged = λ tells reads files are.
              let r = recordings c files in
              let n = ends_of store.held in
              let told = v.told station in
              let all = tells_done course c.block r n told (v.told station2) (v.told station3) (told_all tells reads files are none)
              (seen tells reads files are) in
              by_printing (λ (x : Status). WhereCounted x (All HasNotFailed lanes2 × AreShort r)
              (TellsAll course x c.block r n told (v.told station3))) all
              (tells_unwritten course c.block r n told (v.told station3) all) s kind;
          prints = λ shows tells reads files are stored.
              prints shows (recordings c files).samples (stand_all tells reads gauges files are stored none);
          nothing = λ shows other. absurd (other kind);
          answer_is = λ reads files are.
              end_printing c files lanes2 reads (made.read reads files are) ends2 made.held made.ended many2 none s kind;
          kind = ending s kind;
          quiet = λ tells leaves. absurd (printing_stored course s kind leaves);
          read = λ is. absurd (not_read s kind is);
          write = write;
          disk = λ is. absurd (not_disk_printed s kind is);
          later = omega (arith, made.cause.later, later);
          sources = made.sources;
          faulty = made.faulty;
          count = made.gauges.1;
        }

      -- a show was refused
      pub opened_unshown : OpenedRuns Watch t v p c store store2 lanes lanes2 station station2 out out OutOfMemory
      opened_unshown = record {
        going = made.going;
        appends = made.appends;
        paced = λ tells front on.
            paced_by Watch OutOfMemory c (ends_of store.held) (paced_where (λ other. refl) (made.paced tells front on));
        ended = λ tells reads files are stored. tt;
        cut = λ tells reads files are stored none. tt;
        memory = λ tells reads files are stored none.
            inr (held_limited c files lanes2 reads (made.read reads files are) ends2 made.held made.ended many2 store2 _ _
            (made.stored tells reads files are stored) refl none);
        acknowledged = λ tells reads files are. tt;
        prints = λ shows tells reads files are stored. refl;
        nothing = λ shows other. refl;
        answer_is = λ reads files are. tt;
        kind = tt;
        quiet = λ tells leaves. absurd leaves;
        read = λ is. absurd cc;
        write = λ is. absurd cc;
        disk = λ is. absurd cc;
        later = made.cause.later;
        sources = made.sources;
        faulty = made.faulty;
        count = made.gauges.1;
      }
