-- What each answer of `audit` says.
use Rattle.std.proofs.Common.{◌≡◌, ◌≢◌, ◌<◌, ◌⊎◌, inl, inr, ℕ, ℤ, List, length, take, get_or, refl, sym, subst, ◌∙◌}
use Rattle.std.specs.Prelude.{slice_index, Result, Ok, Err}
use Rattle.outside.specs.Site.{Files}
use Rattle.outside.specs.station.Station.{Image}
use Rattle.recording.specs.declared.head.Head.{Head}
use Rattle.calibration.specs.declared.setup.Setup.{Setup}
use Rattle.calibration.specs.History.{history}
use Rattle.turning_points.specs.three_point.Run.{three_point}
use Rattle.segment.specs.segment_rules.Parts.{PartsValue}
use Rattle.segment.specs.Counts.{kinds_of}
use Rattle.segment_store.specs.Keeps.{bodies_of}
use Rattle.segment.specs.Segment.{SegmentValue, IsSegment, Stands}
use Rattle.recount.specs.declared.compare.What.{What}
use Rattle.segment_store.specs.Held.{ends_of}
use Rattle.segment_store.specs.Holds.{AllStand, gain_at, held_of}
use Rattle.segment_store.specs.Image.{Reads, IsStoreOf}
use Rattle.segment_store.specs.Moments.{IsOn, StoreValue}
use Rattle.segment_store.proofs.HeldKeep.{held_keep}
use Rattle.segment_store.proofs.HeldStand.{held_stand}
use Rattle.site_config.specs.declared.config.Config.{Config}
use Rattle.site_config.specs.declared.fault.ConfigFault.{ConfigFault}
use Rattle.site_config.specs.recorded.Recorded.{recordings}
use Rattle.site_lanes.specs.Answers.{AllOpened, OpenAnswers}
use Rattle.site_lanes.proofs.Opened.{not_both}
use Rattle.status.specs.declared.status.RecordingFault.{RecordingFault}
use Rattle.status.specs.declared.status.Status.{Status}
use Rattle.status.specs.declared.status.Status.TheVariants.{Done, Usage, Config as BadConfig, Store as BadStore, Recording, Torn, ReadFault, WriteFault, DiskFault, OutOfMemory, TooLong, Differs}
use Rattle.status.specs.config_reading.Reading.{MeansAs, IsRefusal}
use Rattle.status.specs.Printing.{IsPrinting}
use Rattle.status.proofs.on_config_reading.Refusing.{by_refusal}
use Rattle.audit_command.specs.Recounted.{IsRecounting}
use Rattle.audit_command.specs.Audited.{SegmentChoice, IsItem, HasKept, IsStanding, IsOther, AllSame, FindsDifference}
use Rattle.audit_command.specs.Answers.{HeldAnswers, CountedAnswers, AuditAnswers, IsSound, IsAuditing}
use Rattle.audit_command.specs.Printing.{Prints}
use Rattle.audit_command.proofs.Audits.{differ_clash, finds_by}

-- of an answer of counting again, of comparing, and of auditing
pub by_recounting : (P : Status → Type 0) → ((g : ℕ) (f : RecordingFault) → P (Recording g f)) → P ReadFault → P OutOfMemory
    → (s : Status) → IsRecounting s → P s
by_recounting P f r m (Recording g x) is = f g x
by_recounting P f r m ReadFault is = r
by_recounting P f r m OutOfMemory is = m
by_recounting P f r m Done is = absurd is
by_recounting P f r m Usage is = absurd is
by_recounting P f r m (BadConfig x) is = absurd is
by_recounting P f r m (BadStore x) is = absurd is
by_recounting P f r m (Torn g b) is = absurd is
by_recounting P f r m WriteFault is = absurd is
by_recounting P f r m DiskFault is = absurd is
by_recounting P f r m (TooLong g) is = absurd is
by_recounting P f r m (Differs g w x y) is = absurd is

pub by_other : (P : Status → Type 0) → ((g : ℕ) (what : What) (held found : ℕ) → P (Differs g what held found)) → (s : Status) →
    IsOther s → P s
by_other P d (Differs g w x y) is = d g w x y
by_other P d Done is = absurd is
by_other P d Usage is = absurd is
by_other P d (BadConfig f) is = absurd is
by_other P d (BadStore f) is = absurd is
by_other P d (Recording g f) is = absurd is
by_other P d (Torn g b) is = absurd is
by_other P d ReadFault is = absurd is
by_other P d WriteFault is = absurd is
by_other P d DiskFault is = absurd is
by_other P d OutOfMemory is = absurd is
by_other P d (TooLong g) is = absurd is

pub by_auditing : (P : Status → Type 0) → P Done → P WriteFault → ((s : Status) → IsRecounting s → P s) → ((s : Status) → IsOther s → P s)
    → (s : Status) → IsAuditing s → P s
by_auditing P d w r o Done is = d
by_auditing P d w r o WriteFault is = w
by_auditing P d w r o (Recording g f) is = r (Recording g f) tt
by_auditing P d w r o ReadFault is = r ReadFault tt
by_auditing P d w r o OutOfMemory is = r OutOfMemory tt
by_auditing P d w r o (Differs g v x y) is = o (Differs g v x y) tt
by_auditing P d w r o Usage is = absurd is
by_auditing P d w r o (BadConfig f) is = absurd is
by_auditing P d w r o (BadStore f) is = absurd is
by_auditing P d w r o (Torn g b) is = absurd is
by_auditing P d w r o DiskFault is = absurd is
by_auditing P d w r o (TooLong g) is = absurd is

pub recounting_answers : (c : Config) (heads : List Head) (meant : SegmentChoice) (ends : List ℕ) (files : Files) (s : Status) →
    IsRecounting s
    → OpenAnswers c heads (slice_index ends) files (Err s) → HeldAnswers c heads meant ends files s
recounting_answers c heads meant ends files s is a =
    by_recounting (λ (x : Status). OpenAnswers c heads (slice_index ends) files (Err x) → HeldAnswers c heads meant ends files x)
    (λ g f b. b) (λ b. tt) (λ b. tt) s is a

pub other_answers : (c : Config) (heads : List Head) (meant : SegmentChoice) (ends : List ℕ) (files : Files) (s : Status) → IsOther s
    → CountedAnswers c heads meant ends files s → HeldAnswers c heads meant ends files s
other_answers c heads meant ends files s is a =
    by_other (λ (x : Status). CountedAnswers c heads meant ends files x → HeldAnswers c heads meant ends files x) (λ g w x y b. b) s is a

pub recounting_kind : (s : Status) → IsRecounting s → IsAuditing s
recounting_kind = by_recounting IsAuditing (λ g f. tt) tt tt

pub recounting_unprinted : (s : Status) → IsRecounting s → (c : Config) (old : List ℕ) → Prints s c old old
recounting_unprinted s is c old = by_recounting (λ (x : Status). Prints x c old old) (λ g f. refl) refl refl s is

pub recounting_no_write : (s : Status) → IsRecounting s → s ≢ WriteFault
recounting_no_write = by_recounting (λ s. s ≢ WriteFault) (λ g f e. absurd cc) (λ e. absurd cc) (λ e. absurd cc)

pub other_kind : (s : Status) → IsOther s → IsAuditing s
other_kind = by_other IsAuditing (λ g w x y. tt)

pub other_unprinted : (s : Status) → IsOther s → (c : Config) (old : List ℕ) → Prints s c old old
other_unprinted s is c old = by_other (λ (x : Status). Prints x c old old) (λ g w x y. refl) s is

pub other_no_fault : (s : Status) → IsOther s → (s ≢ ReadFault) × (s ≢ WriteFault)
other_no_fault = by_other (λ s. (s ≢ ReadFault) × (s ≢ WriteFault)) (λ g w x y. ((λ e. absurd cc), (λ e. absurd cc)))

pub auditing_no_disk : (s : Status) → IsAuditing s → s ≢ DiskFault
auditing_no_disk = by_auditing (λ s. s ≢ DiskFault) (λ e. absurd cc) (λ e. absurd cc)
    (by_recounting (λ s. s ≢ DiskFault) (λ g f e. absurd cc) (λ e. absurd cc) (λ e. absurd cc))
    (by_other (λ s. s ≢ DiskFault) (λ g w x y e. absurd cc))

pub finds_of : (c : Config) (heads : List Head) (meant : SegmentChoice) (ends : List ℕ) (files : Files) (s : Status) → IsAuditing s
    → HeldAnswers c heads meant ends files s → FindsDifference c meant (held_of (recordings c files).samples ends) s
finds_of c heads meant ends files s is a =
    let P : Status → Type 0 = λ x. HeldAnswers c heads meant ends files x →
    FindsDifference c meant (held_of (recordings c files).samples ends) x in
    by_auditing P (λ b. b.1) (λ b. b.1) (by_recounting P (λ g f b. tt) (λ b. tt) (λ b. tt)) (by_other P (λ g w x y b. b.1)) s is a

-- over a store that was read, by the setup of the configuration
pub answers_over : (read : Result Config ConfigFault) (c : Config) (image : Image) (files : Files) → read ≡ Ok c →
    (r : IsStoreOf c.setup image) (s : Status) → IsAuditing s → HeldAnswers c r.head.heads (HasKept r.bodies) r.ends files s →
    AuditAnswers read image files s
answers_over read c image files is r s kind a =
    let P : Status → Type 0 = λ x. HeldAnswers c r.head.heads (HasKept r.bodies) r.ends files x → AuditAnswers read image files x in
    by_auditing P (λ b. (c, is, (r, b))) (λ b. (c, is, (r, b))) (by_recounting P (λ g f b. (c, is, (r, b))) (λ b. tt) (λ b. tt))
    (by_other P (λ g w x y b. (c, is, (r, b)))) s kind a

module _ (c : Config) (heads : List Head) (from to : SegmentChoice) (ends : List ℕ) (files : Files)
    (leads : (g : ℕ) (v : SegmentValue) → g < length c.gauges → from g v → to g v) where
  pub answers_by : (s : Status) → IsAuditing s → HeldAnswers c heads from ends files s → HeldAnswers c heads to ends files s
  answers_by s is a =
      let P : Status → Type 0 = λ x. HeldAnswers c heads from ends files x → HeldAnswers c heads to ends files x in
      let found = finds_by c from to (held_of (recordings c files).samples ends) leads in
      by_auditing P (λ b. (b.0, found Done b.1)) (λ b. (b.0, found WriteFault b.1)) (by_recounting P (λ g f b. b) (λ b. tt) (λ b. tt))
      (by_other P (λ g v x y b. (b.0, found (Differs g v x y) b.1))) s is a

-- the held segments, by the bodies of a store that is on its station
module _ (s : StoreValue) (bodies : List PartsValue) (seen : Image) (leaves : Image → Type 0) (on : IsOn s bodies seen leaves) where
  pub items_keep : (g : ℕ) (v : SegmentValue) → g < length s.held → IsItem s.held g v → HasKept bodies g v
  items_keep g v lt is = subst (HasKept bodies g) (sym is.0) (held_keep s bodies seen leaves on g v lt (subst IsSegment is.0 is.1))

  pub items_stand : (c : Config) (w : ℕ → List ℤ) → s.head.setup ≡ c.setup → AllStand c.setup w bodies → (g : ℕ) (v : SegmentValue)
      → g < length s.held → IsItem s.held g v → IsStanding c (held_of w (ends_of s.held)) g v
  items_stand c w same all g v lt is =
      subst (λ (x : Setup). Stands v (gain_at x g) (take (get_or (ends_of s.held) g 0) (w g))) same
      (subst (λ (x : SegmentValue). Stands x (gain_at s.head.setup g) (take (get_or (ends_of s.held) g 0) (w g))) (sym is.0)
      (held_stand s bodies seen leaves on w (subst (λ (x : Setup). AllStand x w bodies) (sym same) all) g v lt))

  abbrev pub read_as : (setup : Setup) (old : Image) → s.head.setup ≡ setup → seen ≡ old → IsStoreOf setup old
  read_as setup old of_setup same = record {
    head = s.head;
    bodies = bodies;
    ends = ends_of s.held;
    of_setup = of_setup;
    reads = subst (Reads s.head bodies (ends_of s.held)) same on.reads;
  }

pub held_complete : (c : Config) (heads : List Head) (bodies : List PartsValue) (ends : List ℕ) (files : Files) (s : Status) → IsAuditing s
    → HeldAnswers c heads (HasKept bodies) ends files s → AllOpened c heads (slice_index ends) files (length c.gauges)
    → AllSame c (HasKept bodies) (held_of (recordings c files).samples ends) (length c.gauges) → s ≢ ReadFault → s ≢ WriteFault
    → (s ≡ Done) ⊎ (s ≡ OutOfMemory)
held_complete c heads bodies ends files s kind a opened same r w =
    let P : Status → Type 0 = λ x. HeldAnswers c heads (HasKept bodies) ends files x → x ≢ ReadFault → x ≢ WriteFault →
    (x ≡ Done) ⊎ (x ≡ OutOfMemory) in
    by_auditing P (λ b r w. inl refl) (λ b r w. absurd (w refl))
    (by_recounting P (λ g f b r w. absurd (not_both c heads (slice_index ends) files g f (opened g b.0) b.2)) (λ b r w. absurd (r refl))
    (λ b r w. inr refl))
    (by_other P (λ g x y z b r w.
    let other = b.1.2 in
    let none = same g b.1.0 in
    absurd (differ_clash other.0 none.0 (bodies_of g bodies) c.setup.grid
    (kinds_of c.setup.grid (gain_at c.setup g) (held_of (recordings c files).samples ends g))
    (three_point (history c.setup.grid (gain_at c.setup g) (held_of (recordings c files).samples ends g)))
    (record { what = x; held = y; found = z }) other.1 none.1 other.2 none.2 other.3 none.3)))
    s kind a r w

pub unread_answer : (config : Result Config ConfigFault) (image : Image) (files : Files) (s : Status) → IsRefusal s → MeansAs config (Err s)
    → AuditAnswers config image files s
unread_answer config image files s is =
    by_refusal (λ (x : Status). MeansAs config (Err x) → AuditAnswers config image files x) (λ f m. m) (λ m. tt) (λ m. tt) s is

-- a sound configuration is refused for a read that failed, or for want of memory
pub unread_complete : (config : Result Config ConfigFault) (image : Image) (files : Files) (s : Status) → IsRefusal s →
    MeansAs config (Err s)
    → IsSound config image files → s ≢ ReadFault → (s ≡ Done) ⊎ (s ≡ OutOfMemory)
unread_complete config image files s is m sound read =
    by_refusal (λ (x : Status). MeansAs config (Err x) → x ≢ ReadFault → (x ≡ Done) ⊎ (x ≡ OutOfMemory))
    (λ f m r. absurd (clash (sym m ∙ sound.1))) (λ m r. absurd (r refl)) (λ m r. inr refl) s is m read
  where
    clash : {f : ConfigFault} {c : Config} → ◌≡◌ {A = Result Config ConfigFault} (Err f) (Ok c) → ⊥
    clash e = absurd cc

pub not_printed : (c : Config) (old new : List ℕ) (s : Status) → IsAuditing s → (IsPrinting s → ⊥) → Prints s c old new → new ≡ old
not_printed c old new =
    let P : Status → Type 0 = λ x. (IsPrinting x → ⊥) → Prints x c old new → new ≡ old in
    by_auditing P (λ no p. absurd (no tt)) (λ no p. absurd (no tt)) (by_recounting P (λ g f no p. p) (λ no p. p) (λ no p. p))
    (by_other P (λ g w x y no p. p))
