-- What a window holds of a gauge, in the words of the texts.
--   inside_bodies   the bodies of a gauge that lie inside
--   IsCounted       a segment is named by their window, stands for its samples where they stand for theirs, and has
--                   what they keep
--   AreCounted      so it is of every gauge, by the periods of the recordings
--   WalksOver       what counting is refused for, and what it leaves
use Rattle.std.specs.Prelude.{◌≡◌, ◌<◌, ◌≤◌, ◌-◌, ℕ, ℤ, List, length, map, slice_index, slice_index_or, take, drop, sum_by, Result, Err, IfErr}
use Rattle.outside.specs.Fault.{CountRose}
use Rattle.outside.specs.declared.station.station.Station as station
use Rattle.recording.specs.declared.head.Head.{Head}
use Rattle.calibration.specs.declared.setup.Setup.{Setup}
use Rattle.segment.specs.segment_rules.Parts.{PartsValue}
use Rattle.segment.specs.Segment.{SegmentValue, IsSegment, Stands}
use Rattle.segment.specs.Figures.{halves_of}
use Rattle.segment_store.specs.Holds.{AllStand, gain_at}
use Rattle.segment_store.specs.Keeps.{bodies_of, kept_halves}
use Rattle.segment_store.specs.Image.{IsStoreOf}
use Rattle.segment_store.specs.Opening.{IsUnharmed}
use Rattle.segment_store.specs.Quiet.{StaysQuiet}
use Rattle.segment_store.specs.declared.fault.ResumeFault.{ResumeFault}
use Rattle.segment_store.specs.declared.fault.ResumeFault.TheVariants.{DiskFault}
use Rattle.status.specs.Refused.{IsRefused}
use Rattle.report_command.specs.windows.Window.{inside_of, window_of}
use Rattle.report_command.specs.window_counts.Windows.{WindowsValue}
use Rattle.report_command.specs.declared.window_counts.counting.Times.{Times}

abbrev pub inside_bodies : Times → ℕ → ℕ → List PartsValue → List PartsValue
inside_bodies t period g bodies = inside_of t.start period t.from t.to (bodies_of g bodies)

abbrev pub pair_of : ℕ → ℕ → ℕ × ℕ
pair_of a b = (a, b)

pub record IsCounted (setup : Setup) (t : Times) (period : ℕ) (bodies : List PartsValue) (g : ℕ)
    (v : SegmentValue) : Type 0 where
  pub name : window_of (inside_bodies t period g bodies) ≡ pair_of v.from v.to
  pub grid : v.grid ≡ setup.grid
  pub gauge : v.gauge ≡ g
  pub stands : (w : ℕ → List ℤ) → AllStand setup w bodies
      → Stands v (gain_at setup g) (take (v.to - v.from) (drop v.from (w g)))
  pub used : v.used ≡ sum_by (λ b. b.used) (inside_bodies t period g bodies)
  pub missing : v.missing ≡ sum_by (λ b. b.missing) (inside_bodies t period g bodies)
  pub refused : v.refused ≡ sum_by (λ b. b.refused) (inside_bodies t period g bodies)
  pub halves : IsSegment v → (lo hi : ℕ) → halves_of v lo hi ≡ kept_halves (inside_bodies t period g bodies) lo hi

-- of each gauge, in microseconds
abbrev pub period_of : List Head → ℕ → ℕ
period_of heads g = slice_index (map (λ (h : Head). h.period_us) heads) g

-- of every gauge, by the heads of the recordings
abbrev pub AreCounted : Setup → Times → List Head → List PartsValue → List SegmentValue → Type 0
AreCounted setup t heads bodies joined = (g : ℕ) (d : SegmentValue) → g < length joined →
    IsCounted setup t (period_of heads g) bodies g (slice_index_or joined g d)

-- What a walk over the bodies of a store is refused for, and that it writes and tells nothing.
pub record WalksOver {K : Type 0} (v : station.Ghosts K) (setup : Setup) (station station2 : K)
    (result : Result WindowsValue ResumeFault) : Type 0 where
  pub refuses : v.tells → IfErr result (λ fault. IsRefused setup (v.seen station) fault)
  pub unharmed : v.tells → IsStoreOf setup (v.seen station) → IsUnharmed result
  pub quiet : v.tells → StaysQuiet v station station2
  pub cause : result ≡ Err DiskFault → CountRose (v.faults station) (v.faults station2)
  pub later : v.faults station ≤ v.faults station2
