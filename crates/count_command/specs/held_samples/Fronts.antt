-- The fronts of a board, and what is held after their puts.
--   IsHeldTo                           one gauge is held up to there, and the others as before
--   IsNextFront                        a front begins where its gauge's held segment ends, and is as long as a round at
--                                      most
--   StandsInRecording                  a segment stands for the samples of a recording that its name names
--   AreFronts, FrontsEnd               whichever segments a board gives as fronts
--   FrontsFollow                       those that are not empty may follow on what a store keeps
--   FrontsStand                        those that are not empty stand for the recordings
use Rattle.std.specs.Prelude.{◌≡◌, ◌≢◌, ◌<◌, ◌≤◌, ◌+◌, ◌*◌, ℕ, List, slice_index}
use Rattle.calibration.specs.declared.setup.Setup.{Setup}
use Rattle.segment.specs.Segment.{SegmentValue}
use Rattle.board.specs.declared.flow.TheConstants.{BLOCKS_PER_WINDOW}
use Rattle.board.specs.Board.{BoardValue, IsFront}
use Rattle.site_config.specs.recorded.Recorded.{Recorded}
use Rattle.count_command.specs.held_samples.Kept.{Kept, recorded, MayFollow}

pub record IsHeldTo (ends : List ℕ) (gauge to : ℕ) (now : List ℕ) : Type 0 where
  pub here : slice_index now gauge ≡ to
  pub others : (g : ℕ) → g ≢ gauge → slice_index now g ≡ slice_index ends g

pub record IsNextFront (setup : Setup) (ends : List ℕ) (block g : ℕ) (front : SegmentValue) : Type 0 where
  pub gauge : front.gauge ≡ g
  pub grid : front.grid ≡ setup.grid
  pub next : front.from ≡ slice_index ends g
  pub ascends : front.from ≤ front.to
  pub short : front.to ≤ front.from + BLOCKS_PER_WINDOW * block

abbrev pub AreFronts : Setup → List ℕ → BoardValue → ℕ → Type 0
AreFronts setup ends board gauges =
    (g : ℕ) (front : SegmentValue) → g < gauges → IsFront board g front → IsNextFront setup ends board.block g front

abbrev pub FrontsEnd : (ℕ → ℕ) → BoardValue → ℕ → Type 0
FrontsEnd to board gauges = (g : ℕ) (front : SegmentValue) → g < gauges → IsFront board g front → front.to ≡ to g

abbrev pub StandsInRecording : Recorded → SegmentValue → Type 0
StandsInRecording r s = MayFollow (recorded r) s

-- those that are not empty may
abbrev pub FrontsFollow : Kept → ℕ → BoardValue → Type 0
FrontsFollow kept gauges board =
    (g : ℕ) (front : SegmentValue) → g < gauges → IsFront board g front → front.from < front.to → MayFollow kept front

abbrev pub FrontsStand : Recorded → BoardValue → Type 0
FrontsStand r board = FrontsFollow (recorded r) r.gauges board
