-- What was counted so far.
--   IsTotal     a segment stands for the first samples of a gauge
--   CanJoin     any front of the board comes next
--   HasJoined   a front of the board was joined
use Rattle.std.specs.Prelude.{◌≡◌, ◌≤◌, ℕ, ◌+◌, ◌-◌, ◌++◌, List, ℤ, take}
use Rattle.calibration.specs.Gain.{GainValue}
use Rattle.segment.specs.Segment.{SegmentValue, Stands, SameStart}
use Rattle.board.specs.Board.{BoardValue, IsFront}
use Rattle.demo_command.specs.Made.{demo_grid, demo_gain, made_at}

-- the first `at` samples, in a segment that has room for all
pub record IsTotal (seed samples g at : ℕ) (v : SegmentValue) : Type 0 where
  pub grid : v.grid ≡ demo_grid
  pub gauge : v.gauge ≡ g
  pub from : v.from ≡ 0
  pub to : v.to ≡ at
  pub longest : v.longest ≡ samples
  pub stands : Stands v demo_gain (take at (made_at seed samples g))

pub record CanJoin (board : BoardValue) (g : ℕ) (v : SegmentValue) : Type 0 where
  pub grid : v.grid ≡ board.grid
  pub gauge : v.gauge ≡ g
  pub next : (front : SegmentValue) → IsFront board g front → v.to ≡ front.from
  pub room : (front : SegmentValue) → IsFront board g front → (v.to - v.from) + (front.to - front.from) ≤ v.longest

pub record HasJoined (board : BoardValue) (g : ℕ) (v w : SegmentValue) : Type 0 where
  pub front : SegmentValue
  pub is : IsFront board g front
  pub start : SameStart v w
  pub end : w.to ≡ front.to
  pub stands : (gain : GainValue) (a b : List ℤ) → Stands v gain a → Stands front gain b → Stands w gain (a ++ b)
