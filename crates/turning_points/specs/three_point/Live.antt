-- A run in the middle of its points.
--   HasFallingRanges   from the oldest live point to the newest, each range is less than the one before it
--   IsLive             what live points between two reads are like: below the classes, and their ranges fall
--   IsRunBuffer        how a run keeps them
--   RunState           what is seen of a run: its classes, and its live points with the newest first
--   HasCounted         what was given so far, and what these live points will count with any further points, is the run
--                      of all points
use Rattle.std.specs.Prelude.{◌≡◌, ℕ, ◌+◌, ◌<◌, ◌≤◌, List, [], ◌∷◌, ◌++◌, length, reverse, take, All}
use Rattle.turning_points.specs.Pairs.{range}
use Rattle.turning_points.specs.three_point.Run.{CountedRange, run}

pub data HasFallingRanges : List ℕ → Type 0 where
  no_point : HasFallingRanges []
  one_point : {x : ℕ} → HasFallingRanges (x ∷ [])
  one_range : {y x : ℕ} → HasFallingRanges (y ∷ x ∷ [])
  next_range : {z y x : ℕ} {live : List ℕ} → range y z < range x y → HasFallingRanges (y ∷ x ∷ live) →
      HasFallingRanges (z ∷ y ∷ x ∷ live)

pub record IsLive (classes : ℕ) (live : List ℕ) : Type 0 where
  pub below : All (λ x. x < classes) live
  pub falling : HasFallingRanges live

pub record RunState : Type 0 where
  pub classes : ℕ
  pub live : List ℕ

-- `holds` says of a list of ranges that they are what was given.
pub record HasCounted (points live : List ℕ) (holds : List CountedRange → Type 0) : Type 0 where
  pub given : List CountedRange
  pub held : holds given
  pub whole : (unread : List ℕ) → run [] (points ++ unread) ≡ given ++ run live unread

-- The live points stand at the first places of a buffer, the newest last. There is room for one more than can ever be
-- live.
pub record IsRunBuffer (classes : ℕ) (places : List ℕ) (len : ℕ) : Type 0 where
  pub room : length places ≡ classes + 2
  pub within : len ≤ classes + 1
  pub is_live : IsLive classes (reverse (take len places))
