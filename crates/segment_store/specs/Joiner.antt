-- Whoever joins the bodies of each gauge.
--   JoinerValue   the grid, and the held segment of each gauge
--   IsNextOf      a segment is over the grid and begins where its gauge ends
--   Joins         the step: a segment that comes next is joined
use Rattle.std.specs.Prelude.{◌≡◌, ◌<◌, ◌++◌, List, [], ◌∷◌, length, slice_index}
use Rattle.calibration.specs.Grid.{GridValue}
use Rattle.segment.specs.segment_rules.Parts.{PartsValue}
use Rattle.segment.specs.Segment.{SegmentValue}
use Rattle.segment.specs.Parts.{parts_of}
use Rattle.segment_store.specs.Held.{AreHeld, ends_of}
use Rattle.segment_store.specs.Image.{ends_after}

pub record JoinerValue : Type 0 where
  pub grid : GridValue
  pub held : List SegmentValue

pub record IsNextOf (u : JoinerValue) (s : SegmentValue) : Type 0 where
  pub grid : s.grid ≡ u.grid
  pub known : s.gauge < length u.held
  pub next : s.from ≡ slice_index (ends_of u.held) s.gauge

pub record Joins (u : JoinerValue) (s : SegmentValue) (w : JoinerValue) : Type 0 where
  pub grid : w.grid ≡ u.grid
  pub gauges : length w.held ≡ length u.held
  pub ends : IsNextOf u s → ends_of w.held ≡ ends_after (ends_of u.held) (parts_of s)
  pub held : IsNextOf u s → (bodies : List PartsValue) → AreHeld u.grid bodies u.held
      → AreHeld u.grid (bodies ++ parts_of s ∷ []) w.held
