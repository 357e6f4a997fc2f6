-- What every image of a run keeps.
--   Kept         bodies that stand for samples, or a head and the bodies that stood behind it, and more
--   recorded     that they stand for recordings
--   Meets        the head and the bodies of a store keep it
--   MayFollow    so they do with this segment behind them
--   ReadsBeyond  an image reads as this head and these bodies, and more
--   HoldsAs      an image keeps it, and holds so many samples of each gauge
use Rattle.std.specs.Prelude.{◌≡◌, ◌++◌, ℕ, ℤ, List}
use Rattle.outside.specs.station.Station.{Image}
use Rattle.calibration.specs.declared.setup.Setup.{Setup}
use Rattle.segment.specs.segment_rules.Parts.{PartsValue}
use Rattle.segment.specs.Segment.{SegmentValue}
use Rattle.board.specs.Board.{StandsIn}
use Rattle.store_bytes.specs.store_head.Head.{HeadValue}
use Rattle.segment_store.specs.Holds.{Holds, AllStand, gain_at}
use Rattle.segment_store.specs.Image.{Reads}
use Rattle.site_config.specs.recorded.Recorded.{Recorded}

pub data Kept : Type 0 where
  standing : Setup → (ℕ → List ℤ) → Kept
  beginning : HeadValue → List PartsValue → Kept

abbrev pub recorded : Recorded → Kept
recorded r = standing r.setup r.samples

abbrev pub Meets : Kept → HeadValue → List PartsValue → Type 0
Meets (standing setup w) head bodies = (head.setup ≡ setup) × AllStand setup w bodies
Meets (beginning first front) head bodies = (head ≡ first) × ((more : List PartsValue) × (bodies ≡ front ++ more))

abbrev pub MayFollow : Kept → SegmentValue → Type 0
MayFollow (standing setup w) segment = StandsIn segment (gain_at setup segment.gauge) (w segment.gauge)
MayFollow (beginning first front) segment = Unit {0}

pub record ReadsBeyond (first : HeadValue) (front : List PartsValue) (n : List ℕ) (image : Image) : Type 0 where
  pub more : List PartsValue
  pub reads : Reads first (front ++ more) n image

abbrev pub HoldsAs : Kept → List ℕ → Image → Type 0
HoldsAs (standing setup w) n image = Holds setup w n image
HoldsAs (beginning first front) n image = ReadsBeyond first front n image
