-- The head of a store: what it was made for, and the head of each recording.
--    0   the ready byte, 1
--    1   SGST
--    5   the version, 1 or 2, by the layout of its bodies
--    6   the number of gauges, the classes, the width, the lower end, the reference boundary
--   22   for each gauge: the id, the period, the gain
use Rattle.std.specs.Prelude.{◌≡◌, ◌≤◌, ◌+◌, ◌*◌, ℕ, List, [], ◌∷◌, ◌++◌, length, All}
use Rattle.std.specs.Int.{w16, w32, w64, to_be_bytes, cast_unsigned}
use Rattle.calibration.specs.Gain.{GainValue, IsGain}
use Rattle.calibration.specs.Grid.{IsGrid}
use Rattle.store_bytes.specs.declared.segment_bytes.layout.Layout.{Layout}
use Rattle.store_bytes.specs.declared.segment_bytes.layout.Layout.TheVariants.{One, Two}
use Rattle.recording.specs.Head.{IsRecorded}
use Rattle.recording.specs.declared.head.Head.{Head}
use Rattle.calibration.specs.declared.setup.Setup.{Setup}
use Rattle.store_bytes.specs.declared.store_head.setup.StoreHead.{StoreHead}
use Rattle.calibration.specs.declared.limits.TheConstants.{MAX_GAUGES}
use Rattle.store_bytes.specs.declared.segment_bytes.layout.TheConstants.{MAX_CLASSES_ONE}
use Rattle.store_bytes.specs.declared.store_head.setup.TheConstants.{FRONT_LENGTH, GAUGE_LENGTH}

-- the layout of the bodies, the setup, and the head of each gauge's recording
pub record HeadValue : Type 0 where
  pub layout : Layout
  pub setup : Setup
  pub heads : List Head

abbrev pub see_head : Layout → StoreHead → HeadValue
see_head l h = record { layout = l; setup = h.setup; heads = h.heads }

-- "SGST"
abbrev pub magic : List ℕ
magic = 83 ∷ 71 ∷ 83 ∷ 84 ∷ []

abbrev pub version_of : Layout → ℕ
version_of One = 1
version_of Two = 2

abbrev pub front : Layout → Setup → List ℕ
front l s = 1 ∷ (magic ++ (version_of l ∷
    (to_be_bytes w16 (length s.gains) ++
    (to_be_bytes w16 s.grid.classes ++
    (to_be_bytes w16 s.grid.w2 ++ (to_be_bytes w64 (cast_unsigned w64 s.grid.low_kpa) ++ to_be_bytes w16
    s.grid.reference))))))

abbrev pub numbers : Head → GainValue → List ℕ
numbers h g = to_be_bytes w32 h.period_us ++
    (to_be_bytes w64 (cast_unsigned w64 g.num) ++ (to_be_bytes w32 g.den ++ to_be_bytes w64
    (cast_unsigned w64 g.offset)))

abbrev pub gauge : Head → GainValue → List ℕ
gauge h g = h.id ++ numbers h g

abbrev pub gauges : List Head → List GainValue → List ℕ
gauges [] gains = []
gauges (h ∷ hs) [] = []
gauges (h ∷ hs) (g ∷ gs) = gauge h g ++ gauges hs gs

abbrev pub head_of : HeadValue → List ℕ
head_of h = front h.layout h.setup ++ gauges h.heads h.setup.gains

pub record IsSetup (s : Setup) : Type 0 where
  pub grid : IsGrid s.grid
  pub gains : All IsGain s.gains
  pub few : length s.gains ≤ MAX_GAUGES

pub record IsHead (h : HeadValue) : Type 0 where
  pub setup : IsSetup h.setup
  pub same : length h.heads ≡ length h.setup.gains
  pub each : All IsRecorded h.heads
  pub narrow : h.layout ≡ One → h.setup.grid.classes ≤ MAX_CLASSES_ONE

-- the image of a store without bodies: the head and a closed gate
abbrev pub empty_store : HeadValue → List ℕ
empty_store h = head_of h ++ 0 ∷ []

-- where the bytes of a gauge stand
abbrev pub gauge_place : ℕ → ℕ
gauge_place g = FRONT_LENGTH + GAUGE_LENGTH * g

-- the place of the first gate
abbrev pub start_of : Setup → ℕ
start_of s = gauge_place (length s.gains)
