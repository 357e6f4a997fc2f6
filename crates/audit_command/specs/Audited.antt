-- What is compared with the samples that were counted again, and which difference is found.
--   SegmentChoice    which segment is meant for each gauge
--   IsItem           that of a list, which keeps its rules
--   HasKept          one that has what the bodies of the gauge keep
--   IsStanding       one that stands for the first so many samples of the gauge
--   AuditsGauge      the first difference of a gauge, or none
--   AllSame          no gauge below this one has any
--   FindsDifference  what an answer says that comes after all were compared
use Rattle.std.specs.Prelude.{◌≡◌, ◌<◌, ℕ, ℤ, List, length, slice_index_or, Option, Some, None}
use Rattle.calibration.specs.History.{history}
use Rattle.turning_points.specs.three_point.Run.{three_point}
use Rattle.segment.specs.segment_rules.Parts.{PartsValue}
use Rattle.segment.specs.Counts.{kinds_of}
use Rattle.segment.specs.Segment.{SegmentValue, IsSegment, Stands}
use Rattle.recount.specs.Compared.{Compares}
use Rattle.recount.specs.declared.compare.Difference.{Difference}
use Rattle.segment_store.specs.Holds.{gain_at}
use Rattle.segment_store.specs.Keeps.{Keeps, bodies_of}
use Rattle.site_config.specs.declared.config.Config.{Config}
use Rattle.status.specs.declared.status.Status.{Status}
use Rattle.status.specs.declared.status.Status.TheVariants.{Done, WriteFault, Differs}

abbrev pub SegmentChoice : Type 1
SegmentChoice = ℕ → SegmentValue → Type 0

abbrev pub IsItem : List SegmentValue → SegmentChoice
IsItem held g v = (v ≡ slice_index_or held g v) × IsSegment v

abbrev pub HasKept : List PartsValue → SegmentChoice
HasKept bodies g v = Keeps v (bodies_of g bodies)

abbrev pub IsStanding : Config → (ℕ → List ℤ) → SegmentChoice
IsStanding c w g v = Stands v (gain_at c.setup g) (w g)

-- used, missing and refused samples, and the half units of each pair, are compared with those of the samples w of the
-- gauge
abbrev pub AuditsGauge : Config → SegmentChoice → (ℕ → List ℤ) → ℕ → Option Difference → Type 0
AuditsGauge c meant w g other = (v : SegmentValue) × meant g v × (v.grid ≡ c.setup.grid) × Compares v
    (kinds_of c.setup.grid (gain_at c.setup g) (w g)) (three_point (history c.setup.grid (gain_at c.setup g) (w g)))
    other

abbrev pub AllSame : Config → SegmentChoice → (ℕ → List ℤ) → ℕ → Type 0
AllSame c meant w k = (g : ℕ) → g < k → AuditsGauge c meant w g None

abbrev pub FindsDifference : Config → SegmentChoice → (ℕ → List ℤ) → Status → Type 0
FindsDifference c meant w Done = AllSame c meant w (length c.gauges)
FindsDifference c meant w WriteFault = AllSame c meant w (length c.gauges)
FindsDifference c meant w (Differs g what held found) = (g < length c.gauges) × AllSame c meant w g
    × AuditsGauge c meant w g (Some (record { what = what; held = held; found = found }))
FindsDifference c meant w status = Unit {0}

-- the answer of comparing, if there is one
abbrev pub FirstOther : Config → SegmentChoice → (ℕ → List ℤ) → Option Status → Type 0
FirstOther c meant w None = FindsDifference c meant w Done
FirstOther c meant w (Some status) = FindsDifference c meant w status

abbrev pub IsOther : Status → Type 0
IsOther (Differs g what held found) = Unit {0}
IsOther status = ⊥
