-- What the steps of a deposit do to the intervals of a gauge.
--   IsEmpty, IsNextTo   a segment of no samples; one that goes on where another ends
--   IsCopy, IsJoin      a place after a segment was copied to it, or joined behind it
--   Before              the last place up to one at which an interval begins
--   IsEmptied           a place after what it had was joined to another
--   CopiesToPlace, JoinsToPlace, JoinsPlaces, ClosesGapAt   the steps
--   TouchesNext, TouchesNone   whether the interval at a place begins where another ends
--   CanPlace            a block of the row
--   AllStand            each place stands for what it names
--   PlacesSegment, FindsDouble, IsPlacing   a segment was placed, or an interval has its first sample
use Rattle.std.specs.Prelude.{◌≡◌, ◌≢◌, ◌⊎◌, ◌+◌, ◌*◌, ◌<◌, ◌≤◌, ℕ, ℤ, List, [], ◌++◌, length, slice_index_or, slice_set, Option, Some, None}
use Rattle.calibration.specs.Gain.{GainValue}
use Rattle.segment.specs.declared.segment_rules.name.Name.{Name}
use Rattle.segment.specs.Segment.{SegmentValue, Stands}
use Rattle.segment.specs.Name.{name_of}
use Rattle.board.specs.Board.{IsRow, spans, StandsIn}
use Rattle.board.specs.flow.Flow.{name_of_samples}
use Rattle.board.specs.flow.Kept.{between}
use Rattle.board.specs.declared.flow.TheConstants.{BLOCKS_PER_WINDOW}

abbrev pub IsEmpty : SegmentValue → Type 0
IsEmpty s = s.to ≤ s.from

abbrev pub IsNextTo : SegmentValue → SegmentValue → Type 0
IsNextTo left right = (right.gauge ≡ left.gauge) × (right.from ≡ left.to)

-- the same name, and stands for the same
pub record IsCopy (most : ℕ) (segment new : SegmentValue) : Type 0 where
  pub name : name_of new ≡ name_of segment
  pub grid : new.grid ≡ segment.grid
  pub longest : new.longest ≡ most
  pub stands : (gain : GainValue) (w : List ℤ) → Stands segment gain w → Stands new gain w

pub record IsJoin (old segment new : SegmentValue) : Type 0 where
  pub name : name_of new ≡ name_of_samples old.gauge old.from segment.to
  pub grid : new.grid ≡ old.grid
  pub longest : new.longest ≡ old.longest
  pub stands : (gain : GainValue) (u w : List ℤ) → Stands old gain u → Stands segment gain w → Stands new gain (u ++ w)

abbrev pub Before : List SegmentValue → ℕ → Option ℕ → Type 0
Before slots k (Some j) =
    (j ≤ k) × ((d : SegmentValue) → (slice_index_or slots j d).from < (slice_index_or slots j d).to)
    × ((i : ℕ) (d : SegmentValue) → j < i → i ≤ k → IsEmpty (slice_index_or slots i d))
Before slots k None = (i : ℕ) (d : SegmentValue) → i ≤ k → IsEmpty (slice_index_or slots i d)

pub record CopiesToPlace (old new : List SegmentValue) (k : ℕ) (segment : SegmentValue) : Type 0 where
  pub was : SegmentValue
  pub at : (d : SegmentValue) → slice_index_or old k d ≡ was
  pub now : SegmentValue
  pub set : new ≡ slice_set old k now
  pub copy : IsCopy was.longest segment now

pub record JoinsToPlace (old new : List SegmentValue) (j : ℕ) (segment : SegmentValue) : Type 0 where
  pub was : SegmentValue
  pub at : (d : SegmentValue) → slice_index_or old j d ≡ was
  pub now : SegmentValue
  pub set : new ≡ slice_set old j now
  pub join : IsJoin was segment now

pub record IsEmptied (was left : SegmentValue) : Type 0 where
  pub gauge : left.gauge ≡ was.gauge
  pub from : left.from ≡ was.from
  pub to : left.to ≡ was.from
  pub grid : left.grid ≡ was.grid
  pub longest : left.longest ≡ was.longest
  pub stands : (gain : GainValue) → Stands left gain []

pub record JoinsPlaces (old new : List SegmentValue) (j k : ℕ) : Type 0 where
  pub was : SegmentValue
  pub next : SegmentValue
  pub at : (d : SegmentValue) → slice_index_or old j d ≡ was
  pub at_next : (d : SegmentValue) → slice_index_or old k d ≡ next
  pub now : SegmentValue
  pub left : SegmentValue
  pub set : new ≡ slice_set (slice_set old j now) k left
  pub join : IsJoin was next now
  pub emptied : IsEmptied next left

-- the interval at n begins where the one at j ends
abbrev pub TouchesNext : List SegmentValue → ℕ → ℕ → Type 0
TouchesNext l j n = (n < length l) × ((d : SegmentValue) → (slice_index_or l j d).to ≡ (slice_index_or l n d).from)
    × ((d : SegmentValue) → (slice_index_or l n d).from < (slice_index_or l n d).to)

abbrev pub TouchesNone : List SegmentValue → ℕ → ℕ → Type 0
TouchesNone l j n = (d : SegmentValue) → n < length l → (slice_index_or l n d).from < (slice_index_or l n d).to →
    (slice_index_or l j d).to ≢ (slice_index_or l n d).from

-- the interval that begins at n is joined to the one at j, where they touch
abbrev pub ClosesGapAt : List SegmentValue → List SegmentValue → ℕ → ℕ → Type 0
ClosesGapAt old new j n = (JoinsPlaces old new j n × TouchesNext old j n) ⊎ ((new ≡ old) × TouchesNone old j n)

pub record CanPlace (start block k : ℕ) (segment : SegmentValue) : Type 0 where
  pub some_block : 0 < block
  pub place : k < BLOCKS_PER_WINDOW
  pub from : segment.from ≡ start + k * block
  pub some : segment.from < segment.to
  pub short : segment.to ≤ segment.from + block
  pub window : segment.to ≤ start + BLOCKS_PER_WINDOW * block

abbrev pub AllStand : GainValue → List ℤ → List SegmentValue → Type 0
AllStand gain w slots = (i : ℕ) (d : SegmentValue) → i < BLOCKS_PER_WINDOW → StandsIn (slice_index_or slots i d) gain w

pub record PlacesSegment (start block : ℕ) (old new : List SegmentValue) (segment : SegmentValue) : Type 0 where
  pub free : spans segment.from old ≡ 0
  pub more : (i : ℕ) → spans i new ≡ spans i old + between segment.from segment.to i
  pub row : IsRow block segment.grid segment.gauge (record { start = start; slots = new })
  pub stands : (gain : GainValue) (w : List ℤ) → AllStand gain w old → StandsIn segment gain w → AllStand gain w new

pub record FindsDouble (old new : List SegmentValue) (segment : SegmentValue) (n : Name) : Type 0 where
  pub same : new ≡ old
  pub at : ℕ
  pub within : at < BLOCKS_PER_WINDOW
  pub interval : (d : SegmentValue) → n ≡ name_of (slice_index_or old at d)
  pub from : n.from ≤ segment.from
  pub to : segment.from < n.to

abbrev pub IsPlacing : ℕ → ℕ → List SegmentValue → List SegmentValue → SegmentValue → Option Name → Type 0
IsPlacing start block old new segment None = PlacesSegment start block old new segment
IsPlacing start block old new segment (Some n) = FindsDouble old new segment n
