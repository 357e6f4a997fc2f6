-- Which difference between a segment and a recount is the first one: the samples that were used, the missing and the
-- refused ones, and then the half units of each pair of levels, by the lower level and then by the higher one.
--   IsFirstOther   the first pair that has other half units
--   Compares       the first difference, or none
use Rattle.std.specs.Prelude.{◌≡◌, ◌≢◌, ◌<◌, ℕ, Option, Some, None}
use Rattle.tally.specs.Counts.{Before}
use Rattle.segment.specs.declared.counts.SampleCounts.{SampleCounts}
use Rattle.segment.specs.Segment.{SegmentValue}
use Rattle.segment.specs.Figures.{halves_of}
use Rattle.recount.specs.declared.compare.Difference.{Difference}
use Rattle.recount.specs.declared.compare.What.TheVariants.{Used, Missing, Refused, Cell}

pub record IsFirstOther (classes : ℕ) (held found : ℕ → ℕ → ℕ) (lo hi : ℕ) : Type 0 where
  pub ordered : lo < hi
  pub within : hi < classes
  pub differ : held lo hi ≢ found lo hi
  pub before : (a b : ℕ) → a < b → b < classes → Before a b lo hi → held a b ≡ found a b

abbrev pub SameReadings : SegmentValue → SampleCounts → Type 0
SameReadings v found = (v.used ≡ found.used) × (v.missing ≡ found.missing) × (v.refused ≡ found.refused)

abbrev pub AreSame : ℕ → (ℕ → ℕ → ℕ) → (ℕ → ℕ → ℕ) → Type 0
AreSame classes held found = (lo hi : ℕ) → lo < hi → hi < classes → held lo hi ≡ found lo hi

-- at each level above `lo` and below `to`
abbrev pub AreSameFrom : ℕ → ℕ → (ℕ → ℕ) → (ℕ → ℕ) → Type 0
AreSameFrom lo to held found = (hi : ℕ) → lo < hi → hi < to → held hi ≡ found hi

-- the difference in the first pair that has other half units
pub record IsCellOther (classes : ℕ) (held found : ℕ → ℕ → ℕ) (other : Difference) : Type 0 where
  pub lo : ℕ
  pub hi : ℕ
  pub first : IsFirstOther classes held found lo hi
  pub is : other ≡ record { what = Cell lo hi; held = held lo hi; found = found lo hi }

-- between a segment and samples of which so many are of each kind, with these half units
pub data Compares (v : SegmentValue) (found : SampleCounts) (halves : ℕ → ℕ → ℕ) : Option Difference → Type 0 where
  used_differ : v.used ≢ found.used →
      Compares v found halves (Some (record { what = Used; held = v.used; found = found.used }))
  missing_differ : v.used ≡ found.used → v.missing ≢ found.missing
      → Compares v found halves (Some (record { what = Missing; held = v.missing; found = found.missing }))
  refused_differ : v.used ≡ found.used → v.missing ≡ found.missing → v.refused ≢ found.refused
      → Compares v found halves (Some (record { what = Refused; held = v.refused; found = found.refused }))
  cell_differs : (lo hi : ℕ) → SameReadings v found → IsFirstOther v.grid.classes (halves_of v) halves lo hi
      → Compares v found halves (Some (record { what = Cell lo hi; held = halves_of v lo hi; found = halves lo hi }))
  all_same : SameReadings v found → AreSame v.grid.classes (halves_of v) halves → Compares v found halves None
