-- What contracts see of units and of the pool.
--   BlankValue, FilledValue, CountedValue, PoolValue
--   IsFilled           a name of some samples, at most a block, within a recording
--   IsBlank            a blank of this block and grid
--   IsCountOf          the same unit with its samples counted
--   buffer_after_loan  what a buffer holds after a loan of it
use Rattle.std.specs.Prelude.{◌≡◌, ◌+◌, ◌≤◌, ◌<◌, ℕ, ℤ, List, length, take, drop, ◌++◌}
use Rattle.calibration.specs.declared.limits.TheConstants.{MAX_SAMPLES}
use Rattle.calibration.specs.Gain.{GainValue}
use Rattle.calibration.specs.Grid.{GridValue}
use Rattle.segment.specs.declared.segment_rules.name.Name.{Name}
use Rattle.segment.specs.Name.{name_of}
use Rattle.segment.specs.Segment.{SegmentValue, Stands}

pub record BlankValue : Type 0 where
  pub buffer : List ℤ
  pub grid : GridValue

pub record FilledValue : Type 0 where
  pub block : ℕ
  pub grid : GridValue
  pub name : Name
  pub samples : List ℤ
  pub gain : GainValue

pub record CountedValue : Type 0 where
  pub block : ℕ
  pub grid : GridValue
  pub segment : SegmentValue
  pub samples : List ℤ
  pub gain : GainValue

pub record PoolValue : Type 0 where
  -- how many units it has in all
  pub units : ℕ
  pub block : ℕ
  pub grid : GridValue
  -- how many are not lent
  pub inside : ℕ

abbrev pub IsFilled : ℕ → Name → Type 0
IsFilled block name = (name.from < name.to) × (name.to ≤ name.from + block) × (name.to ≤ MAX_SAMPLES)

pub record IsBlank (size : ℕ) (kind : GridValue) (u : BlankValue) : Type 0 where
  pub block : length u.buffer ≡ size
  pub grid : u.grid ≡ kind

pub record IsCountOf (f : FilledValue) (c : CountedValue) : Type 0 where
  pub block : c.block ≡ f.block
  pub grid : c.grid ≡ f.grid
  pub name : name_of c.segment ≡ f.name
  pub samples : c.samples ≡ f.samples
  pub gain : c.gain ≡ f.gain
  pub stands : Stands c.segment f.gain f.samples

-- a list of fixed length over which another was written
abbrev pub buffer_after_loan : List ℤ → List ℤ → List ℤ
buffer_after_loan old w = take (length old) (w ++ drop (length w) old)
