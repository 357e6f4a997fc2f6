-- What the deposit of a list of units does to a board and a pool.
--   unit_name       the name of a unit, and the names of units
--   IsGood          the units are blocks of the board's windows and of the pool, and no sample is named twice
--   UnitStands      a unit's segment stands for the samples that its name names
--   UnitsArePlaced  what comes of good units
--   DepositsUnit    one unit was deposited and given back
--   DepositsUnits   a list of units was, in this order; what comes of it is said where the list is good
use Rattle.std.specs.Prelude.{◌≡◌, ◌+◌, ◌<◌, ◌≤◌, ℕ, ℤ, List, [], ◌∷◌, ◌++◌, length, map}
use Rattle.calibration.specs.Gain.{GainValue}
use Rattle.segment.specs.declared.segment_rules.name.Name.{Name}
use Rattle.segment.specs.Name.{name_of}
use Rattle.board.specs.block_pool.Units.{CountedValue, PoolValue}
use Rattle.board.specs.flow.Flow.{hits}
use Rattle.board.specs.flow.Kept.{Each}
use Rattle.board.specs.Board.{BoardValue, CarriesSamples, StandsIn, SameBoard, Fits}

abbrev pub unit_name : CountedValue → Name
unit_name u = name_of u.segment

abbrev pub unit_names : List CountedValue → List Name
unit_names us = map unit_name us

-- the unit is one of the pool's
abbrev pub IsOfPool : PoolValue → CountedValue → Type 0
IsOfPool p u = (u.block ≡ p.block) × (u.grid ≡ p.grid)

-- It holds of each prefix too.
pub record IsGood (b : BoardValue) (p : PoolValue) (us : List CountedValue) : Type 0 where
  pub blocks : Each (λ u. Fits b (unit_name u)) us
  pub units : Each (IsOfPool p) us
  pub once : (g i : ℕ) → hits g i (b.arrivals ++ unit_names us) ≤ 1
  pub room : p.inside + length us ≤ p.units

pub record SamePool (old new : PoolValue) : Type 0 where
  pub units : new.units ≡ old.units
  pub block : new.block ≡ old.block
  pub grid : new.grid ≡ old.grid

abbrev pub UnitStands : (ℕ → GainValue) → (ℕ → List ℤ) → CountedValue → Type 0
UnitStands gain w u = StandsIn u.segment (gain u.segment.gauge) (w u.segment.gauge)

-- each is placed, is in the pool again, and the board carries what they stand for
pub record UnitsArePlaced (b c : BoardValue) (p q : PoolValue) (us : List CountedValue) : Type 0 where
  pub arrivals : c.arrivals ≡ b.arrivals ++ unit_names us
  pub inside : q.inside ≡ p.inside + length us
  pub carries : (gain : ℕ → GainValue) (w : ℕ → List ℤ) → CarriesSamples b gain w → Each (UnitStands gain w) us →
      CarriesSamples c gain w

pub record DepositsUnit (b c : BoardValue) (p q : PoolValue) (u : CountedValue) : Type 0 where
  pub board : SameBoard b c
  pub pool : SamePool p q
  pub came : Fits b (unit_name u) → hits u.segment.gauge u.segment.from b.arrivals ≡ 0 → IsOfPool p u →
      p.inside < p.units
      → UnitsArePlaced b c p q (u ∷ [])

pub record DepositsUnits (b c : BoardValue) (p q : PoolValue) (us : List CountedValue) : Type 0 where
  pub board : SameBoard b c
  pub pool : SamePool p q
  pub came : IsGood b p us → UnitsArePlaced b c p q us
