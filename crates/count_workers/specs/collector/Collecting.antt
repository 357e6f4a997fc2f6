-- What comes back from the workers.
--   IsAwaited         the mark of a ring is still to come
--   LooksAtRing       one look at a return ring
--   UnitsCameSoFar    the units that came from a ring so far, and behind them the mark, where the round has ended
--   IsCollectedSoFar  what came from all rings so far: a mix of the workers' units, deposited in this order
--   CollectsMore      what was collected before, and what came since
--   IsCollected       the same where the mark of each ring came
--   CollectsRest      what was collected before, and what came until each ring's mark
use Rattle.std.specs.Prelude.{◌≡◌, ◌⊎◌, ◌<◌, ℕ, List, [], ◌∷◌, ◌++◌, length, map, slice_index_or, true, false}
use Rattle.count_workers.specs.gauge_ring.Ends.{taken, IsSameTaker}
use Rattle.board.specs.block_pool.Units.{CountedValue, PoolValue}
use Rattle.board.specs.Board.{BoardValue}
use Rattle.board.specs.deposits.Deposited.{DepositsUnit, DepositsUnits}
use Rattle.board.specs.deposits.Mixed.{IsMixOf}
use Rattle.count_workers.specs.declared.block_workers.item.Back.TheVariants.{Over}
use Rattle.count_workers.specs.block_workers.Working.{back_of, return_round}
use Rattle.count_workers.specs.declared.collector.collecting.Return.{Return}

abbrev pub IsAwaited : Return → Type 0
IsAwaited r = r.awaited ≡ true

abbrev pub AllAwaited : List Return → Type 0
AllAwaited returns = (v : ℕ) (d : Return) → v < length returns → IsAwaited (slice_index_or returns v d)

-- no unit came: nothing, or the mark, which ends the round
pub record NoUnit (b c : BoardValue) (p q : PoolValue) (old new : Return) : Type 0 where
  pub board : c ≡ b
  pub pool : q ≡ p
  pub ring : ((new.awaited ≡ old.awaited) × (taken new.taker ≡ taken old.taker)) ⊎
      (IsAwaited old × (new.awaited ≡ false) × (taken new.taker ≡ taken old.taker ++ Over ∷ []))

pub record OneUnit (b c : BoardValue) (p q : PoolValue) (old new : Return) : Type 0 where
  pub unit : CountedValue
  pub stepped : DepositsUnit b c p q unit
  pub awaited : IsAwaited old × IsAwaited new
  pub taken : taken new.taker ≡ taken old.taker ++ back_of unit ∷ []

pub record LooksAtRing (b c : BoardValue) (p q : PoolValue) (old new : Return) : Type 0 where
  pub same : IsSameTaker old.taker new.taker
  pub came : NoUnit b c p q old new ⊎ OneUnit b c p q old new

pub record UnitsCameSoFar (old now : Return) (us : List CountedValue) : Type 0 where
  pub same : IsSameTaker old.taker now.taker
  pub awaited : IsAwaited now → taken now.taker ≡ taken old.taker ++ map back_of us
  pub marked : now.awaited ≡ false → taken now.taker ≡ taken old.taker ++ return_round us

pub record IsCollectedSoFar (b c : BoardValue) (p q : PoolValue) (old now : List Return) : Type 0 where
  pub long : length now ≡ length old
  pub lists : ℕ → List CountedValue
  pub each : (v : ℕ) (d : Return) → v < length old →
      UnitsCameSoFar (slice_index_or old v d) (slice_index_or now v d) (lists v)
  pub units : List CountedValue
  pub mixed : IsMixOf (length old) lists units
  pub deposited : DepositsUnits b c p q units

-- of whatever beginning
abbrev pub CollectsMore : BoardValue → BoardValue → PoolValue → PoolValue → List Return → List Return → Type 0
CollectsMore c d q r before now = (b : BoardValue) (p : PoolValue) (old : List Return) →
    IsCollectedSoFar b c p q old before → IsCollectedSoFar b d p r old now

pub record IsCollected (b c : BoardValue) (p q : PoolValue) (old new : List Return) : Type 0 where
  pub long : length new ≡ length old
  pub lists : ℕ → List CountedValue
  pub taken : (v : ℕ) (d : Return) → v < length old
      → taken (slice_index_or new v d).taker ≡ taken (slice_index_or old v d).taker ++ return_round (lists v)
  pub same : (v : ℕ) (d : Return) → v < length old →
      IsSameTaker (slice_index_or old v d).taker (slice_index_or new v d).taker
  pub units : List CountedValue
  pub mixed : IsMixOf (length old) lists units
  pub deposited : DepositsUnits b c p q units

abbrev pub CollectsRest : BoardValue → BoardValue → PoolValue → PoolValue → List Return → List Return → Type 0
CollectsRest c d q r before now = (b : BoardValue) (p : PoolValue) (old : List Return) →
    IsCollectedSoFar b c p q old before → IsCollected b d p r old now
