-- What goes through the rings of a round.
use Rattle.std.specs.Prelude.{◌≡◌, ◌+◌, ◌%◌, ◌<◌, ℕ, List, [], ◌∷◌, ◌++◌, length, map, ◌==◌, if◌then◌else◌, slice_index_or}
use Rattle.count_workers.specs.declared.gauge_ring.feeder.Feeder.{Feeder}
use Rattle.count_workers.specs.gauge_ring.Ends.{fed, IsSameFeeder}
use Rattle.board.specs.block_pool.Units.{FilledValue}
use Rattle.count_workers.specs.declared.block_workers.item.Item.{Item}
use Rattle.count_workers.specs.declared.block_workers.item.Item.TheVariants.{Block, Mark}

abbrev pub block_of : FilledValue → Item
block_of u = Block u

-- a round of a ring: its blocks, and then the mark
abbrev pub round_of : List FilledValue → List Item
round_of us = map block_of us ++ Mark ∷ []

-- of the blocks of a lane, numbered from k, those of a worker
abbrev pub blocks_of_worker : ℕ → ℕ → ℕ → List FilledValue → List FilledValue
blocks_of_worker workers v k [] = []
blocks_of_worker workers v k (u ∷ us) = if k % workers == v then u ∷ blocks_of_worker workers v (k + 1) us
    else blocks_of_worker workers v (k + 1) us

-- one of the rings was fed these items, and the others nothing
pub record FeedsOneRing (old new : List (Feeder Item)) (v : ℕ) (items : List Item) : Type 0 where
  pub long : length new ≡ length old
  pub same : (u : ℕ) (d : Feeder Item) → IsSameFeeder (slice_index_or old u d) (slice_index_or new u d)
  pub here : (d : Feeder Item) → fed (slice_index_or new v d) ≡ fed (slice_index_or old v d) ++ items
  pub there : (u : ℕ) (d : Feeder Item) → (u ≡ v → ⊥) → fed (slice_index_or new u d) ≡ fed (slice_index_or old u d)

pub record MarksAll (old new : List (Feeder Item)) : Type 0 where
  pub long : length new ≡ length old
  pub same : (u : ℕ) (d : Feeder Item) → IsSameFeeder (slice_index_or old u d) (slice_index_or new u d)
  pub marked : (u : ℕ) (d : Feeder Item) → u < length old →
      fed (slice_index_or new u d) ≡ fed (slice_index_or old u d) ++ Mark ∷ []
