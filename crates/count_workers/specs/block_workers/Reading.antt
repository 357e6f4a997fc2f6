-- What a reader does in a round.
use Rattle.std.specs.Prelude.{◌≡◌, ◌⊎◌, ◌+◌, ◌*◌, ◌%◌, ◌<◌, ◌≤◌, ℕ, ℤ, List, [], ◌∷◌, ◌++◌, ◌-◌, ◌≢◌, length, take, map, Bool, true, false, slice_index_or, vec_len, vec_capacity}
use Rattle.std.specs.List.{All}
use Rattle.calibration.specs.declared.limits.TheConstants.{MAX_SAMPLES}
use Rattle.board.specs.declared.flow.TheConstants.{BLOCKS_PER_WINDOW}
use Rattle.recording.specs.Samples.{samples}
use Rattle.recording.specs.declared.lane_ends.end.End.TheVariants.{More}
use Rattle.recording.specs.lane_ends.Ends.{IsRead}
use Rattle.board.specs.flow.Flow.{name_of_samples}
use Rattle.count_workers.specs.declared.gauge_ring.feeder.Feeder.{Feeder}
use Rattle.count_workers.specs.gauge_ring.Ends.{fed, IsSameFeeder}
use Rattle.board.specs.block_pool.Units.{FilledValue, IsBlank}
use Rattle.count_workers.specs.declared.block_workers.item.Item.{Item}
use Rattle.count_workers.specs.declared.block_workers.desk.Desk.{Desk}
use Rattle.count_workers.specs.block_workers.Dealing.{block_of, round_of, blocks_of_worker, FeedsOneRing}

-- a unit of a lane that holds the samples between
pub record IsUnit (d : Desk) (from to : ℕ) (u : FilledValue) : Type 0 where
  pub name : u.name ≡ name_of_samples d.gauge from to
  pub gain : u.gain ≡ d.gain
  pub block : u.block ≡ d.block
  pub grid : u.grid ≡ d.grid
  pub long : from + length u.samples ≡ to
  pub some : from < to
  pub short : to ≤ from + d.block

-- whole blocks one after another; only the last may be shorter
pub data AreBlocks (d : Desk) : ℕ → List FilledValue → ℕ → Type 0 where
  none : {a : ℕ} → AreBlocks d a [] a
  last : {a b : ℕ} {u : FilledValue} → IsUnit d a b u → AreBlocks d a (u ∷ []) b
  more : {a b : ℕ} {u : FilledValue} {us : List FilledValue} → IsUnit d a (a + d.block) u →
      AreBlocks d (a + d.block) us b
      → AreBlocks d a (u ∷ us) b

abbrev pub samples_of : List FilledValue → List ℤ
samples_of [] = []
samples_of (u ∷ us) = u.samples ++ samples_of us

pub record SameDesk (old new : Desk) : Type 0 where
  pub gauge : new.gauge ≡ old.gauge
  pub gain : new.gain ≡ old.gain
  pub block : new.block ≡ old.block
  pub grid : new.grid ≡ old.grid
  pub feeders : vec_len new.feeders ≡ vec_len old.feeders
  pub room : vec_capacity new.blanks ≡ vec_capacity old.blanks

-- so many blanks at least, and room in the recording for their samples
pub record IsReady (d : Desk) (blocks : ℕ) : Type 0 where
  pub blanks : blocks ≤ vec_len d.blanks
  pub fit : All (IsBlank d.block d.grid) d.blanks.items
  pub limit : d.at ≤ MAX_SAMPLES
  pub end : d.end ≡ More
  pub some : 0 < d.block
  pub workers : 0 < vec_len d.feeders

-- no sample came
pub record NoBlock (old new : Desk) : Type 0 where
  pub at : new.at ≡ old.at
  pub feeders : new.feeders.items ≡ old.feeders.items
  pub blanks : vec_len new.blanks ≡ vec_len old.blanks
  pub fit : All (IsBlank old.block old.grid) new.blanks.items

-- a block was read and dealt
pub record OneBlock (tells : Type 0) (left_old : List ℕ) (old new : Desk) (number : ℕ) : Type 0 where
  pub unit : FilledValue
  pub is : IsUnit old old.at new.at unit
  pub samples : tells → unit.samples ≡ take (length unit.samples) (samples left_old)
  pub feeds : FeedsOneRing old.feeders.items new.feeders.items (number % vec_len old.feeders) (block_of unit ∷ [])
  pub blanks : vec_len new.blanks + 1 ≡ vec_len old.blanks
  pub fit : All (IsBlank old.block old.grid) new.blanks.items

-- how many samples a recording may have behind those that were read
abbrev pub most : Desk → ℕ
most d = MAX_SAMPLES - d.at

pub record OneRead (tells : Type 0) (left_old left_new : List ℕ) (old new : Desk) (number : ℕ)
    (answer : Bool) : Type 0 where
  pub same : SameDesk old new
  pub limit : new.at ≤ MAX_SAMPLES
  pub gives : tells → IsRead old.block (most old) left_old (new.at - old.at) new.end left_new
  pub did : NoBlock old new ⊎ OneBlock tells left_old old new number
  pub whole : answer ≡ true → OneBlock tells left_old old new number × (new.at ≡ old.at + old.block) × (new.end ≡ More)
  pub ended : answer ≡ false → new.end ≢ More

-- what was read and dealt so far, of so many samples that were wanted: blocks as P says
pub record IsReadSoFar (tells : Type 0) (left_old left_new : List ℕ) (old new : Desk) (wanted : ℕ) (P : List FilledValue
    → Type 0) : Type 0 where
  pub same : SameDesk old new
  pub limit : new.at ≤ MAX_SAMPLES
  pub later : old.at ≤ new.at
  pub units : List FilledValue
  pub are : P units
  pub samples : tells → samples_of units ≡ take (new.at - old.at) (samples left_old)
  pub gives : tells → IsRead wanted (most old) left_old (new.at - old.at) new.end left_new
  pub fed : (v : ℕ) (d : Feeder Item) → v < vec_len old.feeders
      → fed (slice_index_or new.feeders.items v d)
      ≡ fed (slice_index_or old.feeders.items v d) ++ map block_of (blocks_of_worker (vec_len old.feeders) v 0 units)
  pub ends : (v : ℕ) (d : Feeder Item) → v < vec_len old.feeders
      → IsSameFeeder (slice_index_or old.feeders.items v d) (slice_index_or new.feeders.items v d)
  pub blanks : vec_len new.blanks + length units ≡ vec_len old.blanks
  pub fit : All (IsBlank old.block old.grid) new.blanks.items

abbrev pub BlocksOfRound : Desk → Desk → List FilledValue → Type 0
BlocksOfRound old new us = (length us ≤ BLOCKS_PER_WINDOW) × AreBlocks old old.at us new.at

pub record ReadDone (tells : Type 0) (left_old left_new : List ℕ) (old new : Desk) : Type 0 where
  pub same : SameDesk old new
  pub limit : new.at ≤ MAX_SAMPLES
  pub units : List FilledValue
  pub few : length units ≤ BLOCKS_PER_WINDOW
  pub blocks : AreBlocks old old.at units new.at
  pub samples : tells → samples_of units ≡ take (new.at - old.at) (samples left_old)
  pub gives : tells → IsRead (BLOCKS_PER_WINDOW * old.block) (most old) left_old (new.at - old.at) new.end left_new
  pub fed : (v : ℕ) (d : Feeder Item) → v < vec_len old.feeders
      → fed (slice_index_or new.feeders.items v d)
      ≡ fed (slice_index_or old.feeders.items v d) ++ round_of (blocks_of_worker (vec_len old.feeders) v 0 units)
  pub ends : (v : ℕ) (d : Feeder Item) → v < vec_len old.feeders
      → IsSameFeeder (slice_index_or old.feeders.items v d) (slice_index_or new.feeders.items v d)
  pub blanks : vec_len new.blanks + length units ≡ vec_len old.blanks
  pub fit : All (IsBlank old.block old.grid) new.blanks.items
