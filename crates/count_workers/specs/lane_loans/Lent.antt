-- What a lane lends to its reader.
use Rattle.std.specs.Prelude.{◌≡◌, ◌≤◌, ◌<◌, ℕ, List, map, slice_index_or, vec_len, vec_capacity, None, Some}
use Rattle.calibration.specs.declared.limits.TheConstants.{MAX_SAMPLES}
use Rattle.board.specs.declared.flow.TheConstants.{BLOCKS_PER_WINDOW}
use Rattle.board.specs.block_pool.Units.{PoolValue}
use Rattle.count_workers.specs.declared.block_workers.jobs.Reader.{Reader}
use Rattle.count_workers.specs.declared.lane_loans.lane.Lane.{Lane}

module _ {C : Type 0} where
  -- a lane that a round may be made of
  pub record CanRound (g : ℕ) (l : Lane C) : Type 0 where
    pub src : C
    pub has : l.src ≡ Some src
    pub gauge : l.gauge ≡ g
    pub at : l.at ≤ MAX_SAMPLES

  abbrev pub at_of : List (Lane C) → ℕ → ℕ
  at_of lanes g = slice_index_or (map (λ (l : Lane C). l.at) lanes) g 0

  -- how many units a reader has
  abbrev pub blanks_at : List (Reader C) → ℕ → ℕ
  blanks_at readers g = slice_index_or (map (λ (r : Reader C). vec_len r.desk.blanks) readers) g 0

  -- a reader with no units, room for a round's units of the pool, and rings
  pub record CanLend (p : PoolValue) (r : Reader C) : Type 0 where
    pub blanks : vec_len r.desk.blanks ≡ 0
    pub room : BLOCKS_PER_WINDOW ≤ vec_capacity r.desk.blanks
    pub size : (r.desk.block ≡ p.block) × (0 < p.block)
    pub kind : r.desk.grid ≡ p.grid
    pub feeders : 0 < vec_len r.desk.feeders

  pub record LendsSource (old new : Reader C) (lane left : Lane C) : Type 0 where
    pub src : new.src ≡ lane.src
    pub gone : left.src ≡ None
    pub same : (left.gauge ≡ lane.gauge) × (left.gain ≡ lane.gain) × (left.at ≡ lane.at) × (left.end ≡ lane.end)
    pub gauge : new.desk.gauge ≡ old.desk.gauge
    pub gain : new.desk.gain ≡ lane.gain
    pub at : new.desk.at ≡ lane.at
    pub end : new.desk.end ≡ lane.end
    pub block : new.desk.block ≡ old.desk.block
    pub grid : new.desk.grid ≡ old.desk.grid
    pub feeders : new.desk.feeders ≡ old.desk.feeders
    pub blanks : vec_len new.desk.blanks ≡ BLOCKS_PER_WINDOW
    pub room : vec_capacity new.desk.blanks ≡ vec_capacity old.desk.blanks

  pub record ReturnsSource (old new : Reader C) (lane back : Lane C) : Type 0 where
    pub src : back.src ≡ old.src
    pub gone : new.src ≡ None
    pub at : back.at ≡ old.desk.at
    pub end : back.end ≡ old.desk.end
    pub same : (back.gauge ≡ lane.gauge) × (back.gain ≡ lane.gain)
    pub gauge : new.desk.gauge ≡ old.desk.gauge
    pub block : new.desk.block ≡ old.desk.block
    pub grid : new.desk.grid ≡ old.desk.grid
    pub feeders : new.desk.feeders ≡ old.desk.feeders
    pub blanks : vec_len new.desk.blanks ≡ 0
    pub room : vec_capacity new.desk.blanks ≡ vec_capacity old.desk.blanks
