-- What contracts see of prepared rounds, and how everything stands between two rounds.
--   PreparedValue, value_of    what is seen; the rings by worker and gauge
--   RestingReader, RestingWorker, RestingReturn, IsEven    the parts between two rounds
--   IsResting                  all of them: the units are in the pool, and what was fed was taken
--   IsSameBut                  the same but for the board
use Rattle.std.specs.Prelude.{◌≡◌, ◌*◌, ◌<◌, ◌≤◌, ℕ, List, length, map, slice_index_or, vec_len, vec_capacity, None}
use Rattle.calibration.specs.Grid.{GridValue}
use Rattle.count_workers.specs.declared.gauge_ring.taker.Taker.{Taker}
use Rattle.count_workers.specs.declared.gauge_ring.feeder.Feeder.{Feeder}
use Rattle.count_workers.specs.gauge_ring.Ends.{fed, taken}
use Rattle.board.specs.block_pool.Units.{PoolValue}
use Rattle.board.specs.declared.block_pool.TheConstants.{MAX_BLOCK}
use Rattle.calibration.specs.declared.limits.TheConstants.{MAX_GAUGES}
use Rattle.board.specs.Board.{BoardValue}
use Rattle.calibration.specs.declared.limits.TheConstants.{MAX_WORKERS}
use Rattle.board.specs.declared.flow.TheConstants.{BLOCKS_PER_WINDOW}
use Rattle.count_workers.specs.declared.block_workers.item.Item.{Item}
use Rattle.count_workers.specs.declared.block_workers.worker.Worker.{Worker}
use Rattle.count_workers.specs.declared.block_workers.jobs.Reader.{Reader}
use Rattle.count_workers.specs.block_workers.Jobs.{RingAt}
use Rattle.count_workers.specs.block_workers.Working.{IsIdle}
use Rattle.count_workers.specs.declared.collector.collecting.Return.{Return}
use Rattle.count_workers.specs.collector.Collecting.{IsAwaited}
use Rattle.count_workers.specs.collector.Settling.{ReturnAt}

-- the rings are by worker and gauge: what was taken from each, which is what was fed
pub record PreparedValue : Type 0 where
  pub grid : GridValue
  pub gauges : ℕ
  pub block : ℕ
  pub workers : ℕ
  pub board : BoardValue
  pub inside : ℕ
  pub rings : List (List (List Item))

abbrev pub rings_of : List Worker → List (List (List Item))
rings_of workers = map (λ (w : Worker). map (λ (t : Taker Item). taken t) w.takers.items) workers

-- a worker between two rounds: it has a ring of each gauge, and its helper has nothing of it
pub record RestingWorker (gauges v : ℕ) (w : Worker) : Type 0 where
  pub number : w.number ≡ v
  pub takers : vec_len w.takers ≡ gauges
  pub idle : IsIdle w

-- a return ring between two rounds: what was fed was taken, and the next round is awaited
pub record RestingReturn (w : Worker) (r : Return) : Type 0 where
  pub one : ReturnAt w r
  pub even : fed w.back ≡ taken r.taker
  pub awaited : IsAwaited r

module _ {C : Type 0} where
  -- a reader between two rounds: it has no source and no units, a ring to each worker, and room for a round's units
  pub record RestingReader (p : PoolValue) (workers g : ℕ) (r : Reader C) : Type 0 where
    pub src : r.src ≡ None
    pub gauge : r.desk.gauge ≡ g
    pub size : r.desk.block ≡ p.block
    pub kind : r.desk.grid ≡ p.grid
    pub feeders : vec_len r.desk.feeders ≡ workers
    pub blanks : vec_len r.desk.blanks ≡ 0
    pub room : BLOCKS_PER_WINDOW ≤ vec_capacity r.desk.blanks

  -- what was fed was taken
  pub record IsEven (w : Worker) (r : Reader C) (g v : ℕ) : Type 0 where
    pub one : RingAt w r g v
    pub even : (d : Taker Item) (e : Feeder Item)
        → fed (slice_index_or r.desk.feeders.items v e) ≡ taken (slice_index_or w.takers.items g d)

  pub record IsResting (p : PoolValue) (b : BoardValue) (readers : List (Reader C)) (workers : List Worker)
      (returns : List Return) : Type 0 where
    pub gauges_few : (1 ≤ length readers) × (length readers ≤ MAX_GAUGES)
    pub block : (1 ≤ p.block) × (p.block ≤ MAX_BLOCK)
    pub workers_few : (1 ≤ length workers) × (length workers ≤ MAX_WORKERS)
    pub pool : (p.units ≡ BLOCKS_PER_WINDOW * length readers) × (p.inside ≡ BLOCKS_PER_WINDOW * length readers)
    pub board : (b.grid ≡ p.grid) × (b.block ≡ p.block) × (length b.rows ≡ length readers)
    pub each_reader : (g : ℕ) (d : Reader C) → g < length readers →
        RestingReader p (length workers) g (slice_index_or readers g d)
    pub each_worker : (v : ℕ) (d : Worker) → v < length workers →
        RestingWorker (length readers) v (slice_index_or workers v d)
    pub rings : (v g : ℕ) (d : Worker) (e : Reader C) → v < length workers → g < length readers
        → IsEven (slice_index_or workers v d) (slice_index_or readers g e) g v
    pub returns_long : length returns ≡ length workers
    pub each_return : (v : ℕ) (d : Worker) (e : Return) → v < length workers
        → RestingReturn (slice_index_or workers v d) (slice_index_or returns v e)

  -- what is seen of the parts
  abbrev pub value_of : PoolValue → BoardValue → List (Reader C) → List Worker → PreparedValue
  value_of p b readers workers = record {
    grid = p.grid;
    gauges = length readers;
    block = p.block;
    workers = length workers;
    board = b;
    inside = p.inside;
    rings = rings_of workers;
  }

-- all but the board
pub record IsSameBut (old new : PreparedValue) (b : BoardValue) : Type 0 where
  pub grid : new.grid ≡ old.grid
  pub gauges : new.gauges ≡ old.gauges
  pub block : new.block ≡ old.block
  pub workers : new.workers ≡ old.workers
  pub inside : new.inside ≡ old.inside
  pub rings : new.rings ≡ old.rings
  pub board : new.board ≡ b
