-- What rounds are prepared for, and what is seen of them at first.
--   IsPlan   a plan within the limits
--   IsNew    rounds that nothing was read in: all units are in the pool, and from no ring anything was taken
use Rattle.std.specs.Prelude.{◌≡◌, ◌*◌, ◌<◌, ◌≤◌, ℕ, [], length}
use Rattle.board.specs.declared.flow.TheConstants.{BLOCKS_PER_WINDOW}
use Rattle.board.specs.declared.block_pool.TheConstants.{MAX_BLOCK}
use Rattle.calibration.specs.declared.limits.TheConstants.{MAX_GAUGES}
use Rattle.calibration.specs.declared.limits.TheConstants.{MAX_WORKERS}
use Rattle.count_workers.specs.round_making.Resting.{PreparedValue}
use Rattle.count_workers.specs.round_making.Round.{ring_at}
use Rattle.count_workers.specs.declared.plan.Plan.{Plan}

pub record IsPlan (p : Plan) : Type 0 where
  pub gauges : (1 ≤ p.gauges) × (p.gauges ≤ MAX_GAUGES)
  pub block : (1 ≤ p.block) × (p.block ≤ MAX_BLOCK)
  pub workers : (1 ≤ p.workers) × (p.workers ≤ MAX_WORKERS)

pub record IsNew (plan : Plan) (p : PreparedValue) : Type 0 where
  pub grid : p.grid ≡ plan.grid
  pub gauges : p.gauges ≡ plan.gauges
  pub block : p.block ≡ plan.block
  pub workers : p.workers ≡ plan.workers
  pub board : (p.board.grid ≡ plan.grid) × (p.board.block ≡ plan.block) × (length p.board.rows ≡ plan.gauges)
      × (p.board.arrivals ≡ [])
  pub inside : p.inside ≡ BLOCKS_PER_WINDOW * plan.gauges
  pub rings : (g v : ℕ) → g < plan.gauges → v < plan.workers → ring_at p g v ≡ []
