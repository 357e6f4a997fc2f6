use Rattle.std.proofs.Common.{rules, ap}
use Rattle.board.specs.block_pool.Units.{PoolValue}
use Rattle.board.proofs.on_block_pool.Fitting.{all_push, fits_by}
use Rattle.board.proofs.block_pool.pool.Pool.give.Goals as goal

pub invariant_of-self : goal.invariant_of-self
invariant_of-self c = (
  search rules,
  search rules,
  all_push c.self.inside.block c.self.inside.grid c.self.inside.free.items _ c.args.unit c.self.invariant.2
      (fits_by _ _ _ _ c.args.unit (ap (λ (p : PoolValue). p.block) c.self.view_is) (ap
      (λ (p : PoolValue). p.grid) c.self.view_is) c.requires.fits)
      c.push_reserved.ensures.items,
)
