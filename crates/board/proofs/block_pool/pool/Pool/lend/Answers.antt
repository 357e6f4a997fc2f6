use Rattle.std.proofs.Common.{rules, ap}
use Rattle.board.specs.block_pool.Units.{PoolValue}
use Rattle.board.proofs.on_block_pool.Fitting.{all_take, last_fits}
use Rattle.board.proofs.block_pool.pool.Pool.lend.Goals as goal

pub invariant_of-self : goal.invariant_of-self
invariant_of-self c = (
  search rules,
  search rules,
  all_take c.self.inside.block c.self.inside.grid _ c.self.inside.free.items _ c.self.invariant.2 c.pop.ensures.rest,
)

pub returns-clause-unit : goal.returns-clause-unit
returns-clause-unit c = last_fits _ _ _ _ c.self.inside.free.len c.pop.new.self.len c.self.inside.free.items c.pop.result
    (ap (λ (p : PoolValue). p.block) c.self.view_is) (ap (λ (p : PoolValue). p.grid) c.self.view_is)
    (search rules) c.self.invariant.2 c.pop.ensures.value c.pop.ensures.cases
