-- Units that fit, in a list and one by one.
use Rattle.std.proofs.Common.{◌≡◌, ℕ, sym, ap, ◌∙◌}
use Rattle.board.specs.block_pool.Units.{BlankValue, PoolValue, IsBlank}
use Rattle.board.specs.deposits.Deposited.{SamePool}

pub fits_first : (p q : PoolValue) (u : BlankValue) → SamePool p q → IsBlank q.block q.grid u → IsBlank p.block p.grid u
fits_first p q u s h = record { block = h.block ∙ s.block; grid = h.grid ∙ s.grid }

pub fits_now : (p q : PoolValue) (u : BlankValue) → SamePool p q → IsBlank p.block p.grid u → IsBlank q.block q.grid u
fits_now p q u s h = record { block = h.block ∙ sym s.block; grid = h.grid ∙ sym s.grid }

-- one more or one less inside
pub pool_changed : (p q r : PoolValue) (n : ℕ) → SamePool p q → r ≡ record { units = q.units; block = q.block; grid = q.grid; inside = n }
    → SamePool p r
pool_changed p q r n s e = record {
  units = ap (λ (v : PoolValue). v.units) e ∙ s.units;
  block = ap (λ (v : PoolValue). v.block) e
      ∙ s.block;
  grid = ap (λ (v : PoolValue). v.grid) e ∙ s.grid;
}
