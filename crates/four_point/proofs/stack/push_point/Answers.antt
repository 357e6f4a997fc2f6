use Rattle.std.proofs.Common.{◌≡◌, ◌-◌, ◌+◌, ◌++◌, ◌∷◌, [], ℕ, List, ap, sym, subst, take, ◌∙◌, arith}
use Rattle.turning_points.specs.Points.{points}
use Rattle.tally.specs.Counts.{count_of}
use Rattle.turning_points.proofs.Extended.{is_behind}
use Rattle.four_point.proofs.Index.{HasNoCycleBelow-from_irreducible, IsIrreducible-from_places}
use Rattle.four_point.specs.Residue.{AddsCycles}
use Rattle.four_point.proofs.Stacked.{HasNoCycleBelow-fewer, below_fewer}
use Rattle.four_point.proofs.stack.push_point.Goals as goal

behind : (s : List ℕ) (n v : ℕ) → take (n + 1 - 1) s ++ (v ∷ []) ≡ take n s ++ (v ∷ [])
behind s n v = ap (λ k. take k s ++ (v ∷ [])) (omega arith)

pub delete_cycles-requires-clause-below : goal.delete_cycles-requires-clause-below
delete_cycles-requires-clause-below c =
    below_fewer _ (c.args.len + 1 - 1) c.args.len c.args.levels.now (omega arith) (omega arith) c.requires.residue.within

pub delete_cycles-requires-clause-points : goal.delete_cycles-requires-clause-points
delete_cycles-requires-clause-points c =
    let s = c.args.levels.now in
    subst (λ l. points l ≡ l) (sym (behind s c.args.len c.args.level))
    (is_behind s c.args.len c.args.level c.requires.within c.requires.residue.own c.requires.more)

pub delete_cycles-requires-clause-no_cycle : goal.delete_cycles-requires-clause-no_cycle
delete_cycles-requires-clause-no_cycle c =
    HasNoCycleBelow-fewer c.args.levels.now (c.args.len + 1 - 1) c.args.len (omega arith)
    (HasNoCycleBelow-from_irreducible c.args.levels.now c.args.len (omega arith) c.requires.residue.irreducible)

pub returns-clause-step : goal.returns-clause-step
returns-clause-step c =
    let s = c.args.levels.now in
    let d = c.delete_cycles in
    subst (λ l. AddsCycles l (count_of c.args.tally.now.cells) (take d.result d.new.levels) (count_of d.new.tally.cells))
    (behind s c.args.len c.args.level ∙ sym (is_behind s c.args.len c.args.level c.requires.within c.requires.residue.own c.requires.more))
    d.ensures.cycles

pub returns-clause-residue : goal.returns-clause-residue
returns-clause-residue c = record {
  within = c.delete_cycles.ensures.below;
  own = c.delete_cycles.ensures.points;
  irreducible = IsIrreducible-from_places c.delete_cycles.new.levels c.delete_cycles.result (omega arith) c.delete_cycles.ensures.no_cycle;
}
