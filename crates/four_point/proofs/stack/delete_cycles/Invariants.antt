use Rattle.std.proofs.Common.{◌≡◌, ◌≤◌, ◌+◌, ◌-◌, ◌*◌, ◌∷◌, ◌++◌, [], take, length}
use Rattle.turning_points.proofs.Zigzag.{IsZigzag}
use Rattle.tally.specs.Counts.{count_of, total_of}
use Rattle.four_point.specs.Residue.{AddsCycles}
use Rattle.four_point.proofs.stack.delete_cycles.Given as goal

abbrev pub invariant-loop-len : goal.invariant-loop-len
invariant-loop-len l = record {
  some : 1 ≤ l.len;
  within : l.len ≤ l.initial.len;
  zig : IsZigzag (take (l.len - 1) l.levels ++ l.last ∷ []);
  cycles : AddsCycles (take (l.initial.len - 1) l.levels ++ l.last ∷ []) (count_of l.initial.tally.cells)
      (take (l.len - 1) l.levels ++ l.last ∷ []) (count_of l.tally.cells);
  lengths : 2 * total_of l.tally.cells + l.len ≡ 2 * total_of l.initial.tally.cells + l.initial.len;
  cells : 2 * length l.tally.cells + l.len ≤ 2 * length l.initial.tally.cells + l.initial.len;
  room : l.tally.room ≡ l.initial.tally.room;
  classes : l.tally.classes ≡ l.initial.tally.classes;
}

abbrev pub decreases-loop-len : goal.decreases-loop-len
decreases-loop-len l = l.len
