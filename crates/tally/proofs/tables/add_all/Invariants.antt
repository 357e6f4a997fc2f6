use Rattle.std.proofs.Common.{◌≡◌, ◌+◌, length, ℕ, ◌≤◌, ◌<◌, get_or}
use Rattle.tally.proofs.tables.add_all.Given as goal

abbrev pub invariant-loop-i : goal.invariant-loop-i
invariant-loop-i l = record {
  same : length l.left ≡ length l.initial.left;
  done : (k : ℕ) → k < l.i → get_or l.left k 0 ≡ get_or l.initial.left k 0 + get_or l.right k 0;
  rest : (k : ℕ) → l.i ≤ k → get_or l.left k 0 ≡ get_or l.initial.left k 0;
}
