use Rattle.std.proofs.Common.{◌≡◌, ◌≤◌, ◌-◌, ◌*◌, ◌^◌, slice_index}
use Rattle.demo_command.specs.Summary.{all_halves}
use Rattle.demo_command.proofs.text.sum_of.Given as goal

abbrev pub invariant-loop-k : goal.invariant-loop-k
invariant-loop-k l = record {
  so_far : l.sum ≡ all_halves (λ i. slice_index l.halves i) (l.k - 1);
  bound : l.sum ≤ l.k * (2 ^ 64 - 1);
}
