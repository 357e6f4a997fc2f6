use Rattle.std.proofs.Common.{◌≡◌, ◌≤◌, ◌<◌, ℕ, length, slice_index_or, vec_len, vec_capacity}
use Rattle.count_workers.specs.Preparing.{ConnectsRing}
use Rattle.count_workers.proofs.preparing.new_worker.Given as goal

abbrev pub invariant-loop-g : goal.invariant-loop-g
invariant-loop-g h l = record {
  long : length l.readers ≡ length l.fn.readers;
  takers : vec_len l.takers ≡ l.g;
  room : length l.fn.readers ≤ vec_capacity l.takers;
  done : (u : ℕ) (d : _) (e : _) → u < l.g
      → ConnectsRing (slice_index_or l.fn.readers u d) (slice_index_or l.readers u d) (slice_index_or l.takers.items u e);
  rest : (u : ℕ) (d : _) → l.g ≤ u → slice_index_or l.readers u d ≡ slice_index_or l.fn.readers u d;
}
