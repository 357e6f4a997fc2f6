use Rattle.std.proofs.Common.{◌≡◌, ◌+◌, ◌*◌, ◌++◌, length, take}
use Rattle.std.specs.Int.{w16, to_be_bytes}
use Rattle.std.specs.List.{flat_map}
use Rattle.store_bytes.proofs.segment_bytes.writing.put_levels.Given as goal

abbrev pub invariant-loop-level : goal.invariant-loop-level
invariant-loop-level l = record {
  front : take l.at l.buf ≡ take l.fn.at l.fn.buf ++ (to_be_bytes w16 (length l.levels) ++ flat_map (to_be_bytes w16)
      (take l.level-index l.levels));
  place : l.at ≡ l.fn.at + 2 + 2 * l.level-index;
}
