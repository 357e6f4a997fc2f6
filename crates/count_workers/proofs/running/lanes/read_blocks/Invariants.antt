use Rattle.std.proofs.Common.{◌≡◌, ◌*◌, ◌≤◌}
use Rattle.count_workers.specs.block_workers.Reading.{IsReadSoFar}
use Rattle.count_workers.specs.running.Going.{GoesOn}
use Rattle.count_workers.proofs.on_block_workers.Blocks.{WholeSoFar}
use Rattle.count_workers.proofs.running.lanes.read_blocks.Given as goal

abbrev pub invariant-loop-number : goal.invariant-loop-number
invariant-loop-number g l = record {
  read : IsReadSoFar g.C.Source.tells (g.C.Source.left l.fn.src) (g.C.Source.left l.src) l.fn.desk l.desk (l.number * l.fn.desk.block)
      (WholeSoFar l.fn.desk l.desk l.number);
  later : g.C.Source.faults l.fn.src ≤ g.C.Source.faults l.src;
  number : g.C.Source.number l.src ≡ g.C.Source.number l.fn.src;
  on : GoesOn l.fn.workers l.workers l.fn.depot l.depot l.fn.returns l.returns;
}
