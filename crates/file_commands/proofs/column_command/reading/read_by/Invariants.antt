use Rattle.std.proofs.Common.{◌≡◌, ◌≤◌, ◌++◌, length}
use Rattle.file_commands.specs.declared.column_command.reading.TheConstants.{MAX_FILE_BYTES, PIECE}
use Rattle.file_commands.proofs.column_command.reading.read_by.Given as goal

-- the text is what was read, and each turn read a byte at least
abbrev pub invariant-loop : goal.invariant-loop
invariant-loop g l = record {
  read : g.S.Source.tells → g.S.Source.left l.fn.src ≡ l.text.items ++ g.S.Source.left l.src;
  few : length l.text.items ≤ MAX_FILE_BYTES;
  turns : l.counter ≤ length l.text.items;
  piece : length l.piece ≡ PIECE;
  later : g.S.Source.faults l.fn.src ≤ g.S.Source.faults l.src;
}
