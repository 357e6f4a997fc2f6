use Rattle.std.proofs.Common.{◌≡◌, ◌++◌, take}
use Rattle.status.specs.line_room.Room.{shown_text}
use Rattle.status.proofs.line_room.room.LineRoom.push_shown.Given as goal

-- what is left of the text is not written yet
abbrev pub invariant-loop-byte : goal.invariant-loop-byte
invariant-loop-byte l = record {
  written : l.self.bytes ≡ l.fn.self.bytes ++ shown_text (take l.byte-index l.text);
  room : l.self.room ≡ l.fn.self.room;
}
