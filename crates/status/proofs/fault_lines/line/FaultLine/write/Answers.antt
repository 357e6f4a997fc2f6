use Rattle.std.proofs.Common.{ℕ, List, length, ap, arith}
use Rattle.status.specs.line_room.Room.{RoomValue}
use Rattle.status.specs.fault_lines.Room.{FaultLineValue}
use Rattle.status.proofs.on_fault_lines.Lengths.{fault_line-short}
use Rattle.status.proofs.fault_lines.line.FaultLine.write.Goals as goal

pub push_status-requires : goal.push_status-requires
push_status-requires c = omega (
  arith,
  fault_line-short c.args.status c.as_bytes.result.now,
  ap (λ (b : List ℕ). length b)
      c.as_bytes.ensures.value,
  c.requires,
  c.self.invariant,
  ap (λ (l : FaultLineValue). l.name_bytes) c.self.view_is,
  ap (λ (l : RoomValue). l.room) c.clear.ensures,
  ap (λ (l : RoomValue). length l.bytes) c.clear.ensures,
)
