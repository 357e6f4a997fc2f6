use Rattle.std.proofs.Common.{length, ap, arith}
use Rattle.std.proofs.lemmas.Fmt.{length-decimal-le}
use Rattle.status.specs.line_room.Room.{RoomValue}
use Rattle.trials_commands.proofs.line_rooms.a_line_is_written_in_its_room.Goals as goal

pub push_number-requires : goal.push_number-requires
push_number-requires g c =
    omega (
      arith,
      length-decimal-le 13 1099511627775 (omega arith) (omega arith) (omega arith),
      ap (λ (l : RoomValue). l.room)
          c.in_ok-line.ensures,
      ap (λ (l : RoomValue). length l.bytes) c.in_ok-line.ensures,
    )

pub push_signed-requires : goal.push_signed-requires
push_signed-requires g c =
    omega (
      arith,
      length-decimal-le 4 8000 (omega arith) (omega arith) (omega arith),
      ap (λ (l : RoomValue). l.room) c.in_ok-line.ensures,
      ap (λ (l : RoomValue). l.room) c.push_number.ensures,
      ap (λ (l : RoomValue). l.room) c.clear.ensures,
      ap (λ (l : RoomValue). length l.bytes) c.clear.ensures,
    )
