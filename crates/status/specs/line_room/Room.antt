-- A line: the bytes written, and the room that is kept for them.
--   Fits        a text fits behind what is written
--   with_text   the line with a text behind what is written
--   shown_text  a text with a question mark for each control byte
use Rattle.std.specs.Prelude.{ℕ, ◌+◌, ◌≤◌, nat_lt, ◌==◌, ◌||◌, if◌then◌else◌, List, ◌++◌, length, map}

pub record RoomValue : Type 0 where
  pub room : ℕ
  pub bytes : List ℕ

abbrev pub Fits : RoomValue → List ℕ → Type 0
Fits l text = length l.bytes + length text ≤ l.room

abbrev pub with_text : RoomValue → List ℕ → RoomValue
with_text l text = record l { bytes = l.bytes ++ text }

abbrev pub shown_byte : ℕ → ℕ
shown_byte b = if nat_lt b 32 || b == 127 then 63 else b

abbrev pub shown_text : List ℕ → List ℕ
shown_text text = map shown_byte text
