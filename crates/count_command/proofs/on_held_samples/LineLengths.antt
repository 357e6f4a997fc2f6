-- How long a line is that is written piece by piece.
use Rattle.std.proofs.Common.{◌≡◌, ◌+◌, ℕ, List, [], length, ap, ◌∙◌, codes, arith}
use Rattle.std.proofs.lemmas.List.{length-append}
use Rattle.status.specs.line_room.Room.{RoomValue, with_text}

-- so long is a line of this room
pub record IsLong (room long : ℕ) (l : RoomValue) : Type 0 where
  pub room_is : l.room ≡ room
  pub long_is : length l.bytes ≡ long

pub more : (room long : ℕ) (l m : RoomValue) (text : List ℕ) → IsLong room long l → m ≡ with_text l text →
    IsLong room (long + length text) m
more room long l m text was is = record {
  room_is = ap (λ (v : RoomValue). v.room) is ∙ was.room_is;
  long_is = omega (arith, ap (λ (v : RoomValue). length v.bytes) is, length-append l.bytes text, was.long_is);
}

-- up to the number
pub front-long : (room : ℕ) (old a b c d : RoomValue) (word name : List ℕ) → old.room ≡ room → a ≡ record old { bytes = [] } →
    b ≡ with_text a word → length word ≡ 5
    → c ≡ with_text b name → d ≡ with_text c (codes " ") → IsLong room (6 + length name) d
front-long room old a b c d word name is first second five third fourth =
    let start : IsLong room 0 a = record {
      room_is = ap (λ (v : RoomValue). v.room) first ∙ is;
      long_is = ap (λ (v : RoomValue). length v.bytes) first;
    } in
    let all = more room (0 + length word + length name) c d (codes " ")
    (more room (0 + length word) b c name (more room 0 a b word start second) third) fourth in
    record { room_is = all.room_is; long_is = omega (arith, all.long_is, five) }
