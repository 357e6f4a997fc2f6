-- The line of a new store fits into its room.
use Rattle.std.proofs.Common.{◌≡◌, ◌≤◌, ℕ, [], ◌∷◌, length, codes, ap, arith}
use Rattle.std.specs.Fmt.{decimal}
use Rattle.std.proofs.lemmas.Fmt.{length-decimal-le}
use Rattle.std.proofs.lemmas.List.{length-append}
use Rattle.calibration.specs.declared.limits.TheConstants.{MAX_GAUGES}
use Rattle.init_command.specs.declared.making.TheConstants.{MAX_LINE_BYTES}
use Rattle.status.specs.line_room.Room.{RoomValue, Fits, with_text}

-- the number of gauges has two digits at most
few_digits : (n : ℕ) → n ≤ MAX_GAUGES → length (decimal n) ≤ 2
few_digits n few = length-decimal-le 2 n (omega arith) (omega (arith, few)) (omega (arith, few))

module _ (n : ℕ) (few : n ≤ MAX_GAUGES) (empty word number : RoomValue) (fresh : empty ≡ record { room = MAX_LINE_BYTES; bytes = [] })
    (first : word ≡ with_text empty (codes "init ")) where
  room : word.room ≡ MAX_LINE_BYTES
  room = omega (arith, ap (λ (l : RoomValue). l.room) first, ap (λ (l : RoomValue). l.room) fresh)

  many : length word.bytes ≡ 5
  many = omega (
    arith,
    ap (λ (l : RoomValue). length l.bytes) first,
    ap (λ (l : RoomValue). length l.bytes) fresh,
    length-append empty.bytes
        (codes "init "),
  )

  pub number_fits : Fits word (decimal n)
  number_fits = omega (arith, room, many, few_digits n few)

  pub end_fits : number ≡ with_text word (decimal n) → Fits number (10 ∷ [])
  end_fits second = omega (
    arith,
    room,
    many,
    few_digits n few,
    ap (λ (l : RoomValue). l.room) second,
    ap (λ (l : RoomValue). length l.bytes) second,
    length-append word.bytes (decimal n),
  )
