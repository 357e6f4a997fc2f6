-- What the definitions come to in numbers.
--   table_level   `table` reads 0 to 63 as their own levels
--   too_many      the samples of a recording
use Rattle.std.proofs.Common.{◌≡◌, ◌<◌, ◌-◌, ◌/◌, ◌^◌, ℕ, Bool, true, false, List, length, refl, ap, arith}
use Rattle.std.specs.Prelude.{◌↔◌, ℤ, pos, negsuc, nat_lt, if◌then◌else◌}
use Rattle.std.proofs.Math.IntN.{◌*ℤ◌}
use Rattle.std.proofs.lemmas.Int.{ints}
use Rattle.std.proofs.lemmas.Bool.{ltb-true, lt-ltb}
use Rattle.calibration.specs.Level.{floor_div, reading_of}
use Rattle.calibration.specs.declared.reading.Reading.TheVariants.{Level}
use Rattle.calibration.proofs.Numerals.{level_lies, lies_level}
use Rattle.recording.specs.Samples.{samples, torn_bytes}
use Rattle.file_commands.specs.file_tasks.FileState.{TooManySamples, TornEnd, Sound, body_state}
use Rattle.monitor.specs.Printed.{table_gain, table_grid}

floor_by_one : (z : ℤ) → floor_div z 1 ≡ z
floor_by_one (pos n) = let same : n / 1 ≡ n = omega arith in ap pos same
floor_by_one (negsuc n) = let same : n / 1 ≡ n = omega arith in ap negsuc same

pub table_level : (raw : ℤ) (l : ℕ) → (reading_of table_gain table_grid raw ≡ Level l) ↔ ((raw ≡ pos l) × (l < 64))
table_level raw l =
    let kpa : floor_div (raw *ℤ table_gain.num) 1 ≡ raw *ℤ table_gain.num = floor_by_one (raw *ℤ table_gain.num) in (
      λ e.
          let is = level_lies table_gain table_grid raw l (omega arith) e in
          let low = is.2.0 in
          let high = is.2.1 in
          (omega (arith, ints, kpa, low, high), is.1),
      λ is.
          let same = is.0 in
          lies_level table_gain table_grid raw l (omega arith) (λ none. absurd (omega (arith, ints, same, none))) is.1
          (omega (arith, ints, kpa, same), omega (arith, ints, kpa, same)),
    )

is_too_many : (many torn : Bool) (bytes : ℕ) → (if many then TooManySamples else (if torn then TornEnd bytes else Sound)) ≡ TooManySamples
    → many ≡ true
is_too_many true torn bytes e = refl
is_too_many false true bytes e = absurd (cc)
is_too_many false false bytes e = absurd (cc)

pub too_many : (body : List ℕ) → (body_state body ≡ TooManySamples) ↔ (2 ^ 40 - 1 < length (samples body))
too_many body = (
  λ e. ltb-true (2 ^ 40 - 1) (length (samples body))
      (is_too_many (nat_lt (2 ^ 40 - 1) (length (samples body))) (nat_lt 0 (torn_bytes body)) (torn_bytes body) e),
  λ many. ap (λ (b : Bool). if b then TooManySamples else (if nat_lt 0 (torn_bytes body) then TornEnd (torn_bytes body) else Sound))
      (lt-ltb (2 ^ 40 - 1) (length (samples body)) many),
)
