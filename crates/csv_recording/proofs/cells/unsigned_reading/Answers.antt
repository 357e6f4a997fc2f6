use Rattle.std.proofs.Common.{◌≡◌, ◌<◌, ◌*◌, ◌+◌, ◌∙◌, ◌-◌, get_or, pos, option_map, true, rules, arith, sym, ap}
use Rattle.std.specs.Prelude.{nat_lt}
use Rattle.std.specs.Char.{digit_value}
use Rattle.csv_recording.proofs.CellFacts.{magnitude_after-first_great, magnitude-short}
use Rattle.csv_recording.proofs.cells.unsigned_reading.Goals as goal

pub returns-then-value-gt-MAX_MAGNITUDE-clause-value : goal.returns-then-value-gt-MAX_MAGNITUDE-clause-value
returns-then-value-gt-MAX_MAGNITUDE-clause-value c =
    let digits = c.args.digits.now in
    let i = c.loop-digit.digit-index in
    let n = c.loop-digit.value in
    let d = get_or digits i 0 in
    let digit : nat_lt (digit_value d) 10 ≡ true = search rules in
    let great : 2147483647 < n * 10 + (d - 48) = search rules in
    let none = magnitude_after-first_great n digits i c.loop-digit-test.true digit great in
    ap (option_map pos) (sym none ∙ c.loop-digit.invariant.1 ∙ sym (magnitude-short digits (omega arith) (omega arith)))
