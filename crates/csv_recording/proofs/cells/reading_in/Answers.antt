use Rattle.std.proofs.Common.{◌≡◌, ◌≢◌, ◌≤◌, ◌∙◌, ◌-◌, ◌-ℤ◌, FitsSigned, Some, drop, take, get_or, length, neg_ℤ, of_z, pos, to_z, w32, rules, arith, sym, ap}
use Rattle.csv_recording.proofs.CellFacts.{negated-none, negated-some, reading_in-empty, reading_in-minus, reading_in-plain, reading_in-plus, to_z-negated}
use Rattle.csv_recording.specs.Cells.{magnitude}
use Rattle.csv_recording.proofs.cells.reading_in.Goals as goal

pub returns-in_default : goal.returns-in_default
returns-in_default c = sym (reading_in-empty c.args.text.now c.in_default.len_below)

pub returns-in_err-unsigned_reading : goal.returns-in_err-unsigned_reading
returns-in_err-unsigned_reading c =
    let text = c.args.text.now in
    let some : 1 ≤ length text = omega arith in
    let minus : get_or text 0 0 ≡ 45 = search rules in
    let none = negated-none (magnitude (take (length text - 1) (drop 1 text))) (sym c.unsigned_reading.ensures.value
    ∙ c.in_err-unsigned_reading.was) in
    c.from_residual.ensures ∙ sym (reading_in-minus text some minus ∙ none)

pub returns-then-first-eq45 : goal.returns-then-first-eq45
returns-then-first-eq45 c =
    let text = c.args.text.now in
    let z = c.in_ok-unsigned_reading.field-0 in
    let some : 1 ≤ length text = omega arith in
    let minus : get_or text 0 0 ≡ 45 = search rules in
    let read = negated-some (magnitude (take (length text - 1) (drop 1 text))) z (sym c.unsigned_reading.ensures.value
    ∙ c.in_ok-unsigned_reading.was) in
    let fits : FitsSigned w32 z = search rules in
    let negated : to_z w32 (of_z w32 (pos 0 -ℤ to_z w32 (of_z w32 z))) ≡ neg_ℤ z = to_z-negated z fits (search rules) in
    ap Some negated ∙ sym (reading_in-minus text some minus ∙ read)

pub returns-then-first-eq43 : goal.returns-then-first-eq43
returns-then-first-eq43 c =
    let text = c.args.text.now in
    let some : 1 ≤ length text = omega arith in
    let plus : get_or text 0 0 ≡ 43 = search rules in
    c.unsigned_reading-then-first-eq43.ensures.value ∙ sym (reading_in-plus text some plus)

pub returns : goal.returns
returns c =
    let text = c.args.text.now in
    let some : 1 ≤ length text = omega arith in
    let other_45 : get_or text 0 0 ≢ 45 = search rules in
    let other_43 : get_or text 0 0 ≢ 43 = search rules in
    c.unsigned_reading-2.ensures.value ∙ sym (reading_in-plain text some other_45 other_43)
