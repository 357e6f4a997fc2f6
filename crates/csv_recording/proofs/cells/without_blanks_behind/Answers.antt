use Rattle.std.proofs.Common.{◌∙◌, ◌≡◌, ◌-◌, get_or, length, true, false, sym, rules}
use Rattle.csv_recording.specs.Cells.{is_blank}
use Rattle.csv_recording.proofs.CellFacts.{without_blanks_behind-all, without_blanks_behind-last}
use Rattle.csv_recording.proofs.cells.without_blanks_behind.Goals as goal

pub blanks-preserved : goal.blanks-preserved
blanks-preserved c =
    let blank : is_blank (get_or c.blanks.rest.now (length c.blanks.rest.now - 1) 0) ≡ true = search rules in
    without_blanks_behind-last c.blanks.rest.now c.in-len1-up.len_at_least blank ∙ c.blanks.invariant

pub returns-then-not-is_blank : goal.returns-then-not-is_blank
returns-then-not-is_blank c =
    let plain : is_blank (get_or c.blanks.rest.now (length c.blanks.rest.now - 1) 0) ≡ false = search rules in
    sym (without_blanks_behind-all c.blanks.rest.now c.in-len1-up.len_at_least plain) ∙ c.blanks.invariant
