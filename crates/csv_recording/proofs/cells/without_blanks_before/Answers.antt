use Rattle.std.proofs.Common.{◌∙◌, ◌≡◌, get_or, true, false, sym, rules}
use Rattle.csv_recording.specs.Cells.{is_blank}
use Rattle.csv_recording.proofs.CellFacts.{without_blanks_before-blank, without_blanks_before-empty, without_blanks_before-plain}
use Rattle.csv_recording.proofs.cells.without_blanks_before.Goals as goal

pub blanks-preserved : goal.blanks-preserved
blanks-preserved c =
    let blank : is_blank (get_or c.blanks.rest.now 0 0) ≡ true = search rules in
    without_blanks_before-blank c.blanks.rest.now c.in-len1-up.len_at_least blank ∙ c.blanks.invariant

pub returns-in_default : goal.returns-in_default
returns-in_default c = sym (without_blanks_before-empty c.blanks.rest.now c.in_default.len_below) ∙ c.blanks.invariant

pub returns-then-not-is_blank : goal.returns-then-not-is_blank
returns-then-not-is_blank c =
    let plain : is_blank (get_or c.blanks.rest.now 0 0) ≡ false = search rules in
    sym (without_blanks_before-plain c.blanks.rest.now c.in-len1-up.len_at_least plain) ∙ c.blanks.invariant
