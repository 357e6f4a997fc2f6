-- What is told of a rule that is broken.
--   list_text   a list, by its number
--   rule_text   the rule, and where an entry is out of order, which
use Rattle.std.specs.Prelude.{ℕ, List, ◌++◌, ◌==◌, if◌then◌else◌, codes}
use Rattle.std.specs.Fmt.{decimal}
use Rattle.segment.specs.declared.segment_rules.rule.BrokenRule.{BrokenRule}
use Rattle.segment.specs.declared.segment_rules.rule.BrokenRule.TheVariants.{Order, Sum, Residue}

unfoldable pub list_text : ℕ → List ℕ
list_text list =
    if list == 0 then codes "cells" else
    if list == 1 then codes "crossings" else
    if list == 2 then codes "peaks" else
    if list == 3 then codes "valleys" else codes "ranges"

abbrev pub rule_text : BrokenRule → List ℕ
rule_text (Order list index) =
    codes "entry " ++ decimal index ++ codes " of the " ++ list_text list ++ codes " is out of order"
rule_text (Sum rule) = codes "sum rule " ++ decimal rule ++ codes " is broken"
rule_text (Residue rule) = codes "residue rule " ++ decimal rule ++ codes " is broken"
