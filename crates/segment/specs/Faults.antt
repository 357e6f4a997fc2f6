-- What is told of a segment that is refused.
--   refusal_text   by a joint
--   load_text      of parts that are no segment's
use Rattle.std.specs.Prelude.{ℕ, List, ◌++◌, codes}
use Rattle.std.specs.Fmt.{decimal}
use Rattle.segment.specs.segment_rules.RuleText.{rule_text}
use Rattle.segment.specs.declared.segment_rules.rule.BrokenRule.TheVariants as rules
use Rattle.segment.specs.declared.segment.join.JoinRefusal.{JoinRefusal}
use Rattle.segment.specs.declared.segment.join.JoinRefusal.TheVariants.{OtherGauge, NotNext}
use Rattle.segment.specs.declared.fault.LoadFault.{LoadFault}
use Rattle.segment.specs.declared.fault.LoadFault.TheVariants.{Order, Sum, Residue, OutOfMemory}

abbrev pub refusal_text : JoinRefusal → List ℕ
refusal_text (OtherGauge left right) = codes "gauge " ++ decimal right ++ (codes " in place of " ++ decimal left)
refusal_text (NotNext to from) = codes "begins at sample " ++ decimal from ++ (codes " in place of " ++ decimal to)

-- A broken rule is told as such.
abbrev pub load_text : LoadFault → List ℕ
load_text (Order list index) = rule_text (rules.Order list index)
load_text (Sum rule) = rule_text (rules.Sum rule)
load_text (Residue rule) = rule_text (rules.Residue rule)
load_text OutOfMemory = codes "out of memory"
