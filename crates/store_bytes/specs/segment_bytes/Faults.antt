-- What is told of bytes that are no body.
use Rattle.std.specs.Prelude.{ℕ, List, ◌++◌, codes}
use Rattle.std.specs.Fmt.{decimal}
use Rattle.segment.specs.segment_rules.RuleText.{rule_text}
use Rattle.segment.specs.declared.segment_rules.rule.BrokenRule.TheVariants as rules
use Rattle.store_bytes.specs.declared.segment_bytes.fault.BytesFault.{BytesFault}
use Rattle.store_bytes.specs.declared.segment_bytes.fault.BytesFault.TheVariants.{Short, Trailing, Order, Sum, Residue, OutOfMemory}

-- A broken rule is told as such.
abbrev pub bytes_text : BytesFault → List ℕ
bytes_text (Short need have) = codes "ends after " ++ decimal have ++ (codes " of " ++ decimal need ++ codes " bytes")
bytes_text (Trailing rest) = decimal rest ++ codes " bytes behind the body"
bytes_text (Order list index) = rule_text (rules.Order list index)
bytes_text (Sum rule) = rule_text (rules.Sum rule)
bytes_text (Residue rule) = rule_text (rules.Residue rule)
bytes_text OutOfMemory = codes "out of memory"
