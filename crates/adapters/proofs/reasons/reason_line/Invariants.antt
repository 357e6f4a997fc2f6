use Rattle.std.proofs.Common.{◌≡◌, ◌++◌, map, take}
use Rattle.std.specs.Prelude.{codes}
use Rattle.adapters.specs.Reasons.{shown_byte}
use Rattle.adapters.proofs.reasons.reason_line.Given as goal

-- what is left of the name is not written yet
abbrev pub invariant-loop-byte : goal.invariant-loop-byte
invariant-loop-byte l = l.line.items ≡ codes "monitor: " ++ map shown_byte (take l.byte-index l.name)
