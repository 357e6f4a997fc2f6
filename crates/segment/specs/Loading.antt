-- What loading parts answers.
--   longest_of   the most samples of a segment that was loaded: those of its name, and one at least
--   Refuses      a fault is the first broken rule; of want of memory nothing is said
--   Loads        the segment over this grid with these parts, which keep all rules, or the first rule that they break
use Rattle.std.specs.Prelude.{◌≡◌, ◌-◌, ℕ, max, Option, Some, None, Result, Ok, Err}
use Rattle.calibration.specs.Grid.{GridValue}
use Rattle.segment.specs.declared.segment_rules.name.Name.{Name}
use Rattle.segment.specs.declared.segment_rules.rule.BrokenRule.{BrokenRule}
use Rattle.segment.specs.declared.segment_rules.rule.BrokenRule.TheVariants as rules
use Rattle.segment.specs.segment_rules.Parts.{PartsValue}
use Rattle.segment.specs.segment_rules.Tests.{first_broken}
use Rattle.segment.specs.declared.fault.LoadFault.{LoadFault}
use Rattle.segment.specs.declared.fault.LoadFault.TheVariants.{Order, Sum, Residue, OutOfMemory}
use Rattle.segment.specs.Segment.{SegmentValue}
use Rattle.segment.specs.Parts.{parts_of}

abbrev pub longest_of : Name → ℕ
longest_of name = max (name.to - name.from) 1

abbrev pub fault_of : BrokenRule → LoadFault
fault_of (rules.Order list index) = Order list index
fault_of (rules.Sum rule) = Sum rule
fault_of (rules.Residue rule) = Residue rule

abbrev pub Refuses : LoadFault → Option BrokenRule → Type 0
Refuses (Order list index) broken = broken ≡ Some (rules.Order list index)
Refuses (Sum rule) broken = broken ≡ Some (rules.Sum rule)
Refuses (Residue rule) broken = broken ≡ Some (rules.Residue rule)
Refuses OutOfMemory broken = Unit {0}

abbrev pub Loads : GridValue → PartsValue → Result SegmentValue LoadFault → Type 0
Loads g p (Ok s) = (s.grid ≡ g) × (parts_of s ≡ p) × (s.longest ≡ longest_of p.name) × (first_broken g p ≡ None)
Loads g p (Err fault) = Refuses fault (first_broken g p)
