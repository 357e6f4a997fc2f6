-- What decoding answers.
--   all_of       a body and nothing after it
--   parts_in     the parts, or the first fault of the bytes: a field that does not fit, bytes after the body, rows out
--                of order
--   segment_in   the parts of a segment, or the first fault: of the bytes, or the first broken rule
--   IsBodyOf     the bytes are the body of a segment
--   NoPrefix     in one layout no body is a proper front of another
use Rattle.std.specs.Prelude.{◌≡◌, ◌==◌, ◌<◌, ◌^◌, if◌then◌else◌, ℕ, List, [], ◌++◌, length, Option, Some, None, Result, Ok, Err}
use Rattle.std.specs.Int.{w16, w32}
use Rattle.calibration.specs.Grid.{GridValue, IsGrid}
use Rattle.segment.specs.declared.segment_rules.rule.BrokenRule.{BrokenRule}
use Rattle.segment.specs.declared.segment_rules.rule.BrokenRule.TheVariants as rules
use Rattle.store_bytes.specs.declared.segment_bytes.fault.BytesFault.{BytesFault}
use Rattle.store_bytes.specs.declared.segment_bytes.fault.BytesFault.TheVariants.{Trailing, Order, Sum, Residue}
use Rattle.segment.specs.segment_rules.Parts.{PartsValue}
use Rattle.segment.specs.segment_rules.Rules.{AreSegmentParts}
use Rattle.segment.specs.segment_rules.Tests.{first_broken, order_broken}
use Rattle.store_bytes.specs.segment_bytes.Fields.{◌>>=◌, Reader, list_at}
use Rattle.store_bytes.specs.declared.segment_bytes.layout.Layout.{Layout}
use Rattle.store_bytes.specs.declared.segment_bytes.layout.Layout.TheVariants.{One, Two}
use Rattle.store_bytes.specs.segment_bytes.Rows.{wrong_row}
use Rattle.store_bytes.specs.segment_bytes.Grammar.{Body, parts_of_body, flat_body, cell_at, row_at, body_at, body_of}

abbrev pub fault_of : BrokenRule → BytesFault
fault_of (rules.Order list index) = Order list index
fault_of (rules.Sum rule) = Sum rule
fault_of (rules.Residue rule) = Residue rule

abbrev pub or_fault : Option BrokenRule → PartsValue → Result PartsValue BytesFault
or_fault None p = Ok p
or_fault (Some rule) p = Err (fault_of rule)

unfoldable pub all_of : {L : Type 0} → Reader L → List ℕ → Result (Body L) BytesFault
all_of list0 bytes =
    body_at list0 (length bytes) bytes >>= λ x. if length x.1 == 0 then Ok x.0 else Err (Trailing (length x.1))

-- the parts that fill the bytes; rows are in order
unfoldable pub parts_in : Layout → GridValue → List ℕ → Result PartsValue BytesFault
parts_in One g bytes = all_of (list_at w32 cell_at) bytes >>= λ x. Ok (parts_of_body x)
parts_in Two g bytes =
    all_of (list_at w16 row_at) bytes >>= λ x. or_fault (order_broken 0 (wrong_row 0 g.classes 0 x.1.1.0))
    (parts_of_body (flat_body x))

-- the parts that keep all rules, or the first fault
unfoldable pub segment_in : Layout → GridValue → List ℕ → Result PartsValue BytesFault
segment_in l g bytes = parts_in l g bytes >>= λ p. or_fault (first_broken g p) p

pub record IsBodyOf (l : Layout) (g : GridValue) (p : PartsValue) (bytes : List ℕ) : Type 0 where
  pub segment : AreSegmentParts g p
  pub gauge : p.name.gauge < 2 ^ 16
  pub bytes_are : bytes ≡ body_of l p

abbrev pub NoPrefix : Type 0
NoPrefix = (l : Layout) (g h : GridValue) (p q : PartsValue) (a more : List ℕ) → IsGrid g → IsGrid h → IsBodyOf l g p a
    → IsBodyOf l h q (a ++ more) → more ≡ []
