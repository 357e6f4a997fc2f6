-- How long a body is.
--   max_body       the longest body over so many classes
--   max_body_of    the longest body of so many samples
--   list0_length   the length of its list 0
--   body_length    the length of a body, by its lists
use Rattle.std.specs.Prelude.{ℕ, ◌+◌, ◌*◌, length}
use Rattle.store_bytes.specs.declared.segment_bytes.layout.Layout.{Layout}
use Rattle.store_bytes.specs.declared.segment_bytes.layout.Layout.TheVariants.{One, Two}
use Rattle.store_bytes.specs.segment_bytes.Rows.{rows_of}
use Rattle.segment.specs.segment_rules.Parts.{PartsValue}

abbrev pub max_body : Layout → ℕ → ℕ
max_body One classes = 6 * (classes * classes) + 28 * classes + 50
max_body Two classes = 5 * (classes * classes) + 33 * classes + 44

-- in either layout
abbrev pub max_body_of : ℕ → ℕ → ℕ
max_body_of classes samples = 72 + 27 * samples + 10 * classes

-- of its cells
abbrev pub list0_length : Layout → PartsValue → ℕ
list0_length One p = 4 + 12 * length p.cells
list0_length Two p = 2 + (4 * length (rows_of p.cells) + 10 * length p.cells)

abbrev pub body_length : Layout → PartsValue → ℕ
body_length One p = 72 + 2 * length p.residue + 12 * length p.cells
    + 10 * (length p.crossings + (length p.peaks + length p.valleys) + length p.ranges)
body_length Two p = 70 + 2 * length p.residue + (4 * length (rows_of p.cells) + 10 * length p.cells)
    + 10 * (length p.crossings + (length p.peaks + length p.valleys) + length p.ranges)
