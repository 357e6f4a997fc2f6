-- The body of a segment's parts: how it is written, and how it is read from left to right. What writes and reads list
-- 0, the cells, is a parameter of both, for the layouts differ in it alone.
--   Body        a body's numbers and lists, over what stands as list 0
--   body_of     the bytes of parts, in a layout
--   body_at     a body is read, with the first field that does not fit
--   Fits        each number of the parts fits its field
use Rattle.std.specs.Prelude.{◌<◌, ◌^◌, ◌++◌, ℕ, List, length}
use Rattle.std.specs.Int.{w16, w32, w64, to_be_bytes}
use Rattle.std.specs.List.{AllByRecursion}
use Rattle.tally.specs.declared.cells.Cell.{Cell}
use Rattle.tally.specs.declared.cells.Bin.{Bin}
use Rattle.turning_points.specs.EndPoints.{EndPoints}
use Rattle.segment.specs.segment_rules.Parts.{PartsValue}
use Rattle.store_bytes.specs.declared.segment_bytes.layout.Layout.{Layout}
use Rattle.store_bytes.specs.declared.segment_bytes.layout.Layout.TheVariants.{One, Two}
use Rattle.store_bytes.specs.segment_bytes.Rows.{RowValue, cells_of_rows, rows_of}
use Rattle.store_bytes.specs.segment_bytes.Fields.{Reader, number_at, both, seen_as, list_at, list_bytes}

-- ---- a body's numbers and lists

-- gauge, from, to, used, missing, refused
abbrev pub NameAndCounts : Type 0
NameAndCounts = ℕ × (ℕ × (ℕ × (ℕ × (ℕ × ℕ))))

-- the residue, list 0, crossings, peaks, valleys, ranges
abbrev pub Back : Type 0 → Type 0
Back L = List ℕ × (L × (List Bin × (List Bin × (List Bin × List Bin))))

abbrev pub Body : Type 0 → Type 0
Body L = (NameAndCounts × EndPoints) × Back L

abbrev pub name_and_counts_of : PartsValue → NameAndCounts
name_and_counts_of p = (p.name.gauge, (p.name.from, (p.name.to, (p.used, (p.missing, p.refused)))))

abbrev pub back_of : {L : Type 0} → L → PartsValue → Back L
back_of list0 p = (p.residue, (list0, (p.crossings, (p.peaks, (p.valleys, p.ranges)))))

abbrev pub with_list0 : {L : Type 0} → L → PartsValue → Body L
with_list0 list0 p = ((name_and_counts_of p, p.ends), back_of list0 p)

abbrev pub parts_of_body : Body (List Cell) → PartsValue
parts_of_body x = record {
  name = record { gauge = x.0.0.0; from = x.0.0.1.0; to = x.0.0.1.1.0 };
  used = x.0.0.1.1.1.0;
  missing = x.0.0.1.1.1.1.0;
  refused = x.0.0.1.1.1.1.1;
  ends = x.0.1;
  residue = x.1.0;
  cells = x.1.1.0;
  crossings = x.1.1.1.0;
  peaks = x.1.1.1.1.0;
  valleys = x.1.1.1.1.1.0;
  ranges = x.1.1.1.1.1.1;
}

-- the same with the cells of its rows
abbrev pub flat_body : Body (List RowValue) → Body (List Cell)
flat_body x = (x.0, (x.1.0, (cells_of_rows x.1.1.0, x.1.1.1)))

-- ---- how it is written

abbrev pub cell : Cell → List ℕ
cell c = to_be_bytes w16 c.lo ++ (to_be_bytes w16 c.hi ++ to_be_bytes w64 c.n)

abbrev pub bin : Bin → List ℕ
bin b = to_be_bytes w16 b.key ++ to_be_bytes w64 b.n

-- the cells of one lower level
abbrev pub row : RowValue → List ℕ
row r = to_be_bytes w16 r.lo ++ list_bytes w16 bin r.bins

abbrev pub ends : EndPoints → List ℕ
ends e = to_be_bytes w64 e.points ++ (to_be_bytes w16 e.first ++
    (to_be_bytes w16 e.second ++ (to_be_bytes w16 e.before ++ to_be_bytes w16 e.last)))

abbrev pub name_and_counts_bytes : NameAndCounts → List ℕ
name_and_counts_bytes x = to_be_bytes w16 x.0
    ++ (to_be_bytes w64 x.1.0 ++ (to_be_bytes w64 x.1.1.0 ++ (to_be_bytes w64 x.1.1.1.0
    ++ (to_be_bytes w64 x.1.1.1.1.0 ++ to_be_bytes w64 x.1.1.1.1.1))))

-- where list0 writes list 0
abbrev pub back : {L : Type 0} → (L → List ℕ) → Back L → List ℕ
back list0 x = list_bytes w16 (to_be_bytes w16) x.0
    ++ (list0 x.1.0 ++ (list_bytes w16 bin x.1.1.0 ++ (list_bytes w16 bin x.1.1.1.0
    ++ (list_bytes w16 bin x.1.1.1.1.0 ++ list_bytes w16 bin x.1.1.1.1.1))))

abbrev pub body_with : {L : Type 0} → (L → List ℕ) → Body L → List ℕ
body_with list0 x = (name_and_counts_bytes x.0.0 ++ ends x.0.1) ++ back list0 x.1

abbrev pub body_of : Layout → PartsValue → List ℕ
body_of One p = body_with (list_bytes w32 cell) (with_list0 p.cells p)
body_of Two p = body_with (list_bytes w16 row) (with_list0 (rows_of p.cells) p)

-- the cells of a body
abbrev pub list0 : Layout → PartsValue → List ℕ
list0 One p = list_bytes w32 cell p.cells
list0 Two p = list_bytes w16 row (rows_of p.cells)

-- ---- how it is read

abbrev pub cell_at : Reader Cell
cell_at = seen_as (λ x. record { lo = x.0; hi = x.1.0; n = x.1.1 })
    (both (number_at w16) (both (number_at w16) (number_at w64)))

abbrev pub bin_at : Reader Bin
bin_at = seen_as (λ x. record { key = x.0; n = x.1 }) (both (number_at w16) (number_at w64))

abbrev pub row_at : Reader RowValue
row_at = seen_as (λ x. record { lo = x.0; bins = x.1 }) (both (number_at w16) (list_at w16 bin_at))

unfoldable pub name_and_counts_at : Reader NameAndCounts
name_and_counts_at = both (number_at w16) (both (number_at w64) (both (number_at w64)
    (both (number_at w64) (both (number_at w64) (number_at w64)))))

unfoldable pub ends_at : Reader EndPoints
ends_at = seen_as (λ x. record { points = x.0; first = x.1.0; second = x.1.1.0; before = x.1.1.1.0; last = x.1.1.1.1 })
    (both (number_at w64) (both (number_at w16) (both (number_at w16) (both (number_at w16) (number_at w16)))))

unfoldable pub back_at : {L : Type 0} → Reader L → Reader (Back L)
back_at list0 = both (list_at w16 (number_at w16)) (both list0 (both (list_at w16 bin_at) (both (list_at w16 bin_at)
    (both (list_at w16 bin_at) (list_at w16 bin_at)))))

unfoldable pub body_at : {L : Type 0} → Reader L → Reader (Body L)
body_at list0 = both (both name_and_counts_at ends_at) (back_at list0)

-- ---- what has a body

abbrev pub FitsCell : Cell → Type 0
FitsCell c = (c.lo < 2 ^ 16) × ((c.hi < 2 ^ 16) × (c.n < 2 ^ 64))

abbrev pub FitsBin : Bin → Type 0
FitsBin b = (b.key < 2 ^ 16) × (b.n < 2 ^ 64)

abbrev pub FitsList : {A : Type 0} → ℕ → (A → Type 0) → List A → Type 0
FitsList limit F xs = (length xs < limit) × AllByRecursion F xs

abbrev pub FitsBins : List Bin → Type 0
FitsBins bins = FitsList (2 ^ 16) FitsBin bins

abbrev pub FitsNameAndCounts : NameAndCounts → Type 0
FitsNameAndCounts x = (x.0 < 2 ^ 16) × ((x.1.0 < 2 ^ 64) × ((x.1.1.0 < 2 ^ 64) ×
    ((x.1.1.1.0 < 2 ^ 64) × ((x.1.1.1.1.0 < 2 ^ 64) × (x.1.1.1.1.1 < 2 ^ 64)))))

abbrev pub FitsEnds : EndPoints → Type 0
FitsEnds e =
    (e.points < 2 ^ 64) × ((e.first < 2 ^ 16) × ((e.second < 2 ^ 16) × ((e.before < 2 ^ 16) × (e.last < 2 ^ 16))))

abbrev pub FitsBack : {L : Type 0} → (L → Type 0) → Back L → Type 0
FitsBack F x = FitsList (2 ^ 16) (λ n. n < 2 ^ 16) x.0 × (F x.1.0 ×
    (FitsBins x.1.1.0 × (FitsBins x.1.1.1.0 × (FitsBins x.1.1.1.1.0 × FitsBins x.1.1.1.1.1))))

abbrev pub FitsBody : {L : Type 0} → (L → Type 0) → Body L → Type 0
FitsBody F x = (FitsNameAndCounts x.0.0 × FitsEnds x.0.1) × FitsBack F x.1

abbrev pub FitsCells : List Cell → Type 0
FitsCells cells = FitsList (2 ^ 32) FitsCell cells

abbrev pub FitsRow : RowValue → Type 0
FitsRow r = (r.lo < 2 ^ 16) × FitsBins r.bins

abbrev pub FitsRows : List RowValue → Type 0
FitsRows rows = FitsList (2 ^ 16) FitsRow rows

abbrev pub Fits : Layout → PartsValue → Type 0
Fits One p = FitsBody FitsCells (with_list0 p.cells p)
Fits Two p = FitsBody FitsRows (with_list0 (rows_of p.cells) p)
