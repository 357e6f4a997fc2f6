-- How long bodies are, and that the numbers of a segment fit their fields.
use Rattle.std.proofs.Common.{◌≡◌, ◌⊎◌, inl, inr, ℕ, ◌+◌, ◌-◌, ◌*◌, ◌^◌, ◌<◌, ◌≤◌, List, [], ◌∷◌, ◌++◌, length, map, slice_index, refl, sym, ap, subst, arith, length-append}
use Rattle.std.specs.Prelude.{All}
use Rattle.std.specs.Int.{w16, w32, to_be_bytes}
use Rattle.std.specs.List.{flat_map, AllByRecursion}
use Rattle.std.proofs.lemmas.Bool.{cases_lt}
use Rattle.std.proofs.lemmas.Nat.{mul-le}
use Rattle.std.proofs.lemmas.List.{get_or_past, length-map}
use Rattle.std.proofs.lemmas.List.Sums.{sum_by-cons}
use Rattle.std.proofs.lemmas.List.Concat.{flat_map-cons}
use Rattle.std.proofs.lemmas.List.Elements.{All-head, All-tail}
use Rattle.tally.specs.declared.cells.Cell.{Cell}
use Rattle.tally.specs.declared.cells.Bin.{Bin}
use Rattle.tally.specs.Counts.{total_of}
use Rattle.calibration.specs.Grid.{GridValue, IsGrid}
use Rattle.calibration.specs.declared.grid.TheConstants.{MAX_CLASSES}
use Rattle.turning_points.specs.EndPoints.{EndPoints}
use Rattle.lemmas.proofs.Naturals.{few_cases}
use Rattle.tally.specs.tables.Bins.{AreBinsFrom, sum_of}
use Rattle.segment.specs.segment_rules.Parts.{PartsValue}
use Rattle.segment.specs.segment_rules.Rules.{EndsAgree, AreSegmentParts}
use Rattle.segment.proofs.on_segment_rules.CellsFrom.{AreCellsFrom, cells_in_order}
use Rattle.segment.proofs.on_segment_rules.Sizes.{IsSmall, is_small, bins_few}
use Rattle.store_bytes.specs.declared.segment_bytes.layout.Layout.{Layout}
use Rattle.store_bytes.specs.declared.segment_bytes.layout.Layout.TheVariants.{One, Two}
use Rattle.store_bytes.specs.segment_bytes.Rows.{RowValue, AreRowsFrom, cell_in, row_cells, cells_of_rows, rows_of}
use Rattle.store_bytes.specs.segment_bytes.Fields.{list_bytes}
use Rattle.store_bytes.specs.segment_bytes.Grammar.{cell, bin, row, name_and_counts_bytes, ends, back, name_and_counts_of, back_of, with_list0, body_of, list0, FitsCell, FitsBin, FitsRow, FitsBins, FitsCells, FitsRows, FitsEnds, FitsBody, Fits}
use Rattle.store_bytes.proofs.on_segment_bytes.Rows.{cells_again, rows_are, rows_few, rows_sum}
use Rattle.store_bytes.specs.segment_bytes.Sizes.{max_body, max_body_of, body_length}

-- ---- lengths

levels_long : (l : List ℕ) → length (flat_map (to_be_bytes w16) l) ≡ 2 * length l
levels_long [] = refl
levels_long (x ∷ l) = omega (
  arith,
  ap length (flat_map-cons (to_be_bytes w16) x l),
  length-append (to_be_bytes w16 x)
      (flat_map (to_be_bytes w16) l),
  levels_long l,
)

pub cells_long : (l : List Cell) → length (flat_map cell l) ≡ 12 * length l
cells_long [] = refl
cells_long (x ∷ l) = omega (arith, ap length (flat_map-cons cell x l), length-append (cell x) (flat_map cell l), cells_long l)

pub bins_long : (l : List Bin) → length (flat_map bin l) ≡ 10 * length l
bins_long [] = refl
bins_long (x ∷ l) = omega (arith, ap length (flat_map-cons bin x l), length-append (bin x) (flat_map bin l), bins_long l)

listed16 : (n : ℕ) (l : List ℕ) → length (to_be_bytes w16 n ++ l) ≡ 2 + length l
listed16 n l = length-append (to_be_bytes w16 n) l

listed32 : (n : ℕ) (l : List ℕ) → length (to_be_bytes w32 n ++ l) ≡ 4 + length l
listed32 n l = length-append (to_be_bytes w32 n) l

pub rows_long : (l : List RowValue) → length (flat_map row l) ≡ 4 * length l + 10 * length (cells_of_rows l)
rows_long [] = refl
rows_long (r ∷ l) =
    omega (
      arith,
      ap length (flat_map-cons row r l),
      length-append (row r) (flat_map row l),
      rows_long l,
      length-append (to_be_bytes w16 r.lo) (list_bytes w16 bin r.bins),
      listed16 (length r.bins) (flat_map bin r.bins),
      bins_long r.bins,
      length-append (row_cells r) (cells_of_rows l),
      length-map r.bins (cell_in r.lo),
    )

-- one row, and those behind it
pub row_long : (r : RowValue) (l : List RowValue) → length (flat_map row (r ∷ l)) ≡ 4 + 10 * length r.bins + length (flat_map row l)
row_long r l =
    omega (
      arith,
      ap length (flat_map-cons row r l),
      length-append (row r) (flat_map row l),
      length-append (to_be_bytes w16 r.lo) (list_bytes w16 bin r.bins),
      listed16 (length r.bins) (flat_map bin r.bins),
      bins_long r.bins,
    )

-- a body, in the order of its writing
pub body_is : (l : Layout) (p : PartsValue) → body_of l p ≡ (name_and_counts_bytes (name_and_counts_of p) ++ ends p.ends) ++
    (list_bytes w16 (to_be_bytes w16) p.residue ++ (list0 l p ++
    (list_bytes w16 bin p.crossings ++ (list_bytes w16 bin p.peaks ++ (list_bytes w16 bin p.valleys ++ list_bytes w16 bin p.ranges)))))
body_is One p = refl
body_is Two p = refl

back_long : {L : Type 0} (list0 : L → List ℕ) (x : L) (p : PartsValue)
    → length (back list0 (back_of x p)) ≡ 10 + length (list0 x) + 2 * length p.residue + 10 *
    (length p.crossings + (length p.peaks + length p.valleys) + length p.ranges)
back_long list0 z p =
    let r = list_bytes w16 (to_be_bytes w16) p.residue in
    let c = list0 z in
    let x = list_bytes w16 bin p.crossings in
    let y = list_bytes w16 bin p.peaks in
    let v = list_bytes w16 bin p.valleys in
    let k = list_bytes w16 bin p.ranges in
    omega (
      arith,
      length-append r (c ++ (x ++ (y ++ (v ++ k)))),
      length-append c (x ++ (y ++ (v ++ k))),
      length-append x (y ++ (v ++ k)),
      length-append y (v ++ k),
      length-append v k,
      listed16 (length p.residue) (flat_map (to_be_bytes w16) p.residue),
      levels_long p.residue,
      listed16 (length p.crossings) (flat_map bin p.crossings),
      bins_long p.crossings,
      listed16 (length p.peaks) (flat_map bin p.peaks),
      bins_long p.peaks,
      listed16 (length p.valleys) (flat_map bin p.valleys),
      bins_long p.valleys,
      listed16 (length p.ranges) (flat_map bin p.ranges),
      bins_long p.ranges,
    )

pub body_long : (l : Layout) (p : PartsValue) → length (body_of l p) ≡ body_length l p
body_long One p =
    omega (
      arith,
      length-append (name_and_counts_bytes (name_and_counts_of p) ++ ends p.ends) (back (list_bytes w32 cell) (back_of p.cells p)),
      back_long (list_bytes w32 cell) p.cells p,
      listed32 (length p.cells) (flat_map cell p.cells),
      cells_long p.cells,
    )
body_long Two p =
    omega (
      arith,
      length-append (name_and_counts_bytes (name_and_counts_of p) ++ ends p.ends) (back (list_bytes w16 row) (back_of (rows_of p.cells) p)),
      back_long (list_bytes w16 row) (rows_of p.cells) p,
      listed16 (length (rows_of p.cells)) (flat_map row (rows_of p.cells)),
      rows_long (rows_of p.cells),
      ap length (cells_again p.cells),
    )

pub body_small : (l : Layout) (classes samples : ℕ) (p : PartsValue) → 2 ≤ classes → length (rows_of p.cells) ≤ classes - 1
    → IsSmall classes samples p → (body_length l p ≤ max_body l classes) × (body_length l p ≤ max_body_of classes samples)
body_small One classes samples p two rows s = (
  omega (arith, two, s.residue, s.cells, s.crossings, s.extremes, s.ranges),
  omega (arith, two, s.crossings, s.points, s.inner, s.sides),
)
body_small Two classes samples p two rows s = (
  omega (arith, two, rows, s.residue, s.cells, s.crossings, s.extremes, s.ranges),
  omega (arith, two, rows_sum p.cells, s.crossings, s.points, s.inner, s.sides),
)

pub rows_within : (g : GridValue) (p : PartsValue) → AreSegmentParts g p → length (rows_of p.cells) ≤ g.classes - 1
rows_within g p s = let n = rows_few 0 g.classes (rows_of p.cells)
    (rows_are g.classes p.cells (cells_in_order g.classes p.cells s.ordered.cells)) in omega (arith, n)

pub segment_small : (l : Layout) (g : GridValue) (p : PartsValue) → IsGrid g → AreSegmentParts g p
    → (length (body_of l p) ≤ max_body l g.classes) × (length (body_of l p) ≤ max_body_of g.classes (p.name.to - p.name.from))
segment_small l g p grid s =
    let f = grid.classes_from in
    let to = grid.reference_to in
    let small = is_small g p (omega (arith, f)) (omega (arith, to)) s in
    let b = body_small l g.classes (p.name.to - p.name.from) p f (rows_within g p s) small in
    (omega (arith, body_long l p, b.0), omega (arith, body_long l p, b.1))

-- ---- numbers fit

cells_fit : (lo hi k : ℕ) (cs : List Cell) → k ≤ MAX_CLASSES → total_of cs < 2 ^ 64 → AreCellsFrom lo hi k cs → AllByRecursion FitsCell cs
cells_fit lo hi k [] b t a = tt
cells_fit lo hi k (c ∷ cs) b t a = let e = sum_by-cons (λ c. c.n) c cs in (
  (omega (arith, a.1.ordered, a.1.within, b), (omega (arith, a.1.within, b), omega (arith, t, e))),
  cells_fit c.lo (c.hi + 1) k cs b (omega (arith, t, e)) a.2,
)

bins_fit : (from to : ℕ) (bs : List Bin) → to ≤ MAX_CLASSES → sum_of bs < 2 ^ 64 → AreBinsFrom from to bs → AllByRecursion FitsBin bs
bins_fit from to [] b t a = tt
bins_fit from to (x ∷ bs) b t a = let e = sum_by-cons (λ b. b.n) x bs in
    ((omega (arith, a.1, b), omega (arith, t, e)), bins_fit (x.key + 1) to bs b (omega (arith, t, e)) a.3)

crossed_fit : (from to u : ℕ) (bs : List Bin) → to ≤ MAX_CLASSES → u < 2 ^ 64 → All (λ b. b.n < u) bs → AreBinsFrom from to bs
    → AllByRecursion FitsBin bs
crossed_fit from to u [] b t h a = tt
crossed_fit from to u (x ∷ bs) b t h a = let n = All-head (λ b. b.n < u) x bs h in
    ((omega (arith, a.1, b), omega (arith, t, n)), crossed_fit (x.key + 1) to u bs b t (All-tail (λ b. b.n < u) x bs h) a.3)

levels_fit : (k : ℕ) (l : List ℕ) → k ≤ MAX_CLASSES → All (λ x. x < k) l → AllByRecursion (λ n. n < 2 ^ 16) l
levels_fit k [] b a = tt
levels_fit k (x ∷ l) b a = let h = All-head (λ x. x < k) x l a in (omega (arith, h, b), levels_fit k l b (All-tail (λ x. x < k) x l a))

level_fits : (k : ℕ) (l : List ℕ) (i : ℕ) → k ≤ MAX_CLASSES → All (λ x. x < k) l → (slice_index l i) < 2 ^ 16
level_fits k l i b a = by (cases_lt i (length l))
  where
    by : ((i < length l) ⊎ (length l ≤ i)) → (slice_index l i) < 2 ^ 16
    by (inl lt) = let h = a i 0 lt in omega (arith, h, b)
    by (inr le) = let h = get_or_past l i 0 le in omega (arith, h)

ends_fit : (k : ℕ) (e : EndPoints) (l : List ℕ) → k ≤ MAX_CLASSES → e.points < 2 ^ 64 → All (λ x. x < k) l → EndsAgree k e l → FitsEnds e
ends_fit k e l b few a i = by (few_cases e.points)
  where
    by : ((e.points ≡ 0) ⊎ ((e.points ≡ 1) ⊎ (2 ≤ e.points))) → FitsEnds e
    by (inl z) =
        let is = i.none z in (
          few,
          (
            omega (arith, ap (λ (v : EndPoints). v.first) is),
            (
              omega (arith, ap (λ (v : EndPoints). v.second) is),
              (omega (arith, ap (λ (v : EndPoints). v.before) is), omega (arith, ap (λ (v : EndPoints). v.last) is)),
            ),
          ),
        )
    by (inr (inl o)) =
        let is = i.one o in
        let h = level_fits k l 0 b a in (
          few,
          (
            omega (arith, h, ap (λ (v : EndPoints). v.first) is),
            (
              omega (arith, ap (λ (v : EndPoints). v.second) is),
              (omega (arith, ap (λ (v : EndPoints). v.before) is), omega (arith, h, ap (λ (v : EndPoints). v.last) is)),
            ),
          ),
        )
    by (inr (inr m)) =
        let is = i.more m in
        let h = level_fits k l 0 b a in
        let g = level_fits k l (length l - 1) b a in (
          few,
          (
            omega (arith, h, is.first_is),
            (
              omega (arith, b, is.second_below),
              (omega (arith, b, is.before_below), omega (arith, g, is.last_is)),
            ),
          ),
        )

row_fits : (from to : ℕ) (bs : List Bin) → to ≤ MAX_CLASSES → AllByRecursion (λ b. b.n < 2 ^ 64) bs → AreBinsFrom from to bs → FitsBins bs
row_fits from to bs b t a = let few = bins_few from to bs a in (omega (arith, few, b), each from bs t a)
  where
    each : (from : ℕ) (bs : List Bin) → AllByRecursion (λ b. b.n < 2 ^ 64) bs → AreBinsFrom from to bs → AllByRecursion FitsBin bs
    each from [] t a = tt
    each from (x ∷ bs) t a = ((omega (arith, a.1, b), t.0), each (x.key + 1) bs t.1 a.3)

rows_fit : (from to : ℕ) (rs : List RowValue) → to ≤ MAX_CLASSES → AllByRecursion (λ c. c.n < 2 ^ 64) (cells_of_rows rs)
    → AreRowsFrom from to rs
    → AllByRecursion FitsRow rs
rows_fit from to [] b t a = tt
rows_fit from to (r ∷ rs) b t a =
    let h = halves r.bins t in
    let low = below r.bins a.1 a.2 in
    ((omega (arith, low, b), row_fits (r.lo + 1) to r.bins b h.0 a.2), rows_fit (r.lo + 1) to rs b h.1 a.3)
  where
    halves : (l : List Bin) → AllByRecursion (λ c. c.n < 2 ^ 64) (map (cell_in r.lo) l ++ cells_of_rows rs)
        → AllByRecursion (λ b. b.n < 2 ^ 64) l × AllByRecursion (λ c. c.n < 2 ^ 64) (cells_of_rows rs)
    halves [] t = (tt, t)
    halves (x ∷ l) t = let h = halves l t.1 in ((t.0, h.0), h.1)

    below : (l : List Bin) → 0 < length l → AreBinsFrom (r.lo + 1) to l → r.lo < to
    below [] some a = absurd (omega (arith, some))
    below (x ∷ l) some a = omega (arith, a.0, a.1)

counts_fit : (cs : List Cell) → total_of cs < 2 ^ 64 → AllByRecursion (λ c. c.n < 2 ^ 64) cs
counts_fit [] t = tt
counts_fit (c ∷ cs) t = let e = sum_by-cons (λ c. c.n) c cs in (omega (arith, t, e), counts_fit cs (omega (arith, t, e)))

square_le : (a b : ℕ) → a ≤ b → a * a ≤ b * b
square_le a b h = mul-le a a b b h h

-- all but list 0
back_fits : {L : Type 0} (F : L → Type 0) (x : L) (g : GridValue) (p : PartsValue) → IsGrid g → p.name.gauge < 2 ^ 16 → AreSegmentParts g p
    → F x → FitsBody F (with_list0 x p)
back_fits F x g p grid gauge s fits =
    let t = s.summed in
    let k = grid.classes_to in
    let from = grid.classes_from in
    let inside : g.reference ≤ g.classes = omega (arith, grid.reference_to) in
    let small = is_small g p (omega (arith, from)) inside s in
    let to : p.name.to < 2 ^ 64 = omega (arith, t.span.1) in
    let used : p.used < 2 ^ 64 = omega (arith, to, t.readings) in
    let points : p.ends.points < 2 ^ 64 = omega (arith, used, t.points) in (
      (
        (gauge, (omega (arith, to, t.span.0), (to, (used, (omega (arith, to, t.readings), omega (arith, to, t.readings)))))),
        ends_fit g.classes p.ends p.residue k points s.residue.within s.ended,
      ),
      (
        (omega (arith, small.residue, k), levels_fit g.classes p.residue k s.residue.within),
        (
          fits,
          (
            (omega (arith, small.crossings, k), crossed_fit 1 g.classes p.used p.crossings k used t.crossings s.ordered.crossings),
            (
              (
                omega (arith, small.extremes, k),
                bins_fit g.reference g.classes p.peaks k
                    (omega (arith, points, t.extremes)) s.ordered.peaks,
              ),
              (
                (
                  omega (arith, small.extremes, k),
                  bins_fit 0 g.reference p.valleys (omega (arith, inside, k))
                      (omega (arith, points, t.extremes)) s.ordered.valleys,
                ),
                (omega (arith, small.ranges, k), bins_fit 1 g.classes p.ranges k (omega (arith, points, t.ranges)) s.ordered.ranges),
              ),
            ),
          ),
        ),
      ),
    )

cells_total : (g : GridValue) (p : PartsValue) → AreSegmentParts g p → total_of p.cells < 2 ^ 64
cells_total g p s = let t = s.summed in omega (arith, t.span.1, t.readings, t.points, t.cycles)

pub segment_fits : (l : Layout) (g : GridValue) (p : PartsValue) → IsGrid g → p.name.gauge < 2 ^ 16 → AreSegmentParts g p → Fits l p
segment_fits One g p grid gauge s =
    let small = is_small g p (omega (arith, grid.classes_from)) (omega (arith, grid.reference_to)) s in
    back_fits FitsCells p.cells g p grid gauge s (
      omega (arith, small.cells, square_le g.classes MAX_CLASSES grid.classes_to),
      cells_fit 0 0 g.classes p.cells grid.classes_to (cells_total g p s) (cells_in_order g.classes p.cells s.ordered.cells),
    )
segment_fits Two g p grid gauge s =
    let rows = rows_are g.classes p.cells (cells_in_order g.classes p.cells s.ordered.cells) in
    back_fits FitsRows (rows_of p.cells) g p grid gauge s (
      omega (arith, rows_within g p s, grid.classes_to),
      rows_fit 0 g.classes (rows_of p.cells) grid.classes_to
          (subst (AllByRecursion (λ c. c.n < 2 ^ 64)) (sym (cells_again p.cells)) (counts_fit p.cells (cells_total g p s))) rows,
    )

-- what writing needs
pub record IsReady (l : Layout) (g : GridValue) (p : PartsValue) : Type 0 where
  pub bound : body_length l p ≤ max_body l g.classes
  pub by_samples : body_length l p ≤ max_body_of g.classes (p.name.to - p.name.from)
  pub long : length (body_of l p) ≡ body_length l p
  pub fits : Fits l p

pub ready : (l : Layout) (g : GridValue) (p : PartsValue) → IsGrid g → p.name.gauge < 2 ^ 16 → AreSegmentParts g p → IsReady l g p
ready l g p grid gauge s =
    let b = segment_small l g p grid s in
    let n = body_long l p in
    record { bound = omega (arith, b.0, n); by_samples = omega (arith, b.1, n); long = n; fits = segment_fits l g p grid gauge s }
