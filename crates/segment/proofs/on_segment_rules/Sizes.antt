-- How many entries the lists of a segment have, and how large its numbers are.
use Rattle.std.proofs.Common.{◌≡◌, ◌⊎◌, inl, inr, ℕ, zero, suc, ◌+◌, ◌-◌, ◌*◌, ◌<◌, ◌≤◌, List, [], ◌∷◌, length, max, refl, sym, ap, mul-suc, arith}
use Rattle.std.proofs.lemmas.List.Sums.{sum_by-cons}
use Rattle.tally.specs.declared.cells.Cell.{Cell}
use Rattle.tally.specs.declared.cells.Bin.{Bin}
use Rattle.tally.specs.Counts.{total_of}
use Rattle.tally.specs.tables.Bins.{AreBinsFrom, sum_of}
use Rattle.calibration.specs.Grid.{GridValue}
use Rattle.four_point.proofs.Index.{residue_bound}
use Rattle.segment.specs.segment_rules.Parts.{PartsValue}
use Rattle.segment.specs.segment_rules.Rules.{AreSegmentParts}
use Rattle.segment.proofs.on_segment_rules.CellsFrom.{IsFrom, AreCellsFrom, cells_in_order}

-- ---- entries

pub bins_few : (from to : ℕ) (bs : List Bin) → AreBinsFrom from to bs → length bs ≤ to - from
bins_few from to [] a = omega arith
bins_few from to (b ∷ bs) a = let n = bins_few (b.key + 1) to bs a.3 in omega (arith, n, a.0, a.1)

-- none counts nothing
pub bins_count : (from to : ℕ) (bs : List Bin) → AreBinsFrom from to bs → length bs ≤ sum_of bs
bins_count from to [] a = omega arith
bins_count from to (b ∷ bs) a = let n = bins_count (b.key + 1) to bs a.3 in omega (arith, n, a.2, sum_by-cons (λ b. b.n) b bs)

pub cells_count : (lo hi k : ℕ) (cs : List Cell) → AreCellsFrom lo hi k cs → length cs ≤ total_of cs
cells_count lo hi k [] a = omega arith
cells_count lo hi k (c ∷ cs) a = let n = cells_count c.lo (c.hi + 1) k cs a.2 in omega (arith, n, a.1.positive, sum_by-cons (λ c. c.n) c cs)

-- how many pairs n levels have
abbrev pub pairs : ℕ → ℕ
pairs zero = 0
pairs (suc n) = n + pairs n

pairs_grow : (m n : ℕ) → m < n → m + pairs m ≤ pairs n
pairs_grow m zero h = absurd (omega arith)
pairs_grow m (suc n) h = grown m n (λ lt. pairs_grow m n lt) (cases m n h)
  where
    cases : (m n : ℕ) → m < suc n → (m ≡ n) ⊎ (m < n)
    cases m n h = grind arith

    grown : (m n : ℕ) → (m < n → m + pairs m ≤ pairs n) → ((m ≡ n) ⊎ (m < n)) → m + pairs m ≤ n + pairs n
    grown m n f (inl e) = omega (arith, e, ap pairs e)
    grown m n f (inr lt) = omega (arith, f lt)

pub pairs_double : (n : ℕ) → 2 * pairs n + n ≡ n * n
pairs_double zero = refl
pairs_double (suc n) = let e = pairs_double n in let f = mul-suc n n in omega (arith, e, f)

cells_step : (k lo hi : ℕ) (c : Cell) (m : ℕ) → IsFrom lo hi c → c.lo < c.hi → c.hi < k
    → m ≤ (k - max (c.hi + 1) (c.lo + 1)) + pairs (k - 1 - c.lo)
    → suc m ≤ (k - max hi (lo + 1)) + pairs (k - 1 - lo)
cells_step k lo hi c m (inl lt) a b h =
    let g = pairs_grow (k - 1 - c.lo) (k - 1 - lo) (omega (arith, lt, a, b)) in
    omega (arith, lt, a, b, h, g)
cells_step k lo hi c m (inr same) a b h =
    let e : pairs (k - 1 - c.lo) ≡ pairs (k - 1 - lo) = ap (λ n. pairs (k - 1 - n)) (sym same.0) in
    omega (arith, same.0, same.1, a, b, h, e)

cells_few : (lo hi k : ℕ) (cs : List Cell) → AreCellsFrom lo hi k cs → length cs ≤ (k - max hi (lo + 1)) + pairs (k - 1 - lo)
cells_few lo hi k [] a = omega arith
cells_few lo hi k (c ∷ cs) a = cells_step k lo hi c (length cs) a.0 a.1.ordered a.1.within (cells_few c.lo (c.hi + 1) k cs a.2)

-- twelve bytes a cell
pub cells_bytes : (k : ℕ) (cs : List Cell) → 1 ≤ k → AreCellsFrom 0 0 k cs → 12 * length cs + 6 * k ≤ 6 * (k * k)
cells_bytes zero cs some a = absurd (omega arith)
cells_bytes (suc j) cs some a =
    let f = cells_few 0 0 (suc j) cs a in
    let e = pairs_double (suc j) in
    let h : suc j - 1 - 0 ≡ j = omega arith in
    omega (arith, f, e, ap pairs h)

-- ---- a segment's lists, over so many classes and samples
pub record IsSmall (classes samples : ℕ) (p : PartsValue) : Type 0 where
  pub residue : length p.residue ≤ 2 * classes - 1
  pub cells : 12 * length p.cells + 6 * classes ≤ 6 * (classes * classes)
  pub crossings : length p.crossings ≤ classes - 1
  pub extremes : length p.peaks + length p.valleys ≤ classes
  pub ranges : length p.ranges ≤ classes - 1
  pub points : 2 * length p.cells + length p.residue ≤ samples
  pub inner : length p.peaks + length p.valleys ≤ samples
  pub sides : length p.ranges ≤ samples

pub is_small : (g : GridValue) (p : PartsValue) → 1 ≤ g.classes → g.reference ≤ g.classes → AreSegmentParts g p
    → IsSmall g.classes (p.name.to - p.name.from) p
is_small g p some inside s =
    let o = s.ordered in
    let t = s.summed in
    let cells = cells_in_order g.classes p.cells o.cells in
    let c = cells_count 0 0 g.classes p.cells cells in
    let a = bins_few g.reference g.classes p.peaks o.peaks in
    let b = bins_few 0 g.reference p.valleys o.valleys in
    let d = bins_count g.reference g.classes p.peaks o.peaks in
    let e = bins_count 0 g.reference p.valleys o.valleys in
    let f = bins_count 1 g.classes p.ranges o.ranges in
    record {
      residue = residue_bound g.classes p.residue s.residue;
      cells = cells_bytes g.classes p.cells some cells;
      crossings = bins_few 1 g.classes p.crossings o.crossings;
      extremes = omega (arith, a, b, inside);
      ranges = bins_few 1 g.classes p.ranges o.ranges;
      points = omega (arith, c, t.cycles, t.points, t.readings);
      inner = omega (arith, d, e, t.extremes, t.points, t.readings);
      sides = omega (arith, f, t.ranges, t.points, t.readings);
    }
