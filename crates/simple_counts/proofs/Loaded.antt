-- Simple counts that are loaded.
use Rattle.std.proofs.Common.{◌≡◌, ◌≢◌, ℕ, ◌+◌, ◌-◌, ◌<◌, ◌≤◌, ◌⊎◌, inl, inr, Bool, true, false, cond, leb, List, length, get_or, replicate, sum, refl, sym, ap, subst, ◌∙◌, arith, length-set}
use Rattle.std.proofs.lemmas.Bool.Decides.{nat_tests}
use Rattle.std.proofs.lemmas.Bool.{cases_eq, leb-true, leb-false}
use Rattle.tally.specs.declared.cells.Bin.{Bin}
use Rattle.calibration.specs.declared.grid.TheConstants.{MIN_CLASSES, MAX_CLASSES}
use Rattle.turning_points.specs.EndPoints.{EndPoints}
use Rattle.tally.specs.tables.Tables.{lower, table_with_bins, is_at}
use Rattle.tally.specs.tables.Bins.{count_at, sum_of}
use Rattle.tally.proofs.on_tables.Counting.{lower_at, sum_lower}
use Rattle.tally.proofs.on_tables.Filled.{filled_at, filled_sum, filled_long, table_at, table_sum, table_long, placed_counts, count_below, count_above}
use Rattle.simple_counts.specs.Simple.{IsSimple, open_at, range_count, peak_count, valley_count}
use Rattle.simple_counts.specs.Loading.{CountsEnds, CanLoad, first_range, last_range, decided_of, loaded_of}
use Rattle.simple_counts.proofs.PutLists.{range_below}

-- the ranges

-- the table of all ranges, and the one without the last
record Decided (k : ℕ) (e : EndPoints) (ranges : List Bin) (t : List ℕ) : Type 0 where
  pub long : length t ≡ k
  pub at : (i : ℕ) → get_or t i 0 + open_at i e ≡ count_at i ranges
  pub total : sum t ≡ e.points - 2

closed_at : (b : Bool) (x : ℕ) → b ≡ false → ◌≡◌ {A = ℕ} (cond b x 0) 0
closed_at true x e = absurd cc
closed_at false x e = refl

opened_at : (b : Bool) (x : ℕ) → b ≡ true → ◌≡◌ {A = ℕ} (cond b x 0) x
opened_at true x e = refl
opened_at false x e = absurd cc

-- the limits of a grid
abbrev pub IsGrid : ℕ → ℕ → Type 0
IsGrid classes reference = ((MIN_CLASSES ≤ classes) × (classes ≤ MAX_CLASSES)) × ((1 ≤ reference) × (reference < classes))

module _ (classes reference : ℕ) (e : EndPoints) (peaks valleys ranges : List Bin) (c : CanLoad classes reference e peaks valleys ranges)
  where
    all : List ℕ
    all = table_with_bins 0 (replicate classes 0) ranges

    all_at : (i : ℕ) → get_or (table_with_bins 0 (replicate classes 0) ranges) i 0 ≡ count_at i ranges
    all_at = table_at 1 classes classes ranges c.ranges_are (omega arith)

    pub last_there : 2 ≤ e.points → 1 ≤ get_or (table_with_bins 0 (replicate classes 0) ranges) (last_range e) 0
    last_there le = let n = (c.counted le).last in omega (arith, n, all_at (last_range e))

    pub last_within : last_range e < classes
    last_within = range_below classes e.before e.last c.ends.below.2 c.ends.below.3

    decided_by : (b : Bool) → leb 2 e.points ≡ b →
        Decided classes e ranges (cond b (lower (table_with_bins 0 (replicate classes 0) ranges) (last_range e))
        (table_with_bins 0 (replicate classes 0) ranges))
    decided_by true is =
        let le = leb-true 2 e.points is in
        let long = table_long 0 classes ranges in
        let within : last_range e < length (table_with_bins 0 (replicate classes 0) ranges) = omega (arith, long, last_within) in
        record {
          long = length-set (table_with_bins 0 (replicate classes 0) ranges) (last_range e)
              (get_or (table_with_bins 0 (replicate classes 0) ranges) (last_range e) 0 - 1) ∙ long;
          at = λ i. omega (
            arith,
            lower_at (table_with_bins 0 (replicate classes 0) ranges) (last_range e) i within (last_there le),
            opened_at (leb 2 e.points) (is_at i (last_range e)) is,
            all_at i,
          );
          total = omega (
            arith,
            sum_lower (table_with_bins 0 (replicate classes 0) ranges) (last_range e) within (last_there le),
            table_sum 1 classes classes ranges c.ranges_are (omega arith),
            c.ranges_sum,
            le,
          );
        }
    decided_by false is =
        record {
          long = table_long 0 classes ranges;
          at = λ i. omega (arith, closed_at (leb 2 e.points) (is_at i (last_range e)) is, all_at i);
          total = omega (arith, table_sum 1 classes classes ranges c.ranges_are (omega arith), c.ranges_sum, leb-false 2 e.points is);
        }

    decided : Decided classes e ranges (decided_of classes e ranges)
    decided = decided_by (leb 2 e.points) refl

    first_left : (o : ℕ) → 3 ≤ e.points → (o ≡ cond (leb 2 e.points) (is_at (first_range e) (last_range e)) 0) →
        o + 1 ≤ count_at (first_range e) ranges
    first_left o le is = by (cases_eq (last_range e) (first_range e))
      where
        counts : CountsEnds e ranges
        counts = c.counted (omega (arith, le))

        one : (b : Bool) (x y : ℕ) → x ≢ y → ◌≡◌ {A = ℕ} (cond b (is_at y x) 0) 0
        one b x y n = grind (arith, nat_tests)

        most : (b : Bool) (x y : ℕ) → ◌≤◌ (cond b (is_at y x) 0) 1
        most b x y = grind (arith, nat_tests)

        by : ((last_range e ≡ first_range e) ⊎ (last_range e ≢ first_range e)) → o + 1 ≤ count_at (first_range e) ranges
        by (inl same) = let s = counts.separate le (sym same) in omega (arith, s, is, most (leb 2 e.points) (last_range e) (first_range e))
        by (inr n) = let s = counts.first in omega (arith, s, is, one (leb 2 e.points) (last_range e) (first_range e) n)

    pub loaded_ranges : (k : ℕ) → range_count (loaded_of classes reference e peaks valleys ranges) k ≡ count_at k ranges
    loaded_ranges k = decided.at k

    -- peaks and valleys

    module _ (grid : IsGrid classes reference) where
      low : List ℕ
      low = table_with_bins 0 (replicate classes 0) valleys

      low_at : (i : ℕ) → get_or (table_with_bins 0 (replicate classes 0) valleys) i 0 ≡ count_at i valleys
      low_at = table_at 0 reference classes valleys c.valleys_are (omega (arith, grid.1.1))

      low_long : length (table_with_bins 0 (replicate classes 0) valleys) ≡ classes
      low_long = table_long 0 classes valleys

      low_none : (p : ℕ) → reference + 0 ≤ p → get_or (table_with_bins 0 (replicate classes 0) valleys) p 0 ≡ 0
      low_none p le = low_at p ∙ count_above 0 reference p valleys c.valleys_are (omega (arith, le))

      extremes_at : (i : ℕ) → get_or (table_with_bins 0 (table_with_bins 0 (replicate classes 0) valleys) peaks) i 0 ≡
          count_at i valleys + count_at i peaks
      extremes_at i = omega (
        arith,
        filled_at 0 reference classes (table_with_bins 0 (replicate classes 0) valleys) peaks c.peaks_are
            (omega (arith, low_long)) low_none i,
        low_at i,
        placed_counts i peaks,
      )

      extremes_sum : sum (table_with_bins 0 (table_with_bins 0 (replicate classes 0) valleys) peaks) ≡ sum_of valleys + sum_of peaks
      extremes_sum = omega (
        arith,
        filled_sum 0 reference classes (table_with_bins 0 (replicate classes 0) valleys) peaks c.peaks_are
            (omega (arith, low_long)) low_none,
        table_sum 0 reference classes valleys c.valleys_are (omega (arith, grid.1.1)),
      )

      -- the whole

      pub loaded_counted : IsSimple (loaded_of classes reference e peaks valleys ranges)
      loaded_counted = record {
        classes = grid.0;
        reference = grid.1;
        decided = decided.long;
        extremes = filled_long 0 (table_with_bins 0 (replicate classes 0) valleys) peaks ∙ low_long;
        ends = c.ends;
        agrees = record {
          sum_of = omega (arith, decided.total);
          first = λ le. let a = first_left (open_at (first_range e) e) le refl in omega (arith, a, decided.at (first_range e));
          above = λ k. omega arith;
          few = omega (arith, extremes_sum, c.extremes);
        };
        few = c.few;
        none_at_zero = omega (arith, decided.at 0, count_below 1 classes 0 ranges c.ranges_are (omega arith));
      }

      pub loaded_peaks : (l : ℕ) → peak_count (loaded_of classes reference e peaks valleys ranges) l ≡ count_at l peaks
      loaded_peaks l = by (leb reference l) refl
        where
          by : (b : Bool) → leb reference l ≡ b →
              cond b (get_or (table_with_bins 0 (table_with_bins 0 (replicate classes 0) valleys) peaks) l 0) 0 ≡ count_at l peaks
          by true is = omega (arith, extremes_at l, count_above 0 reference l valleys c.valleys_are (leb-true reference l is))
          by false is = sym (count_below reference classes l peaks c.peaks_are (leb-false reference l is))

      pub loaded_valleys : (l : ℕ) → valley_count (loaded_of classes reference e peaks valleys ranges) l ≡ count_at l valleys
      loaded_valleys l = by (leb reference l) refl
        where
          by : (b : Bool) → leb reference l ≡ b →
              cond b 0 (get_or (table_with_bins 0 (table_with_bins 0 (replicate classes 0) valleys) peaks) l 0) ≡ count_at l valleys
          by true is = sym (count_above 0 reference l valleys c.valleys_are (leb-true reference l is))
          by false is = omega (arith, extremes_at l, count_below reference classes l peaks c.peaks_are (leb-false reference l is))

-- a table is loaded in place of one as long
pub loaded_closed : (classes reference : ℕ) (e : EndPoints) (peaks valleys ranges : List Bin)
    (c : CanLoad classes reference e peaks valleys ranges) (grid : IsGrid classes reference) (n m : ℕ) (d x : List ℕ) →
    n ≡ classes → m ≡ classes
    → d ≡ decided_of n e ranges → x ≡ table_with_bins 0 (table_with_bins 0 (replicate m 0) valleys) peaks →
    IsSimple (record { classes = classes; reference = reference; ends = e; decided = d; extremes = x })
loaded_closed classes reference e peaks valleys ranges c grid n m d x same other is are =
    let d_is : d ≡ decided_of classes e ranges = is ∙ ap (λ k. decided_of k e ranges) same in
    let x_is : x ≡ table_with_bins 0 (table_with_bins 0 (replicate classes 0) valleys) peaks = are
    ∙ ap (λ k. table_with_bins 0 (table_with_bins 0 (replicate k 0) valleys) peaks) other in
    subst (λ t. IsSimple (record { classes = classes; reference = reference; ends = e; decided = t; extremes = x })) (sym d_is)
    (subst (λ t. IsSimple (record {
      classes = classes;
      reference = reference;
      ends = e;
      decided = decided_of classes e ranges;
      extremes = t;
    })) (sym x_is) (loaded_counted classes reference e peaks valleys ranges c grid))

pub last_in : (classes reference : ℕ) (e : EndPoints) (peaks valleys ranges : List Bin)
    (c : CanLoad classes reference e peaks valleys ranges) (n : ℕ) → n ≡ classes → 2 ≤ e.points →
    1 ≤ get_or (table_with_bins 0 (replicate n 0) ranges) (last_range e) 0
last_in classes reference e peaks valleys ranges c n same le =
    subst (λ k. 1 ≤ get_or (table_with_bins 0 (replicate k 0) ranges) (last_range e) 0)
    (sym same) (last_there classes reference e peaks valleys ranges c le)
