-- Crossings that are loaded: what stops at a place is what began at the place before.
use Rattle.std.proofs.Common.{◌≡◌, ℕ, zero, suc, ◌+◌, ◌<◌, ◌≤◌, Bool, true, false, cond, eqb, List, [], ◌∷◌, get_or, take, replicate, sum, not, refl, sym, ap, subst, ◌∙◌, arith}
use Rattle.std.specs.Prelude.{All}
use Rattle.std.proofs.lemmas.Bool.Decides.{nat_tests}
use Rattle.std.proofs.lemmas.List.{length-replicate}
use Rattle.std.proofs.lemmas.List.Elements.{All-head, All-tail}
use Rattle.tally.specs.declared.cells.Bin.{Bin}
use Rattle.turning_points.specs.EndPoints.{EndPoints}
use Rattle.tally.specs.tables.Tables.{table_with_bins}
use Rattle.tally.specs.tables.Bins.{count_at}
use Rattle.tally.proofs.on_tables.Filled.{count_placed, none_before, filled_at, table_at, table_long}
use Rattle.lemmas.proofs.Lists.{get_or-zeros}
use Rattle.calibration.specs.declared.grid.TheConstants.{MAX_CLASSES}
use Rattle.simple_counts.specs.level_crossing.Crossings.{IsCrossings, crossing_count}
use Rattle.simple_counts.specs.level_crossing.Loading.{CanLoadCrossings, loaded_of}
use Rattle.simple_counts.proofs.on_level_crossing.PushJoin.{sum_take_more, at_more}
use Rattle.turning_points.specs.declared.ends.TheConstants.{MAX_POINTS}

-- the second table is the first one, one place further on
shifted : (b s : List ℕ) → get_or s 0 0 ≡ 0 → ((i : ℕ) → get_or s (suc i) 0 ≡ get_or b i 0) → (i : ℕ) →
    sum (take (suc i) s) ≡ sum (take i b)
shifted b s none next zero =
    let e : sum (take zero s) ≡ 0 = refl in let f : sum (take zero b) ≡ 0 = refl in omega (arith, sum_take_more s zero, none, e, f)
shifted b s none next (suc i) = omega (arith, sum_take_more s (suc i), sum_take_more b i, next i, shifted b s none next i)

placed_next : (p : ℕ) (bs : List Bin) → count_placed 1 (suc p) bs ≡ count_placed 0 p bs
placed_next p [] = refl
placed_next p (b ∷ bs) =
    ap (λ t. cond t b.n (count_placed 1 (suc p) bs)) (same p b.key) ∙ ap (λ n. cond (eqb p (b.key + 0)) b.n n) (placed_next p bs)
  where
    same : (p k : ℕ) → eqb (suc p) (k + 1) ≡ eqb p (k + 0)
    same p k = grind (arith, nat_tests)

few_by : (t : Bool) (n x m : ℕ) → n ≤ m → x ≤ m → cond t n x ≤ m
few_by true n x m h k = h
few_by false n x m h k = k

count_few : (k m : ℕ) (bs : List Bin) → All (λ b. b.n ≤ m) bs → count_at k bs ≤ m
count_few k m [] a = omega arith
count_few k m (b ∷ bs) a =
    few_by (eqb k b.key) b.n (count_at k bs) m (All-head (λ b. b.n ≤ m) b bs a) (count_few k m bs (All-tail (λ b. b.n ≤ m) b bs a))

-- the limits of a grid
abbrev pub IsGrid : ℕ → ℕ → Type 0
IsGrid classes reference = ((2 ≤ classes) × (classes ≤ MAX_CLASSES)) × ((1 ≤ reference) × (reference < classes))

module _ (classes reference : ℕ) (e : EndPoints) (bins : List Bin) (k : IsGrid classes reference)
    (c : CanLoadCrossings classes e bins) where
  begins_at : (i : ℕ) → get_or (table_with_bins 0 (replicate (classes + 1) 0) bins) i 0 ≡ count_at i bins
  begins_at = table_at 1 classes (classes + 1) bins c.bins_are (omega arith)

  stops_at : (p : ℕ) → get_or (table_with_bins 1 (replicate (classes + 1) 0) bins) p 0 ≡ count_placed 1 p bins
  stops_at p = let l = length-replicate {A = ℕ} (classes + 1) 0 in omega (
    arith,
    filled_at 1 1 classes (replicate (classes + 1) 0) bins c.bins_are (omega (arith, l)) (λ p h. get_or-zeros (classes + 1) p) p,
    get_or-zeros (classes + 1) p,
  )

  begins_placed : (p : ℕ) → get_or (table_with_bins 0 (replicate (classes + 1) 0) bins) p 0 ≡ count_placed 0 p bins
  begins_placed p = let l = length-replicate {A = ℕ} (classes + 1) 0 in
      omega (
        arith,
        filled_at 0 1 classes (replicate (classes + 1) 0) bins c.bins_are (omega (arith, l))
            (λ p h. get_or-zeros (classes + 1) p) p,
        get_or-zeros (classes + 1) p,
      )

  behind : (i : ℕ) → sum (take (i + 1) (table_with_bins 1 (replicate (classes + 1) 0) bins)) ≡ sum
      (take i (table_with_bins 0 (replicate (classes + 1) 0) bins))
  behind i =
      let s : i + 1 ≡ suc i = omega arith in
      ap (λ j. sum (take j (table_with_bins 1 (replicate (classes + 1) 0) bins))) s
      ∙ shifted (table_with_bins 0 (replicate (classes + 1) 0) bins) (table_with_bins 1 (replicate (classes + 1) 0) bins)
      (stops_at 0 ∙ none_before 1 1 classes 0 bins c.bins_are (omega arith))
      (λ j. stops_at (suc j) ∙ placed_next j bins ∙ sym (begins_placed j)) i

  pub crossed_counts : (l : ℕ) → crossing_count (loaded_of classes reference e bins) l ≡ count_at l bins
  crossed_counts l = omega (arith, at_more (table_with_bins 0 (replicate (classes + 1) 0) bins) l, behind l, begins_at l)

  pub crossed_is : IsCrossings (loaded_of classes reference e bins)
  crossed_is = record {
    classes = k.0;
    reference = k.1;
    begins = table_long 0 (classes + 1) bins;
    stops = table_long 1 (classes + 1) bins;
    first = c.first;
    last = c.last;
    enough = λ i. omega (arith, behind i);
    few = λ i. omega (
      arith,
      at_more (table_with_bins 0 (replicate (classes + 1) 0) bins) i,
      behind i,
      begins_at i,
      count_few i (MAX_POINTS) bins c.few,
    );
  }

-- tables are loaded in place of two as long
pub crossed_closed : (classes reference : ℕ) (e : EndPoints) (bins : List Bin) (k : IsGrid classes reference)
    (c : CanLoadCrossings classes e bins)
    (n m : ℕ) (b s : List ℕ) → n ≡ classes + 1 → m ≡ classes + 1
    → b ≡ table_with_bins 0 (replicate n 0) bins → s ≡ table_with_bins 1 (replicate m 0) bins →
    IsCrossings (record {
      classes = classes;
      reference = reference;
      some = not (eqb e.points 0);
      first = e.first;
      last = e.last;
      begins = b;
      stops = s;
    })
crossed_closed classes reference e bins k c n m b s same other is are =
    let b_is : b ≡ table_with_bins 0 (replicate (classes + 1) 0) bins = is ∙ ap (λ j. table_with_bins 0 (replicate j 0) bins) same in
    let s_is : s ≡ table_with_bins 1 (replicate (classes + 1) 0) bins = are ∙ ap (λ j. table_with_bins 1 (replicate j 0) bins) other in
    subst (λ t. IsCrossings (record {
      classes = classes;
      reference = reference;
      some = not (eqb e.points 0);
      first = e.first;
      last = e.last;
      begins = t;
      stops = s;
    })) (sym b_is) (subst (λ t. IsCrossings (record {
      classes = classes;
      reference = reference;
      some = not (eqb e.points 0);
      first = e.first;
      last = e.last;
      begins = table_with_bins 0 (replicate (classes + 1) 0) bins;
      stops = t;
    })) (sym s_is) (crossed_is classes reference e bins k c))
