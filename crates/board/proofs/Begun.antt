-- Rows and boards of which nothing is placed.
use Rattle.calibration.specs.declared.limits.TheConstants.{MAX_SAMPLES}
use Rattle.std.specs.Prelude.{ℤ}
use Rattle.std.proofs.Common.{◌≡◌, inl, inr, ◌≤◌, ◌<◌, ◌+◌, ◌*◌, ℕ, List, [], length, get_or, take, drop, ◌++◌, refl, sym, ap, ◌∙◌, subst, arith}
use Rattle.calibration.specs.Grid.{GridValue}
use Rattle.segment.specs.declared.segment_rules.name.Name.{Name}
use Rattle.board.specs.declared.block_pool.TheConstants.{MAX_BLOCK}
use Rattle.board.specs.declared.TheConstants.{MAX_GAUGES}
use Rattle.calibration.specs.Gain.{GainValue}
use Rattle.segment.specs.Segment.{SegmentValue, empty_at}
use Rattle.segment.proofs.Empty.{empty_stands}
use Rattle.board.specs.flow.Flow.{hits}
use Rattle.board.proofs.on_flow.Counting.{over_none}
use Rattle.board.specs.Board.{BoardValue, Row, IsRow, IsSlot, IsBoard, IsBegun, StandsIn, spans, start_of}
use Rattle.board.specs.Clearing.{IsCleared, IsVacant, IsFresh, RowBegun, RowsBegun}
use Rattle.board.proofs.Placing.{between_off, spans_none, none_stand}
use Rattle.lemmas.proofs.Lists.{all_written}
use Rattle.board.specs.declared.flow.TheConstants.{BLOCKS_PER_WINDOW}

vacant_at : (block gauge start : ℕ) (kind : GridValue) (s : SegmentValue) → s ≡ empty_at kind gauge start (BLOCKS_PER_WINDOW * block)
    → IsVacant block kind gauge s
vacant_at block gauge start kind s e = subst (IsVacant block kind gauge) (sym e) (record {
  slot = record {
    gauge = refl;
    grid = refl;
    longest = refl;
    ordered = omega arith;
    vacant = λ none gain. empty_stands kind gauge start (BLOCKS_PER_WINDOW * block) gain;
  };
  none = omega arith;
})

-- a row of which each place is new
pub new_fresh : (block gauge : ℕ) (kind : GridValue) (r : Row) → r.start ≡ 0 → length r.slots ≡ BLOCKS_PER_WINDOW
    → ((k : ℕ) (d : SegmentValue) → k < BLOCKS_PER_WINDOW → get_or r.slots k d ≡ empty_at kind gauge 0 (BLOCKS_PER_WINDOW * block))
    → IsFresh block kind gauge 0 r
new_fresh block gauge kind r from long each = record {
  from = from;
  long = long;
  first = λ d. ap (λ (z : SegmentValue). z.from) (each 0 d (omega arith));
  each = λ k d m. vacant_at block gauge 0 kind (get_or r.slots k d) (each k d m);
}

module _ (block gauge start : ℕ) (kind : GridValue) (r : Row) (h : IsFresh block kind gauge start r) where
  pub fresh_empty : (k : ℕ) (d : SegmentValue) → k < BLOCKS_PER_WINDOW → (get_or r.slots k d).from < (get_or r.slots k d).to → ⊥
  fresh_empty k d m some = omega (arith, (h.each k d m).none, some)

  pub fresh_row : IsRow block kind gauge r
  fresh_row = record {
    long = h.long;
    each = λ k d m. (h.each k d m).slot;
    first = λ d. h.first d ∙ sym h.from;
    shape = λ k d m some. absurd (fresh_empty k d m some);
    apart = λ j k d u m a b. absurd (fresh_empty k d m b);
  }

  pub fresh_spans : (i : ℕ) → spans i r.slots ≡ 0
  fresh_spans i = spans_none i r.slots (λ k d m. between_off (get_or r.slots k d).from (get_or r.slots k d).to i
      (λ some. absurd (fresh_empty k d (omega (arith, m, h.long)) some)))

  pub fresh_stands : (gain : GainValue) (w : List ℤ) (k : ℕ) (d : SegmentValue) → k < BLOCKS_PER_WINDOW →
      StandsIn (get_or r.slots k d) gain w
  fresh_stands gain w k d m =
      let v = h.each k d m in
      none_stand gain w (get_or r.slots k d) (omega (arith, v.none, v.slot.ordered)) (v.slot.vacant v.none gain)

no_hits : (g i : ℕ) (l : List Name) → l ≡ [] → hits g i l ≡ 0
no_hits g i l e = ap (hits g i) e

abbrev no_row : Row
no_row = record { start = 0; slots = [] }

module _ (b : BoardValue) (starts : ℕ → ℕ) (none : b.arrivals ≡ [])
    (fresh : (g : ℕ) (d : Row) → g < length b.rows → IsFresh b.block b.grid g (starts g) (get_or b.rows g d)) where
  pub fresh_board : (1 ≤ b.block) × (b.block ≤ MAX_BLOCK) → length b.rows ≤ MAX_GAUGES →
      ((g : ℕ) → g < length b.rows → starts g ≤ MAX_SAMPLES) → IsBoard b
  fresh_board block gauges limit = record {
    block = block;
    gauges = gauges;
    starts = λ g d m. let e : (get_or b.rows g d).start ≡ starts g = (fresh g d m).from in omega (arith, e, limit g m);
    rows = λ g d m. fresh_row b.block g (starts g) b.grid (get_or b.rows g d) (fresh g d m);
    intervals = λ g i d m. fresh_spans b.block g (starts g) b.grid (get_or b.rows g d) (fresh g d m) i ∙ sym (no_hits g i b.arrivals none);
    count = ap length none ∙ sym (over_none (length b.rows) _
        (λ g m. over_none BLOCKS_PER_WINDOW _ (λ k h. no_hits g (start_of b g + k * b.block) b.arrivals none)));
  }

  pub fresh_begun : IsBegun b starts
  fresh_begun = record {
    arrivals = none;
    windows = λ g m. (fresh g no_row m).from;
    carries = λ gain w g k r d m h. fresh_stands b.block g (starts g) b.grid (get_or b.rows g r) (fresh g r m) (gain g) (w g) k d h;
  }

-- a place that was cleared, or had no samples
cleared_vacant : (block : ℕ) (kind : GridValue) (gauge start : ℕ) (old new : SegmentValue) → IsSlot block kind gauge old
    → IsCleared gauge start old new → IsVacant block kind gauge new
cleared_vacant block kind gauge start old new h (inl e) = vacant_at block gauge start kind new (e
    ∙ ap (λ (g : GridValue). empty_at g gauge start old.longest) h.grid ∙ ap (λ (n : ℕ). empty_at kind gauge start n) h.longest)
cleared_vacant block kind gauge start old new h (inr (e, none)) = subst (IsVacant block kind gauge) (sym e) (record { slot = h; none = none })

-- a row that was begun anew
pub begun_fresh : (block : ℕ) (kind : GridValue) (gauge start : ℕ) (old new : Row) → IsRow block kind gauge old
    → RowBegun gauge start old new → IsFresh block kind gauge start new
begun_fresh block kind gauge start old new h r = record {
  from = r.from;
  long = r.slots.long ∙ h.long;
  first = λ d. ap (λ (z : SegmentValue). z.from) (r.slots.first d (omega (arith, h.long)));
  each = λ k d m. cleared_vacant block kind gauge start (get_or old.slots k d) (get_or new.slots k d) (h.each k d m)
      (r.slots.each k d (omega (arith, m, h.long)));
}

pub rows_fresh : (b : BoardValue) (starts : List ℕ) (rows : List Row) → IsBoard b → (was new : List Row) (n : ℕ) → was ≡ b.rows
    → n ≡ length b.rows → RowsBegun starts was new → rows ≡ take n (new ++ drop (length new) b.rows)
    → (length rows ≡ length b.rows) × ((g : ℕ) (d : Row) → g < length rows → IsFresh b.block b.grid g (get_or starts g 0) (get_or rows g d))
rows_fresh b starts rows h was new n e l r is =
    let size : length new ≡ length b.rows = r.long ∙ ap length e in
    let same : rows ≡ new = is ∙ all_written b.rows new n l size in
    let long : length rows ≡ length b.rows = ap length same ∙ size in (
      long,
      λ g d m. subst (λ x. IsFresh b.block b.grid g (get_or starts g 0) (get_or x g d)) (sym same)
          (begun_fresh b.block b.grid g (get_or starts g 0) (get_or b.rows g d) (get_or new g d) (h.rows g d (omega (arith, m, long)))
          (subst (λ x. RowBegun g (get_or starts g 0) (get_or x g d) (get_or new g d)) e
          (r.row g d (omega (arith, m, long, ap length e))))),
    )
