-- The front of a gauge.
use Rattle.std.proofs.Common.{◌≡◌, ◌⊎◌, inl, inr, ◌*◌, ◌≤◌, ◌<◌, ◌+◌, ℕ, zero, suc, [], length, get_or, sym, ap, ◌∙◌, subst, arith}
use Rattle.std.proofs.lemmas.List.{get_or_default}
use Rattle.std.proofs.lemmas.Bool.{cases_lt}
use Rattle.calibration.specs.Grid.{GridValue}
use Rattle.segment.specs.Segment.{SegmentValue}
use Rattle.board.specs.Board.{BoardValue, Row, IsRow, IsBoard, IsFront, StandsIn, start_of}
use Rattle.board.proofs.Depositing.{spans_has}
use Rattle.board.proofs.Placing.{between_off, spans_none}

ends_or : (block : ℕ) (kind : GridValue) (g : ℕ) (s : SegmentValue) (r : Row) → 0 < block → IsRow block kind g r →
    ((d : SegmentValue) → s ≡ get_or r.slots 0 d) → (k : ℕ) (d : SegmentValue) → k < length r.slots → (get_or r.slots k d).from <
    (get_or r.slots k d).to → ((get_or r.slots k d).to ≤ s.to) ⊎ (s.to < (get_or r.slots k d).from)
ends_or block kind g s r pos h is zero d m some = inl (let e : (get_or r.slots 0 d).to ≡ s.to = sym (ap (λ x. x.to) (is d)) in omega
    (arith, e))
ends_or block kind g s r pos h is (suc k) d m some =
    let at : (get_or r.slots (suc k) d).from ≡ r.start + suc k * block = (h.shape (suc k) d (omega (arith, m, h.long)) some).0 in
    let to : s.to ≡ (get_or r.slots 0 d).to = ap (λ x. x.to) (is d) in
    let far : s.to < (get_or r.slots (suc k) d).from = elim (cases_lt (get_or r.slots 0 d).from (get_or r.slots 0 d).to) [
      | inl full ↦ (let apart : (get_or r.slots 0 d).to < (get_or r.slots (suc k) d).from = h.apart 0 (suc k) d (omega arith)
          (omega (arith, m, h.long)) full some in omega (arith, apart, to))
      | inr none ↦ (
          let first : (get_or r.slots 0 d).from ≡ r.start = h.first d in
          let step : suc k * block ≡ block + k * block = omega arith in
          omega (arith, none, first, at, to, step, pos))
    ] in
    inr far

-- the front of a gauge
pub is_front : (b : BoardValue) (g : ℕ) (r : Row) (s : SegmentValue) → IsBoard b → g < length b.rows →
    ((d : SegmentValue) → s ≡ get_or (get_or b.rows g r).slots 0 d) → IsFront b g s
is_front b g r s h known is =
    let row = h.rows g r known in
    let here : 0 < length (get_or b.rows g r).slots = omega (arith, row.long) in
    let e : s ≡ get_or (get_or b.rows g r).slots 0 s = is s in
    let start : (get_or b.rows g r).start ≡ start_of b g = ap (λ x. x.start)
    (get_or_default b.rows g r (record { start = 0; slots = [] }) known) in
    record {
      gauge = ap (λ x. x.gauge) e ∙ (row.each 0 s (omega arith)).gauge;
      grid = ap (λ x. x.grid) e ∙ (row.each 0 s (omega arith)).grid;
      from = ap (λ x. x.from) e ∙ row.first s ∙ start;
      ordered = (
          let o = (row.each 0 s (omega arith)).ordered in
          let f : s.from ≡ (get_or (get_or b.rows g r).slots 0 s).from = ap (λ x. x.from) e in
          let t : s.to ≡ (get_or (get_or b.rows g r).slots 0 s).to = ap (λ x. x.to) e in omega (arith, o, f, t));
      covered = λ i a z. (
          let f : s.from ≡ (get_or (get_or b.rows g r).slots 0 s).from = ap (λ x. x.from) e in
          let t : s.to ≡ (get_or (get_or b.rows g r).slots 0 s).to = ap (λ x. x.to) e in
          let some = spans_has i (get_or b.rows g r).slots 0 s here (omega (arith, a, f)) (omega (arith, z, t)) in
          omega (arith, some, h.intervals g i r known));
      greatest = sym (h.intervals g s.to r known) ∙ spans_none s.to (get_or b.rows g r).slots
          (λ k d m. between_off (get_or (get_or b.rows g r).slots k d).from (get_or (get_or b.rows g r).slots k d).to s.to
          (λ some. ends_or b.block b.grid g s (get_or b.rows g r) (omega (arith, h.block.0)) row is k d m some));
      stands = λ gain w all. subst (λ x. StandsIn x (gain g) (w g)) (sym e) (all g 0 r s known (omega arith));
    }
