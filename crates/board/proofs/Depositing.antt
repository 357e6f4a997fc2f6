-- What a deposit does to a board.
use Rattle.segment.specs.Name.{name_of}
use Rattle.calibration.specs.declared.limits.TheConstants.{MAX_SAMPLES}
use Rattle.std.proofs.Common.{◌≡◌, ◌≢◌, ◌≤◌, ◌<◌, ◌+◌, ◌*◌, ℕ, zero, suc, List, [], ◌∷◌, ◌++◌, length, get_or, set, refl, sym, ap, ◌∙◌, subst, arith}
use Rattle.std.specs.Prelude.{ℤ, Some}
use Rattle.std.proofs.lemmas.List.{get_or_default, length_push, set-get_or}
use Rattle.std.proofs.Math.ListN.{length-set}
use Rattle.calibration.specs.Gain.{GainValue}
use Rattle.segment.specs.declared.segment_rules.name.Name.{Name}
use Rattle.segment.specs.Segment.{SegmentValue}
use Rattle.board.specs.flow.Flow.{hits_of_name, hits}
use Rattle.board.specs.flow.Kept.{between, over}
use Rattle.board.proofs.on_flow.Counting.{over_same, hits_of_name_other, hits-append, hits_of_name_between, between_one}
use Rattle.board.specs.Board.{BoardValue, Row, IsRow, IsBoard, CarriesSamples, StandsIn, spans, start_of, blocks_placed, Fits}
use Rattle.board.specs.Rows.{CanPlace, PlacesSegment, FindsDouble}
use Rattle.board.specs.DepositAnswers.{IsBlockNumber, HasSample}
use Rattle.board.proofs.Lists.{at_set}
use Rattle.board.proofs.Counts.{one_block_more, over_most, row_once}
use Rattle.board.specs.declared.flow.TheConstants.{BLOCKS_PER_WINDOW}

no_row : Row
no_row = record { start = 0; slots = [] }

hits_push : (g i : ℕ) (l m : List Name) (n : Name) → m ≡ l ++ n ∷ [] → hits g i m ≡ hits g i l + hits_of_name g i n
hits_push g i l m n e = let a : hits g i m ≡ hits g i (l ++ n ∷ []) = ap (hits g i) e in let b : hits g i (l ++ n ∷ []) ≡ hits g i l +
    (hits_of_name g i n + 0) = hits-append g i l (n ∷ []) in omega (arith, a, b)

-- a board has at most 16 names for each gauge
pub board_few : (b : BoardValue) → IsBoard b → length b.arrivals ≤ length b.rows * BLOCKS_PER_WINDOW
board_few b h =
    let most : blocks_placed b ≤ length b.rows * BLOCKS_PER_WINDOW = over_most (length b.rows) BLOCKS_PER_WINDOW
    (λ g. over BLOCKS_PER_WINDOW (λ k. hits g (start_of b g + k * b.block) b.arrivals)) (λ g m.
    let sums : over BLOCKS_PER_WINDOW (λ k. hits g (start_of b g + k * b.block) b.arrivals) ≤ BLOCKS_PER_WINDOW * 1 =
    over_most BLOCKS_PER_WINDOW 1 (λ k. hits g (start_of b g + k * b.block) b.arrivals) (λ k u.
    let e = h.intervals g (start_of b g + k * b.block) (record { start = 0; slots = [] }) m in
    let f = row_once b.block g (start_of b g + k * b.block) b.grid (get_or b.rows g (record { start = 0; slots = [] }))
    (h.rows g (record { start = 0; slots = [] }) m) in omega (arith, e, f)) in
    omega (arith, sums)) in
    omega (arith, h.count, most)

-- the board in which a block was placed
module _ (b : BoardValue) (k : ℕ) (segment : SegmentValue) (new d : Row) (arrivals : List Name) where
  abbrev g : ℕ
  g = segment.gauge

  abbrev was : Row
  was = get_or b.rows g d

  abbrev pub placed_in : BoardValue
  placed_in = record { grid = b.grid; block = b.block; rows = set b.rows g new; arrivals = arrivals }

  module _ (known : g < length b.rows) (start : new.start ≡ was.start) where
    starts_same : (i : ℕ) → start_of placed_in i ≡ start_of b i
    starts_same i = at_set (λ j r. r.start ≡ start_of b j) b.rows g new i (record { start = 0; slots = [] }) known (λ e. refl)
        (λ e. start ∙ ap (λ r. r.start) (get_or_default b.rows g d (record { start = 0; slots = [] }) known))

    module _ (h : IsBoard b) (kind : segment.grid ≡ b.grid) (fits : CanPlace was.start b.block k segment)
        (p : PlacesSegment was.start b.block was.slots new.slots segment) (grown : arrivals ≡ b.arrivals ++ (name_of segment) ∷ []) where
      new_row : IsRow b.block b.grid g new
      new_row = subst (λ s. IsRow b.block b.grid g (record { start = s; slots = new.slots })) (sym start)
          (subst (λ t. IsRow b.block t g (record { start = was.start; slots = new.slots })) kind p.row)

      more : (x : ℕ) → spans x new.slots ≡ hits g x arrivals
      more x =
          let e = p.more x in let f = h.intervals g x d known in let n =
          hits_push g x b.arrivals arrivals (name_of segment) grown in let t =
          hits_of_name_between g x (name_of segment) refl in
          omega (arith, e, f, n, t)

      others : (i x : ℕ) (r : Row) → i ≢ g → spans x r.slots ≡ hits i x b.arrivals → spans x r.slots ≡ hits i x arrivals
      others i x r ne e = let n = hits_push i x b.arrivals arrivals (name_of segment) grown in let t =
          hits_of_name_other i x (name_of segment)
          (λ q. ne (sym q)) in omega (arith, e, n, t)

      counted : length arrivals ≡ blocks_placed placed_in
      counted =
          let long : length arrivals ≡ length (b.arrivals ++ (name_of segment) ∷ []) = ap length grown in
          let grew : over (length b.rows) (λ i. over BLOCKS_PER_WINDOW (λ j. hits i (start_of b i + j * b.block)
          (b.arrivals ++ (name_of segment) ∷ []))) ≡ blocks_placed b + 1 =
          one_block_more (length b.rows) b.block k (start_of b) b.arrivals (name_of segment) fits.some_block known fits.place
          (fits.from ∙ ap (λ r. r.start + k * b.block) (get_or_default b.rows g d
          (record { start = 0; slots = [] }) known)) fits.some fits.short in
          let same : blocks_placed placed_in ≡ over (length b.rows)
          (λ i. over BLOCKS_PER_WINDOW (λ j. hits i (start_of b i + j * b.block) (b.arrivals ++ (name_of segment) ∷ []))) =
          ap (λ n. over n (λ i. over BLOCKS_PER_WINDOW (λ j. hits i (start_of placed_in i + j * b.block) arrivals)))
          (length-set b.rows g new) ∙ over_same (length b.rows) _
          (λ i. over BLOCKS_PER_WINDOW (λ j. hits i (start_of b i + j * b.block) (b.arrivals ++ (name_of segment) ∷ [])))
          (λ i m. over_same BLOCKS_PER_WINDOW _ (λ j. hits i (start_of b i + j * b.block) (b.arrivals ++ (name_of segment) ∷ []))
          (λ j u. ap (λ s. hits i (s + j * b.block) arrivals) (starts_same i) ∙ ap (hits i (start_of b i + j * b.block)) grown)) in
          let plus : length (b.arrivals ++ (name_of segment) ∷ []) ≡ length b.arrivals + 1 = length_push b.arrivals (name_of segment) in
          omega (arith, long, plus, grew, same, h.count)

      pub placed_board : IsBoard placed_in
      placed_board =
          let size : length (set b.rows g new) ≡ length b.rows = length-set b.rows g new in
          record {
            block = h.block;
            gauges = omega (arith, size, h.gauges);
            starts = λ i e m. at_set (λ j r. r.start ≤ MAX_SAMPLES) b.rows g new i e known (λ q. h.starts i e (omega (arith, m, size)))
                (λ q. let s = h.starts g d known in omega (arith, start, s));
            rows = λ i e m. at_set (λ j r. IsRow b.block b.grid j r) b.rows g new i e known (λ q. h.rows i e (omega (arith, m, size)))
                (λ q. new_row);
            intervals = λ i x e m. at_set (λ j r. spans x r.slots ≡ hits j x arrivals) b.rows g new i e known
                (λ q. others i x (get_or b.rows i e) q (h.intervals i x e (omega (arith, m, size)))) (λ q. more x);
            count = counted;
          }

      pub placed_room : length b.arrivals + 1 ≤ BLOCKS_PER_WINDOW * length b.rows
      placed_room =
          let few = board_few placed_in placed_board in let size : length (set b.rows g new) ≡ length b.rows = length-set b.rows g new in
          let n : length arrivals ≡ length b.arrivals + 1 = ap length grown ∙ length_push b.arrivals (name_of segment) in omega
          (arith, few, size, n)

      pub placed_carries : (gain : ℕ → GainValue) (w : ℕ → List ℤ) → CarriesSamples b gain w → StandsIn segment (gain g) (w g)
          → CarriesSamples placed_in gain w
      placed_carries gain w all one i j r s m u =
          let size : length (set b.rows g new) ≡ length b.rows = length-set b.rows g new in
          at_set (λ x r. StandsIn (get_or r.slots j s) (gain x) (w x)) b.rows g new i r known
          (λ q. all i j r s (omega (arith, m, size)) u) (λ q. p.stands (gain g) (w g) (λ x y v. all g x d y known v) one j s u)

-- a row that is as it was
pub row_same : (rows : List Row) (g : ℕ) (new d : Row) → new.start ≡ (get_or rows g d).start → new.slots ≡ (get_or rows g d).slots
    → set rows g new ≡ rows
row_same rows g new d e f =
    let is : new ≡ get_or rows g d = ap (λ s. record { start = s; slots = new.slots }) e ∙ ap
    (λ l. record { start = (get_or rows g d).start; slots = l }) f in
    ap (set rows g) is ∙ set-get_or rows g d

pub spans_has : (i : ℕ) (l : List SegmentValue) (k : ℕ) (d : SegmentValue) → k < length l → (get_or l k d).from ≤ i → i < (get_or l k d).to
    → 1 ≤ spans i l
spans_has i [] k d m a b = absurd (omega (arith, m))
spans_has i (s ∷ l) zero d m a b = let e : between s.from s.to i ≡ 1 = between_one s.from s.to i a b in omega (arith, e)
spans_has i (s ∷ l) (suc k) d m a b = let e = spans_has i l k d (omega (arith, m)) a b in omega (arith, e)

-- the place has the first sample
pub doubled : (b : BoardValue) (segment : SegmentValue) (new : List SegmentValue) (n : Name) (d : Row) → IsBoard b →
    segment.gauge < length b.rows
    → FindsDouble (get_or b.rows segment.gauge d).slots new segment n
    → (1 ≤ hits segment.gauge segment.from b.arrivals) × HasSample b segment.gauge segment.from n
doubled b segment new n d h known p =
    let g = segment.gauge in
    let row = h.rows g d known in
    let at : (s : SegmentValue) → (name_of (get_or (get_or b.rows g d).slots p.at s)) ≡ n = λ s. sym (p.interval s) in
    let some : 1 ≤ spans segment.from (get_or b.rows g d).slots = spans_has segment.from (get_or b.rows g d).slots p.at segment
    (omega (arith, p.within, row.long))
    (let e : (get_or (get_or b.rows g d).slots p.at segment).from ≡ n.from = ap (λ m. m.from) (at segment) in omega (arith, e, p.from))
    (let e : (get_or (get_or b.rows g d).slots p.at segment).to ≡ n.to = ap (λ m. m.to) (at segment) in omega (arith, e, p.to)) in
    let is = h.intervals g segment.from d known in (
      omega (arith, some, is),
      record {
        place = p.at;
        within = p.within;
        interval = λ r s. p.interval s ∙ ap (λ (x : Row). name_of (get_or x.slots p.at s)) (get_or_default b.rows g d r known);
        from = p.from;
        to = p.to;
      },
    )

-- the number of a block, and the block that it numbers
pub can_place : (b : BoardValue) (segment : SegmentValue) (d : Row) (k : ℕ) → IsBoard b → segment.gauge < length b.rows →
    IsBlockNumber b.block
    (length b.rows) (get_or b.rows segment.gauge d).start (name_of segment) (Some k) →
    CanPlace (get_or b.rows segment.gauge d).start b.block k segment
can_place b segment d k h known n = record {
  some_block = omega (arith, h.block.0);
  place = n.0;
  from = n.4;
  some = n.2;
  short = n.3;
  window =
      n.5;
}

pub number_fits : (b : BoardValue) (name : Name) (d : Row) (k : ℕ) → name.gauge < length b.rows → IsBlockNumber b.block (length b.rows)
    (get_or b.rows name.gauge d).start name (Some k) → Fits b name
number_fits b name d k known n =
    let same : (get_or b.rows name.gauge d).start ≡ start_of b name.gauge = ap (λ r. r.start)
    (get_or_default b.rows name.gauge d (record { start = 0; slots = [] }) known) in
    record {
      known = known;
      some = n.2;
      short = n.3;
      number = k;
      at = n.4 ∙ ap (λ s. s + k * b.block) same;
      window = omega
          (arith, n.5, same);
    }

-- the number that was found in a row that was read there
pub number_there : (b : BoardValue) (name : Name) (r d : Row) (start gauges block k : ℕ) → name.gauge < length b.rows → start ≡ r.start
    → gauges ≡ length b.rows → r ≡ get_or b.rows name.gauge r → IsBlockNumber block gauges start name (Some k) →
    IsBlockNumber block (length b.rows)
    (get_or b.rows name.gauge d).start name (Some k)
number_there b name r d start gauges block k known e f i n =
    subst (λ l. IsBlockNumber block l (get_or b.rows name.gauge d).start name (Some k)) f
    (subst (λ s. IsBlockNumber block gauges s name (Some k)) (e ∙ ap (λ x. x.start) (i ∙ get_or_default b.rows name.gauge r d known)) n)
