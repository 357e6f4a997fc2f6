-- How many blocks a board has: at most one name begins each block of a window.
use Rattle.std.proofs.Common.{◌≡◌, ◌≢◌, ◌⊎◌, inl, inr, ◌≤◌, ◌<◌, ◌+◌, ◌*◌, ℕ, zero, suc, List, [], ◌∷◌, ◌++◌, length, get_or, refl, sym, ap, ◌∙◌, arith}
use Rattle.std.proofs.lemmas.Bool.{cases_eq, cases_lt}
use Rattle.std.proofs.lemmas.Bool.Decides.{nat_tests}
use Rattle.std.proofs.Math.Nat.{mul-le-mul_right}
use Rattle.calibration.specs.Grid.{GridValue}
use Rattle.segment.specs.declared.segment_rules.name.Name.{Name}
use Rattle.segment.specs.Segment.{SegmentValue}
use Rattle.board.specs.flow.Flow.{hits_of_name, hits}
use Rattle.board.specs.flow.Kept.{between, over}
use Rattle.board.proofs.on_flow.Counting.{over_same, over_none, hits_of_name_other, hits_of_name_past, hits_of_name_inside, hits-append, over_sum}
use Rattle.board.specs.Board.{spans, IsRow, Row}
use Rattle.board.proofs.Placing.{between_off, spans_none}
use Rattle.board.specs.declared.flow.TheConstants.{BLOCKS_PER_WINDOW}

pub over_most : (n c : ℕ) (f : ℕ → ℕ) → ((v : ℕ) → v < n → f v ≤ c) → over n f ≤ n * c
over_most zero c f h = omega arith
over_most (suc n) c f h = let e : over n f ≤ n * c = over_most n c f (λ v l. h v (omega arith)) in let p : f n ≤ c = h n
    (omega arith) in omega (arith, e, p)

-- the sum of a function that is 0 but at one place
pub over_only : (n w x : ℕ) (f : ℕ → ℕ) → w < n → f w ≡ x → ((v : ℕ) → v < n → v ≢ w → f v ≡ 0) → over n f ≡ x
over_only zero w x f l h o = absurd (omega (arith, l))
over_only (suc n) w x f l h o = elim (cases_eq w n) [
  | inl e ↦ (
      let at : f n ≡ f w = ap f (sym e) in
      let rest : over n f ≡ 0 = over_none n f (λ v m. o v (omega arith) (λ q. absurd (omega (arith, q, m, e)))) in omega
      (arith, at, h, rest))
  | inr e ↦ (
      let ne : w ≢ n = e in
      let at : f n ≡ 0 = o n (omega arith) (λ q. e (sym q)) in
      let rest : over n f ≡ x = over_only n w x f (omega (arith, l, ne)) h (λ v m. o v (omega arith)) in omega (arith, at, rest))
]

hits_of_name_behind : (g i : ℕ) (n : Name) → n.to ≤ i → hits_of_name g i n ≡ 0
hits_of_name_behind g i n h = grind (arith, nat_tests)

-- a block names the first sample of no other block
other_block : (g start block k b : ℕ) (n : Name) → 0 < block → n.from ≡ start + b * block → n.to ≤ n.from + block → k ≢ b → hits_of_name g
    (start + k * block) n ≡ 0
other_block g start block k b n pos from short ne = elim (cases_lt k b) [
  | inl low ↦ (
      let up : (k + 1) * block ≤ b * block = mul-le-mul_right block (omega (arith, low)) in
      let split : (k + 1) * block ≡ k * block + block = omega arith in
      hits_of_name_past g (start + k * block) n (λ q. omega (arith, up, split, from, pos)))
  | inr high ↦ (
      let up : (b + 1) * block ≤ k * block = mul-le-mul_right block (omega (arith, high, ne)) in
      let split : (b + 1) * block ≡ b * block + block = omega arith in
      hits_of_name_behind g (start + k * block) n (omega (arith, up, split, from, short)))
]

-- the windows begin alike: one block more
pub one_block_more : (gauges block b : ℕ) (starts : ℕ → ℕ) (l : List Name) (n : Name) → 0 < block → n.gauge < gauges → b < BLOCKS_PER_WINDOW
    → n.from ≡ starts n.gauge + b * block → n.from < n.to → n.to ≤ n.from + block
    → over gauges (λ g. over BLOCKS_PER_WINDOW (λ k. hits g (starts g + k * block) (l ++ n ∷ []))) ≡ over gauges
    (λ g. over BLOCKS_PER_WINDOW (λ k. hits g (starts g + k * block) l)) + 1
one_block_more gauges block b starts l n pos known few from some short =
    let one : (g k : ℕ) → hits g (starts g + k * block) (l ++ n ∷ [])
    ≡ hits g (starts g + k * block) l + hits_of_name g (starts g + k * block) n =
    λ g k. (let e : hits g (starts g + k * block) (l ++ n ∷ [])
    ≡ hits g (starts g + k * block) l + (hits_of_name g (starts g + k * block) n + 0) =
    hits-append g (starts g + k * block) l (n ∷ []) in omega (arith, e)) in
    let inner : (g : ℕ) → over BLOCKS_PER_WINDOW (λ k. hits g (starts g + k * block) (l ++ n ∷ [])) ≡ over BLOCKS_PER_WINDOW
    (λ k. hits g (starts g + k * block) l) + over BLOCKS_PER_WINDOW (λ k. hits_of_name g (starts g + k * block) n) =
    λ g. over_same BLOCKS_PER_WINDOW _ (λ k. hits g (starts g + k * block) l + hits_of_name g (starts g + k * block) n) (λ k m. one g k)
    ∙ over_sum BLOCKS_PER_WINDOW (λ k. hits g (starts g + k * block) l) (λ k. hits_of_name g (starts g + k * block) n) in
    let outer : over gauges (λ g. over BLOCKS_PER_WINDOW (λ k. hits g (starts g + k * block) (l ++ n ∷ []))) ≡ over gauges
    (λ g. over BLOCKS_PER_WINDOW (λ k. hits g (starts g + k * block) l))
    + over gauges (λ g. over BLOCKS_PER_WINDOW (λ k. hits_of_name g (starts g + k * block) n)) = over_same gauges _
    (λ g. over BLOCKS_PER_WINDOW (λ k. hits g (starts g + k * block) l) + over BLOCKS_PER_WINDOW
    (λ k. hits_of_name g (starts g + k * block) n))
    (λ g m. inner g) ∙ over_sum gauges (λ g. over BLOCKS_PER_WINDOW (λ k. hits g (starts g + k * block) l))
    (λ g. over BLOCKS_PER_WINDOW (λ k. hits_of_name g (starts g + k * block) n)) in
    let here : hits_of_name n.gauge (starts n.gauge + b * block) n ≡ 1 = hits_of_name_inside n.gauge (starts n.gauge + b * block) n refl
    (omega (arith, from)) (omega (arith, from, some)) in
    let block_sum : over BLOCKS_PER_WINDOW (λ k. hits_of_name n.gauge (starts n.gauge + k * block) n) ≡ 1 = over_only BLOCKS_PER_WINDOW b 1
    (λ k. hits_of_name n.gauge (starts n.gauge + k * block) n) few here
    (λ k m ne. other_block n.gauge (starts n.gauge) block k b n pos from short ne) in
    let sums : over gauges (λ g. over BLOCKS_PER_WINDOW (λ k. hits_of_name g (starts g + k * block) n)) ≡ 1 =
    over_only gauges n.gauge 1 (λ g. over BLOCKS_PER_WINDOW (λ k. hits_of_name g (starts g + k * block) n)) known block_sum
    (λ g m ne. over_none BLOCKS_PER_WINDOW (λ k. hits_of_name g (starts g + k * block) n) (λ k h.
    hits_of_name_other g (starts g + k * block) n (λ q. ne (sym q)))) in
    omega (arith, outer, sums)

between_means : (a b i : ℕ) → (between a b i ≡ 0) ⊎ ((between a b i ≡ 1) × (a ≤ i) × (i < b))
between_means a b i = grind (arith, nat_tests)

-- intervals that do not overlap name a sample at most once
pub spans_one : (i : ℕ) (l : List SegmentValue) → ((j k : ℕ) (d : SegmentValue) → j < k → k < length l → (get_or l j d).from <
    (get_or l j d).to → (get_or l k d).from < (get_or l k d).to → (get_or l j d).to ≤ (get_or l k d).from) → spans i l ≤ 1
spans_one i [] h = omega arith
spans_one i (s ∷ l) h = elim (between_means s.from s.to i) [
  | inl none ↦ (let e : spans i l ≤ 1 = spans_one i l (λ j k d m u a b. h (suc j) (suc k) d (omega (arith, m))
      (omega (arith, u)) a b) in omega (arith, none, e))
  | inr (one, from, to) ↦ (
      let rest : spans i l ≡ 0 = spans_none i l (λ k d m. between_off (get_or l k d).from (get_or l k d).to i
      (λ some. inr (let far : s.to ≤ (get_or l k d).from = h 0 (suc k) d (omega arith) (omega (arith, m))
      (omega (arith, from, to)) some in omega (arith, far, to)))) in
      omega (arith, one, rest))
]

pub row_once : (block gauge i : ℕ) (kind : GridValue) (r : Row) → IsRow block kind gauge r → spans i r.slots ≤ 1
row_once block gauge i kind r h = spans_one i r.slots (λ j k d m u a b. let far : (get_or r.slots j d).to < (get_or r.slots k d).from =
    h.apart j k d m (omega (arith, u, h.long)) a b in omega (arith, far))
