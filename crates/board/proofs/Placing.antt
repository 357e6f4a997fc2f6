-- What a deposit does to the intervals of a gauge.
use Rattle.std.proofs.Common.{◌≡◌, ◌≢◌, ◌⊎◌, inl, inr, ◌≤◌, ◌<◌, ◌+◌, ◌-◌, ◌*◌, ℕ, suc, List, [], ◌∷◌, ◌++◌, length, get_or, set, take, drop, refl, sym, ap, ◌∙◌, subst, arith}
use Rattle.std.proofs.lemmas.List.{get_or-set_same, get_or-set_other, get_or_default, drop-drop}
use Rattle.std.proofs.lemmas.Bool.{cases_lt}
use Rattle.std.proofs.lemmas.Bool.Decides.{nat_tests}
use Rattle.std.proofs.Math.ListN.{length-set}
use Rattle.std.proofs.Math.Nat.{mul-le-mul_right}
use Rattle.std.proofs.Math.Seq.{take-add}
use Rattle.std.specs.Prelude.{slice_range, ℤ}
use Rattle.calibration.specs.Gain.{GainValue}
use Rattle.calibration.specs.Grid.{GridValue}
use Rattle.segment.specs.Segment.{SegmentValue, Stands}
use Rattle.board.specs.flow.Kept.{between}
use Rattle.board.proofs.on_flow.Counting.{between_parts}
use Rattle.segment.specs.Name.{name_of}
use Rattle.board.specs.Board.{spans, IsRow, IsSlot, StandsIn}
use Rattle.board.specs.Rows.{IsEmpty, IsCopy, IsJoin, CopiesToPlace, JoinsToPlace, ClosesGapAt, CanPlace, PlacesSegment, AllStand}
use Rattle.board.proofs.Lists.{at_set}
use Rattle.board.proofs.Slots.{spans-set}
use Rattle.board.specs.declared.flow.TheConstants.{BLOCKS_PER_WINDOW}

-- a row in which the interval at t may touch the one at n, and no others touch
pub record Loose (start block gauge : ℕ) (kind : GridValue) (t n : ℕ) (l : List SegmentValue) : Type 0 where
  pub long : length l ≡ BLOCKS_PER_WINDOW
  pub each : (k : ℕ) (d : SegmentValue) → k < BLOCKS_PER_WINDOW → IsSlot block kind gauge (get_or l k d)
  pub first : (d : SegmentValue) → (get_or l 0 d).from ≡ start
  pub shape : (k : ℕ) (d : SegmentValue) → k < BLOCKS_PER_WINDOW → (get_or l k d).from < (get_or l k d).to →
      ((get_or l k d).from ≡ start + k * block) × ((get_or l k d).to ≤ start + BLOCKS_PER_WINDOW * block)
  pub apart : (j k : ℕ) (d : SegmentValue) → j < k → k < BLOCKS_PER_WINDOW → (get_or l j d).from < (get_or l j d).to → (get_or l k d).from <
      (get_or l k d).to → ((get_or l j d).to ≤ (get_or l k d).from) × ((get_or l j d).to ≡ (get_or l k d).from → (j ≡ t) × (k ≡ n))

-- a later block begins where a block ends, or behind it
later : (start block k b from to at : ℕ) → 0 < block → k < b → from ≡ start + k * block → to ≤ from + block → at ≡ start + b * block →
    (to ≤ at) × (to ≡ at → b ≡ k + 1)
later start block k b from to at pos h e s f =
    let m = b - k - 1 in
    let is : b ≡ k + 1 + m = omega (arith, h) in
    let more : b * block ≡ (k + 1 + m) * block = ap (λ n. n * block) is in
    let split : (k + 1 + m) * block ≡ k * block + block + m * block = omega arith in (
      omega (arith, e, s, f, more, split),
      λ q. elim (cases_lt 0 m) [
        | inl some ↦
            (let far : 1 * block ≤ m * block = mul-le-mul_right block some in absurd
            (omega (arith, e, s, f, more, split, q, far, pos)))
        | inr few ↦ omega (arith, is, few)
      ],
    )

pub put_loose : (start block k : ℕ) (old new : List SegmentValue) (segment : SegmentValue) → IsRow block segment.grid segment.gauge
    (record { start = start; slots = old }) → CanPlace start block k segment
    → ((i : ℕ) (d : SegmentValue) → i ≤ k → (get_or old i d).from < (get_or old i d).to → (get_or old i d).to < segment.from) →
    (p : CopiesToPlace old new k segment) → Loose start block segment.gauge segment.grid k (k + 1) (set old k p.now)
put_loose start block k old new segment r c before p =
    let l : k < length old = omega (arith, r.long, c.place) in
    let x = p.now in
    let from : x.from ≡ segment.from = ap (λ n. n.from) p.copy.name in
    let to : x.to ≡ segment.to = ap (λ n. n.to) p.copy.name in
    record {
      long = length-set old k x ∙ r.long;
      each = λ i d h. at_set (λ i s. IsSlot block segment.grid segment.gauge s) old k x i d l (λ e. r.each i d h) (λ e. record {
        gauge = ap (λ n. n.gauge) p.copy.name;
        grid = p.copy.grid;
        longest = p.copy.longest ∙ ap (λ (z : SegmentValue). z.longest) (sym (p.at d)) ∙ (r.each k d c.place).longest;
        ordered = omega (arith, from, to, c.some);
        vacant = λ none. absurd (omega (arith, from, to, c.some, none));
      });
      first = λ d. at_set (λ i s. i ≡ 0 → s.from ≡ start) old k x 0 d l (λ e z. r.first d)
          (λ e z. let none : k * block ≡ 0 * block = ap (λ n. n * block) z in omega (arith, from, c.from, none)) refl;
      shape = λ i d h. at_set (λ i s. s.from < s.to → (s.from ≡ start + i * block) × (s.to ≤ start + BLOCKS_PER_WINDOW * block))
          old k x i d l (λ e. r.shape i d h) (λ e some. (from ∙ c.from, omega (arith, to, c.window)));
      apart = λ i j d h m. at_set (λ i s. i < j → s.from < s.to → (get_or (set old k x) j d).from < (get_or (set old k x) j d).to →
          (s.to ≤ (get_or (set old k x) j d).from) × (s.to ≡ (get_or (set old k x) j d).from → (i ≡ k) × (j ≡ k + 1))) old k x i d l
          (λ e. at_set (λ j s. i < j → (get_or old i d).from < (get_or old i d).to → s.from < s.to → ((get_or old i d).to ≤ s.from) ×
          ((get_or old i d).to ≡ s.from → (i ≡ k) × (j ≡ k + 1))) old k x j d l
          (λ f u a b. let far : (get_or old i d).to < (get_or old j d).from = r.apart i j d u m a b in
          (omega (arith, far), λ q. absurd (omega (arith, far, q))))
          (λ f u a b. let near : (get_or old i d).to < segment.from = before i d (omega (arith, u)) a in
          (omega (arith, near, from), λ q. absurd (omega (arith, near, from, q)))))
          (λ e. at_set (λ j s. k < j → x.from < x.to → s.from < s.to → (x.to ≤ s.from) ×
          (x.to ≡ s.from → (k ≡ k) × (j ≡ k + 1))) old k x j d l
          (λ f u a b. let g = later start block k j segment.from segment.to (get_or old j d).from c.some_block u c.from c.short
          (r.shape j d m b).0 in (omega (arith, g.0, to), λ q. (refl, g.1 (omega (arith, to, q)))))
          (λ f u a b. absurd (omega (arith, u))))
          h;
    }

pub extend_loose : (start block j k : ℕ) (old new : List SegmentValue) (segment : SegmentValue) → IsRow block segment.grid segment.gauge
    (record { start = start; slots = old }) → CanPlace start block k segment → j < k
    → ((d : SegmentValue) → (get_or old j d).from < (get_or old j d).to) →
    ((i : ℕ) (d : SegmentValue) → j < i → i ≤ k → IsEmpty (get_or old i d)) → ((d : SegmentValue) → (get_or old j d).to ≡ segment.from) →
    (p : JoinsToPlace old new j segment) → Loose start block segment.gauge segment.grid j (k + 1) (set old j p.now)
extend_loose start block j k old new segment r c less full empties touch p =
    let l : j < length old = omega (arith, r.long, c.place, less) in
    let x = p.now in
    let gauge : x.gauge ≡ p.was.gauge = ap (λ n. n.gauge) p.join.name in
    let from : x.from ≡ p.was.from = ap (λ n. n.from) p.join.name in
    let to : x.to ≡ segment.to = ap (λ n. n.to) p.join.name in
    let was_from : (d : SegmentValue) → (get_or old j d).from ≡ x.from = λ d. ap (λ s. s.from) (p.at d) ∙ sym from in
    let js : j < BLOCKS_PER_WINDOW = omega (arith, less, c.place) in
    record {
      long = length-set old j x ∙ r.long;
      each = λ i d h. at_set (λ i s. IsSlot block segment.grid segment.gauge s) old j x i d l (λ e. r.each i d h) (λ e. record {
        gauge = gauge ∙ ap (λ (z : SegmentValue). z.gauge) (sym (p.at d)) ∙ (r.each j d js).gauge;
        grid = p.join.grid ∙ ap (λ (z : SegmentValue). z.grid) (sym (p.at d)) ∙ (r.each j d js).grid;
        longest = p.join.longest ∙ ap (λ (z : SegmentValue). z.longest) (sym (p.at d)) ∙ (r.each j d js).longest;
        ordered = omega (arith, was_from d, to, full d, touch d, c.some);
        vacant = λ none. absurd (omega (arith, was_from d, to, full d, touch d, c.some, none));
      });
      first = λ d. at_set (λ i s. i ≡ 0 → s.from ≡ start) old j x 0 d l (λ e z. r.first d)
          (λ e z. sym (was_from d) ∙ ap (λ i. (get_or old i d).from) z ∙ r.first d) refl;
      shape = λ i d h. at_set (λ i s. s.from < s.to → (s.from ≡ start + i * block) × (s.to ≤ start + BLOCKS_PER_WINDOW * block))
          old j x i d l (λ e. r.shape i d h) (λ e some. (sym (was_from d) ∙ (r.shape j d js (full d)).0, omega (arith, to, c.window)));
      apart = λ a b d h m. at_set (λ i s. i < b → s.from < s.to → (get_or (set old j x) b d).from < (get_or (set old j x) b d).to →
          (s.to ≤ (get_or (set old j x) b d).from) × (s.to ≡ (get_or (set old j x) b d).from → (i ≡ j) × (b ≡ k + 1))) old j x a d l
          (λ e. at_set (λ i s. a < i → (get_or old a d).from < (get_or old a d).to → s.from < s.to → ((get_or old a d).to ≤ s.from) ×
          ((get_or old a d).to ≡ s.from → (a ≡ j) × (i ≡ k + 1))) old j x b d l
          (λ f u s t. let far : (get_or old a d).to < (get_or old b d).from = r.apart a b d u m s t in
          (omega (arith, far), λ q. absurd (omega (arith, far, q))))
          (λ f u s t. let far : (get_or old a d).to < (get_or old j d).from = r.apart a j d u js s (full d) in
          (omega (arith, far, was_from d), λ q. absurd (omega (arith, far, was_from d, q)))))
          (λ e. at_set (λ i s. j < i → x.from < x.to → s.from < s.to → (x.to ≤ s.from) ×
          (x.to ≡ s.from → (j ≡ j) × (i ≡ k + 1))) old j x b d l
          (λ f u s t. elim (cases_lt k b) [
            | inl past ↦ (let g = later start block k b segment.from segment.to (get_or old b d).from c.some_block past c.from c.short
                (r.shape b d m t).0 in (omega (arith, g.0, to), λ q. (refl, g.1 (omega (arith, to, q)))))
            | inr upto ↦ (let none : (get_or old b d).to ≤ (get_or old b d).from = empties b d u upto in absurd (omega (arith, none, t)))
          ])
          (λ f u s t. absurd (omega (arith, u))))
          h;
    }

pub close_row : (start block gauge : ℕ) (kind : GridValue) (j n : ℕ) (old new : List SegmentValue) → j < n →
    ((d : SegmentValue) → (get_or old j d).from < (get_or old j d).to) → Loose start block gauge kind j n old → ClosesGapAt old new j n
    → IsRow block kind gauge (record { start = start; slots = new })
close_row start block gauge kind j n old new less full_j r (inr (same, open_there)) =
    subst (λ l. IsRow block kind gauge (record { start = start; slots = l })) (sym same) (record {
      long = r.long;
      each = r.each;
      first = r.first;
      shape = r.shape;
      apart = λ a b d h m s t. let near = r.apart a b d h m s t in elim (cases_lt (get_or old a d).to (get_or old b d).from) [
        | inl far ↦ far
        | inr touch ↦ (
            let at : (get_or old a d).to ≡ (get_or old b d).from = omega (arith, near.0, touch) in
            let who = near.1 at in
            absurd (open_there d (omega (arith, who.1, m, r.long)) (subst (λ i. (get_or old i d).from < (get_or old i d).to) who.1 t)
            (ap (λ i. (get_or old i d).to) (sym who.0) ∙ at ∙ ap (λ i. (get_or old i d).from) who.1)))
      ];
    })
close_row start block gauge kind j n old new less full_j r (inl (p, (inside, touch, full))) =
    let x = p.now in let y = p.left in
    let lj : j < length old = omega (arith, inside, less) in
    let long : length (set old j x) ≡ length old = length-set old j x in
    let ln : n < length (set old j x) = omega (arith, long, inside) in
    let n16 : n < BLOCKS_PER_WINDOW = omega (arith, inside, r.long) in let j16 : j < BLOCKS_PER_WINDOW = omega (arith, n16, less) in
    let gauge_x : x.gauge ≡ p.was.gauge = ap (λ m. m.gauge) p.join.name in
    let from_x : (d : SegmentValue) → x.from ≡ (get_or old j d).from = λ d. ap (λ m. m.from) p.join.name ∙ ap (λ s. s.from)
    (sym (p.at d)) in
    let to_x : (d : SegmentValue) → x.to ≡ (get_or old n d).to = λ d. ap (λ m. m.to) p.join.name ∙ ap (λ s. s.to) (sym (p.at_next d)) in
    let gone : y.to ≡ y.from = p.emptied.to ∙ sym p.emptied.from in
    let final = set (set old j x) n y in
    let place : (Q : ℕ → SegmentValue → Type 0) (i : ℕ) (d : SegmentValue) → (i ≢ n → i ≢ j → Q i (get_or old i d)) → (i ≡ j → Q j x) →
    (i ≡ n → Q n y) → Q i (get_or final i d) = λ Q i d a b c. at_set Q (set old j x) n y i d ln
    (λ e. at_set Q old j x i d lj (a e) b) c in
    subst (λ l. IsRow block kind gauge (record { start = start; slots = l })) (sym p.set) (record {
      long = length-set (set old j x) n y ∙ long ∙ r.long;
      each = λ i d h. place (λ i s. IsSlot block kind gauge s) i d (λ e f. r.each i d h)
          (λ e. record {
            gauge = gauge_x ∙ ap (λ (z : SegmentValue). z.gauge) (sym (p.at d)) ∙ (r.each j d j16).gauge;
            grid = p.join.grid ∙ ap (λ (z : SegmentValue). z.grid) (sym (p.at d)) ∙ (r.each j d j16).grid;
            longest = p.join.longest ∙ ap (λ (z : SegmentValue). z.longest) (sym (p.at d)) ∙ (r.each j d j16).longest;
            ordered = omega (arith, from_x d, to_x d, full_j d, touch d, full d);
            vacant = λ none. absurd (omega (arith, from_x d, to_x d, full_j d, touch d, full d, none));
          })
          (λ e. record {
            gauge = p.emptied.gauge ∙ ap (λ (z : SegmentValue). z.gauge) (sym (p.at_next d)) ∙ (r.each n d n16).gauge;
            grid = p.emptied.grid ∙ ap (λ (z : SegmentValue). z.grid) (sym (p.at_next d)) ∙ (r.each n d n16).grid;
            longest = p.emptied.longest ∙ ap (λ (z : SegmentValue). z.longest) (sym (p.at_next d)) ∙ (r.each n d n16).longest;
            ordered = omega (arith, gone);
            vacant = λ none. p.emptied.stands;
          });
      first = λ d. place (λ i s. i ≡ 0 → s.from ≡ start) 0 d (λ e f z. r.first d)
          (λ e z. from_x d ∙ ap (λ i. (get_or old i d).from) z ∙ r.first d) (λ e z. absurd (omega (arith, z, less))) refl;
      shape = λ i d h. place (λ i s. s.from < s.to → (s.from ≡ start + i * block) × (s.to ≤ start + BLOCKS_PER_WINDOW * block))
          i d (λ e f. r.shape i d h)
          (λ e s. (from_x d ∙ (r.shape j d j16 (full_j d)).0, omega (arith, to_x d, (r.shape n d n16 (full d)).1)))
          (λ e s. absurd (omega (arith, s, gone)));
      apart = λ a b d h m.
          let Pair : ℕ → SegmentValue → ℕ → SegmentValue → Type 0 = λ i s k z. i < k → k < BLOCKS_PER_WINDOW → s.from < s.to → z.from < z.to
          → s.to < z.from in
          place (λ i s. Pair i s b (get_or final b d)) a d
          (λ na ja. place (λ k z. Pair a (get_or old a d) k z) b d
          (λ nb jb u v s z. let near = r.apart a b d u v s z in elim
          (cases_lt (get_or old a d).to (get_or old b d).from) [
            | inl far ↦ far
            | inr touch_ab ↦ absurd
                (ja (near.1 (omega (arith, near.0, touch_ab))).0)
          ])
          (λ jb u v s z. let near = r.apart a j d u j16 s (full_j d) in elim
          (cases_lt (get_or old a d).to (get_or old j d).from) [
            | inl far ↦ omega (arith, far, from_x d)
            | inr touch_ab ↦ absurd
                (ja (near.1 (omega (arith, near.0, touch_ab))).0)
          ])
          (λ nb u v s z. absurd (omega (arith, z, gone))))
          (λ ja. place (λ k z. Pair j x k z) b d
          (λ nb jb u v s z. elim (cases_lt n b) [
            | inl past ↦ (let near = r.apart n b d past v (full d) z in elim
                (cases_lt (get_or old n d).to (get_or old b d).from) [
                  | inl far ↦ omega (arith, far, to_x d)
                  | inr touch_nb ↦
                      (let is : n ≡ j = (near.1 (omega (arith, near.0, touch_nb))).0 in absurd (omega (arith, is, less)))
                ])
            | inr upto ↦ (
                let before : b < n = omega (arith, upto, nb) in
                let one = r.apart j b d u v (full_j d) z in
                let two = r.apart b n d before n16 z (full d) in
                absurd (omega (arith, one.0, two.0, touch d, z)))
          ])
          (λ jb u v s z. absurd (omega (arith, u)))
          (λ nb u v s z. absurd (omega (arith, z, gone))))
          (λ na u v s z. absurd (omega (arith, s, gone)))
          h m;
    })

between_empty : (a b i : ℕ) → b ≤ a → between a b i ≡ 0
between_empty a b i h = grind (arith, nat_tests)

between_same : (a b c d i : ℕ) → a ≡ c → b ≡ d → between a b i ≡ between c d i
between_same a b c d i e f = ap (λ x. between x b i) e ∙ ap (λ x. between c x i) f

pub between_off : (a b i : ℕ) → (a < b → (b ≤ i) ⊎ (i < a)) → between a b i ≡ 0
between_off a b i h = grind (arith, nat_tests)

pub put_spans : (k i : ℕ) (old : List SegmentValue) (segment x : SegmentValue) → k < length old →
    ((d : SegmentValue) → IsEmpty (get_or old k d)) → name_of x ≡ (name_of segment) → spans i
    (set old k x) ≡ spans i old + between segment.from segment.to i
put_spans k i old segment x l empty e =
    let s : spans i (set old k x) + between (get_or old k x).from (get_or old k x).to i ≡ spans i old + between x.from x.to i =
    spans-set i old k x x l in
    omega (arith, s, between_empty (get_or old k x).from (get_or old k x).to i (empty x), ap (λ n. between n.from n.to i) e)

pub extend_spans : (j i : ℕ) (old new : List SegmentValue) (segment : SegmentValue) → j < length old →
    (p : JoinsToPlace old new j segment) →
    ((d : SegmentValue) → (get_or old j d).to ≡ segment.from) → ((d : SegmentValue) → (get_or old j d).from < (get_or old j d).to)
    → segment.from < segment.to → spans i (set old j p.now) ≡ spans i old + between segment.from segment.to i
extend_spans j i old new segment l p touch full some =
    let x = p.now in
    let s : spans i (set old j x) + between (get_or old j x).from (get_or old j x).to i ≡ spans i old + between x.from x.to i =
    spans-set i old j x x l in
    let from : x.from ≡ (get_or old j x).from = ap (λ m. m.from) p.join.name ∙ ap (λ s. s.from) (sym (p.at x)) in
    let to : x.to ≡ segment.to = ap (λ m. m.to) p.join.name in
    let whole : between x.from x.to i ≡ between (get_or old j x).from segment.to i = between_same _ _ _ _ i from to in
    let first : between (get_or old j x).from (get_or old j x).to i ≡ between (get_or old j x).from segment.from i =
    between_same _ _ _ _ i refl (touch x) in
    let parts : between (get_or old j x).from segment.from i + between segment.from segment.to i
    ≡ between (get_or old j x).from segment.to i =
    between_parts _ _ _ i (omega (arith, full x, touch x)) (omega (arith, some)) in
    omega (arith, s, whole, first, parts)

pub close_spans : (j n i : ℕ) (old new : List SegmentValue) → j < n → ((d : SegmentValue) → (get_or old j d).from < (get_or old j d).to)
    → ClosesGapAt old new j n → spans i new ≡ spans i old
close_spans j n i old new less full_j (inr (same, open_there)) = ap (spans i) same
close_spans j n i old new less full_j (inl (p, (inside, touch, full))) =
    let x = p.now in let y = p.left in
    let lj : j < length old = omega (arith, inside, less) in
    let ln : n < length (set old j x) = omega (arith, length-set old j x, inside) in
    let one : spans i (set old j x) + between (get_or old j x).from (get_or old j x).to i ≡ spans i old + between x.from x.to i =
    spans-set i old j x x lj in
    let two : spans i (set (set old j x) n y) + between (get_or (set old j x) n x).from (get_or (set old j x) n x).to i ≡ spans i
    (set old j x) + between y.from y.to i = spans-set i (set old j x) n y x ln in
    let other : get_or (set old j x) n x ≡ get_or old n x = get_or-set_other old j n x x (λ e. omega (arith, e, less)) in
    let second : between (get_or (set old j x) n x).from (get_or (set old j x) n x).to i ≡ between (get_or old n x).from
    (get_or old n x).to i = ap (λ s. between s.from s.to i) other in
    let left : between y.from y.to i ≡ 0 = between_empty _ _ i (omega (arith, p.emptied.from, p.emptied.to)) in
    let from : x.from ≡ (get_or old j x).from = ap (λ m. m.from) p.join.name ∙ ap (λ s. s.from) (sym (p.at x)) in
    let to : x.to ≡ (get_or old n x).to = ap (λ m. m.to) p.join.name ∙ ap (λ s. s.to) (sym (p.at_next x)) in
    let whole : between x.from x.to i ≡ between (get_or old j x).from (get_or old n x).to i = between_same _ _ _ _ i from to in
    let first : between (get_or old j x).from (get_or old j x).to i ≡ between (get_or old j x).from (get_or old n x).from i =
    between_same _ _ _ _ i refl (touch x) in
    let parts : between (get_or old j x).from (get_or old n x).from i + between (get_or old n x).from (get_or old n x).to i ≡ between
    (get_or old j x).from (get_or old n x).to i = between_parts _ _ _ i (omega (arith, full_j x, touch x)) (omega (arith, full x)) in
    ap (spans i) p.set ∙ omega (arith, one, two, second, left, whole, first, parts)

-- no interval has the sample
pub spans_none : (i : ℕ) (l : List SegmentValue) → ((k : ℕ) (d : SegmentValue) → k < length l → between (get_or l k d).from
    (get_or l k d).to i ≡ 0) → spans i l ≡ 0
spans_none i [] h = refl
spans_none i (s ∷ l) h = let e : spans i l ≡ 0 = spans_none i l
    (λ k d m. h (suc k) d (omega (arith, m))) in let f : between s.from s.to i ≡ 0 = h 0 s (omega arith) in omega (arith, e, f)

pub free_there : (start block k : ℕ) (old : List SegmentValue) (segment : SegmentValue) → IsRow block segment.grid segment.gauge
    (record { start = start; slots = old }) → CanPlace start block k segment
    → ((i : ℕ) (d : SegmentValue) → i ≤ k → (get_or old i d).from < (get_or old i d).to → (get_or old i d).to ≤ segment.from)
    → spans segment.from old ≡ 0
free_there start block k old segment r c before = spans_none segment.from old
    (λ i d m. between_off (get_or old i d).from (get_or old i d).to segment.from (λ some. elim (cases_lt k i) [
      | inl past ↦ inr (let g = later start block k i segment.from segment.to (get_or old i d).from c.some_block past c.from c.short
          (r.shape i d (omega (arith, m, r.long)) some).0 in omega (arith, g.0, c.some))
      | inr upto ↦ inl (before i d upto some)
    ]))

pub slices : (w : List ℤ) (a b c : ℕ) → a ≤ b → b ≤ c → slice_range w a b ++ slice_range w b c ≡ slice_range w a c
slices w a b c h k =
    let n : a + (b - a) ≡ b = omega (arith, h) in
    let m : (b - a) + (c - b) ≡ c - a = omega (arith, h, k) in
    ap (λ l. take (b - a) (drop a w) ++ take (c - b) l) (sym (drop-drop (b - a) a w ∙ ap (λ i. drop i w) n)) ∙ sym
    (take-add (b - a) (c - b) (drop a w)) ∙ ap (λ i. take i (drop a w)) m

copy_stands : (gain : GainValue) (w : List ℤ) (m : ℕ) (segment x : SegmentValue) → IsCopy m segment x → StandsIn segment gain w →
    StandsIn x gain w
copy_stands gain w m segment x c h = subst (λ n. Stands x gain (slice_range w n.from n.to)) (sym c.name)
    (c.stands gain (slice_range w segment.from segment.to) h)

join_stands : (gain : GainValue) (w : List ℤ) (was segment x : SegmentValue) → IsJoin was segment x → was.to ≡ segment.from →
    was.from ≤ was.to
    → segment.from ≤ segment.to → StandsIn was gain w → StandsIn segment gain w → StandsIn x gain w
join_stands gain w was segment x j touch a b h k =
    let both_parts : Stands x gain (slice_range w was.from was.to ++ slice_range w segment.from segment.to) = j.stands gain _ _ h k in
    let is : slice_range w was.from was.to ++ slice_range w segment.from segment.to ≡ slice_range w was.from segment.to =
    ap (λ i. slice_range w was.from was.to ++ slice_range w i segment.to) (sym touch) ∙ slices w was.from was.to segment.to a
    (omega (arith, touch, b)) in
    subst (λ n. Stands x gain (slice_range w n.from n.to)) (sym j.name) (subst (Stands x gain) is both_parts)

-- an empty segment
pub none_stand : (gain : GainValue) (w : List ℤ) (y : SegmentValue) → y.to ≡ y.from → Stands y gain [] → StandsIn y gain w
none_stand gain w y e h = let few : y.to - y.from ≡ 0 = omega (arith, e) in subst (Stands y gain)
    (sym (ap (λ n. take n (drop y.from w)) few)) h

put_stands : (gain : GainValue) (k : ℕ) (w : List ℤ) (old : List SegmentValue) (m : ℕ) (segment x : SegmentValue) → k < length old
    → IsCopy m segment x → AllStand gain w old → StandsIn segment gain w → AllStand gain w (set old k x)
put_stands gain k w old n segment x l c h s i d m = at_set (λ i z. StandsIn z gain w) old k x i d l (λ e. h i d m)
    (λ e. copy_stands gain w n segment x c s)

extend_stands : (gain : GainValue) (j : ℕ) (w : List ℤ) (old new : List SegmentValue) (segment : SegmentValue) → j < length old →
    j < BLOCKS_PER_WINDOW → ((d : SegmentValue) → (get_or old j d).from < (get_or old j d).to)
    → ((d : SegmentValue) → (get_or old j d).to ≡ segment.from)
    → segment.from < segment.to → (p : JoinsToPlace old new j segment) → AllStand gain w old → StandsIn segment gain w →
    AllStand gain w (set old j p.now)
extend_stands gain j w old new segment l j16 full touch some p h s i d m =
    at_set (λ i z. StandsIn z gain w) old j p.now i d l (λ e. h i d m)
    (λ e. join_stands gain w p.was segment p.now p.join (ap (λ z. z.to) (sym (p.at d)) ∙ touch d)
    (subst (λ (z : SegmentValue). z.from ≤ z.to) (p.at d) (omega (arith, full d))) (omega (arith, some))
    (subst (λ z. StandsIn z gain w) (p.at d) (h j d j16)) s)

close_stands : (gain : GainValue) (j n : ℕ) (w : List ℤ) (old new : List SegmentValue) → j < n → length old ≡ BLOCKS_PER_WINDOW →
    ((d : SegmentValue) → (get_or old j d).from < (get_or old j d).to) → ClosesGapAt old new j n → AllStand gain w old → AllStand gain w new
close_stands gain j n w old new less long full_j (inr (same, open_there)) h = subst (AllStand gain w) (sym same) h
close_stands gain j n w old new less long full_j (inl (p, (inside, touch, full))) h =
    let x = p.now in let y = p.left in
    let lj : j < length old = omega (arith, inside, less) in
    let ln : n < length (set old j x) = omega (arith, length-set old j x, inside) in
    let gone : y.to ≡ y.from = p.emptied.to ∙ sym p.emptied.from in
    subst (AllStand gain w) (sym p.set) (λ i d m. at_set (λ i z. StandsIn z gain w) (set old j x) n y i d ln
    (λ e. at_set (λ i z. StandsIn z gain w) old j x i d lj (λ f. h i d m)
    (λ f. join_stands gain w p.was p.next x p.join (ap (λ z. z.to) (sym (p.at d)) ∙ touch d ∙ ap (λ z. z.from) (p.at_next d))
    (subst (λ (z : SegmentValue). z.from ≤ z.to) (p.at d) (omega (arith, full_j d)))
    (subst (λ (z : SegmentValue). z.from ≤ z.to) (p.at_next d) (omega (arith, full d)))
    (subst (λ z. StandsIn z gain w) (p.at d) (h j d (omega (arith, lj, long))))
    (subst (λ z. StandsIn z gain w) (p.at_next d) (h n d (omega (arith, inside, long))))))
    (λ e. none_stand gain w y gone (p.emptied.stands gain)))

-- the two ways of a deposit
pub placed_put : (start block k : ℕ) (old mid new : List SegmentValue) (segment : SegmentValue) → IsRow block segment.grid segment.gauge
    (record { start = start; slots = old }) → CanPlace start block k segment
    → ((i : ℕ) (d : SegmentValue) → i ≤ k → (get_or old i d).from < (get_or old i d).to → (get_or old i d).to < segment.from)
    → CopiesToPlace old mid k segment → ClosesGapAt mid new k (k + 1) → PlacesSegment start block old new segment
placed_put start block k old mid new segment r c before p close =
    let x = p.now in
    let l : k < length old = omega (arith, r.long, c.place) in
    let loose = put_loose start block k old mid segment r c before p in
    let closes : ClosesGapAt (set old k x) new k (k + 1) = subst (λ z. ClosesGapAt z new k (k + 1)) p.set close in
    let empty : (d : SegmentValue) → IsEmpty (get_or old k d) = λ d. elim (cases_lt (get_or old k d).from (get_or old k d).to) [
      | inl some ↦ (let near : (get_or old k d).to < segment.from = before k d (omega arith) some in let at =
          (r.shape k d c.place some).0 in absurd (omega (arith, near, at, c.from, some)))
      | inr none ↦ none
    ] in
    let full : (d : SegmentValue) → (get_or (set old k x) k d).from < (get_or (set old k x) k d).to = λ d. subst (λ z. z.from < z.to)
    (sym (get_or-set_same old k x d l)) (subst (λ n. n.from < n.to) (sym p.copy.name) c.some) in
    let less : k < k + 1 = omega arith in
    record {
      free = free_there start block k old segment r c (λ i d u s. omega (arith, before i d u s));
      more = λ i. close_spans k (k + 1) i (set old k x) new less full closes ∙ put_spans k i old segment x l empty p.copy.name;
      row = close_row start block segment.gauge segment.grid k (k + 1) (set old k x) new less full loose closes;
      stands = λ gain w h s. close_stands gain k (k + 1) w (set old k x) new less loose.long full closes
          (put_stands gain k w old p.was.longest segment x l p.copy h s);
    }

-- the place that is joined lies before
pub extend_less : (start block j k : ℕ) (old : List SegmentValue) (segment : SegmentValue) → IsRow block segment.grid segment.gauge
    (record { start = start; slots = old }) → CanPlace start block k segment → j ≤ k
    → ((d : SegmentValue) → (get_or old j d).from < (get_or old j d).to) → ((d : SegmentValue) → (get_or old j d).to ≡ segment.from) → j < k
extend_less start block j k old segment r c upto full touch = elim
    (cases_lt j k) [
      | inl a ↦ a
      | inr a ↦ (let same : k ≡ j = omega (arith, a, upto) in let at =
          (r.shape j segment (omega (arith, upto, c.place)) (full segment)).0 in let far : k * block ≡ j * block =
          ap (λ n. n * block) same in
          absurd
          (omega (arith, at, c.from, far, touch segment, full segment)))
    ]

pub placed_extend : (start block j k : ℕ) (old mid new : List SegmentValue) (segment : SegmentValue) →
    IsRow block segment.grid segment.gauge
    (record { start = start; slots = old }) → CanPlace start block k segment → j ≤ k
    → ((d : SegmentValue) → (get_or old j d).from < (get_or old j d).to) →
    ((i : ℕ) (d : SegmentValue) → j < i → i ≤ k → IsEmpty (get_or old i d)) → ((d : SegmentValue) → (get_or old j d).to ≡ segment.from)
    → JoinsToPlace old mid j segment → ClosesGapAt mid new j (k + 1) → PlacesSegment start block old new segment
placed_extend start block j k old mid new segment r c upto full empties touch p close =
    let x = p.now in
    let j16 : j < BLOCKS_PER_WINDOW = omega (arith, upto, c.place) in
    let l : j < length old = omega (arith, r.long, j16) in
    let less : j < k = elim (cases_lt j k) [
      | inl a ↦ a
      | inr a ↦
          (let same : k ≡ j = omega (arith, a, upto) in let at = (r.shape j x j16 (full x)).0 in let far : k * block ≡ j * block = ap
          (λ n. n * block) same in absurd (omega (arith, at, c.from, far, touch x, full x)))
    ] in
    let loose = extend_loose start block j k old mid segment r c less full empties touch p in
    let closes : ClosesGapAt (set old j x) new j (k + 1) = subst (λ z. ClosesGapAt z new j (k + 1)) p.set close in
    let from : (d : SegmentValue) → x.from ≡ (get_or old j d).from = λ d. ap (λ m. m.from) p.join.name ∙ ap (λ s. s.from) (sym (p.at d)) in
    let to : x.to ≡ segment.to = ap (λ m. m.to) p.join.name in
    let some : x.from < x.to = omega (arith, from x, to, full x, touch x, c.some) in
    let full_now : (d : SegmentValue) → (get_or (set old j x) j d).from < (get_or (set old j x) j d).to = λ d. subst (λ z. z.from < z.to)
    (sym (get_or-set_same old j x d l)) some in
    let behind : j < k + 1 = omega (arith, less) in
    record {
      free = free_there start block k old segment r c (λ i d u s. elim (cases_lt j i) [
        | inl past ↦ (let none : (get_or old i d).to ≤ (get_or old i d).from = empties i d past u in absurd (omega (arith, none, s)))
        | inr down ↦ elim (cases_lt i j) [
          | inl before ↦ (let far : (get_or old i d).to < (get_or old j d).from = r.apart i j d before j16 s (full d) in omega
              (arith, far, full d, touch d))
          | inr up ↦ (let is : i ≡ j = omega (arith, down, up) in let same : (get_or old i d).to ≡ (get_or old j d).to = ap
              (λ n. (get_or old n d).to) is in omega (arith, same, touch d))
        ]
      ]);
      more = λ i. close_spans j (k + 1) i (set old j x) new behind full_now closes ∙ extend_spans j i old mid segment l p touch full c.some;
      row = close_row start block segment.gauge segment.grid j (k + 1) (set old j x) new behind full_now loose closes;
      stands = λ gain w h s. close_stands gain j (k + 1) w (set old j x) new behind loose.long full_now closes
          (extend_stands gain j w old mid segment l j16 full touch c.some p h s);
    }

pub alike : (start block gauge : ℕ) (kind : GridValue) (t n a b : ℕ) (l mid : List SegmentValue) (d : SegmentValue)
    → Loose start block gauge kind t n l → mid ≡ l → a < BLOCKS_PER_WINDOW → b < length mid →
    ((get_or mid a d).grid ≡ (get_or mid b d).grid) × ((get_or mid b d).gauge ≡ (get_or mid a d).gauge)
alike start block gauge kind t n a b l mid d r e h m =
    let b16 : b < BLOCKS_PER_WINDOW = omega (arith, m, ap length e, r.long) in (
      ap (λ z. (get_or z a d).grid) e ∙ (r.each a d h).grid ∙ sym (r.each b d b16).grid ∙ ap (λ z. (get_or z b d).grid) (sym e),
      ap (λ z. (get_or z b d).gauge) e ∙ (r.each b d b16).gauge ∙ sym (r.each a d h).gauge ∙ ap (λ z. (get_or z a d).gauge) (sym e),
    )

pub none_before : (k from : ℕ) (old : List SegmentValue) → ((i : ℕ) (d : SegmentValue) → i ≤ k → IsEmpty (get_or old i d)) → (i : ℕ)
    (d : SegmentValue) → i ≤ k → (get_or old i d).from < (get_or old i d).to → (get_or old i d).to < from
none_before k from old h i d u s = let e : (get_or old i d).to ≤ (get_or old i d).from = h i d u in absurd (omega (arith, e, s))

pub some_before : (start block gauge : ℕ) (kind : GridValue) (j k from : ℕ) (old : List SegmentValue) → IsRow block kind gauge
    (record { start = start; slots = old }) → k < BLOCKS_PER_WINDOW → j ≤ k →
    ((d : SegmentValue) → (get_or old j d).from < (get_or old j d).to) →
    ((i : ℕ) (d : SegmentValue) → j < i → i ≤ k → IsEmpty (get_or old i d)) → ((d : SegmentValue) → (get_or old j d).to < from)
    → (i : ℕ) (d : SegmentValue) → i ≤ k → (get_or old i d).from < (get_or old i d).to → (get_or old i d).to < from
some_before start block gauge kind j k from old r k16 upto full empties near i d u s = elim (cases_lt j i) [
  | inl past ↦ (let e : (get_or old i d).to ≤ (get_or old i d).from = empties i d past u in absurd (omega (arith, e, s)))
  | inr down ↦ elim (cases_lt i j) [
    | inl before ↦ (let far : (get_or old i d).to < (get_or old j d).from = r.apart i j d before (omega (arith, upto, k16)) s
        (full d) in omega (arith, far, full d, near d))
    | inr up ↦ (let is : i ≡ j = omega (arith, down, up) in let same : (get_or old i d).to ≡ (get_or old j d).to = ap
        (λ n. (get_or old n d).to) is in omega (arith, same, near d))
  ]
]

-- what is known of a place by one reading of it
pub to_there : (old : List SegmentValue) (j : ℕ) (e : SegmentValue) (P : ℕ → Type 0) → j < length old → P (get_or old j e).to →
    (d : SegmentValue) → P (get_or old j d).to
to_there old j e P l h d = subst (λ s. P s.to) (get_or_default old j e d l) h

pub begins_before : (start block j k : ℕ) (old : List SegmentValue) (segment e : SegmentValue) → IsRow block segment.grid segment.gauge
    (record { start = start; slots = old }) → CanPlace start block k segment → j ≤ k →
    ((d : SegmentValue) → (get_or old j d).from < (get_or old j d).to) → (get_or old j e).from ≤ segment.from
begins_before start block j k old segment e r c upto full =
    let at = (r.shape j e (omega (arith, upto, c.place)) (full e)).0 in
    let far : j * block ≤ k * block = mul-le-mul_right block upto in omega (arith, at, c.from, far)

pub strictly : (old : List SegmentValue) (j from : ℕ) (a b : SegmentValue) → j < length old → (get_or old j a).to ≤ from →
    ((get_or old j b).to ≢ from) → (d : SegmentValue) → (get_or old j d).to < from
strictly old j from a b l h k d =
    let x : (get_or old j a).to ≡ (get_or old j d).to = ap (λ s. s.to) (get_or_default old j a d l) in
    let y : (get_or old j b).to ≡ (get_or old j d).to = ap (λ s. s.to) (get_or_default old j b d l) in
    omega (arith, x, y, h, k)

-- there is room for the samples of the window behind an interval
pub window_room : (start block gauge : ℕ) (kind : GridValue) (t n a b : ℕ) (l mid : List SegmentValue) (d : SegmentValue)
    → Loose start block gauge kind t n l → mid ≡ l → a < BLOCKS_PER_WINDOW → b < length mid
    → (get_or mid a d).from < (get_or mid a d).to → (get_or mid b d).from < (get_or mid b d).to → (get_or mid b d).to -
    (get_or mid a d).from ≤ (get_or mid a d).longest
window_room start block gauge kind t n a b l mid d r e h m some next =
    let b16 : b < BLOCKS_PER_WINDOW = omega (arith, m, ap length e, r.long) in
    let same : (k : ℕ) → get_or mid k d ≡ get_or l k d = λ k. ap (λ z. get_or z k d) e in
    let first : (get_or l a d).from < (get_or l a d).to = subst (λ (z : SegmentValue). z.from < z.to) (same a) some in
    let last : (get_or l b d).from < (get_or l b d).to = subst (λ (z : SegmentValue). z.from < z.to) (same b) next in
    let longest : (get_or mid a d).longest ≡ BLOCKS_PER_WINDOW * block =
    ap (λ (z : SegmentValue). z.longest) (same a) ∙ (r.each a d h).longest in
    omega (
      arith,
      (r.shape a d h first).0,
      (r.shape b d b16 last).1,
      longest,
      ap (λ (z : SegmentValue). z.from) (same a),
      ap
          (λ (z : SegmentValue). z.to) (same b),
    )

-- an interval begins where a segment was put, and where one was joined
pub slot_at : (k : ℕ) (old new : List SegmentValue) (segment d : SegmentValue) → k < length old → segment.from < segment.to →
    CopiesToPlace old new k segment →
    (get_or new k d).from < (get_or new k d).to
slot_at k old new segment d l some p =
    subst (λ (z : SegmentValue). z.from < z.to) (sym (ap (λ z. get_or z k d) p.set ∙ get_or-set_same old k p.now d l))
    (subst (λ n. n.from < n.to) (sym p.copy.name) some)

pub extended_at : (j : ℕ) (old new : List SegmentValue) (segment d : SegmentValue) → j < length old → segment.from < segment.to →
    ((e : SegmentValue) → (get_or old j e).from < (get_or old j e).to) → ((e : SegmentValue) → (get_or old j e).to ≡ segment.from)
    → JoinsToPlace old new j segment → (get_or new j d).from < (get_or new j d).to
extended_at j old new segment d l some full touch p =
    let from : p.now.from ≡ (get_or old j d).from = ap (λ m. m.from) p.join.name ∙ ap (λ (z : SegmentValue). z.from) (sym (p.at d)) in
    let to : p.now.to ≡ segment.to = ap (λ m. m.to) p.join.name in
    subst (λ (z : SegmentValue). z.from < z.to) (sym (ap (λ z. get_or z j d) p.set ∙ get_or-set_same old j p.now d l))
    (omega (arith, from, to, some, full d, touch d))
