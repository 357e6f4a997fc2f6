-- Equal pairs of an ordered list with_cell together at its front, one entry after another.
use Rattle.std.proofs.Common.{◌≡◌, ℕ, ◌+◌, ◌^◌, ◌<◌, ◌≤◌, ◌⊎◌, inl, inr, List, [], ◌∷◌, ◌++◌, length, get_or, set, take, refl, sym, ap, ◌∙◌, subst, arith, length-set}
use Rattle.std.specs.Prelude.{All, true, false}
use Rattle.std.specs.List.Sorted.{IsNonDecreasingBy}
use Rattle.std.proofs.lemmas.Bool.{cases_lt, cases_eq}
use Rattle.std.proofs.lemmas.Bool.Decides.{nat_tests}
use Rattle.std.proofs.lemmas.List.{take_more, take_more_set, length-take-le, get_or-take, get_or_default, get_or-set_other}
use Rattle.std.proofs.lemmas.List.Sums.{sum_by_more_le, get_or-le-sum_by}
use Rattle.turning_points.specs.Pairs.{is_pair}
use Rattle.tally.specs.declared.cells.Cell.{Cell}
use Rattle.calibration.specs.declared.grid.TheConstants.{MAX_CLASSES}
use Rattle.tally.specs.Counts.{pair_of, total_of, Before, IsAscending, IsCell}
use Rattle.tally.specs.Log.{with_more, with_cell, cells_of, rank}
use Rattle.tally.proofs.Places.{UpTo}
use Rattle.tally.proofs.LogCells.{all-cells_of, ascending-cells_of, total_of-cells_of, cells_of-more, with_cell-end, with_cell-last}

-- the first i entries of xs lie together at the front of items, and the others lie there still
pub record IsPutTogether (xs items : List Cell) (kept i : ℕ) : Type 0 where
  pub bound : kept ≤ i
  pub length_kept : length items ≡ length xs
  pub front : take kept items ≡ cells_of (take i xs)
  pub rest : (k : ℕ) (d : Cell) → i ≤ k → k < length items → get_or items k d ≡ get_or xs k d

abbrev Upto : Cell → Cell → Type 0
Upto c x = UpTo c.lo c.hi x.lo x.hi

abbrev After : Cell → Cell → Type 0
After c x = Before c.lo c.hi x.lo x.hi

rank_by : (c x : Cell) → rank c ≤ rank x → c.hi < 65536 → x.hi < 65536 → ((c.lo < x.lo) ⊎ (x.lo ≤ c.lo)) → Upto c x
rank_by c x r h g (inl l) = grind arith
rank_by c x r h g (inr l) =
    let a : c.lo ≡ x.lo = omega arith in
    let b : c.hi ≤ x.hi = omega arith in
    grind arith

ranked : (c x : Cell) → IsCell MAX_CLASSES c → IsCell MAX_CLASSES x → rank c ≤ rank x → Upto c x
ranked c x g h r = let a = g.within in let b = h.within in rank_by c x r (omega arith) (omega arith) (cases_lt c.lo x.lo)

strictly : (c x : Cell) → Upto c x → ((c.lo ≡ x.lo) × (c.hi ≡ x.hi) → ⊥) → After c x
strictly c x u n = grind arith

same_after : (a c x : Cell) → c.lo ≡ x.lo → c.hi ≡ x.hi → After a c → After a x
same_after a c x f g h = grind arith

before_up : (a c x : Cell) → After a c → Upto c x → After a x
before_up a c x h u = grind arith

pub at_of : (c : Cell) (lo hi : ℕ) → is_pair lo hi (pair_of c) ≡ true → (c.lo ≡ lo) × (c.hi ≡ hi)
at_of c lo hi e = grind (arith, nat_tests)

pub not_at_of : (c : Cell) (lo hi : ℕ) → is_pair lo hi (pair_of c) ≡ false → (c.lo ≡ lo) × (c.hi ≡ hi) → ⊥
not_at_of c lo hi e p = grind (arith, nat_tests)

-- at one default, and so at each
at_each : (P : Cell → Type 0) (l : List Cell) (d : Cell) → ((k : ℕ) → k < length l → P (get_or l k d)) → All P l
at_each P l d f = λ k e h. subst P (get_or_default l k d e h) (f k h)

before_by : (l : List Cell) (x d : Cell) (p : ℕ) → IsAscending l → All (λ c. Upto c x) l → length l ≡ p + 1 →
    (((get_or l p d).lo ≡ x.lo) × ((get_or l p d).hi ≡ x.hi) → ⊥) →
    (k : ℕ) → k < length l → ((k ≡ p) ⊎ ((k ≡ p) → ⊥)) → After (get_or l k d) x
before_by l x d p a u e n k h (inl q) = subst (λ j. After (get_or l j d) x) (sym q) (strictly (get_or l p d) x (u p d (omega arith)) n)
before_by l x d p a u e n k h (inr q) =
    before_up (get_or l k d) (get_or l p d) x (a k p d (omega arith) (omega arith)) (u p d (omega arith))

pub put_together-none : (xs : List Cell) → IsPutTogether xs xs 0 0
put_together-none xs = record { bound = omega arith; length_kept = refl; front = refl; rest = λ k d g h. refl }

module _ (xs items : List Cell) (kept i : ℕ) (x d : Cell) (each : All (IsCell MAX_CLASSES) xs) (ordered : IsNonDecreasingBy rank xs)
    (m : IsPutTogether xs items kept i) (w : i < length xs) (e : x ≡ get_or items i d) where
  here : x ≡ get_or xs i d
  here = e ∙ m.rest i d (omega arith) (omega (arith, m.length_kept))

  next : cells_of (take (i + 1) xs) ≡ with_cell x (take kept items)
  next = cells_of-more MAX_CLASSES xs i d each w ∙ ap (λ c. with_cell c (cells_of (take i xs))) (sym here) ∙ ap (with_cell x) (sym m.front)

  up_at : (k : ℕ) → k < i → Upto (get_or xs k d) x
  up_at k h =
      subst (Upto (get_or xs k d)) (sym here)
      (ranked (get_or xs k d) (get_or xs i d) (each k d (omega arith)) (each i d w) (ordered k i d (omega arith) w))

  ups : All (λ c. Upto c x) (take kept items)
  ups =
      let n : length (take i xs) ≡ i = length-take-le i xs (omega arith) in
      subst (All (λ c. Upto c x)) (sym m.front)
      (all-cells_of (λ c. Upto c x) (λ c m h. h) (take i xs)
      (at_each (λ c. Upto c x) (take i xs) d
      (λ k h. subst (λ c. Upto c x) (sym (get_or-take i xs k d (omega arith))) (up_at k (omega arith)))))

  ascending : IsAscending (take kept items)
  ascending = subst IsAscending (sym m.front) (ascending-cells_of (take i xs))

  length_front : length (take kept items) ≡ kept
  length_front = length-take-le kept items (omega (arith, m.bound, m.length_kept))

  later : (k at : ℕ) (y f : Cell) → at ≤ i → i + 1 ≤ k → k < length (set items at y) → get_or (set items at y) k f ≡ get_or xs k f
  later k at y f h g l =
      get_or-set_other items at k y f (λ q. omega arith) ∙ m.rest k f (omega arith) (omega (arith, length-set items at y))

  -- another pair
  put_together-new : All (λ a. After a x) (take kept items) → IsPutTogether xs (set items kept x) (kept + 1) (i + 1)
  put_together-new a = record {
    bound = omega (arith, m.bound);
    length_kept = length-set items kept x ∙ m.length_kept;
    front = take_more_set items kept x (omega (arith, m.bound, m.length_kept)) ∙ sym (with_cell-end x (take kept items) a) ∙ sym next;
    rest = λ k f g h. later k kept x f m.bound g h;
  }

  -- the pair of the last cell again
  module _ (p : ℕ) (last : kept ≡ p + 1) where
    abbrev c : Cell
    c = get_or items p d

    pub put_together-fits : total_of xs < 2 ^ 64 → c.n + x.n < 2 ^ 64
    put_together-fits b =
        let l = take kept items in
        let q : get_or l p d ≡ c = get_or-take kept items p d (omega arith) in
        let n = get_or-le-sum_by (λ c. c.n) l p d (omega (arith, length_front)) in
        let s = sum_by_more_le (λ c. c.n) xs i d w in
        omega (arith, b, n, s, ap (λ c. c.n) q, ap (λ c. c.n) here, ap total_of m.front, total_of-cells_of (take i xs))

    pub put_together-same : c.lo ≡ x.lo → c.hi ≡ x.hi → IsPutTogether xs (set items p (with_more c x.n)) kept (i + 1)
    put_together-same f g =
        let y = with_more c x.n in
        let v : p < length items = omega (arith, m.bound, m.length_kept) in
        let more : take kept items ≡ take p items ++ c ∷ [] = ap (λ k. take k items) last ∙ take_more items p d v in
        let front_is : All (λ a. After a x) (take p items) =
        at_each (λ a. After a x) (take p items) d (λ k h.
        let n : length (take p items) ≡ p = length-take-le p items (omega arith) in
        let a : After (get_or (take kept items) k d) (get_or (take kept items) p d) = ascending k p d (omega arith)
        (omega (arith, length_front)) in
        let q : get_or (take kept items) k d ≡ get_or (take p items) k d =
        get_or-take kept items k d (omega arith) ∙ sym (get_or-take p items k d (omega arith)) in
        same_after (get_or (take p items) k d) c x f g
        (subst (λ b. After b c) q (subst (After (get_or (take kept items) k d)) (get_or-take kept items p d (omega arith)) a))) in
        record {
          bound = omega (arith, m.bound);
          length_kept = length-set items p y ∙ m.length_kept;
          front = ap (λ k. take k (set items p y)) last ∙ take_more_set items p y v ∙ sym (with_cell-last x (take p items) c front_is f g)
              ∙ ap (with_cell x) (sym more) ∙ sym next;
          rest = λ k f g h. later k p y f (omega (arith, m.bound)) g h;
        }

    pub put_together-other_pair : ((c.lo ≡ x.lo) × (c.hi ≡ x.hi) → ⊥) → IsPutTogether xs (set items kept x) (kept + 1) (i + 1)
    put_together-other_pair n =
        let q : get_or (take kept items) p d ≡ c = get_or-take kept items p d (omega arith) in
        let n' : ((get_or (take kept items) p d).lo ≡ x.lo) × ((get_or (take kept items) p d).hi ≡ x.hi) →
        ⊥ = λ h. n (ap (λ a. a.lo) (sym q) ∙ h.0, ap (λ a. a.hi) (sym q) ∙ h.1) in
        put_together-new
        (at_each (λ a. After a x) (take kept items) d
        (λ k h. before_by (take kept items) x d p ascending ups (length_front ∙ last) n' k h (cases_eq k p)))

  pub put_together-first : kept ≡ 0 → IsPutTogether xs (set items kept x) (kept + 1) (i + 1)
  put_together-first z = put_together-new (λ k f h. absurd (omega (arith, length_front)))
