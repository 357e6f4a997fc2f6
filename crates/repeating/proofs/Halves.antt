-- The cycles of a list that begins and ends with its greatest level, as half of its half units.
use Rattle.std.proofs.Common.{◌≡◌, ℕ, suc, ◌+◌, ◌*◌, ◌<◌, ◌≤◌, ◌⊎◌, inl, inr, List, [], ◌∷◌, refl, sym, ap, ◌∙◌, subst, arith}
use Rattle.std.proofs.lemmas.Bool.{cases_lt}
use Rattle.std.proofs.lemmas.Bool.Decides.{nat_tests}
use Rattle.std.specs.Prelude.{All}
use Rattle.std.proofs.lemmas.List.Elements.{All-nil, All-cons, All-head, All-tail}
use Rattle.turning_points.specs.Pairs.{pair, range}
use Rattle.turning_points.proofs.Zigzag.{IsZigzag, zig_tail}
use Rattle.turning_points.specs.three_point.Run.{live_after, ranges_left, run, half_units_of_pair}
use Rattle.turning_points.proofs.on_three_point.Steps.{live_after_half, ranges_counted_half, live_after_less, ranges_counted_less, live_after_cycle, ranges_counted_cycle}
use Rattle.turning_points.proofs.on_three_point.Bounds.{All-live_after}
use Rattle.four_point.specs.Reduction.{count_in}
use Rattle.four_point.proofs.Histories.{count_in-append}
use Rattle.four_point.proofs.on_residue_join.Live.{Live, lone, live_tail, half_units_counted, Onto, alone, turns, onto_deeper}
use Rattle.four_point.proofs.on_residue_join.OneDeletion.{Fits, onto_one, read, run_step, onto_of, one_of_pair, cycle_counted, pair_swap}
use Rattle.repeating.specs.Repeating.{live_after_cycles, cycles_closed, cycle_run}
use Rattle.repeating.proofs.Ending.{EndsIn, ends_here, ends_on}
use Rattle.repeating.proofs.Cut.{before_greatest, zig_from_fits, tail_is}
use Rattle.turning_points.specs.Points.{IsTurn}

live_after_cycles_less : (z y x : ℕ) (v : List ℕ) → range y z < range x y → live_after_cycles z (y ∷ x ∷ v) ≡ z ∷ y ∷ x ∷ v
live_after_cycles_less z y x v h = grind (arith, nat_tests)

cycles_closed_less : (z y x : ℕ) (v : List ℕ) → range y z < range x y → cycles_closed z (y ∷ x ∷ v) ≡ []
cycles_closed_less z y x v h = grind (arith, nat_tests)

live_after_cycles_closed : (z y x : ℕ) (v : List ℕ) → range x y ≤ range y z → live_after_cycles z (y ∷ x ∷ v) ≡ live_after_cycles z v
live_after_cycles_closed z y x v h = grind (arith, nat_tests)

cycles_closed_one : (z y x : ℕ) (v : List ℕ) → range x y ≤ range y z → cycles_closed z (y ∷ x ∷ v) ≡ pair x y ∷ cycles_closed z v
cycles_closed_one z y x v h = grind (arith, nat_tests)

-- what is left to read ends in m, or nothing is left and m alone is live
data ReadsTo (m : ℕ) (v l : List ℕ) : Type 0 where
  all_read : v ≡ m ∷ [] → l ≡ [] → ReadsTo m v l
  reads_to : EndsIn m l → ReadsTo m v l

module _ (lo hi : ℕ) where
  -- what reading z does in both counts, where the oldest live point is the greatest level
  data Closing (m z : ℕ) (v : List ℕ) : Type 0 where
    still : z < m → live_after z v ≡ live_after_cycles z v → EndsIn m (live_after_cycles z v) →
        half_units_counted lo hi z v ≡ 2 * count_in lo hi (cycles_closed z v) → Closing m z v
    shut : (a : ℕ) → z ≡ m → live_after z v ≡ z ∷ a ∷ [] → live_after_cycles z v ≡ z ∷ [] → a < m →
        half_units_counted lo hi z v + one_of_pair lo hi (pair a m) ≡ 2 * count_in lo hi (cycles_closed z v) → Closing m z v

  closing_less : (m z a x : ℕ) (v : List ℕ) → EndsIn m (a ∷ x ∷ v) → z < m → range a z < range x a → Closing m z (a ∷ x ∷ v)
  closing_less m z a x v e h p =
      let c = live_after_cycles_less z a x v p in
      still h (live_after_less z a x v p ∙ sym c) (subst (EndsIn m) (sym c) (ends_on e))
      (omega (arith, ap (half_units_of_pair lo hi) (ranges_counted_less z a x v p), ap (count_in lo hi) (cycles_closed_less z a x v p)))

  closing_cycle : (m z a x w : ℕ) (v : List ℕ) → range x a ≤ range a z → Closing m z (w ∷ v) → Closing m z (a ∷ x ∷ w ∷ v)
  closing_cycle m z a x w v p (still h e f g) =
      let c = live_after_cycles_closed z a x (w ∷ v) p in
      still h (live_after_cycle z a x w v p ∙ e ∙ sym c) (subst (EndsIn m) (sym c) f)
      (omega (
        arith,
        g,
        ap (half_units_of_pair lo hi) (ranges_counted_cycle z a x w v p),
        ap (count_in lo hi) (cycles_closed_one z a x (w ∷ v) p),
        cycle_counted lo hi (pair x a),
      ))
  closing_cycle m z a x w v p (shut b h e f l g) =
      shut b h (live_after_cycle z a x w v p ∙ e) (live_after_cycles_closed z a x (w ∷ v) p ∙ f) l
      (omega (
        arith,
        g,
        ap (half_units_of_pair lo hi) (ranges_counted_cycle z a x w v p),
        ap (count_in lo hi) (cycles_closed_one z a x (w ∷ v) p),
        cycle_counted lo hi (pair x a),
      ))

  closing_two : (m z a x : ℕ) → x ≡ m → a ≤ m → IsTurn z a x → z ≤ m → ((range a z < range x a) ⊎ (range x a ≤ range a z)) →
      Closing m z (a ∷ x ∷ [])
  closing_two m z a x e h t b (inl s) = closing_less m z a x [] (ends_on (ends_here e)) (omega arith) s
  closing_two m z a x e h t b (inr s) =
      let q : z ≡ m = omega arith in
      let u = ap (one_of_pair lo hi) (pair_swap a x) in
      let v = ap (λ n. one_of_pair lo hi (pair a n)) e in
      shut a q (live_after_half z a x s) (live_after_cycles_closed z a x [] s) (omega arith)
      (omega (
        arith,
        u,
        v,
        ap (half_units_of_pair lo hi) (ranges_counted_half z a x s),
        ap (count_in lo hi) (cycles_closed_one z a x [] s),
      ))

  closing_more : (m z a x w : ℕ) (v : List ℕ) → EndsIn m (a ∷ x ∷ w ∷ v) → a ≤ m → x ≤ m → IsTurn z a x →
      ((range a z < range x a) ⊎ (range x a ≤ range a z)) → Closing m z (w ∷ v) → Closing m z (a ∷ x ∷ w ∷ v)
  closing_more m z a x w v e h k t (inl s) c = closing_less m z a x (w ∷ v) e (omega arith) s
  closing_more m z a x w v e h k t (inr s) c = closing_cycle m z a x w v s c

  closing : (m z a : ℕ) (v : List ℕ) → EndsIn m (a ∷ v) → Live (a ∷ v) → All (λ y. y < suc m) (a ∷ v) → z ≤ m → Onto a z v → Closing m z
      (a ∷ v)
  closing m z a [] (ends_here e) l b h (alone n) = still (omega arith) refl (ends_on (ends_here e)) refl
  closing m z a [] (ends_on e) l b h n = elim e [ ]
  closing m z a (x ∷ []) (ends_on (ends_here e)) l b h (turns t) =
      let i : a < suc m = All-head (λ y. y < suc m) a (x ∷ []) b in closing_two m z a x e (omega arith) t h
      (cases_lt (range a z) (range x a))
  closing m z a (x ∷ []) (ends_on (ends_on e)) l b h n = elim e [ ]
  closing m z a (x ∷ w ∷ v) (ends_on (ends_on e)) l b h (turns t) =
      let i : a < suc m = All-head (λ y. y < suc m) a (x ∷ w ∷ v) b in
      let c = All-tail (λ y. y < suc m) a (x ∷ w ∷ v) b in
      let j : x < suc m = All-head (λ y. y < suc m) x (w ∷ v) c in
      closing_more m z a x w v (ends_on (ends_on e)) (omega arith) (omega arith) t (cases_lt (range a z) (range x a))
      (closing m z w v e (live_tail (live_tail l)) (All-tail (λ y. y < suc m) x (w ∷ v) c) h (onto_deeper t l))

  closed_step : (z : ℕ) (v l : List ℕ) → count_in lo hi (cycle_run v (z ∷ l)) ≡ count_in lo hi (cycles_closed z v) + count_in lo hi
      (cycle_run (live_after_cycles z v) l)
  closed_step z v l = count_in-append lo hi (cycles_closed z v) (cycle_run (live_after_cycles z v) l)

  go_still : (z : ℕ) (v l : List ℕ) → live_after z v ≡ live_after_cycles z v →
      half_units_counted lo hi z v ≡ 2 * count_in lo hi (cycles_closed z v) →
      half_units_of_pair lo hi (run (live_after_cycles z v) l) ≡ 2 * count_in lo hi (cycle_run (live_after_cycles z v) l) →
      half_units_of_pair lo hi (run v (z ∷ l)) ≡ 2 * count_in lo hi (cycle_run v (z ∷ l))
  go_still z v l e g h = omega (arith, run_step lo hi z v l, closed_step z v l, ap (λ k. half_units_of_pair lo hi (run k l)) e, g, h)

  go_shut : (m z a : ℕ) (v l : List ℕ) → z ≡ m → live_after z v ≡ z ∷ a ∷ [] → live_after_cycles z v ≡ z ∷ [] → a < m →
      half_units_counted lo hi z v + one_of_pair lo hi (pair a m) ≡ 2 * count_in lo hi (cycles_closed z v) → IsZigzag (a ∷ z ∷ l) →
      All (λ y. y < suc m) (m ∷ l) → half_units_of_pair lo hi (run (m ∷ []) l) ≡ 2 * count_in lo hi (cycle_run (m ∷ []) l) →
      half_units_of_pair lo hi (run v (z ∷ l)) ≡ 2 * count_in lo hi (cycle_run v (z ∷ l))
  go_shut m z a v l e f g h i w b k =
      let p = before_greatest lo hi a m l (subst (λ n. IsZigzag (a ∷ n ∷ l)) e w) b h in
      let q = ap (λ n. half_units_of_pair lo hi (run n l)) f in
      let r = ap (λ n. count_in lo hi (cycle_run n l)) g in
      let s = ap (λ n. half_units_of_pair lo hi (run (n ∷ a ∷ []) l)) e in
      let t = ap (λ n. count_in lo hi (cycle_run (n ∷ []) l)) e in
      omega (arith, run_step lo hi z v l, closed_step z v l, p, q, r, s, t, i, k)

  later_ends : {m z : ℕ} {v l : List ℕ} → z < m → ReadsTo m v (z ∷ l) → EndsIn m l
  later_ends h (all_read p q) = absurd (cc)
  later_ends h (reads_to (ends_here e)) = absurd (omega arith)
  later_ends h (reads_to (ends_on e)) = e

  next_reads_to : {m z : ℕ} {v l : List ℕ} → ReadsTo m v (z ∷ l) → ReadsTo m (m ∷ []) l
  next_reads_to (all_read p q) = absurd (cc)
  next_reads_to (reads_to (ends_here e)) = all_read refl refl
  next_reads_to (reads_to (ends_on e)) = reads_to e

  fits_alone : {m a : ℕ} {l : List ℕ} → IsZigzag (a ∷ m ∷ l) → Fits (m ∷ []) l
  fits_alone g = onto_one (zig_tail g)

  reads_to_of : {m : ℕ} {l : List ℕ} → EndsIn m (m ∷ l) → ReadsTo m (m ∷ []) l
  reads_to_of (ends_here e) = all_read refl refl
  reads_to_of (ends_on e) = reads_to e

  -- both counts read on, where the oldest live point is the greatest level m and the last level is m
  goes_by : (m z a : ℕ) (v l : List ℕ) → Live (a ∷ v) → Fits (a ∷ v) (z ∷ l) → All (λ y. y < suc m) (a ∷ v) → All (λ y. y < suc m) (z ∷ l) →
      ReadsTo m (a ∷ v) (z ∷ l) → Closing m z (a ∷ v) →
      ((w : List ℕ) → Live w → EndsIn m w → Fits w l → All (λ y. y < suc m) w → All (λ y. y < suc m) l → ReadsTo m w l →
      half_units_of_pair lo hi (run w l) ≡ 2 * count_in lo hi (cycle_run w l)) →
      half_units_of_pair lo hi (run (a ∷ v) (z ∷ l)) ≡ 2 * count_in lo hi (cycle_run (a ∷ v) (z ∷ l))
  goes_by m z a v l k f b s d (still h e n g) next =
      let i = All-head (λ y. y < suc m) z l s in
      let c = All-tail (λ y. y < suc m) z l s in
      let w = read k f in
      let o = sym w.is ∙ e in
      let t = next (live_after_cycles z (a ∷ v)) (subst Live o w.live) n (subst (λ r. Fits r l) o w.fits)
      (subst (All (λ y. y < suc m)) e (All-live_after (λ y. y < suc m) z (a ∷ v) i b)) c (reads_to (later_ends h d)) in
      go_still z (a ∷ v) l e g t
  goes_by m z a v l k f b s d (shut y h e n p g) next =
      let c = All-tail (λ y. y < suc m) z l s in
      let w = read k f in
      let o = tail_is (sym w.is ∙ e) in
      let u : IsZigzag (y ∷ z ∷ l) = zig_from_fits (subst (λ s. Fits (z ∷ s) l) o w.fits) in
      let t = next (m ∷ []) lone (ends_here refl) (fits_alone (subst (λ s. IsZigzag (y ∷ s ∷ l)) h u))
      (All-cons (λ y. y < suc m) m [] (omega arith) (All-nil (λ y. y < suc m))) c
      (next_reads_to d) in
      go_shut m z y (a ∷ v) l h e n p g u (All-cons (λ y. y < suc m) m l (omega arith) c) t

  goes : (m : ℕ) (v l : List ℕ) → Live v → EndsIn m v → Fits v l → All (λ y. y < suc m) v → All (λ y. y < suc m) l → ReadsTo m v l →
      half_units_of_pair lo hi (run v l) ≡ 2 * count_in lo hi (cycle_run v l)
  goes m v [] k e f b c (all_read p q) = ap (λ s. half_units_of_pair lo hi (ranges_left s)) p
  goes m v [] k e f b c (reads_to p) = elim p [ ]
  goes m [] (z ∷ l) k e f b c d = elim e [ ]
  goes m (a ∷ v) (z ∷ l) k e f b c d =
      let i : z < suc m = All-head (λ y. y < suc m) z l c in
      goes_by m z a v l k f b c d (closing m z a v e k b (omega arith) (onto_of f))
      (λ w k' e' f' b' c' d'. goes m w l k' e' f' b' c' d')

  -- a list of points that begins and ends in its greatest level
  pub closed_half : (m : ℕ) (l : List ℕ) → IsZigzag (m ∷ l) → All (λ y. y < suc m) l → EndsIn m (m ∷ l) →
      half_units_of_pair lo hi (run [] (m ∷ l)) ≡ 2 * count_in lo hi (cycle_run [] (m ∷ l))
  closed_half m l g b e = goes m (m ∷ []) l lone (ends_here refl) (onto_one g)
      (All-cons (λ y. y < suc m) m [] (omega arith) (All-nil (λ y. y < suc m))) b (reads_to_of e)
