-- A history put behind itself.
use Rattle.std.proofs.Common.{◌≡◌, ◌≢◌, ℕ, suc, ◌+◌, ◌*◌, ◌<◌, ◌≤◌, ◌⊎◌, inl, inr, List, [], ◌∷◌, ◌++◌, refl, sym, ap, ◌∙◌, subst, arith, append_assoc, max, Bool, true, false, ◌==◌, if◌then◌else◌}
use Rattle.std.proofs.lemmas.Bool.{cases_lt}
use Rattle.std.proofs.lemmas.Bool.Decides.{nat_tests}
use Rattle.std.specs.Prelude.{All}
use Rattle.std.proofs.lemmas.List.Elements.{All-nil, All-cons, All-tail, All-append}
use Rattle.turning_points.specs.Points.{points, turns as turns_of, changes}
use Rattle.turning_points.proofs.Zigzag.{zig_points}
use Rattle.turning_points.proofs.Levels.{All-points}
use Rattle.turning_points.specs.three_point.Run.{three_point}
use Rattle.four_point.specs.Reduction.{count_in}
use Rattle.repeating.specs.Repeating.{greatest_level, from_first, before_first, cycle_run, repeating_cycles, AddsItsCycles}
use Rattle.repeating.proofs.Ending.{EndsIn, ends_points, ends_behind}
use Rattle.repeating.proofs.CutHistory.{cut_history}
use Rattle.repeating.proofs.Halves.{closed_half}
use Rattle.lemmas.proofs.Lists.{All-front, All-behind}

data Has (m : ℕ) : List ℕ → Type 0 where
  here : {x : ℕ} {h : List ℕ} → x ≡ m → Has m (x ∷ h)
  there : {x : ℕ} {h : List ℕ} → Has m h → Has m (x ∷ h)

below_greatest : (h : List ℕ) → All (λ y. y < suc (greatest_level h)) h
below_greatest [] = All-nil (λ y. y < suc (greatest_level []))
below_greatest (x ∷ h) =
    All-cons (λ y. y < suc (greatest_level (x ∷ h))) x h (omega arith) (λ i d lt. let p = below_greatest h i d lt in omega (arith, p))

has_pick : (x : ℕ) (h : List ℕ) → Has (greatest_level h) h → ((x < greatest_level h) ⊎ (greatest_level h ≤ x)) →
    Has (greatest_level (x ∷ h)) (x ∷ h)
has_pick x h k (inl p) = let e : max x (greatest_level h) ≡ greatest_level h = omega arith in there (subst (λ n. Has n h) (sym e) k)
has_pick x h k (inr p) = here (omega arith)

has_greatest : (x : ℕ) (h : List ℕ) → Has (greatest_level (x ∷ h)) (x ∷ h)
has_greatest x [] = here (omega arith)
has_greatest x (y ∷ h) = has_pick x (y ∷ h) (has_greatest y h) (cases_lt x (greatest_level (y ∷ h)))

record Split (m : ℕ) (h : List ℕ) : Type 0 where
  u : List ℕ
  v : List ℕ
  is : h ≡ u ++ (m ∷ v)
  left : before_first m h ≡ u
  right : from_first m h ≡ m ∷ v

split_step : (m x : ℕ) (h : List ℕ) (b : Bool) → x == m ≡ b → (x ≢ m → Split m h) →
    (u : List ℕ) × (v : List ℕ) × (x ∷ h ≡ u ++ (m ∷ v)) × ((if b then [] else x ∷ before_first m h) ≡ u)
    × ((if b then x ∷ h else from_first m h) ≡ m ∷ v)
split_step m x h true e next = let f : x ≡ m = grind (arith, nat_tests) in ([], h, ap (λ k. k ∷ h) f, refl, ap (λ k. k ∷ h) f)
split_step m x h false e next =
    let f : x ≢ m = grind (arith, nat_tests) in
    let s = next f in
    (x ∷ s.u, s.v, ap (λ k. x ∷ k) s.is, ap (λ k. x ∷ k) s.left, s.right)

split_has : {m x : ℕ} {h : List ℕ} → Has m (x ∷ h) → x ≢ m → Has m h
split_has (here e) n = absurd (n e)
split_has (there k) n = k

split : (m : ℕ) (h : List ℕ) → Has m h → Split m h
split m [] k = elim k [ ]
split m (x ∷ h) k =
    let s = split_step m x h (x == m) refl (λ n. split m h (split_has k n)) in
    record { u = s.0; v = s.1; is = s.2; left = s.3; right = s.4 }

module _ (lo hi m : ℕ) (u v : List ℕ) (b : All (λ y. y < suc m) u) (c : All (λ y. y < suc m) v) where
  abbrev round : List ℕ
  round = m ∷ (v ++ (u ++ (m ∷ [])))

  closed_round : three_point round lo hi ≡ 2 * count_in lo hi (cycle_run [] (points round))
  closed_round =
      let t = turns_of m (changes m (v ++ (u ++ (m ∷ [])))) in
      let d = All-append (λ y. y < suc m) v (u ++ (m ∷ [])) c
      (All-append (λ y. y < suc m) u (m ∷ []) b (All-cons (λ y. y < suc m) m [] (omega arith) (All-nil (λ y. y < suc m)))) in
      let e : EndsIn m round = subst (EndsIn m) (append_assoc (m ∷ v) u (m ∷ [])) (ends_behind ((m ∷ v) ++ u)) in
      closed_half lo hi m t (zig_points round) (All-tail (λ y. y < suc m) m t (All-points (λ y. y < suc m) round
      (All-cons (λ y. y < suc m) m (v ++ (u ++ (m ∷ []))) (omega arith) d))) (ends_points e)

  twice : three_point ((u ++ (m ∷ v)) ++ (u ++ (m ∷ v))) lo hi ≡ three_point (u ++ (m ∷ v)) lo hi + three_point round lo hi
  twice =
      let d = All-append (λ y. y < suc m) v (u ++ (m ∷ v)) c
      (All-append (λ y. y < suc m) u (m ∷ v) b (All-cons (λ y. y < suc m) m v (omega arith) c)) in
      let p = cut_history lo hi m u (v ++ (u ++ (m ∷ v))) b d in
      let q = cut_history lo hi m (m ∷ (v ++ u)) v (All-cons (λ y. y < suc m) m (v ++ u) (omega arith)
      (All-append (λ y. y < suc m) v u c b)) c in
      let r = cut_history lo hi m u v b c in
      let e = ap (λ l. three_point l lo hi) (append_assoc u (m ∷ v) (u ++ (m ∷ v))) in
      let f = ap (λ l. three_point (m ∷ l) lo hi) (append_assoc v u (m ∷ v)) in
      let g = ap (λ l. three_point (m ∷ l) lo hi) (append_assoc v u (m ∷ [])) in
      omega (arith, p, q, r, e, f, g)

by_split : (x : ℕ) (k : List ℕ) (lo hi : ℕ) → Split (greatest_level (x ∷ k)) (x ∷ k) →
    three_point ((x ∷ k) ++ (x ∷ k)) lo hi ≡ three_point (x ∷ k) lo hi + 2 * repeating_cycles (x ∷ k) lo hi
by_split x k lo hi s =
    let h = x ∷ k in
    let m = greatest_level h in
    let b = subst (All (λ y. y < suc m)) s.is (below_greatest h) in
    let c = All-front (λ y. y < suc m) s.u (m ∷ s.v) b in
    let d = All-tail (λ y. y < suc m) m s.v (All-behind (λ y. y < suc m) s.u (m ∷ s.v) b) in
    let e = twice lo hi m s.u s.v c d in
    let f = closed_round lo hi m s.u s.v c d in
    let g = ap (λ l. three_point (l ++ l) lo hi) s.is in
    let i = ap (λ l. three_point l lo hi) s.is in
    let j = ap (λ l. l ++ (before_first m h ++ (m ∷ []))) s.right ∙ ap (λ l. (m ∷ s.v) ++ (l ++ (m ∷ []))) s.left in
    let n = ap (λ l. count_in lo hi (cycle_run [] (points l))) j in
    omega (arith, e, f, g, i, n)

pub adds_its_cycles : AddsItsCycles
adds_its_cycles [] lo hi = refl
adds_its_cycles (x ∷ h) lo hi = by_split x h lo hi (split (greatest_level (x ∷ h)) (x ∷ h) (has_greatest x h))
