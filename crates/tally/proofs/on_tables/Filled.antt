-- Tables that bins fill.
use Rattle.std.proofs.Common.{◌≡◌, ◌≢◌, ℕ, zero, suc, ◌+◌, ◌<◌, ◌≤◌, ◌⊎◌, inl, inr, cond, eqb, List, [], ◌∷◌, length, get_or, set, replicate, sum, refl, sym, ap, ◌∙◌, arith, get_or-set_other, get_or-set_same, length-set}
use Rattle.std.specs.Prelude.{All}
use Rattle.std.proofs.lemmas.Bool.{cases_eq}
use Rattle.std.proofs.lemmas.Bool.Decides.{nat_tests}
use Rattle.std.proofs.lemmas.List.{length-replicate}
use Rattle.std.proofs.lemmas.List.Elements.{All-nil, All-cons}
use Rattle.std.proofs.lemmas.List.Sums.{sum_by-set, sum_by-cons}
use Rattle.tally.specs.declared.cells.Bin.{Bin}
use Rattle.lemmas.proofs.Lists.{get_or-zeros}
use Rattle.tally.specs.tables.Bins.{AreBinsFrom, count_at, sum_of}
use Rattle.tally.specs.tables.Tables.{table_with_bins}

-- what stands at a place of an empty table when it is filled
abbrev pub count_placed : ℕ → ℕ → List Bin → ℕ
count_placed by p [] = 0
count_placed by p (b ∷ bins) = cond (eqb p (b.key + by)) b.n (count_placed by p bins)

pick : (c : ℕ) (p q : ℕ) (x : ℕ) → p ≡ q → cond (eqb p q) x c ≡ x
pick c p q x e = grind (arith, nat_tests)

pass : (c : ℕ) (p q : ℕ) (x : ℕ) → p ≢ q → cond (eqb p q) x c ≡ c
pass c p q x n = grind (arith, nat_tests)

pub none_before : (by from to p : ℕ) (bs : List Bin) → AreBinsFrom from to bs → p < from + by → count_placed by p bs ≡ 0
none_before by from to p [] a lt = refl
none_before by from to p (b ∷ bs) a lt = pass (count_placed by p bs) p (b.key + by) b.n (λ e. absurd (omega (arith, e, lt, a.0)))
    ∙ none_before by (b.key + 1) to p bs a.3 (omega (arith, lt, a.0))

filled_step : (by from p : ℕ) (t : List ℕ) (b : Bin) (bs : List Bin) (x : ℕ) → b.key + by < length t → get_or t (b.key + by) 0 ≡ 0 →
    (p ≡ b.key + by → count_placed by p bs ≡ 0)
    → x ≡ get_or (set t (b.key + by) b.n) p 0 + count_placed by p bs → ((p ≡ b.key + by) ⊎ (p ≢ b.key + by)) →
    x ≡ get_or t p 0 + count_placed by p (b ∷ bs)
filled_step by from p t b bs x w z none h (inl e) =
    let s : get_or (set t (b.key + by) b.n) (b.key + by) 0 ≡ b.n = get_or-set_same t (b.key + by) b.n 0 w in
    let s2 : get_or (set t (b.key + by) b.n) p 0 ≡ b.n = ap (λ q. get_or (set t (b.key + by) b.n) q 0) e ∙ s in
    let z2 : get_or t p 0 ≡ 0 = ap (λ q. get_or t q 0) e ∙ z in
    omega (arith, h, s2, z2, none e, pick (count_placed by p bs) p (b.key + by) b.n e)
filled_step by from p t b bs x w z none h (inr n) =
    let s : get_or (set t (b.key + by) b.n) p 0 ≡ get_or t p 0 = get_or-set_other t (b.key + by) p b.n 0 n in
    omega (arith, h, s, pass (count_placed by p bs) p (b.key + by) b.n n)

pub filled_at : (by from to : ℕ) (t : List ℕ) (bs : List Bin) → AreBinsFrom from to bs → to + by ≤ length t →
    ((p : ℕ) → from + by ≤ p → get_or t p 0 ≡ 0) → (p : ℕ) → get_or (table_with_bins by t bs) p 0 ≡ get_or t p 0 + count_placed by p bs
filled_at by from to t [] a w z p = omega arith
filled_at by from to t (b ∷ bs) a w z p =
    let long = length-set t (b.key + by) b.n in
    let zeros : (q : ℕ) → (b.key + 1) + by ≤ q →
    get_or (set t (b.key + by) b.n) q 0 ≡ 0 = λ q le. get_or-set_other t (b.key + by) q b.n 0 (λ e. absurd (omega (arith, e, le)))
    ∙ z q (omega (arith, le, a.0)) in
    filled_step by from p t b bs _ (omega (arith, a.1, w)) (z (b.key + by) (omega (arith, a.0)))
    (λ e. none_before by (b.key + 1) to p bs a.3 (omega (arith, e))) (filled_at by (b.key + 1) to (set t (b.key + by) b.n) bs a.3
    (omega (arith, long, w)) zeros p) (cases_eq p (b.key + by))

pub filled_sum : (by from to : ℕ) (t : List ℕ) (bs : List Bin) → AreBinsFrom from to bs → to + by ≤ length t →
    ((p : ℕ) → from + by ≤ p → get_or t p 0 ≡ 0) → sum (table_with_bins by t bs) ≡ sum t + sum_of bs
filled_sum by from to t [] a w z = omega arith
filled_sum by from to t (b ∷ bs) a w z =
    let long = length-set t (b.key + by) b.n in
    let zeros : (q : ℕ) → (b.key + 1) + by ≤ q →
    get_or (set t (b.key + by) b.n) q 0 ≡ 0 = λ q le. get_or-set_other t (b.key + by) q b.n 0 (λ e. absurd (omega (arith, e, le)))
    ∙ z q (omega (arith, le, a.0)) in
    let s : sum (set t (b.key + by) b.n) + get_or t (b.key + by) 0 ≡ sum t + b.n = sum_by-set (λ x. x) t (b.key + by) b.n 0
    (omega (arith, a.1, w)) in
    omega (
      arith,
      s,
      z (b.key + by) (omega (arith, a.0)),
      filled_sum by (b.key + 1) to (set t (b.key + by) b.n) bs a.3
          (omega (arith, long, w)) zeros,
      sum_by-cons (λ b. b.n) b bs,
    )

pub filled_long : (by : ℕ) (t : List ℕ) (bs : List Bin) → length (table_with_bins by t bs) ≡ length t
filled_long by t [] = refl
filled_long by t (b ∷ bs) = filled_long by (set t (b.key + by) b.n) bs ∙ length-set t (b.key + by) b.n

pub keys_within : (by from to n : ℕ) (bs : List Bin) → AreBinsFrom from to bs → to + by ≤ n → All (λ b. b.key + by < n) bs
keys_within by from to n [] a w = All-nil (λ b. b.key + by < n)
keys_within by from to n (b ∷ bs) a w =
    All-cons (λ b. b.key + by < n) b bs (omega (arith, a.1, w)) (keys_within by (b.key + 1) to n bs a.3 w)

-- an empty table

pub zeros_sum : (n : ℕ) → ◌≡◌ {A = ℕ} (sum (replicate n 0)) 0
zeros_sum zero = refl
zeros_sum (suc n) = omega (arith, sum_by-cons (λ (x : ℕ). x) 0 (replicate n 0), zeros_sum n)

pub placed_counts : (k : ℕ) (bs : List Bin) → count_placed 0 k bs ≡ count_at k bs
placed_counts k [] = refl
placed_counts k (b ∷ bs) =
    let e : b.key + 0 ≡ b.key = omega arith in
    ap (λ q. cond (eqb k q) b.n (count_placed 0 k bs)) e ∙ ap (λ c. cond (eqb k b.key) b.n c) (placed_counts k bs)

pub table_at : (from to n : ℕ) (bs : List Bin) → AreBinsFrom from to bs → to ≤ n → (k : ℕ) →
    get_or (table_with_bins 0 (replicate n 0) bs) k 0 ≡ count_at k bs
table_at from to n bs a w k =
    let l = length-replicate {A = ℕ} n 0 in
    omega (
      arith,
      filled_at 0 from to (replicate n 0) bs a (omega (arith, l, w)) (λ p h. get_or-zeros n p) k,
      get_or-zeros n k,
      placed_counts k bs,
    )

pub table_sum : (from to n : ℕ) (bs : List Bin) → AreBinsFrom from to bs → to ≤ n → sum (table_with_bins 0 (replicate n 0) bs) ≡ sum_of bs
table_sum from to n bs a w =
    let l = length-replicate {A = ℕ} n 0 in
    omega (arith, filled_sum 0 from to (replicate n 0) bs a (omega (arith, l, w)) (λ p h. get_or-zeros n p), zeros_sum n)

pub table_long : (by n : ℕ) (bs : List Bin) → length (table_with_bins by (replicate n 0) bs) ≡ n
table_long by n bs = filled_long by (replicate n 0) bs ∙ length-replicate {A = ℕ} n 0

-- nothing is counted outside the keys
pub count_below : (from to k : ℕ) (bs : List Bin) → AreBinsFrom from to bs → k < from → count_at k bs ≡ 0
count_below from to k bs a lt = sym (placed_counts k bs) ∙ none_before 0 from to k bs a (omega (arith, lt))

pub count_above : (from to k : ℕ) (bs : List Bin) → AreBinsFrom from to bs → to ≤ k → count_at k bs ≡ 0
count_above from to k [] a le = refl
count_above from to k (b ∷ bs) a le =
    pass (count_at k bs) k b.key b.n (λ e. absurd (omega (arith, e, le, a.1))) ∙ count_above (b.key + 1) to k bs a.3 le
