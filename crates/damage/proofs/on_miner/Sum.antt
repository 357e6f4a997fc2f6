-- One range more in a damage sum.
use Rattle.std.proofs.Common.{◌≡◌, ℕ, ◌+◌, ◌-◌, ◌*◌, ◌<◌, ◌≤◌, ◌⊎◌, inl, inr, List, [], ◌∷◌, ◌++◌, length, take, drop, get_or, length-take, length-drop, length-append, get_or-drop, zero-add, ◌∙◌, refl, sym, ap, subst, arith}
use Rattle.std.proofs.Math.ListN.{get_or-append}
use Rattle.std.proofs.Math.Seq.{get_or-append_seam}
use Rattle.std.proofs.lemmas.Bool.{cases_lt}
use Rattle.std.proofs.lemmas.List.{take_more}
use Rattle.std.proofs.lemmas.List.Sums.{sum_by_more, sum_by-append}
use Rattle.std.specs.Prelude.{sum, sum_by, slice_index}
use Rattle.std.specs.List.{zip}
use Rattle.calibration.specs.Grid.{GridValue}
use Rattle.damage.specs.sn_curve.Detail.{DetailValue}
use Rattle.damage.specs.sn_curve.Curve.{IsShare}
use Rattle.damage.specs.miner.Damage.{AreShares, damage_sum}
use Rattle.lemmas.proofs.Naturals.{wholes_grow}

-- the share of range k behind those of the ranges below it
pub more_shares : (detail : DetailValue) (grid : GridValue) (d k n : ℕ) (shares : List ℕ) → 1 ≤ k → AreShares detail grid d k shares →
    IsShare detail grid k n d → AreShares detail grid d (k + 1) (shares ++ n ∷ [])
more_shares detail grid d k n shares low are is = record {
  one_each = omega (arith, length-append shares (n ∷ []), are.one_each);
  each = λ i inside. at_place i inside (cases_lt i (length shares));
}
  where
    at_place : (i : ℕ) → i < length (shares ++ n ∷ []) → (i < length shares) ⊎ (length shares ≤ i) →
        IsShare detail grid (i + 1) (slice_index (shares ++ n ∷ []) i) d
    at_place i inside (inl before) = subst (λ m. IsShare detail grid (i + 1) m d) (sym (get_or-append shares (n ∷ []) 0 i before))
        (are.each i before)
    at_place i inside (inr behind) =
        let here : length shares ≡ i = omega (arith, length-append shares (n ∷ []), inside, behind) in
        let range : k ≡ i + 1 = omega (arith, here, are.one_each, low) in
        let last : slice_index (shares ++ n ∷ []) i ≡ n = ap (λ j. get_or (shares ++ n ∷ []) j 0) (sym here) ∙ get_or-append_seam
        shares n [] 0 in
        subst (λ m. IsShare detail grid (i + 1) m d) (sym last) (subst (λ j. IsShare detail grid j n d) range is)

-- a sum with a range more
zip-snoc : (counts shares : List ℕ) (count n : ℕ) → length counts ≡ length shares →
    zip (counts ++ count ∷ []) (shares ++ n ∷ []) ≡ zip counts shares ++ (count, n) ∷ []
zip-snoc [] [] count n same = refl
zip-snoc [] (m ∷ shares) count n same = absurd (omega arith)
zip-snoc (c ∷ counts) [] count n same = absurd (omega arith)
zip-snoc (c ∷ counts) (m ∷ shares) count n same = ap (λ l. (c, m) ∷ l) (zip-snoc counts shares count n (omega (arith, same)))

damage_sum-snoc : (counts shares : List ℕ) (count n : ℕ) → length counts ≡ length shares →
    damage_sum (counts ++ count ∷ []) (shares ++ n ∷ []) ≡ damage_sum counts shares + count * n
damage_sum-snoc counts shares count n same =
    let product : ℕ × ℕ → ℕ = λ range. range.0 * range.1 in
    ap (sum_by product) (zip-snoc counts shares count n same) ∙ sum_by-append product (zip counts shares) ((count, n) ∷ [])
    ∙ ap (λ s. damage_sum counts shares + s) (zero-add (count * n))

-- the half cycles of range k behind those of the ranges below it
pub sum_more : (k n total all : ℕ) (xs shares : List ℕ) → 1 ≤ k → k < length xs → length shares ≡ k - 1 →
    total ≡ damage_sum (take (k - 1) (drop 1 xs)) shares →
    all ≡ total + get_or xs k 0 * n → all ≡ damage_sum (take (k + 1 - 1) (drop 1 xs)) (shares ++ n ∷ [])
sum_more k n total all xs shares low high many was is =
    let next : k + 1 - 1 ≡ (k - 1) + 1 = omega arith in
    let rest : length (drop 1 xs) ≡ length xs - 1 = length-drop 1 xs in
    let item : get_or (drop 1 xs) (k - 1) 0 ≡ get_or xs k 0 = get_or-drop 1 xs (k - 1) 0 ∙ ap (λ i. get_or xs i 0) (omega arith) in
    let more : take (k + 1 - 1) (drop 1 xs) ≡ take (k - 1) (drop 1 xs) ++ get_or xs k 0 ∷ [] =
    ap (λ i. take i (drop 1 xs)) next ∙ take_more (drop 1 xs) (k - 1) 0 (omega arith) ∙ ap (λ x. take (k - 1) (drop 1 xs) ++ x ∷ []) item in
    let same : length (take (k - 1) (drop 1 xs)) ≡ length shares = omega (arith, length-take (k - 1) (drop 1 xs), rest, many) in
    let sum = damage_sum-snoc (take (k - 1) (drop 1 xs)) shares (get_or xs k 0) n same in
    is ∙ ap (λ x. x + get_or xs k 0 * n) was ∙ sym sum ∙ sym (ap (λ l. damage_sum l (shares ++ n ∷ [])) more)

-- the wholes stay within the counts so far
pub wholes_within : (w m v r n d e k : ℕ) (xs : List ℕ) → k < length xs → e ≡ d →
    v * e + r ≡ w * d + m + get_or xs k 0 * n → m < d → n < d → w ≤ sum (take k xs) → v ≤ sum (take (k + 1) xs)
wholes_within w m v r n d e k xs h s f g i j =
    let here : v * d + r ≡ w * d + m + get_or xs k 0 * n = omega (arith, ap (λ y. v * y) s) in
    let grown : v ≤ w + get_or xs k 0 = wholes_grow w m v r (get_or xs k 0) n d here g i in
    omega (arith, sum_by_more (λ x. x) xs k 0 h)

-- before the first range there are no shares and no damage
pub no_shares : (detail : DetailValue) (grid : GridValue) (d : ℕ) → AreShares detail grid d 1 []
no_shares detail grid d = record { one_each = refl; each = λ i inside. absurd (omega (arith, inside)) }
