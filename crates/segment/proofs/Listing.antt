-- Bins that are listed from counts.
use Rattle.std.proofs.Common.{◌≡◌, ◌≢◌, ℕ, zero, suc, ◌+◌, ◌<◌, ◌≤◌, ◌⊎◌, inl, inr, if◌then◌else◌, ◌==◌, List, [], ◌∷◌, refl, sym, ap, subst, ◌∙◌, arith}
use Rattle.std.proofs.lemmas.Bool.{cases_eq}
use Rattle.std.proofs.lemmas.Bool.Decides.{nat_tests}
use Rattle.tally.specs.declared.cells.Bin.{Bin}
use Rattle.tally.specs.tables.Bins.{AreBinsFrom, count_at}
use Rattle.tally.proofs.on_tables.Filled.{count_below}
use Rattle.segment.specs.Parts.{bins_from}
use Rattle.segment.proofs.TableSums.{none, some}

abbrev bin : ℕ → ℕ → Bin
bin key n = record { key = key; n = n }

same_bin : (b : Bin) (k n : ℕ) → k ≡ b.key → n ≡ b.n → bin k n ≡ b
same_bin b k n e f = ap (λ x. bin x n) e ∙ ap (λ x. bin b.key x) f

here : (c : ℕ) (p q : ℕ) (x : ℕ) → p ≡ q → (if p == q then x else c) ≡ x
here c p q x e = grind (arith, nat_tests)

past : (c : ℕ) (p q : ℕ) (x : ℕ) → p ≢ q → (if p == q then x else c) ≡ c
past c p q x n = grind (arith, nat_tests)

more : (x y : ℕ) → x ≢ y → x ≤ y → x + 1 ≤ y
more x y n le = grind arith

-- the next key is the first bin's, or it counts nothing
again_by : (count : ℕ → ℕ) (key to keys : ℕ) (b : Bin) (bs : List Bin) → AreBinsFrom key to (b ∷ bs) →
    ((k : ℕ) → key ≤ k → count k ≡ count_at k (b ∷ bs))
    → (AreBinsFrom (key + 1) to bs → ((k : ℕ) → key + 1 ≤ k → count k ≡ count_at k bs) → bins_from count (key + 1) keys ≡ bs)
    → (AreBinsFrom (key + 1) to (b ∷ bs) → bins_from count (key + 1) keys ≡ b ∷ bs)
    → ((key ≡ b.key) ⊎ (key ≢ b.key)) → bins_from count key (suc keys) ≡ b ∷ bs
again_by count key to keys b bs a h f g (inl e) =
    let n : count key ≡ b.n = h key (omega arith) ∙ here (count_at key bs) key b.key b.n e in
    let step : AreBinsFrom (key + 1) to bs = subst (λ z. AreBinsFrom (z + 1) to bs) (sym e) a.3 in
    some (count key) (bins_from count (key + 1) keys) (bin key (count key) ∷ bins_from count (key + 1) keys) (omega (arith, n, a.2))
    ∙ ap (λ x. x ∷ bins_from count (key + 1) keys) (same_bin b key (count key) e n)
    ∙ ap (λ (l : List Bin). b ∷ l) (f step (λ k le. h k (omega (arith, le)) ∙ past (count_at k bs) k b.key b.n
    (λ d. absurd (omega (arith, d, le, e)))))
again_by count key to keys b bs a h f g (inr n) =
    let z : count key ≡ 0 = h key (omega arith) ∙ past (count_at key bs) key b.key b.n n ∙ count_below (b.key + 1) to key bs a.3
    (omega (arith, a.0)) in
    none (count key) (bins_from count (key + 1) keys) (bin key (count key) ∷ bins_from count (key + 1) keys) z
    ∙ g (more key b.key n a.0, a.1, a.2, a.3)

-- bins in order are listed again from their counts
pub bins_again : (count : ℕ → ℕ) (key to keys : ℕ) (bs : List Bin) → AreBinsFrom key to bs → to ≤ key + keys →
    ((k : ℕ) → key ≤ k → count k ≡ count_at k bs) → bins_from count key keys ≡ bs
bins_again count key to zero [] a w h = refl
bins_again count key to zero (b ∷ bs) a w h = absurd (omega (arith, a.0, a.1, w))
bins_again count key to (suc keys) [] a w h =
    none (count key) (bins_from count (key + 1) keys) (bin key (count key) ∷ bins_from count (key + 1) keys) (h key (omega arith))
    ∙ bins_again count (key + 1) to keys [] tt (omega (arith, w)) (λ k le. h k (omega (arith, le)))
bins_again count key to (suc keys) (b ∷ bs) a w h =
    again_by count key to keys b bs a h (λ s c. bins_again count (key + 1) to keys bs s (omega (arith, w)) c)
    (λ s. bins_again count (key + 1) to keys (b ∷ bs) s (omega (arith, w)) (λ k le. h k (omega (arith, le)))) (cases_eq key b.key)

weaken : (from to : ℕ) (bs : List Bin) → AreBinsFrom (from + 1) to bs → AreBinsFrom from to bs
weaken from to [] a = tt
weaken from to (b ∷ bs) a = (omega (arith, a.0), a.1, a.2, a.3)

ordered_by : (count : ℕ → ℕ) (key to keys n : ℕ) → key < to → AreBinsFrom (key + 1) to (bins_from count (key + 1) keys) → count key ≡ n →
    AreBinsFrom key to (bins_from count key (suc keys))
ordered_by count key to keys zero lt next e =
    subst (λ l. AreBinsFrom key to l) (sym (none (count key) (bins_from count (key + 1) keys)
    (bin key (count key) ∷ bins_from count (key + 1) keys) e)) (weaken key to (bins_from count (key + 1) keys) next)
ordered_by count key to keys (suc n) lt next e =
    subst (λ l. AreBinsFrom key to l) (sym (some (count key) (bins_from count (key + 1) keys)
    (bin key (count key) ∷ bins_from count (key + 1) keys) (omega (arith, e)))) (omega arith, lt, omega (arith, e), next)

-- what is listed is in order
pub bins_ordered : (count : ℕ → ℕ) (key to keys : ℕ) → to ≡ key + keys → AreBinsFrom key to (bins_from count key keys)
bins_ordered count key to zero w = tt
bins_ordered count key to (suc keys) w =
    ordered_by count key to keys (count key) (omega (arith, w)) (bins_ordered count (key + 1) to keys (omega (arith, w))) refl

listed_by : (count : ℕ → ℕ) (key keys k n : ℕ) → key ≤ k → k < key + suc keys → count key ≡ n →
    (key + 1 ≤ k → count_at k (bins_from count (key + 1) keys) ≡ count k) → ((key ≡ k) ⊎ (key ≢ k)) →
    count_at k (bins_from count key (suc keys)) ≡ count k
listed_by count key keys k zero le lt e next (inl s) =
    ap (count_at k) (none (count key) (bins_from count (key + 1) keys) (bin key (count key) ∷ bins_from count (key + 1) keys) e)
    ∙ count_below (key + 1) (key + suc keys) k (bins_from count (key + 1) keys)
    (bins_ordered count (key + 1) (key + suc keys) keys (omega arith)) (omega (arith, s)) ∙ sym (ap count (sym s) ∙ e)
listed_by count key keys k zero le lt e next (inr s) =
    ap (count_at k) (none (count key) (bins_from count (key + 1) keys) (bin key (count key) ∷ bins_from count (key + 1) keys) e)
    ∙ next (more key k s le)
listed_by count key keys k (suc n) le lt e next (inl s) =
    ap (count_at k) (some (count key) (bins_from count (key + 1) keys) (bin key (count key) ∷ bins_from count (key + 1) keys)
    (omega (arith, e))) ∙ here (count_at k (bins_from count (key + 1) keys)) k key (count key) (sym s) ∙ ap count s
listed_by count key keys k (suc n) le lt e next (inr s) =
    ap (count_at k) (some (count key) (bins_from count (key + 1) keys) (bin key (count key) ∷ bins_from count (key + 1) keys)
    (omega (arith, e))) ∙ past (count_at k (bins_from count (key + 1) keys)) k key (count key) (λ d. s (sym d)) ∙ next (more key k s le)

-- a bin that is listed tells its count
pub bins_count : (count : ℕ → ℕ) (key keys k : ℕ) → key ≤ k → k < key + keys → count_at k (bins_from count key keys) ≡ count k
bins_count count key zero k le lt = absurd (omega (arith, le, lt))
bins_count count key (suc keys) k le lt =
    listed_by count key keys k (count key) le lt refl (λ l. bins_count count (key + 1) keys k l (omega (arith, lt))) (cases_eq key k)
