-- Parts and places of lists.
--   take_next, take_two, take_four   the first levels of a buffer, with the last one, two or four apart
--   take_by_last_two                 the same by the length; take_set_last: after a write near the end
--   take_pushed                      with an item more behind
--   take-append-part, take-append-taken   the front of a buffer that was filled in two steps
--   longer                           a list with an item more is another list
--   length-rewritten                 a buffer whose front was written; all_written: one that a slice wrote over
--   length-append-le, length-cond-le, length-decimal_word   how long a text is at most
--   get_or-behind, get_or-zeros      places; positive_within: what is past the end is 0
--   All-reverse, All-of_reverse, each_more     what holds of each item; All-front, All-behind: of a part's
--   list_all-digits                  the test of each digit of a numeral
--   below_positive, below_at         lists of numbers below a bound
use Rattle.std.proofs.Common.{◌≡◌, ◌≢◌, ℕ, zero, suc, ◌+◌, ◌-◌, ◌<◌, ◌≤◌, ◌⊎◌, inl, inr, List, [], ◌∷◌, ◌++◌, length, take, drop, set, get_or, reverse, refl, sym, ap, ◌∙◌, subst, arith, append_assoc, take-append-drop, length-append, get_or-take, get_or-set_same, get_or-set_other, length-take-le, Bool, true, false, cond, ◌^◌, slice_index_or, nat_lt, lt-ltb}
use Rattle.std.specs.Prelude.{All, replicate}
use Rattle.std.specs.List.{list_all}
use Rattle.std.specs.Char.{digit_value}
use Rattle.std.specs.Str.Parse.{AllDigits}
use Rattle.std.specs.Fmt.{decimal}
use Rattle.std.proofs.lemmas.Fmt.{length-decimal-le}
use Rattle.std.proofs.lemmas.Bool.{cases_lt}
use Rattle.std.proofs.lemmas.List.{take_more, take_more_set, take_at, drop-drop, take-append-le, reverse-append, reverse-reverse, get_or-replicate, get_or_past, length-replicate, take_all}
use Rattle.std.proofs.lemmas.List.Elements.{All-head, All-tail, All-push, All-take, All-drop}
use Rattle.std.proofs.Math.Seq.{take-append-add, get_or-append_seam, take-append_seam, drop-append_seam}
use Rattle.std.proofs.Math.ListN.{get_or-append}

pub take_next : (s : List ℕ) (i j : ℕ) → j ≡ i + 1 → i < length s → take j s ≡ take i s ++ get_or s i 0 ∷ []
take_next s i j e h = ap (λ n. take n s) e ∙ take_more s i 0 h

pub take_two : (s : List ℕ) (k n : ℕ) → n ≡ k + 2 → n ≤ length s → take n s ≡ take k s ++ (get_or s k 0 ∷ get_or s (k + 1) 0 ∷ [])
take_two s k n e h =
    let p = take_next s k (k + 1) refl (omega arith) in
    let q = take_next s (k + 1) n (omega arith) (omega arith) in
    q ∙ ap (λ l. l ++ get_or s (k + 1) 0 ∷ []) p ∙ append_assoc (take k s) (get_or s k 0 ∷ []) (get_or s (k + 1) 0 ∷ [])

pub take_four : (s : List ℕ) (k n : ℕ) → n ≡ k + 4 → n ≤ length s →
    take n s ≡ take k s ++ (get_or s k 0 ∷ get_or s (k + 1) 0 ∷ get_or s (k + 2) 0 ∷ get_or s (k + 3) 0 ∷ [])
take_four s k n e h =
    let p = take_two s k (k + 2) refl (omega arith) in
    let q : take n s ≡ take (k + 2) s ++ (get_or s (k + 2) 0 ∷ get_or s (k + 3) 0 ∷ []) = take_two s (k + 2) n (omega arith) h
    ∙ ap (λ i. take (k + 2) s ++ (get_or s (k + 2) 0 ∷ get_or s i 0 ∷ [])) (omega arith) in
    q ∙ ap (λ l. l ++ (get_or s (k + 2) 0 ∷ get_or s (k + 3) 0 ∷ [])) p ∙ append_assoc (take k s) (get_or s k 0 ∷ get_or s (k + 1) 0 ∷ [])
    (get_or s (k + 2) 0 ∷ get_or s (k + 3) 0 ∷ [])

pub take_by_last_two : (s : List ℕ) (n : ℕ) → 2 ≤ n → n ≤ length s →
    take n s ≡ take (n - 2) s ++ (get_or s (n - 2) 0 ∷ get_or s (n - 1) 0 ∷ [])
take_by_last_two s n h r =
    take_two s (n - 2) n (omega arith) r ∙ ap (λ i. take (n - 2) s ++ (get_or s (n - 2) 0 ∷ get_or s i 0 ∷ [])) (omega arith)

-- the last of the first n items was written
pub take_set_last : (s : List ℕ) (n v : ℕ) → 2 ≤ n → n ≤ length s →
    take n (set s (n - 1) v) ≡ take (n - 2) s ++ (get_or s (n - 2) 0 ∷ v ∷ [])
take_set_last s n v h r =
    let e : n ≡ (n - 1) + 1 = omega arith in
    let a = take_next s (n - 2) (n - 1) (omega arith) (omega arith) in
    let b = take_more_set s (n - 1) v (omega arith) in
    ap (λ k. take k (set s (n - 1) v)) e ∙ b ∙ ap (λ l. l ++ (v ∷ [])) a ∙ append_assoc (take (n - 2) s) (get_or s (n - 2) 0 ∷ []) (v ∷ [])

-- an item more behind the first n, of which the last two are apart
pub take_pushed : (s : List ℕ) (n v : ℕ) → 2 ≤ n → n ≤ length s →
    take n s ++ (v ∷ []) ≡ take (n - 2) s ++ (get_or s (n - 2) 0 ∷ get_or s (n - 1) 0 ∷ v ∷ [])
take_pushed s n v h r =
    let e = take_by_last_two s n h r in
    ap (λ l. l ++ (v ∷ [])) e ∙ append_assoc (take (n - 2) s) (get_or s (n - 2) 0 ∷ get_or s (n - 1) 0 ∷ []) (v ∷ [])

-- k items more in a buffer that had n, and what is left behind them
pub take-append-part : {X : Type 0} (n k : ℕ) (xs ys rest left more : List X) → n ≤ length xs → k ≤ length ys → left ≡ take k ys ++ more →
    take n xs ++ left ≡ take (n + k) (take n xs ++ (ys ++ rest)) ++ more
take-append-part n k xs ys rest left more long inside is =
    let p = take n xs in
    let size : length p ≡ n = length-take-le n xs long in
    let split : take (n + k) (p ++ (ys ++ rest)) ≡ p ++ take k ys = ap (λ m. take (m + k) (p ++ (ys ++ rest))) (sym size) ∙ take-append-add
    p (ys ++ rest) k ∙ ap (λ l. p ++ l) (take-append-le k ys rest inside) in
    ap (λ l. p ++ l) is ∙ sym (append_assoc p (take k ys) more) ∙ ap (λ l. l ++ more) (sym split)

-- n items from a place on, copied to the front of a buffer, and what lies behind them
pub take-append-taken : {X : Type 0} (n at : ℕ) (xs copied rest left : List X) → length copied ≡ n → copied ≡ take n (drop at xs) →
    left ≡ drop at xs → left ≡ take n (copied ++ rest) ++ drop (at + n) xs
take-append-taken n at xs copied rest left long is was =
    was ∙ sym (take-append-drop n (drop at xs)) ∙ ap (λ l. l ++ drop n (drop at xs)) (sym is ∙ sym (take_at copied rest n long))
    ∙ ap (λ l. take n (copied ++ rest) ++ l) (drop-drop n at xs)

pub longer : (l : List ℕ) (x : ℕ) → l ++ (x ∷ []) ≡ l → ⊥
longer [] x e = cc
longer (y ∷ l) x e = longer l x (cc)

pub length-rewritten : {X : Type 0} (k : ℕ) (new old : List X) → length new ≡ length (take k old) → length (new ++ drop k old) ≡ length old
length-rewritten k new old same = length-append new (drop k old) ∙ ap (λ m. m + length (drop k old)) same
    ∙ sym (length-append (take k old) (drop k old)) ∙ ap length (take-append-drop k old)

-- a place behind the first item
pub get_or-behind : (x : ℕ) (l : List ℕ) (i j : ℕ) → j ≡ suc i → get_or (x ∷ l) j 0 ≡ get_or l i 0
get_or-behind x l i j e = ap (λ k. get_or (x ∷ l) k 0) e

zeros_by : (n p : ℕ) → ((p < n) ⊎ (n ≤ p)) → ◌≡◌ {A = ℕ} (get_or (replicate n 0) p 0) 0
zeros_by n p (inl h) = get_or-replicate n p 0 0 h
zeros_by n p (inr h) = get_or_past (replicate n 0) p 0 (omega (arith, length-replicate {A = ℕ} n 0))

-- a list of zeros has 0 anywhere
pub get_or-zeros : (n p : ℕ) → ◌≡◌ {A = ℕ} (get_or (replicate n 0) p 0) 0
get_or-zeros n p = zeros_by n p (cases_lt p n)

-- what is past the end is 0, so a place that holds something is within the list
pub positive_within : (t : List ℕ) (p : ℕ) → 0 < get_or t p 0 → p < length t
positive_within [] p h = absurd (omega arith)
positive_within (n ∷ ns) zero h = omega arith
positive_within (n ∷ ns) (suc p) h = omega (arith, positive_within ns p h)

-- no number is below 0
pub below_positive : (k x : ℕ) (l : List ℕ) → All (λ y. y < k) (x ∷ l) → 1 ≤ k
below_positive k x l a = let h = All-head (λ y. y < k) x l a in omega arith

pub below_at : (k n i : ℕ) (s : List ℕ) → All (λ x. x < k) (take n s) → n ≤ length s → i < n → get_or s i 0 < k
below_at k n i s a room h = let e = get_or-take n s i 0 h in let w = a i 0 (omega (arith, length-take-le n s room)) in omega arith

below_more : (k n x i d : ℕ) (s : List ℕ) → All (λ y. y < k) (take n s) → n ≤ length s → 3 ≤ n → x < k → i < n - 2 →
    ((i ≡ n - 3) ⊎ (i ≢ n - 3)) → get_or (set s (n - 3) x) i d < k
below_more k n x i d s a room few w h (inl e) =
    let f = get_or-set_same s (n - 3) x d (omega arith) in let g = ap (λ j. get_or (set s (n - 3) x) j d) e in omega arith
below_more k n x i d s a room few w h (inr e) =
    let f = get_or-set_other s (n - 3) i x d e in
    let g = get_or-take n s i d (omega arith) in
    let v = a i d (omega (arith, length-take-le n s room)) in
    omega arith

-- what holds of each item holds in any order
pub All-reverse : {X : Type 0} (P : X → Type 0) (l : List X) → All P l → All P (reverse l)
All-reverse P [] a = a
All-reverse P (x ∷ l) a =
    subst (All P) (sym (reverse-append (x ∷ []) l)) (All-push P (reverse l) x (All-reverse P l (All-tail P x l a)) (All-head P x l a))

pub All-of_reverse : {X : Type 0} (P : X → Type 0) (l : List X) → All P (reverse l) → All P l
All-of_reverse P l a = subst (All P) (reverse-reverse l) (All-reverse P (reverse l) a)

-- what holds of each item holds of those in front, and of those behind
pub All-front : {X : Type 0} (P : X → Type 0) (u v : List X) → All P (u ++ v) → All P u
All-front P u v a = subst (All P) (take-append_seam u v) (All-take P (length u) (u ++ v) a)

pub All-behind : {X : Type 0} (P : X → Type 0) (u v : List X) → All P (u ++ v) → All P v
All-behind P u v a = subst (All P) (drop-append_seam u v) (All-drop P (length u) (u ++ v) a)

-- digits pass the test of each
pub list_all-digits : (ds : List ℕ) → AllDigits 10 ds → list_all (λ d. nat_lt (digit_value d) 10) ds ≡ true
list_all-digits [] h = refl
list_all-digits (d ∷ ds) h = rw (lt-ltb (digit_value d) 10 h.0) (list_all-digits ds h.1)

-- a buffer that a slice wrote over
pub all_written : {A : Type 0} → (old new : List A) (n : ℕ) → n ≡ length old → length new ≡ length old →
    take n (new ++ drop (length new) old) ≡ new
all_written old new n e l =
    let few : n ≤ length new = omega (arith, e, l) in
    take-append-le n new (drop (length new) old) few ∙ take_all n new (omega (arith, e, l))

-- what holds of each item by its place, where one has come at the end
pub each_more : {A : Type 0} (P : ℕ → A → Type 0) (xs ys : List A) (x : A) (k : ℕ) → ys ≡ xs ++ x ∷ [] → k ≡ length xs
    → ((g : ℕ) (d : A) → g < length xs → P g (slice_index_or xs g d)) → P k x → (g : ℕ) (d : A) → g < length ys →
    P g (slice_index_or ys g d)
each_more {A} P xs ys x k is long all here g d lt =
    subst (λ (l : List A). P g (slice_index_or l g d)) (sym is) (elim (cases_lt g (length xs)) [
      | inl within ↦ subst (P g) (sym (get_or-append xs (x ∷ []) d g within)) (all g d within)
      | inr past ↦
          let at : g ≡ length xs = omega (arith, past, lt, ap length is, length-append xs (x ∷ [])) in
          subst (λ (n : ℕ). P n (slice_index_or (xs ++ x ∷ []) n d)) (sym at)
          (subst (P (length xs)) (sym (get_or-append_seam xs x [] d)) (subst (λ (n : ℕ). P n x) long here))
    ])

-- how long a text of parts is at most
pub length-append-le : (a b : List ℕ) (m n : ℕ) → length a ≤ m → length b ≤ n → length (a ++ b) ≤ m + n
length-append-le a b m n x y = omega (arith, length-append a b, x, y)

pub length-cond-le : (b : Bool) (x y : List ℕ) (n : ℕ) → length x ≤ n → length y ≤ n → length (cond b x y) ≤ n
length-cond-le true x y n p q = p
length-cond-le false x y n p q = q

pub length-decimal_word : (n : ℕ) → n < 2 ^ 64 → length (decimal n) ≤ 20
length-decimal_word n small = length-decimal-le 20 n (omega arith) (omega arith) (omega (arith, small))
