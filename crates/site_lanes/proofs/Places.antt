-- Facts of each item of a list by its place.
--   each_before   where the last one has gone
--   the_last      of the last one
use Rattle.std.proofs.Common.{◌≡◌, ◌<◌, ℕ, List, [], ◌∷◌, ◌++◌, length, slice_index_or, ap, subst, arith}
use Rattle.std.proofs.Math.ListN.{get_or-append}
use Rattle.std.proofs.Math.Seq.{get_or-append_seam}
use Rattle.std.proofs.lemmas.List.{length-append}

pub each_before : {A : Type 0} (P : A → Type 0) (xs ys : List A) (x : A) → ys ≡ xs ++ x ∷ []
    → ((g : ℕ) (d : A) → g < length ys → P (slice_index_or ys g d)) → (g : ℕ) (d : A) → g < length xs → P (slice_index_or xs g d)
each_before {A} P xs ys x is all g d lt = subst P (get_or-append xs (x ∷ []) d g lt)
    (subst (λ (l : List A). P (slice_index_or l g d)) is (all g d (omega (arith, lt, ap length is, length-append xs (x ∷ [])))))

pub the_last : {A : Type 0} (P : A → Type 0) (xs ys : List A) (x : A) → ys ≡ xs ++ x ∷ []
    → ((g : ℕ) (d : A) → g < length ys → P (slice_index_or ys g d)) → P x
the_last {A} P xs ys x is all = subst P (get_or-append_seam xs x [] x)
    (subst (λ (l : List A). P (slice_index_or l (length xs) x)) is
    (all (length xs) x (omega (arith, ap length is, length-append xs (x ∷ [])))))
