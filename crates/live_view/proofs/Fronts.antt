-- Fronts of one list.
--   prefix_shorter   of two fronts of one list the longer begins with the shorter
--   prefix_whole     a front as long as the whole is the whole
--   covered          which of two fronts begins with the other, by a test of their lengths
use Rattle.std.proofs.Common.{◌≡◌, ℕ, ◌≤◌, ◌<◌, Bool, true, false, leb, MatchBool, List, [], ◌∷◌, length, refl, arith}
use Rattle.std.proofs.lemmas.Bool.Decides.{nat_tests}
use mathlib.Core.List.{IsPrefix}

pub prefix_shorter : {A : Type 0} (xs ys zs : List A) → IsPrefix xs zs → IsPrefix ys zs → length xs ≤ length ys → IsPrefix xs ys
prefix_shorter [] ys zs p q le = (ys, refl)
prefix_shorter (x ∷ xs) [] zs p q le = absurd (omega arith)
prefix_shorter (x ∷ xs) (y ∷ ys) [] p q le = absurd (cc (p.1))
prefix_shorter (x ∷ xs) (y ∷ ys) (z ∷ zs) p q le =
    let heads : x ≡ y = cc (p.1, q.1) in
    let rest = prefix_shorter xs ys zs (p.0, cc (p.1)) (q.0, cc (q.1)) (omega arith) in
    (rest.0, cc (heads, rest.1))

pub prefix_whole : {A : Type 0} (xs ys : List A) → IsPrefix xs ys → length ys ≤ length xs → xs ≡ ys
prefix_whole [] [] p le = refl
prefix_whole [] (y ∷ ys) p le = absurd (omega arith)
prefix_whole (x ∷ xs) [] p le = absurd (cc (p.1))
prefix_whole (x ∷ xs) (y ∷ ys) p le =
    let rest = prefix_whole xs ys (p.0, cc (p.1)) (omega arith) in cc (p.1, rest)

covering : {A : Type 0} (a b : ℕ) (xs ys zs : List A) → a ≡ length xs → b ≡ length ys → IsPrefix xs zs → IsPrefix ys zs →
    (t : Bool) → leb a b ≡ t → MatchBool t (IsPrefix xs ys) (IsPrefix ys xs)
covering a b xs ys zs p q h k true is =
    let le : a ≤ b = grind (arith, nat_tests) in prefix_shorter xs ys zs h k (omega arith)
covering a b xs ys zs p q h k false is =
    let lt : b < a = grind (arith, nat_tests) in prefix_shorter ys xs zs k h (omega arith)

pub covered : {A : Type 0} (a b : ℕ) (xs ys zs : List A) → a ≡ length xs → b ≡ length ys → IsPrefix xs zs → IsPrefix ys zs →
    MatchBool (leb a b) (IsPrefix xs ys) (IsPrefix ys xs)
covered a b xs ys zs p q h k = covering a b xs ys zs p q h k (leb a b) refl
