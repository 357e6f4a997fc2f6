-- The cycles of a segment put into an empty tally, row by row.
--   IsInRow, row_begun, row_more, row_ended      a row, of which the pairs up to a level were added
--   IsCopied, copied_all                         the rows below a level
use Rattle.std.proofs.Common.{◌≡◌, ℕ, ◌+◌, ◌≤◌, ◌⊎◌, inl, inr, nat_lt, nat_le, ◌==◌, ◌&&◌, if◌then◌else◌, List, ap, ◌∙◌, subst, arith}
use Rattle.std.specs.Prelude.{All}
use Rattle.std.proofs.lemmas.Bool.Decides.{nat_tests}
use Rattle.lemmas.proofs.Naturals.{same_or_not}
use Rattle.tally.specs.declared.cells.Cell.{Cell}
use Rattle.tally.specs.Counts.{Counts, IsCounts, IsCell, count_of}
use Rattle.tally.proofs.Walk.{count_outside}
use Rattle.tally.proofs.Equal.{same_cells}

-- new is old with the pairs of lo up to hi
abbrev pub IsInRow : (held old new : List Cell) → ℕ → ℕ → Type 0
IsInRow held old new lo hi =
    (a b : ℕ) → count_of new a b ≡ count_of old a b + (if a == lo && nat_le b hi then count_of held a b else 0)

begun : (f lo a b p : ℕ) → (b ≤ a → f ≡ 0) → p ≡ p + (if a == lo && nat_le b lo then f else 0)
begun f lo a b p h = grind (arith, nat_tests)

pub row_begun : (k : ℕ) (held old : List Cell) (lo : ℕ) → All (IsCell k) held → IsInRow held old old lo lo
row_begun k held old lo all a b =
    begun (count_of held a b) lo a b (count_of old a b) (λ h. count_outside k a b held all (λ p q. omega arith))

more_by : (f : ℕ → ℕ → ℕ) (lo hi n a b p q r : ℕ) → n ≡ f lo (hi + 1) → q ≡ p + (if a == lo && nat_le b hi then f a b else 0) →
    r ≡ q + (if a == lo && b == hi + 1 then n else 0) → (((lo ≡ a) × (hi + 1 ≡ b)) ⊎ ((lo ≡ a) × (hi + 1 ≡ b) → ⊥)) →
    r ≡ p + (if a == lo && nat_le b (hi + 1) then f a b else 0)
more_by f lo hi n a b p q r e g h (inl s) =
    let m : n ≡ f a b = e ∙ ap (λ x. f x (hi + 1)) s.0 ∙ ap (f a) s.1 in grind (arith, nat_tests)
more_by f lo hi n a b p q r e g h (inr s) = grind (arith, nat_tests)

pub row_more : (held old new newer : List Cell) (lo hi n : ℕ) → n ≡ count_of held lo (hi + 1) → IsInRow held old new lo hi →
    ((a b : ℕ) → count_of newer a b ≡ count_of new a b + (if a == lo && b == hi + 1 then n else 0)) → IsInRow held old newer lo (hi + 1)
row_more held old new newer lo hi n e r h a b =
    more_by (count_of held) lo hi n a b (count_of old a b) (count_of new a b) (count_of newer a b) e (r a b) (h a b)
    (same_or_not lo (hi + 1) a b)

ended : (f k lo hi a b p q : ℕ) → hi + 1 ≡ k → (k ≤ b → f ≡ 0) → q ≡ p + (if a == lo && nat_le b hi then f else 0) →
    q ≡ p + (if a == lo then f else 0)
ended f k lo hi a b p q e h g = grind (arith, nat_tests)

pub row_ended : (k : ℕ) (held old new : List Cell) (lo hi : ℕ) → All (IsCell k) held → hi + 1 ≡ k → IsInRow held old new lo hi → (a b : ℕ) →
    count_of new a b ≡ count_of old a b + (if a == lo then count_of held a b else 0)
row_ended k held old new lo hi all e r a b =
    ended (count_of held a b) k lo hi a b (count_of old a b) (count_of new a b) e
    (λ h. count_outside k a b held all (λ p q. omega arith)) (r a b)

-- new has the pairs of the levels below lo
abbrev pub IsCopied : (held new : List Cell) → ℕ → Type 0
IsCopied held new lo = (a b : ℕ) → count_of new a b ≡ (if nat_lt a lo then count_of held a b else 0)

no_row : (f a : ℕ) → (if nat_lt a 0 then f else 0) ≡ 0
no_row f a = grind (arith, nat_tests)

next_row : (f lo a p q : ℕ) → p ≡ (if nat_lt a lo then f else 0) → q ≡ p + (if a == lo then f else 0) →
    q ≡ (if nat_lt a (lo + 1) then f else 0)
next_row f lo a p q g h = grind (arith, nat_tests)

all_rows : (f k lo a p : ℕ) → lo + 1 ≡ k → (lo ≤ a → f ≡ 0) → p ≡ (if nat_lt a lo then f else 0) → p ≡ f
all_rows f k lo a p e h g = grind (arith, nat_tests)

pub copied_all : (k : ℕ) (held new : Counts) (lo : ℕ) → lo + 1 ≡ k → IsCounts held → held.classes ≡ k → IsCounts new → new.classes ≡ k →
    IsCopied held.cells new.cells lo → new.cells ≡ held.cells
copied_all k held new lo e g f h i r =
    let all = subst (λ n. All (IsCell n) held.cells) f g.each in
    same_cells k new.cells held.cells (subst (λ n. All (IsCell n) new.cells) i h.each) all h.ascending g.ascending
    (λ a b. all_rows (count_of held.cells a b) k lo a (count_of new.cells a b) e
    (λ w. count_outside k a b held.cells all (λ p q. omega arith)) (r a b))
