-- A step between two levels as two halves. A rise from x to y begins at the greater of x + 1 and the reference and stops at the greater
-- of y + 1 and the reference; a fall stops at the lesser of x + 1 and the reference and begins at the lesser of y + 1 and the
-- reference. So an inner point x has one half at x + 1 and one at the reference, both begin where it is a bottom, both stop where it is a
-- top.
use Rattle.std.proofs.Common.{◌≡◌, ◌≢◌, ℕ, ◌+◌, ◌-◌, ◌<◌, ◌≤◌, List, [], ◌∷◌, length, take, sum, set, get_or, zero, suc, arith}
use Rattle.std.proofs.lemmas.Bool.Decides.{nat_tests}
use Rattle.tally.proofs.on_tables.Counting.{sum_cons}
use Rattle.simple_counts.specs.level_crossing.Crossings.{step_crossings}
use Rattle.simple_counts.specs.level_crossing.Halves.{below_at, from_at, first_begin, first_stop, last_begin, last_stop}

-- both halves of a step
pub halves : (r l x y : ℕ) → x ≢ y → first_begin r l x y + last_begin r l x y ≡ first_stop r l x y + last_stop r l x y +
    step_crossings r l x y
halves r l x y n = grind (arith, nat_tests)

-- an inner point
pub at_bottom : (r l y x z : ℕ) → x < y → x < z →
    below_at (x + 1) (l + 1) + below_at r (l + 1) + last_begin r l x z ≡ last_begin r l y x + last_stop r l x z + step_crossings r l x z
at_bottom r l y x z h k = grind (arith, nat_tests)

pub at_top : (r l y x z : ℕ) → y < x → z < x →
    last_begin r l x z + last_stop r l y x ≡ below_at (x + 1) (l + 1) + below_at r (l + 1) + last_stop r l x z + step_crossings r l x z
at_top r l y x z h k = grind (arith, nat_tests)

pub one_more : (r n l : ℕ) → from_at r (n + 1) (l + 1) ≡ from_at r n (l + 1) + below_at r (l + 1)
one_more r n l = grind (arith, nat_tests)

pub none_at : (r l : ℕ) → from_at r 0 (l + 1) ≡ 0
none_at r l = grind (arith, nat_tests)

from_none : (j n : ℕ) → from_at j n 0 ≡ 0
from_none j n = grind (arith, nat_tests)

from_first : (n i : ℕ) → from_at 0 n (suc i) ≡ n
from_first n i = grind (arith, nat_tests)

from_suc : (j n i : ℕ) → from_at (suc j) n (suc i) ≡ from_at j n i
from_suc j n i = grind (arith, nat_tests)

-- a prefix's sum after n more at a place
pub sum_take_more : (t : List ℕ) (j n i : ℕ) → j < length t → sum (take i (set t j (get_or t j 0 + n))) ≡ sum (take i t) + from_at j n i
sum_take_more [] j n i h = absurd (omega arith)
sum_take_more (x ∷ t) zero n zero h = omega (arith, from_none 0 n)
sum_take_more (x ∷ t) (suc j) n zero h = omega (arith, from_none (suc j) n)
sum_take_more (x ∷ t) zero n (suc i) h = omega (arith, from_first n i, sum_cons (x + n) (take i t), sum_cons x (take i t))
sum_take_more (x ∷ t) (suc j) n (suc i) h = omega (
  arith,
  from_suc j n i,
  sum_cons x (take i (set t j (get_or t j 0 + n))),
  sum_cons x (take i t),
  sum_take_more t j n i (omega arith),
)

-- a prefix's sum after n less at a place
pub sum_take_less : (t : List ℕ) (j n i : ℕ) → j < length t → n ≤ get_or t j 0 →
    sum (take i (set t j (get_or t j 0 - n))) + from_at j n i ≡ sum (take i t)
sum_take_less [] j n i h m = absurd (omega arith)
sum_take_less (x ∷ t) zero n zero h m = omega (arith, from_none 0 n)
sum_take_less (x ∷ t) (suc j) n zero h m = omega (arith, from_none (suc j) n)
sum_take_less (x ∷ t) zero n (suc i) h m = omega (arith, from_first n i, sum_cons (x - n) (take i t), sum_cons x (take i t))
sum_take_less (x ∷ t) (suc j) n (suc i) h m = omega (
  arith,
  from_suc j n i,
  sum_cons x (take i (set t j (get_or t j 0 - n))),
  sum_cons x (take i t),
  sum_take_less t j n i (omega arith) m,
)
