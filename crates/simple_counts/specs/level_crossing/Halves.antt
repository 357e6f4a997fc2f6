-- The tables of a list of points while its steps are counted half by half.
--   below_at     1 where place j is below i
--   IsOpen       the first i steps are counted, but for the first half of the first and the second half of the last of
--                them, and nb bottoms and nt tops at the reference
--   HasExtremes  the extremes of the points p stand in the tables, each at the place behind its level
--   IsSettled    the same differences, and no place below n begins and stops something
use Rattle.std.specs.Prelude.{◌≡◌, ℕ, ◌+◌, ◌-◌, ◌<◌, ◌⊎◌, nat_le, nat_lt, if◌then◌else◌, min, max, List, slice_index, sum, take}
use Rattle.simple_counts.specs.level_crossing.Crossings.{crossings}
use Rattle.simple_counts.specs.level_crossing.Extremes.{extremes_at}

abbrev pub below_at : ℕ → ℕ → ℕ
below_at j i = if nat_lt j i then 1 else 0

-- n from place j on
abbrev pub from_at : ℕ → ℕ → ℕ → ℕ
from_at j n i = if nat_lt j i then n else 0

-- the first half of the step from x to y
abbrev pub first_begin : ℕ → ℕ → ℕ → ℕ → ℕ
first_begin r l x y = if nat_lt x y then below_at (max (x + 1) r) (l + 1) else 0

abbrev pub first_stop : ℕ → ℕ → ℕ → ℕ → ℕ
first_stop r l x y = if nat_lt x y then 0 else below_at (min (x + 1) r) (l + 1)

-- the second half
abbrev pub last_begin : ℕ → ℕ → ℕ → ℕ → ℕ
last_begin r l x y = if nat_lt y x then below_at (min (y + 1) r) (l + 1) else 0

abbrev pub last_stop : ℕ → ℕ → ℕ → ℕ → ℕ
last_stop r l x y = if nat_lt y x then 0 else below_at (max (y + 1) r) (l + 1)

abbrev pub IsOpen : ℕ → List ℕ → List ℕ → ℕ → ℕ → List ℕ → ℕ → Type 0
IsOpen r b s nb nt p i = (l : ℕ) →
    sum (take (l + 1) b) + from_at r nb (l + 1) + last_begin r l (slice_index p (i - 1)) (slice_index p i)
    + first_begin r l (slice_index p 0) (slice_index p 1)
    ≡ sum (take (l + 1) s) + from_at r nt (l + 1) + last_stop r l (slice_index p (i - 1)) (slice_index p i)
    + first_stop r l (slice_index p 0) (slice_index p 1) + crossings r l (take (i + 1) p)

abbrev pub HasExtremes : ℕ → List ℕ → List ℕ → List ℕ → Type 0
HasExtremes r b s p = (k : ℕ) → slice_index (if nat_le r k then s else b) (k + 1) ≡ extremes_at r k p

pub record IsSettled (b s b' s' : List ℕ) (n : ℕ) : Type 0 where
  pub same : (i : ℕ) → sum (take i b') + sum (take i s) ≡ sum (take i b) + sum (take i s')
  pub none : (k : ℕ) → k < n → (slice_index b' k ≡ 0) ⊎ (slice_index s' k ≡ 0)
