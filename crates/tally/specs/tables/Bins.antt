-- Lists of counts by key.
--   AreBinsFrom   entries ascend strictly, and none counts nothing
--   count_at      how much is counted at a key
--   sum_of        how much is counted in all
use Rattle.std.specs.Prelude.{◌<◌, ◌≤◌, ◌+◌, ℕ, ◌==◌, if◌then◌else◌, List, [], ◌∷◌, sum_by}
use Rattle.tally.specs.declared.cells.Bin.{Bin}

-- entries ascend strictly from a key on and below another, and none counts nothing
abbrev pub AreBinsFrom : ℕ → ℕ → List Bin → Type 0
AreBinsFrom from to [] = Unit {0}
AreBinsFrom from to (b ∷ bs) = (from ≤ b.key) × (b.key < to) × (0 < b.n) × AreBinsFrom (b.key + 1) to bs

-- how much is counted in all
abbrev pub sum_of : List Bin → ℕ
sum_of bins = sum_by (λ b. b.n) bins

-- how much is counted at a key
abbrev pub count_at : ℕ → List Bin → ℕ
count_at key [] = 0
count_at key (b ∷ bs) = if key == b.key then b.n else count_at key bs
