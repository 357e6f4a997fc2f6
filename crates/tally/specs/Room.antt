-- How many different cells a segment can come to, by the number of samples that it may hold: each
-- cell has at least one cycle, and each cycle took two of the segment's points away. So the lesser
-- of the greatest room and half of the samples is enough for every call.
--   room_for       the room of a segment's tally
--   FitsSamples    twice the cycles of a segment and the levels of its residue are at most its samples
--   PushHasRoom    the room is enough for one level more
--   MergeHasRoom   and for the cycles of the segment that comes next
--   JoinHasRoom    and then for joining the two residues
use Rattle.std.specs.Prelude.{◌≡◌, ℕ, ◌+◌, ◌*◌, ◌/◌, ◌<◌, ◌≤◌, ◌⊎◌, length, min}
use Rattle.tally.specs.Counts.{Counts, IsCounts, HasGreatestRoom, most_cells, total_of}

abbrev pub room_for : ℕ → ℕ → ℕ
room_for classes longest = min (most_cells classes) (longest / 2)

-- of a segment with so many levels in its residue and so many samples
abbrev pub FitsSamples : Counts → ℕ → ℕ → Type 0
FitsSamples t levels samples = 2 * total_of t.cells + levels ≤ samples

abbrev pub PushHasRoom : Type 0
PushHasRoom = (t : Counts) (levels samples longest : ℕ) → IsCounts t → FitsSamples t levels samples
    → t.room ≡ room_for t.classes longest → samples < longest
    → HasGreatestRoom t ⊎ (2 * length t.cells + levels ≤ 2 * t.room)

abbrev pub MergeHasRoom : Type 0
MergeHasRoom = (t u : Counts) (left right m n longest : ℕ) → IsCounts t → IsCounts u →
    FitsSamples t left m → FitsSamples u right n
    → t.room ≡ room_for t.classes longest → m + n ≤ longest
    → HasGreatestRoom t ⊎ (length t.cells + length u.cells ≤ t.room)

-- s is t with the cells of u
abbrev pub JoinHasRoom : Type 0
JoinHasRoom = (t u s : Counts) (left right m n longest : ℕ) → FitsSamples t left m →
    FitsSamples u right n
    → t.room ≡ room_for t.classes longest → m + n ≤ longest
    → IsCounts s → s.classes ≡ t.classes → s.room ≡ t.room → total_of s.cells ≡
    total_of t.cells + total_of u.cells
    → HasGreatestRoom s ⊎ (2 * length s.cells + left + right ≤ 2 * s.room + 1)
