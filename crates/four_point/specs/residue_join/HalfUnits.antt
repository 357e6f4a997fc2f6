-- Cycles and residues by the four-point method, and the three-point count of ASTM E1049-85, 5.4.4,
-- in half units of each pair of levels.
--   TakesHalfUnits        a part of a history may be put for its residue, where each of its cycles counts two half
--                         units
--   neighbours            each two neighbours of a list, as half a cycle
--   CountsItsNeighbours   a residue counts one half unit for each two neighbours
--   CountsItsResult       a history counts two half units for each of its cycles, and one for each two neighbours in
--                         its residue
use Rattle.std.specs.Prelude.{◌≡◌, ℕ, ◌+◌, ◌*◌, List, [], ◌∷◌, ◌++◌}
use Rattle.turning_points.specs.Points.{points}
use Rattle.turning_points.specs.three_point.Run.{CountedRange, counted_range, half_units_of_pair, three_point}
use Rattle.four_point.specs.Reduction.{IsIrreducible, IsFourPointResult}

abbrev pub TakesHalfUnits : Type 0
TakesHalfUnits = (p w q : List ℕ) (count : ℕ → ℕ → ℕ) (r : List ℕ) →
    IsFourPointResult (points w) count r → (lo hi : ℕ)
    → three_point (p ++ (w ++ q)) lo hi ≡ 2 * count lo hi + three_point (p ++ (r ++ q)) lo hi

abbrev pub neighbours : List ℕ → List CountedRange
neighbours [] = []
neighbours (x ∷ []) = []
neighbours (x ∷ y ∷ l) = counted_range x y 1 ∷ neighbours (y ∷ l)

-- of a list that is its own list of points and to which no deletion applies
abbrev pub CountsItsNeighbours : Type 0
CountsItsNeighbours = (r : List ℕ) → points r ≡ r → IsIrreducible r → (lo hi : ℕ) →
    three_point r lo hi ≡ half_units_of_pair lo hi (neighbours r)

abbrev pub CountsItsResult : Type 0
CountsItsResult = (h : List ℕ) (count : ℕ → ℕ → ℕ) (r : List ℕ) →
    IsFourPointResult (points h) count r → (lo hi : ℕ)
    → three_point h lo hi ≡ 2 * count lo hi + half_units_of_pair lo hi (neighbours r)
