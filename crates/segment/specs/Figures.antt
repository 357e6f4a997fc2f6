-- What segments hold.
--   halves_of   what a segment tells of a pair, in half units
--   SameKept    two lists of segments hold the same: the last end, the sums, and for each pair twice the cycles and the
--               three-point count of the residues, one after the other
use Rattle.std.specs.Prelude.{◌≡◌, ℕ, ◌+◌, ◌*◌, List, [], ◌∷◌, ◌++◌, sum_by}
use Rattle.turning_points.specs.three_point.Run.{three_point, half_units_of_pair}
use Rattle.tally.specs.Counts.{count_of}
use Rattle.four_point.specs.residue_join.HalfUnits.{neighbours}
use Rattle.segment.specs.Segment.{SegmentValue}

-- those of its full cycles
abbrev pub doubled_cycles : SegmentValue → ℕ → ℕ → ℕ
doubled_cycles v lo hi = 2 * count_of v.tally.cells lo hi

abbrev pub halves_of : SegmentValue → ℕ → ℕ → ℕ
halves_of v lo hi = doubled_cycles v lo hi + half_units_of_pair lo hi (neighbours v.reducer.residue)

abbrev pub last_end : List SegmentValue → ℕ
last_end [] = 0
last_end (v ∷ []) = v.to
last_end (v ∷ w ∷ l) = last_end (w ∷ l)

abbrev pub residues : List SegmentValue → List ℕ
residues [] = []
residues (v ∷ l) = v.reducer.residue ++ residues l

abbrev pub cycles : List SegmentValue → ℕ → ℕ → ℕ
cycles [] lo hi = 0
cycles (v ∷ l) lo hi = count_of v.tally.cells lo hi + cycles l lo hi

abbrev pub kept_halves : List SegmentValue → ℕ → ℕ → ℕ
kept_halves l lo hi = 2 * cycles l lo hi + three_point (residues l) lo hi

pub record SameKept (a b : List SegmentValue) : Type 0 where
  pub last : last_end a ≡ last_end b
  pub used : sum_by (λ v. v.used) a ≡ sum_by (λ v. v.used) b
  pub missing : sum_by (λ v. v.missing) a ≡ sum_by (λ v. v.missing) b
  pub refused : sum_by (λ v. v.refused) a ≡ sum_by (λ v. v.refused) b
  pub halves : (lo hi : ℕ) → kept_halves a lo hi ≡ kept_halves b lo hi
