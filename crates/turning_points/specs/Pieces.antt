-- Levels that come in pieces.
--   last_of     the last level of a list, or the level that stands before it
--   turns_in    the turns of a list with two levels before it, in which neighbours differ: not its last level
--   rises_at     whether the history rises to its last point: an only point stands twice, and is come to as it is left
--   recent_of   the last two points, where an only point stands for both
use Rattle.std.specs.Prelude.{ℕ, Bool, nat_lt, ◌==◌, if◌then◌else◌, List, [], ◌∷◌}
use Rattle.turning_points.specs.Points.{is_turn}
use Rattle.turning_points.specs.declared.turner.Recent.{Recent}
use Rattle.turning_points.specs.declared.turner.Recent.TheVariants.{One, Two}

abbrev pub last_of : ℕ → List ℕ → ℕ
last_of x [] = x
last_of x (y ∷ l) = last_of y l

abbrev pub turns_in : ℕ → ℕ → List ℕ → List ℕ
turns_in before last [] = []
turns_in before last (z ∷ l) = if is_turn before last z then last ∷ turns_in last z l else turns_in last z l

abbrev pub rises_at : ℕ → ℕ → List ℕ → Bool
rises_at before last [] = nat_lt before last
rises_at before last (z ∷ l) = if before == last then nat_lt last z else nat_lt before last

abbrev pub recent_of : ℕ → ℕ → Recent
recent_of before last = if before == last then One last else Two before last
