-- The levels of a history are classes of its grid.
use Rattle.std.proofs.Common.{◌≡◌, ◌<◌, ℕ, ℤ, pos, negsuc, nat_lt, if◌then◌else◌, Bool, true, false, List, [], ◌∷◌, refl, arith}
use Rattle.std.specs.Prelude.{All}
use Rattle.std.proofs.lemmas.Bool.Decides.{nat_tests}
use Rattle.std.proofs.lemmas.List.Elements.{All-nil, All-cons}
use Rattle.std.specs.List.{cons_option}
use Rattle.calibration.specs.Gain.{GainValue}
use Rattle.calibration.specs.Grid.{GridValue}
use Rattle.calibration.specs.Level.{in_grid, is_missing, class_of, stress_of}
use Rattle.calibration.specs.History.{history, level_in}
use Rattle.calibration.specs.declared.reading.Reading.TheVariants.{Missing, Refused, Level}

class_below : (classes n : ℕ) (b : Bool) (rest : List ℕ) → nat_lt n classes ≡ b → All (λ l. l < classes) rest →
    All (λ l. l < classes) (cons_option (level_in (if b then Level n else Refused)) rest)
class_below classes n true rest is below = All-cons (λ l. l < classes) n rest (grind (arith, nat_tests, is)) below
class_below classes n false rest is below = below

grid_below : (grid : GridValue) (z : ℤ) (rest : List ℕ) → All (λ l. l < grid.classes) rest →
    All (λ l. l < grid.classes) (cons_option (level_in (in_grid grid z)) rest)
grid_below grid (pos n) rest below = class_below grid.classes n _ rest refl below
grid_below grid (negsuc n) rest below = below

reading_below : (grid : GridValue) (missing : Bool) (z : ℤ) (rest : List ℕ) → All (λ l. l < grid.classes) rest →
    All (λ l. l < grid.classes) (cons_option (level_in (if missing then Missing else in_grid grid z)) rest)
reading_below grid true z rest below = below
reading_below grid false z rest below = grid_below grid z rest below

pub history_below : (grid : GridValue) (gain : GainValue) (w : List ℤ) → All (λ l. l < grid.classes) (history grid gain w)
history_below grid gain [] = All-nil (λ l. l < grid.classes)
history_below grid gain (raw ∷ w) =
    reading_below grid (is_missing raw) (class_of grid (stress_of gain raw)) (history grid gain w) (history_below grid gain w)
