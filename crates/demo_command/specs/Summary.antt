-- What is printed.
--   IsResidueOf    what the four-point method leaves of a level history
--   all_halves     the half units of all ranges below so many classes and one
--   gauge_line     the line of a gauge with so many half units, of whose levels so many are left
--   summary        the text of four gauges, where these levels are left of each
--   IsSummary      the text of a seed and a number of samples; HasOneSummary: there is one
use Rattle.std.specs.Prelude.{◌≡◌, ◌<◌, ℕ, zero, suc, ◌+◌, ◌-◌, List, [], ◌++◌, length, codes}
use Rattle.std.specs.Fmt.{decimal}
use Rattle.turning_points.specs.Points.{points}
use Rattle.turning_points.specs.three_point.Run.{half_units}
use Rattle.four_point.specs.Reduction.{IsFourPointResult}
use Rattle.report.specs.Lines.{halves_text}
use Rattle.demo_command.specs.Made.{levels_at}
use Rattle.demo_command.specs.declared.made.TheConstants.{GAUGES, CLASSES}

pub record IsResidueOf (h residue : List ℕ) : Type 0 where
  pub cycles : ℕ → ℕ → ℕ
  pub result : IsFourPointResult (points h) cycles residue

abbrev pub all_halves : (ℕ → ℕ) → ℕ → ℕ
all_halves halves zero = 0
all_halves halves (suc k) = all_halves halves k + halves (suc k)

-- of a level history, over all ranges of its table
abbrev pub table_halves : List ℕ → ℕ
table_halves h = all_halves (half_units h) (CLASSES - 1)

abbrev pub gauge_line : ℕ → ℕ → ℕ → List ℕ
gauge_line g halves points =
    codes "gauge " ++ decimal g ++ codes " cycles " ++ halves_text halves ++ codes " residue " ++ decimal
    points ++ codes "\n"

abbrev pub head_line : ℕ → ℕ → List ℕ
head_line seed samples = codes "demo seed " ++ decimal seed ++ codes " samples " ++ decimal samples ++ codes "\n"

-- the lines of the gauges below k
abbrev pub gauge_lines : (ℕ → List ℕ) → ℕ → List ℕ
gauge_lines line zero = []
gauge_lines line (suc k) = gauge_lines line k ++ line k

abbrev pub summary : ℕ → ℕ → (ℕ → List ℕ) → List ℕ
summary seed samples residue = head_line seed samples
    ++ gauge_lines (λ g. gauge_line g (table_halves (levels_at seed samples g)) (length (residue g))) GAUGES

pub record IsSummary (seed samples : ℕ) (text : List ℕ) : Type 0 where
  pub residue : ℕ → List ℕ
  pub residues : (g : ℕ) → g < GAUGES → IsResidueOf (levels_at seed samples g) (residue g)
  pub is : text ≡ summary seed samples residue

abbrev pub HasOneSummary : Type 0
HasOneSummary = (seed samples : ℕ) (a b : List ℕ) → IsSummary seed samples a → IsSummary seed samples b → a ≡ b
