-- What is told of one gauge of what a watcher saw.
--   IsStep        the end of so many whole steps from the start on, below what is held
--   AreSteps      such ends that ascend, and then what is held
--   TellsSteps    the lines told are those of such numbers
--   IsSeenLineOf  the line of one such number
use Rattle.std.specs.Prelude.{◌≡◌, ◌<◌, ◌≤◌, ◌+◌, ◌*◌, ◌⊎◌, ℕ, List, [], ◌∷◌, ◌++◌, length, map}
use Rattle.std.specs.List.{All}
use Rattle.std.specs.List.Sorted.{IsStrictlyIncreasing}
use Rattle.outside.specs.station.Station.{Lines}
use Rattle.count_command.specs.declared.watching.ends.TheConstants.{MOST_ENDS_BESIDE}
use Rattle.count_command.specs.held_samples.Told.{seen_line}

pub record IsStep (start step held m : ℕ) : Type 0 where
  pub steps : ℕ
  pub at : m ≡ start + step * steps
  pub below : m < held

pub record AreSteps (start step held : ℕ) (ns : List ℕ) : Type 0 where
  pub before : List ℕ
  pub are : ns ≡ before ++ held ∷ []
  pub ascend : IsStrictlyIncreasing ns
  pub each : All (IsStep start step held) before
  pub few : length before ≤ MOST_ENDS_BESIDE

pub record TellsSteps (name : List ℕ) (start step held : ℕ) (told told2 : Lines) : Type 0 where
  pub ns : List ℕ
  pub steps : AreSteps start step held ns
  pub grew : told2 ≡ told ++ map (seen_line name) ns

pub record IsSeenLineOf (name : List ℕ) (start step held : ℕ) (line : List ℕ) : Type 0 where
  pub number : ℕ
  pub held_once : (number ≡ held) ⊎ IsStep start step held number
  pub is : line ≡ seen_line name number
