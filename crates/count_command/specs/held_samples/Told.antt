-- The lines that tell how far a gauge is: those of `count` and `watch` that acknowledge, and those of what `watch` saw.
--   line_of       a word with a space, a name, and a number
--   held_line     the first n samples of a gauge are held
--   seen_line     a watcher saw so much of it; it acknowledges nothing
--   IsBelow       no number that the line acknowledges is above what is held
--   round_lines   the lines of one round, in order of gauge
--   held_lines    the lines of so many rounds
--   HeldLines     the lines of all rounds
--   Acknowledges  what was told is these
use Rattle.std.specs.Prelude.{◌≡◌, ◌<◌, ◌≤◌, ℕ, zero, suc, ◌+◌, ◌*◌, ◌^◌, min, nat_lt, if◌then◌else◌, List, [], ◌∷◌, ◌++◌, length, slice_index, codes}
use Rattle.std.specs.List.{AllByRecursion}
use Rattle.std.specs.Fmt.{decimal}
use Rattle.outside.specs.station.Station.{Lines}
use Rattle.site_config.specs.recorded.Recorded.{Recorded}
use Rattle.board.specs.declared.flow.TheConstants.{BLOCKS_PER_WINDOW}

abbrev pub line_of : List ℕ → List ℕ → ℕ → List ℕ
line_of word name n = word ++ (name ++ (codes " " ++ (decimal n ++ codes "\n")))

abbrev pub held_line : List ℕ → ℕ → List ℕ
held_line name n = line_of (codes "held ") name n

abbrev pub seen_line : List ℕ → ℕ → List ℕ
seen_line name n = line_of (codes "seen ") name n

-- a number that can be told has 64 bits
abbrev pub IsBelow : Recorded → List ℕ → List ℕ → Type 0
IsBelow r held line = (g n : ℕ) → g < r.gauges → n < 2 ^ 64 → line ≡ held_line (r.names g) n → n ≤ slice_index held g

abbrev pub AreBelow : Recorded → List ℕ → Lines → Type 0
AreBelow r held lines = AllByRecursion (IsBelow r held) lines

-- at each gauge, at most as many
abbrev pub EachAtMost : List ℕ → List ℕ → Type 0
EachAtMost a b = (g : ℕ) → slice_index a g ≤ slice_index b g

-- the line of a gauge that went from one number to another, unless they are equal
abbrev pub gauge_lines : List ℕ → ℕ → ℕ → Lines
gauge_lines name from to = if nat_lt from to then held_line name to ∷ [] else []

-- of the gauges below k
abbrev pub round_lines : (ℕ → List ℕ) → (ℕ → ℕ) → (ℕ → ℕ) → ℕ → Lines
round_lines names from to zero = []
round_lines names from to (suc k) = round_lines names from to k ++ gauge_lines (names k) (from k) (to k)

-- how many samples of a gauge are held after so many rounds, where n were held before them
abbrev pub held_after : ℕ → Recorded → List ℕ → ℕ → ℕ → ℕ
held_after block r n rounds g = min (slice_index n g + BLOCKS_PER_WINDOW * block * rounds) (length (r.samples g))

abbrev pub held_lines : ℕ → Recorded → List ℕ → ℕ → Lines
held_lines block r n zero = []
held_lines block r n (suc rounds) = held_lines block r n rounds
    ++ round_lines r.names (held_after block r n rounds) (held_after block r n (suc rounds)) r.gauges

-- the lines of all rounds: after these each gauge is at its end, and each later round has none
pub record HeldLines (block : ℕ) (r : Recorded) (n : List ℕ) (lines : Lines) : Type 0 where
  pub rounds : ℕ
  pub are : lines ≡ held_lines block r n rounds
  pub all : (g : ℕ) → g < r.gauges → length (r.samples g) ≤ slice_index n g + BLOCKS_PER_WINDOW * block * rounds

-- what was told is these lines
pub record Acknowledges (block : ℕ) (r : Recorded) (n : List ℕ) (told told2 : Lines) : Type 0 where
  pub lines : Lines
  pub grew : told2 ≡ told ++ lines
  pub held : HeldLines block r n lines
