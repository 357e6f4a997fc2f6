-- A text that is written piece by piece: so much of it is written, and this is left of it.
use Rattle.std.specs.Prelude.{◌≡◌, ℕ, List, ◌++◌}

pub record IsPrinted (old now whole rest : List ℕ) : Type 0 where
  pub front : List ℕ
  pub written : now ≡ old ++ front
  pub all : whole ≡ front ++ rest
