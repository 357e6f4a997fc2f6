-- The extremes of a list of points (ASTM E1049-85, 5.2): peaks from the reference on, and valleys below it.
--   triples       a sum over each three neighbours
--   is_extreme    whether b, between a and c, counts
--   extremes_at   how many extremes lie at level k
use Rattle.std.specs.Prelude.{ℕ, ◌+◌, Bool, ◌&&◌, nat_lt, nat_le, if◌then◌else◌, List, [], ◌∷◌}
use Rattle.tally.specs.tables.Tables.{is_at}

abbrev pub triples : (ℕ → ℕ → ℕ → ℕ) → List ℕ → ℕ
triples w [] = 0
triples w (x ∷ []) = 0
triples w (x ∷ y ∷ []) = 0
triples w (x ∷ y ∷ z ∷ p) = w x y z + triples w (y ∷ z ∷ p)

abbrev pub is_extreme : ℕ → ℕ → ℕ → ℕ → Bool
is_extreme r a b c = if nat_le r b then nat_lt a b && nat_lt c b else nat_lt b a && nat_lt b c

abbrev pub extremes_at : ℕ → ℕ → List ℕ → ℕ
extremes_at r k l = triples (λ x y z. if is_extreme r x y z then is_at k y else 0) l
