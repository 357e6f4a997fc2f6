-- The number of points of a history, its first two and its last two.
--   EndPoints     these five numbers; 0 where there is no such point
--   ends_of       those of a list of points
--   only_point    those of one point
--   IsEnds        those of some list of points of levels below k
--   ends_prepend  the ends after a level was put before
--   ends_of_both  the ends of two histories, one after the other
--   ends_push     the ends after a level was put behind
use Rattle.std.specs.Prelude.{◌≡◌, ◌≢◌, ℕ, ◌+◌, ◌-◌, ◌<◌, ◌≤◌, ◌==◌, if◌then◌else◌, List, [], ◌∷◌, length, slice_index}
use Rattle.turning_points.specs.Points.{is_turn, IsTurn}

pub record EndPoints : Type 0 where
  pub points : ℕ
  pub first : ℕ
  pub second : ℕ
  pub before : ℕ
  pub last : ℕ

abbrev pub last_point : List ℕ → ℕ
last_point [] = 0
last_point (x ∷ []) = x
last_point (x ∷ y ∷ l) = last_point (y ∷ l)

-- the last but one
abbrev pub last_but_one : List ℕ → ℕ
last_but_one [] = 0
last_but_one (x ∷ []) = 0
last_but_one (x ∷ y ∷ []) = x
last_but_one (x ∷ y ∷ z ∷ l) = last_but_one (y ∷ z ∷ l)

abbrev pub ends_of : List ℕ → EndPoints
ends_of l = record {
  points = length l;
  first = slice_index l 0;
  second = slice_index l 1;
  before = last_but_one l;
  last = last_point l;
}

abbrev pub no_ends : EndPoints
no_ends = record { points = 0; first = 0; second = 0; before = 0; last = 0 }

abbrev pub only_point : ℕ → EndPoints
only_point x = record { points = 1; first = x; second = 0; before = 0; last = x }

pub record IsEnds (k : ℕ) (e : EndPoints) : Type 0 where
  pub none : e.points ≡ 0 → (e.first ≡ 0) × (e.second ≡ 0) × (e.before ≡ 0) × (e.last ≡ 0)
  pub one : e.points ≡ 1 → (e.second ≡ 0) × (e.before ≡ 0) × (e.last ≡ e.first)
  pub differ : 2 ≤ e.points → (e.first ≢ e.second) × (e.before ≢ e.last)
  pub two : e.points ≡ 2 → (e.before ≡ e.first) × (e.last ≡ e.second)
  pub three : e.points ≡ 3 → (e.before ≡ e.second) × IsTurn e.first e.second e.last
  pub below : (e.first < k) × (e.second < k) × (e.before < k) × (e.last < k)

-- the ends after the level x was put before
abbrev pub ends_prepend : ℕ → EndPoints → EndPoints
ends_prepend x e =
    if e.points == 0 then only_point x
    else if x == e.first then e
    else if e.points == 1 then record { points = 2; first = x; second = e.first; before = x; last = e.first }
    else if is_turn x e.first e.second then record {
      points = e.points + 1;
      first = x;
      second = e.first;
      before = e.before;
      last = e.last;
    }
    else record {
      points = e.points;
      first = x;
      second = e.second;
      before = if e.points == 2 then x
          else e.before;
      last = e.last;
    }

-- the ends of two histories, one after the other: the last point of the first and then its last but one are put before
-- those of the second
abbrev pub ends_of_both : EndPoints → EndPoints → EndPoints
ends_of_both e f =
    let g = ends_prepend e.last f in
    let h = ends_prepend e.before g in
    if e.points == 0 then f
    else if e.points == 1 then g
    else if e.points == 2 then h
    else record {
      points = (e.points - 2) + h.points;
      first = e.first;
      second = e.second;
      before = h.before;
      last = h.last;
    }

-- the ends after the level x was put behind
abbrev pub ends_push : ℕ → EndPoints → EndPoints
ends_push x e =
    if e.points == 0 then only_point x
    else if x == e.last then e
    else if e.points == 1 then record { points = 2; first = e.first; second = x; before = e.last; last = x }
    else if is_turn e.before e.last x then record {
      points = e.points + 1;
      first = e.first;
      second = e.second;
      before = e.last;
      last = x;
    }
    else record {
      points = e.points;
      first = e.first;
      second = if e.points == 2 then x
          else e.second;
      before = e.before;
      last = x;
    }
