-- A level put before ends: the numbers alone.
use Rattle.std.proofs.Common.{◌≡◌, ℕ, ◌<◌, ◌≤◌, cond, List, arith}
use Rattle.std.proofs.lemmas.Bool.Decides.{nat_tests}
use Rattle.turning_points.specs.Points.{IsBetween, IsTurn}
use Rattle.turning_points.specs.Pairs.{range}
use Rattle.turning_points.specs.EndPoints.{EndPoints}
use Rattle.tally.specs.tables.Tables.{raise, lower}
use Rattle.simple_counts.specs.Simple.{decide, mark}
use Rattle.simple_counts.specs.level_crossing.Extremes.{is_extreme}

pub decide_short : (x : ℕ) (e : EndPoints) (t : List ℕ) → e.points < 2 → decide x e t ≡ t
decide_short x e t h = grind (arith, nat_tests)

pub decide_equal : (x : ℕ) (e : EndPoints) (t : List ℕ) → x ≡ e.first → decide x e t ≡ t
decide_equal x e t h = grind (arith, nat_tests)

pub decide_turn : (x : ℕ) (e : EndPoints) (t : List ℕ) → 2 ≤ e.points → IsTurn x e.first e.second → decide x e t ≡ raise t (range x e.first)
decide_turn x e t h q = grind (arith, nat_tests)

pub decide_two : (x : ℕ) (e : EndPoints) (t : List ℕ) → e.points ≡ 2 → IsBetween x e.first e.second → decide x e t ≡ t
decide_two x e t h q = grind (arith, nat_tests)

pub decide_passed : (x : ℕ) (e : EndPoints) (t : List ℕ) → 3 ≤ e.points → IsBetween x e.first e.second →
    decide x e t ≡ raise (lower t (range e.first e.second)) (range x e.second)
decide_passed x e t h q = grind (arith, nat_tests)

pub mark_short : (r x : ℕ) (e : EndPoints) (t : List ℕ) → e.points < 2 → mark r x e t ≡ t
mark_short r x e t h = grind (arith, nat_tests)

pub mark_equal : (r x : ℕ) (e : EndPoints) (t : List ℕ) → x ≡ e.first → mark r x e t ≡ t
mark_equal r x e t h = grind (arith, nat_tests)

pub mark_turn : (r x : ℕ) (e : EndPoints) (t : List ℕ) → 2 ≤ e.points → IsTurn x e.first e.second →
    mark r x e t ≡ cond (is_extreme r x e.first e.second) (raise t e.first) t
mark_turn r x e t h q = grind (arith, nat_tests)

pub mark_passed : (r x : ℕ) (e : EndPoints) (t : List ℕ) → IsBetween x e.first e.second → mark r x e t ≡ t
mark_passed r x e t q = grind (arith, nat_tests)
