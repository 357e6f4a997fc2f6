-- Lists that end in a level.
--   EndsIn         the last level is this one
--   ends_points    the points of such a history
--   ends_behind    this level put behind a list
--   ends_after     such a list put behind another
--   ends_chain     after deletions
use Rattle.std.proofs.Common.{◌≡◌, ℕ, List, [], ◌∷◌, ◌++◌, refl, sym, subst}
use Rattle.turning_points.specs.Pairs.{Pair}
use Rattle.turning_points.specs.Points.{points}
use Rattle.turning_points.proofs.Zigzag.{Added, first, equal, second, turn, between, is_added, points_cons, zig_points}
use Rattle.four_point.proofs.Drops.{Drops, here, past}
use Rattle.four_point.proofs.Chain.{Chain, done, more}

-- the last of the list is m
pub data EndsIn (m : ℕ) : List ℕ → Type 0 where
  ends_here : {x : ℕ} → x ≡ m → EndsIn m (x ∷ [])
  ends_on : {x : ℕ} {l : List ℕ} → EndsIn m l → EndsIn m (x ∷ l)

pub ends_added : {m x : ℕ} {l k : List ℕ} → Added x l k → EndsIn m l → EndsIn m k
ends_added first e = elim e [ ]
ends_added (equal p) e = e
ends_added (second n) e = ends_on e
ends_added (turn t) e = ends_on e
ends_added (between b) (ends_on e) = ends_on e

pub ends_points : {m : ℕ} {h : List ℕ} → EndsIn m h → EndsIn m (points h)
ends_points (ends_here e) = ends_here e
ends_points {m} (ends_on {x = x} {l = l} e) =
    subst (EndsIn m) (sym (points_cons x l)) (ends_added (is_added x (points l) (zig_points l)) (ends_points e))

pub ends_behind : {m : ℕ} (l : List ℕ) → EndsIn m (l ++ (m ∷ []))
ends_behind [] = ends_here refl
ends_behind (x ∷ l) = ends_on (ends_behind l)

pub ends_drops : {m : ℕ} {l k : List ℕ} {x : Pair} → Drops l x k → EndsIn m l → EndsIn m k
ends_drops (here p) (ends_on (ends_on (ends_on e))) = ends_on e
ends_drops (past h d) (ends_here e) = elim d [ ]
ends_drops (past h d) (ends_on e) = ends_on (ends_drops d e)

pub ends_chain : {m : ℕ} {l k : List ℕ} {xs : List Pair} → Chain l xs k → EndsIn m l → EndsIn m k
ends_chain done e = e
ends_chain (more d c) e = ends_chain c (ends_drops d e)

pub ends_after : {m : ℕ} {k : List ℕ} (l : List ℕ) → EndsIn m k → EndsIn m (l ++ k)
ends_after [] e = e
ends_after (x ∷ l) e = ends_on (ends_after l e)
