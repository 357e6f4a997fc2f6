use Rattle.std.proofs.Common.{ℕ, ◌-◌, ◌<◌, ◌≤◌, List, ◌∷◌, take, get_or, reverse, sym, ap, ◌∙◌, subst, arith}
use Rattle.std.specs.Prelude.{All}
use Rattle.std.proofs.lemmas.Bool.{both_ways}
use Rattle.turning_points.specs.Pairs.{range}
use Rattle.turning_points.specs.three_point.Run.{ranges_counted}
use Rattle.turning_points.proofs.on_three_point.Handed.{holding_more, holding_done}
use Rattle.turning_points.proofs.on_three_point.Buffer.{cycle_live, cycle_counted, open_live, open_counted, All-first_few}
use Rattle.turning_points.proofs.three_point.reading.read.Given.{Over}
use Rattle.turning_points.proofs.three_point.reading.read.Goals.{then-loop-len-test+else-closes, else-loop-len-test}
use Rattle.turning_points.proofs.three_point.reading.read.Goals as goal

-- X < Y, or there are fewer than three points
abbrev IsOpen : List ℕ → ℕ → ℕ → Type 0
IsOpen s n z = 2 ≤ n → range (get_or s (n - 2) 0) (get_or s (n - 1) 0) ≤ range (get_or s (n - 1) 0) z → ⊥

is_open : (g : Over) (c : goal.Left-loop-len g) → IsOpen c.loop-len.live c.loop-len.len c.args.point
is_open g c = elim c.loop-len-test.branch [
  | then-loop-len-test+else-closes w ↦ λ h r. both_ways _ w.if-closes.false (w.closes.ensures.1 r)
  | else-loop-len-test w ↦ λ h r. absurd (omega (arith, w.loop-len-test.false))
]

pub loop-len-preserved : goal.loop-len-preserved
loop-len-preserved g c =
    let s = c.loop-len.live in
    let n = c.loop-len.len in
    let z = c.args.point in
    let i = c.loop-len.invariant in
    let k = c.count-else-len-eq2.ensures in
    let reached = c.closes.ensures.0 c.if-closes.true in
    record {
      fewer = omega arith;
      below = subst (λ m. All (λ x. x < m) (take (n - 2) s)) (sym k.classes)
          (All-first_few _ s (n - 2) n (omega arith) (omega arith) i.below);
      live = cycle_live s n z (omega arith) (omega arith) reached ∙ i.live;
      counted = λ given h. holding_more _ (i.counted given h) k.holds (cycle_counted s n z (omega arith) (omega arith) reached
          ∙ ap (λ r. r ∷ ranges_counted z (reverse (take (n - 2) s))) (sym c.range_between-else-len-eq2.ensures));
      room = omega (arith, i.room, k.room, ap (λ r. r.halves) c.range_between-else-len-eq2.ensures);
      classes = k.classes ∙ i.classes;
    }

pub returns-clause-live : goal.returns-clause-live
returns-clause-live g c =
    open_live c.loop-len.live c.loop-len.len c.args.point (omega arith) (omega arith) (is_open g c) ∙ c.loop-len.invariant.live

pub returns-clause-holds : goal.returns-clause-holds
returns-clause-holds g c given h = holding_done _ (c.loop-len.invariant.counted given h)
    (open_counted c.loop-len.live c.loop-len.len c.args.point (omega arith) (is_open g c))
