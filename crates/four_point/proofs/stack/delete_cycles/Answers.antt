use Rattle.std.proofs.Common.{◌≡◌, ◌-◌, ◌+◌, ◌*◌, ◌<◌, ◌≤◌, ◌⊎◌, ◌∙◌, inl, inr, ℕ, refl, sym, ap, subst, length, take, arith}
use Rattle.std.specs.Prelude.{All}
use Rattle.tally.specs.Counts.{Counts, HasGreatestRoom, HasPlace, most_cells}
use Rattle.turning_points.proofs.Over.{own, zig_own}
use Rattle.turning_points.proofs.Zigzag.{turn_test, IsZigzag}
use Rattle.lemmas.proofs.Lists.{below_at}
use Rattle.std.proofs.lemmas.Bool.{both_ways}
use Rattle.std.proofs.lemmas.List.Elements.{All-push}
use Rattle.four_point.proofs.HasNoCycle.{no_cycle_unless}
use Rattle.four_point.proofs.Stacked.{AddsCycles-none, AddsCycles-deleted, zig_deleted, last_turns, turn_parts, take_with_last, HasNoCycleBelow-last, HasNoCycleBelow-fewer, below_fewer}
use Rattle.four_point.proofs.stack.delete_cycles.Goals.{then-loop-len-test+else-is_cycle, else-loop-len-test}
use Rattle.four_point.proofs.stack.delete_cycles.Goals as goal

pub loop-len-init : goal.loop-len-init
loop-len-init c = record {
  some = c.requires.some;
  within = omega arith;
  zig = zig_own _ c.requires.points;
  cycles = AddsCycles-none _ _;
  lengths = refl;
  cells = omega arith;
  room = refl;
  classes = refl;
}

-- where the room is not the greatest, it is not yet full
room_by : (s t : Counts) (len n lo hi one : ℕ) → s.classes ≡ t.classes → s.room ≡ t.room → 4 ≤ len →
    2 * length s.cells + len ≤ 2 * length t.cells + n → HasGreatestRoom t ⊎ (2 * length t.cells + n ≤ 2 * t.room + 1) → HasPlace s lo hi one
room_by s t len n lo hi one e f m k (inl h) = inr (inr (inr (f ∙ h ∙ sym (ap most_cells e))))
room_by s t len n lo hi one e f m k (inr h) = inr (inr (inl (omega arith)))

pub add-requires-clause-room : goal.add-requires-clause-room
add-requires-clause-room c =
    let v = c.loop-len.invariant in
    room_by c.loop-len.tally c.args.tally.now c.loop-len.len c.args.len _ _ 1 v.classes v.room c.loop-len-test.true v.cells c.requires.room

pub is_cycle-requires-clause-first : goal.is_cycle-requires-clause-first
is_cycle-requires-clause-first c =
    let v = c.loop-len.invariant in
    turn_test _ _ _ (last_turns c.args.levels.now c.loop-len.len c.args.last c.loop-len-test.true (omega arith) v.zig).0

pub is_cycle-requires-clause-second : goal.is_cycle-requires-clause-second
is_cycle-requires-clause-second c =
    let v = c.loop-len.invariant in
    turn_test _ _ _ (last_turns c.args.levels.now c.loop-len.len c.args.last c.loop-len-test.true (omega arith) v.zig).1

pub add-requires-clause-ordered : goal.add-requires-clause-ordered
add-requires-clause-ordered c =
    let v = c.loop-len.invariant in
    let t = last_turns c.args.levels.now c.loop-len.len c.args.last c.loop-len-test.true (omega arith) v.zig in
    let p = turn_parts _ _ _ t.1 in
    omega arith

pub add-requires-clause-within : goal.add-requires-clause-within
add-requires-clause-within c =
    let n = c.loop-len.len in
    let m = c.args.len - 1 in
    let v = c.loop-len.invariant in
    let b = below_at _ m (n - 3) c.args.levels.now c.requires.below (omega arith) (omega arith) in
    let d = below_at _ m (n - 2) c.args.levels.now c.requires.below (omega arith) (omega arith) in
    omega arith

pub loop-len-preserved : goal.loop-len-preserved
loop-len-preserved c =
    let s = c.args.levels.now in
    let n = c.loop-len.len in
    let v = c.loop-len.invariant in
    let t = c.is_cycle.ensures.0 c.if-is_cycle.true in
    let room : n ≤ length s = omega arith in
    record {
      some = omega arith;
      within = omega arith;
      zig = zig_deleted s n c.args.last c.loop-len-test.true room v.zig t.0 t.1;
      cycles = AddsCycles-deleted s n c.args.last c.loop-len-test.true room _ _ _ _ c.min.result c.max.result v.cycles t.0 t.1
          c.min.ensures c.max.ensures c.add.ensures.added;
      lengths = omega arith;
      cells = omega (arith, c.add.ensures.cells, v.cells);
      room = c.add.ensures.room ∙ v.room;
      classes = omega arith;
    }

pub returns-clause-below : goal.returns-clause-below
returns-clause-below c =
    let s = c.args.levels.now in
    let n = c.loop-len.len in
    let v = c.loop-len.invariant in
    let front = below_fewer _ (n - 1) (c.args.len - 1) s (omega arith) (omega arith) c.requires.below in
    subst (All (λ x. x < c.args.tally.now.classes)) (sym (take_with_last s n c.args.last v.some (omega arith)))
    (All-push (λ x. x < c.args.tally.now.classes) (take (n - 1) s) c.args.last front c.requires.last)

pub returns-clause-points : goal.returns-clause-points
returns-clause-points c =
    let s = c.args.levels.now in
    let v = c.loop-len.invariant in
    own (subst IsZigzag (sym (take_with_last s c.loop-len.len c.args.last v.some (omega arith))) v.zig)

pub returns-clause-no_cycle : goal.returns-clause-no_cycle
returns-clause-no_cycle c =
    let s = c.args.levels.now in
    let n = c.loop-len.len in
    HasNoCycleBelow-last s n c.args.last (omega arith) (HasNoCycleBelow-fewer s (n - 1) (c.args.len - 1) (omega arith) c.requires.no_cycle)
    (elim c.loop-len-test.branch [
      | then-loop-len-test+else-is_cycle w ↦ λ few. no_cycle_unless _ _ _ _ (λ f. both_ways _ w.if-is_cycle.false (w.is_cycle.ensures.1 f))
      | else-loop-len-test w ↦ λ few. absurd (omega arith)
    ])
