use Rattle.std.proofs.Common.{◌≡◌, ℕ, List, [], ◌∷◌, ◌++◌, ◌<◌, ◌≤◌, take, length, sym, ap, ◌∙◌, arith, append-nil, length-append}
use Rattle.std.specs.Option.{option_to_list}
use Rattle.std.proofs.lemmas.List.{length-take-le, take_more_set}
use Rattle.turning_points.specs.Points.{points}
use Rattle.turning_points.proofs.Levels.{length-points}
use Rattle.turning_points.proofs.in_place.keep_points.Goals.{In-Some}
use Rattle.turning_points.proofs.in_place.keep_points.Goals as goal

-- with one point more there is room for it
room_for : (s h : List ℕ) (k x : ℕ) → k ≤ length s → length s ≡ length h → take k s ++ (x ∷ []) ≡ points h → k < length s
room_for s h k x w e f = omega (arith, ap length f, length-append (take k s) (x ∷ []), length-take-le k s w, length-points h)

closed : (c : In-Some) → take c.keep_decided-kept.result c.keep_decided-kept.new.levels ++ (c.in-Some.last ∷ []) ≡ points c.args.levels.now
closed c =
    let s = take c.keep_decided-kept.result c.keep_decided-kept.new.levels in
    sym (ap (λ o. s ++ option_to_list o) c.in-Some.is) ∙ c.finish.ensures.closed _ _
    (c.keep_decided-kept.ensures.turned [] [] c.new-turner.ensures)

pub returns-in-None-clause-points : goal.returns-in-None-clause-points
returns-in-None-clause-points c =
    let s = take c.keep_decided-kept.result c.keep_decided-kept.new.levels in
    sym (append-nil s) ∙ sym (ap (λ o. s ++ option_to_list o) c.in-None.is) ∙ c.finish.ensures.closed _ _
    (c.keep_decided-kept.ensures.turned [] [] c.new-turner.ensures)

pub bounds-levels-kept : goal.bounds-levels-kept
bounds-levels-kept c = room_for c.keep_decided-kept.new.levels c.args.levels.now c.keep_decided-kept.result c.in-Some.last
    (omega (arith, c.keep_decided-kept.ensures.within)) (omega arith) (closed c)

pub returns-in-Some-clause-points : goal.returns-in-Some-clause-points
returns-in-Some-clause-points c =
    take_more_set c.keep_decided-kept.new.levels c.keep_decided-kept.result c.in-Some.last (bounds-levels-kept c) ∙ closed c

pub returns-in-Some-clause-within : goal.returns-in-Some-clause-within
returns-in-Some-clause-within c = let w = bounds-levels-kept c in omega arith
