use Rattle.std.proofs.Common.{◌≡◌, ◌++◌, take, drop, sym, ap, ◌∙◌, subst, arith}
use Rattle.std.proofs.lemmas.List.{take-append-le}
use Rattle.turning_points.specs.Points.{changes}
use Rattle.turning_points.specs.Turned.{HasGiven}
use Rattle.turning_points.specs.Pieces.{last_of, turns_in, recent_of}
use Rattle.turning_points.proofs.Directions.{changes_again}
use Rattle.turning_points.proofs.Pieces.{piece}
use Rattle.turning_points.proofs.turner.Turner.keep_behind.Goals as goal

pub returns-clause-turned : goal.returns-clause-turned
returns-clause-turned c h given t =
    let p = c.args.before in
    let x = c.args.last in
    let l = c.args.levels.now in
    let k = c.keep_turns-kept in
    let rest = drop c.keep_changes-count.result c.keep_changes-count.new.levels in
    let turns : take k.result (k.new.levels ++ rest) ≡ turns_in p x (changes x l) =
    take-append-le k.result k.new.levels rest (omega (arith, k.ensures.within, k.auto.levels)) ∙ k.ensures.turns ∙ ap (turns_in p x)
    c.keep_changes-count.ensures.changes in
    let point = c.last_level.ensures ∙ ap (last_of p) turns in
    let newest = c.last_level-newest.ensures ∙ ap (last_of x) c.keep_changes-count.ensures.changes in
    let state = c.new-self-inside.ensures ∙ ap (λ a. recent_of a c.last_level-newest.result) point
    ∙ ap (recent_of (last_of p (turns_in p x (changes x l)))) newest in
    subst (λ s. HasGiven (h ++ l) (given ++ take k.result (k.new.levels ++ rest)) s) (sym state)
    (subst (λ g. HasGiven (h ++ l) (given ++ g) (recent_of (last_of p (turns_in p x (changes x l))) (last_of x (changes x l)))) (sym turns)
    (piece h given p x l t))

pub keep_turns-kept-requires : goal.keep_turns-kept-requires
keep_turns-kept-requires c = record {
  changes = subst (λ l. changes c.args.last l ≡ l) (sym c.keep_changes-count.ensures.changes)
      (changes_again c.args.last c.args.levels.now);
}
