use Rattle.std.proofs.Common.{◌≡◌, ◌+◌, ◌<◌, ◌≤◌, Bool, ℕ, List, length, sum, take, sym, ap, ◌∙◌, subst, arith}
use Rattle.std.specs.Prelude.{All}
use Rattle.simple_counts.specs.level_crossing.Crossings.{crossings, start_level, has_level}
use Rattle.turning_points.specs.EndPoints.{last_point}
use Rattle.simple_counts.proofs.on_level_crossing.Filled.{Parts, filled_rules, filled_crosses}
use Rattle.simple_counts.proofs.level_crossing.crossings.Crossings.take_points.Goals as goal

parts : {k r q : ℕ} {p b s : List ℕ} {some : Bool} {first last : ℕ} → q ≡ r → some ≡ has_level p → first ≡ start_level p
    → last ≡ last_point p →
    length b ≡ k + 1 → length s ≡ k + 1 → ((l : ℕ) → sum (take (l + 1) b) ≡ sum (take (l + 1) s) + crossings q l p) →
    ((i : ℕ) → sum (take (i + 1) s) ≤ sum (take i b)) → Parts k r p some first last b s
parts {p = p} {b = b} {s = s} e f g h m n counts enough = record {
  is_some_of = f;
  is_first = g;
  is_last = h;
  begins = m;
  stops = n;
  counts = subst (λ z. (l : ℕ) → sum (take (l + 1) b) ≡ sum (take (l + 1) s) + crossings z l p) e counts;
  enough = enough;
}

pub invariant_of-self : goal.invariant_of-self
invariant_of-self c =
    let i = c.self.invariant in
    let e = c.fill.ensures in
    filled_rules (parts c.from.ensures c.has_some-self-inside.ensures c.first_level-self-inside.ensures c.last_level-self-inside.ensures
    (e.begins_length ∙ i.begins) (e.stops_length ∙ i.stops) e.counts e.enough) i.classes i.reference
    (subst (λ v. All (λ level. level < v.classes) c.args.list.now) (sym c.self.view_is) c.requires.below) c.requires.few

pub returns-clause-rules : goal.returns-clause-rules
returns-clause-rules c =
    let i = c.self.invariant in
    let e = c.fill.ensures in
    filled_rules (parts c.from.ensures c.has_some-self-inside.ensures c.first_level-self-inside.ensures c.last_level-self-inside.ensures
    (e.begins_length ∙ i.begins) (e.stops_length ∙ i.stops) e.counts e.enough) i.classes i.reference
    (subst (λ v. All (λ level. level < v.classes) c.args.list.now) (sym c.self.view_is) c.requires.below) c.requires.few

pub returns-clause-histories : goal.returns-clause-histories
returns-clause-histories c =
    let i = c.self.invariant in
    let e = c.fill.ensures in
    filled_crosses (parts c.from.ensures c.has_some-self-inside.ensures c.first_level-self-inside.ensures c.last_level-self-inside.ensures
    (e.begins_length ∙ i.begins) (e.stops_length ∙ i.stops) e.counts e.enough)

pub returns-clause-counts : goal.returns-clause-counts
returns-clause-counts c = λ l. omega (
  arith,
  c.fill.ensures.counts l,
  ap (λ q. crossings q l c.args.list.now)
      (c.from.ensures ∙ ap (λ v. v.reference) c.self.view_is),
)
