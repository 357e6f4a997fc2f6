-- The front of a gauge whose placed names cover a range of samples once.
use Rattle.std.proofs.Common.{◌≡◌, inl, inr, ◌≤◌, ℕ, ap, ◌∙◌, arith}
use Rattle.std.proofs.lemmas.Bool.{cases_lt}
use Rattle.std.proofs.lemmas.Bool.Decides.{nat_tests}
use Rattle.segment.specs.declared.segment_rules.name.Name.{Name}
use Rattle.segment.specs.Segment.{SegmentValue}
use Rattle.segment.specs.Name.{name_of}
use Rattle.board.specs.flow.Flow.{name_of_samples, hits}
use Rattle.board.specs.flow.Kept.{between}
use Rattle.board.proofs.on_flow.Counting.{between_one}
use Rattle.board.specs.Board.{BoardValue, IsFront, start_of}

behind : (a b i : ℕ) → b ≤ i → between a b i ≡ 0
behind a b i h = grind (arith, nat_tests)

name_is : (n : Name) (g a b : ℕ) → n.gauge ≡ g → n.from ≡ a → n.to ≡ b → n ≡ name_of_samples g a b
name_is n g a b e f h = ap (λ x. name_of_samples x n.from n.to) e ∙ ap (λ x. name_of_samples g x n.to) f ∙ ap (λ x. name_of_samples g a x) h

-- the front runs over the range
pub front_name : (b : BoardValue) (g from to : ℕ) (s : SegmentValue) → IsFront b g s → start_of b g ≡ from → from ≤ to
    → ((i : ℕ) → hits g i b.arrivals ≡ between from to i) → name_of s ≡ name_of_samples g from to
front_name b g from to s f start up once =
    let at : s.from ≡ from = f.from ∙ start in
    let ends : s.to ≡ to = elim (cases_lt s.to to) [
      | inl short ↦ absurd (
          let e : hits g s.to b.arrivals ≡ between from to s.to = once s.to in
          let o : between from to s.to ≡ 1 = between_one from to s.to (omega (arith, at, f.ordered)) short in
          let z : hits g s.to b.arrivals ≡ 0 = f.greatest in omega (arith, e, o, z))
      | inr fits ↦ elim (cases_lt to s.to) [
        | inl long ↦ absurd (
            let c : 1 ≤ hits g to b.arrivals = f.covered to (omega (arith, at, up)) long in
            let e : hits g to b.arrivals ≡ between from to to = once to in
            let z : between from to to ≡ 0 = behind from to to (omega arith) in omega (arith, c, e, z))
        | inr same ↦ omega (arith, fits, same)
      ]
    ] in
    name_is (name_of s) g from to f.gauge at ends
