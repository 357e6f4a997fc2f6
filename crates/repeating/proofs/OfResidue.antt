-- The residue of a segment put behind itself.
--   IsClosed, closed   what the join adds to the segment's cycles, and that the residue is left again
--   few_cycles         a cycle is two half units: there are no more of them than points
use Rattle.std.proofs.Common.{◌≡◌, ℕ, Bool, ◌+◌, ◌*◌, ◌≤◌, ◌↔◌, List, ◌++◌, length, length-append, sym, ap, ◌∙◌, subst, subst₂, arith}
use Rattle.std.specs.Prelude.{IsTrue, MatchBool}
use Rattle.turning_points.specs.Points.{points}
use Rattle.turning_points.proofs.Levels.{length-points}
use Rattle.tally.specs.Counts.{Counts, count_of}
use Rattle.four_point.specs.Residue.{AddsCycles, IsResidue, ReducerValue}
use Rattle.segment.specs.Segment.{SegmentValue, IsSegment}
use Rattle.segment.proofs.Ready.{loaded_residue}
use Rattle.repeating.proofs.FromResult.{residue_again}

pub record IsClosed (v : SegmentValue) (loaded left : ReducerValue) (t : Counts) : Type 0 where
  pub classes : loaded.classes ≡ v.grid.classes
  pub residue : loaded.residue ≡ v.reducer.residue
  pub adds : AddsCycles (points (v.reducer.residue ++ v.reducer.residue)) (count_of v.tally.cells) left.residue (count_of t.cells)
  pub again : left.residue ≡ v.reducer.residue

-- q is the residue as it was loaded and joined, and b says that it was loaded
pub closed : (v : SegmentValue) (old loaded left : ReducerValue) (b : Bool) (q : List ℕ) (copied t : Counts) → IsSegment v →
    q ≡ v.reducer.residue → old.classes ≡ v.grid.classes → (IsTrue b ↔ IsResidue old.classes q) →
    MatchBool b (loaded ≡ record { classes = old.classes; residue = q }) (loaded ≡ old) → copied.cells ≡ v.tally.cells →
    AddsCycles (points (loaded.residue ++ q)) (count_of copied.cells) left.residue (count_of t.cells) →
    IsResidue left.classes left.residue → IsClosed v loaded left t
closed v old loaded left b q copied t s e k accepted was same adds shape =
    let r = v.reducer.residue in
    let fits = subst₂ IsResidue (sym k) (sym e) s.residue in
    let is = loaded_residue old.classes q b loaded old (accepted.1 fits) was in
    let front = ap (λ m. m.residue) is ∙ e in
    let both = subst₂ (λ x y. AddsCycles (points (x ++ y)) (count_of copied.cells) left.residue (count_of t.cells)) front e adds in
    let all = subst (λ x. AddsCycles (points (r ++ r)) (count_of x) left.residue (count_of t.cells)) same both in
    record {
      classes = ap (λ m. m.classes) is ∙ k;
      residue = front;
      adds = all;
      again = residue_again (count_of v.tally.cells) (count_of t.cells) r left.residue s.residue.own s.residue.irreducible all
          shape.irreducible;
    }

pub few_cycles : (r left : List ℕ) (held total points_of_all : ℕ) → left ≡ r →
    2 * total + length left ≡ 2 * held + length (points (r ++ r)) → length r + 2 * held ≡ points_of_all → 2 * total ≤ points_of_all
few_cycles r left held total n e h w = omega (arith, ap length e, length-points (r ++ r), length-append r r)
