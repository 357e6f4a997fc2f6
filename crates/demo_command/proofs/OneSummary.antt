-- There is one text of a seed and a number of samples.
use Rattle.std.proofs.Common.{◌≡◌, ◌<◌, ℕ, zero, suc, List, ◌++◌, length, refl, sym, ap, ◌∙◌, subst, arith}
use Rattle.outside.specs.Sink.{AppendsPrefix}
use Rattle.turning_points.specs.Points.{points}
use Rattle.turning_points.proofs.Levels.{points_own}
use Rattle.four_point.proofs.Unique.{one_result}
use Rattle.demo_command.specs.Made.{levels_at}
use Rattle.demo_command.specs.Summary.{IsResidueOf, IsSummary, HasOneSummary, gauge_line, gauge_lines, table_halves, head_line}

one_residue : (h r s : List ℕ) → IsResidueOf h r → IsResidueOf h s → r ≡ s
one_residue h r s a b = (one_result (points h) a.cycles b.cycles r s (points_own h (points h) refl) a.result b.result).0

same_lines : (f g : ℕ → List ℕ) (k : ℕ) → ((i : ℕ) → i < k → f i ≡ g i) → gauge_lines f k ≡ gauge_lines g k
same_lines f g zero same = refl
same_lines f g (suc k) same =
    ap (λ (l : List ℕ). l ++ f k) (same_lines f g k (λ i lt. same i (omega (arith, lt)))) ∙ ap (λ (l : List ℕ). gauge_lines g k ++ l)
    (same k (omega arith))

pub one_summary : HasOneSummary
one_summary seed samples a b s t =
    s.is ∙ ap (λ (l : List ℕ). head_line seed samples ++ l) (same_lines _ _ 4 (λ g lt.
    ap (λ (n : ℕ). gauge_line g (table_halves (levels_at seed samples g)) n)
    (ap length (one_residue (levels_at seed samples g) (s.residue g) (t.residue g) (s.residues g lt) (t.residues g lt)))))
    ∙ sym t.is

-- what is printed of one is printed of each
pub done_any : (seed samples : ℕ) (a b old new : List ℕ) → IsSummary seed samples a → new ≡ old ++ a →
    IsSummary seed samples b → new ≡ old ++ b
done_any seed samples a b old new s is t = is ∙ ap (λ (l : List ℕ). old ++ l) (one_summary seed samples a b s t)

pub front_any : (seed samples : ℕ) (a b old new : List ℕ) → IsSummary seed samples a → AppendsPrefix old new a → IsSummary seed samples b
    → AppendsPrefix old new b
front_any seed samples a b old new s is t = subst (λ (l : List ℕ). AppendsPrefix old new l) (one_summary seed samples a b s t) is
