-- A run in the middle of a list of points.
--   run_next         one point more was read
--   All-read         what holds of the live points and of the point, holds of what is live then, in a buffer with the newest last
use Rattle.std.proofs.Common.{◌≡◌, ℕ, ◌+◌, ◌<◌, List, ◌++◌, length, drop, get_or, reverse, sym, ap, ◌∙◌, subst, append_assoc}
use Rattle.std.specs.Prelude.{All}
use Rattle.std.proofs.lemmas.List.{drop_more}
use Rattle.lemmas.proofs.Lists.{All-reverse, All-of_reverse}
use Rattle.turning_points.specs.three_point.Run.{CountedRange, live_after, ranges_counted, run}
use Rattle.turning_points.proofs.on_three_point.Bounds.{All-live_after}

pub run_next : (a b whole : List CountedRange) (points v w : List ℕ) (i : ℕ) → i < length points →
    b ≡ a ++ ranges_counted (get_or points i 0) v → w ≡ live_after (get_or points i 0) v
    → a ++ run v (drop i points) ≡ whole → b ++ run w (drop (i + 1) points) ≡ whole
run_next a b whole points v w i inside e f q =
    let z = get_or points i 0 in
    let rest = drop (i + 1) points in
    ap (λ l. l ++ run w rest) e ∙ append_assoc a (ranges_counted z v) (run w rest) ∙ ap (λ l. a ++ (ranges_counted z v ++ run l rest)) f
    ∙ ap (λ l. a ++ run v l) (sym (drop_more points i 0 inside)) ∙ q

pub All-read : (P : ℕ → Type 0) (z : ℕ) (s t : List ℕ) → P z → All P s → reverse t ≡ live_after z (reverse s) → All P t
All-read P z s t p a e = All-of_reverse P t (subst (All P) (sym e) (All-live_after P z (reverse s) p (All-reverse P s a)))
