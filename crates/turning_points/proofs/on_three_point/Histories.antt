-- What a run handed over, beside the points that it read.
--   counted_next    one point more
--   counted_all     none is left to read
use Rattle.std.proofs.Common.{◌≡◌, ℕ, List, [], ◌∷◌, ◌++◌, sym, ap, ◌∙◌, subst, append_assoc, append-nil}
use Rattle.turning_points.specs.three_point.Run.{CountedRange, live_after, ranges_counted, ranges_left, run}
use Rattle.turning_points.specs.three_point.Live.{HasCounted}

pub counted_next : {points live after : List ℕ} {holds then : List CountedRange → Type 0} (z : ℕ) → HasCounted points live holds
    → ((given : List CountedRange) → holds given → then (given ++ ranges_counted z live)) → after ≡ live_after z live →
    HasCounted (points ++ z ∷ []) after then
counted_next {points} {live} {after} z c f e = record {
  given = c.given ++ ranges_counted z live;
  held = f c.given c.held;
  whole = λ unread.
      ap (run []) (append_assoc points (z ∷ []) unread) ∙ c.whole (z ∷ unread)
      ∙ ap (λ l. c.given ++ (ranges_counted z live ++ run l unread)) (sym e)
      ∙ sym (append_assoc c.given (ranges_counted z live) (run after unread));
}

pub counted_all : {points live : List ℕ} {holds : List CountedRange → Type 0} (then : List CountedRange → Type 0) →
    HasCounted points live holds
    → ((given : List CountedRange) → holds given → then (given ++ ranges_left live)) → then (run [] points)
counted_all {points} then c f = subst then (sym (c.whole []) ∙ ap (run []) (append-nil points)) (f c.given c.held)
