-- What a running count has come to, with further samples behind and at the end.
--   points_below   the points that a piece decides are classes of the grid
--   counted_more   a piece more
--   last_below     so is the last point of a history
--   all_points     with the last point, where there is one, all points were read
--   recount_of     what was found when all was read
use Rattle.std.proofs.Common.{◌≡◌, ◌≤◌, ℕ, ℤ, ◌+◌, ◌<◌, List, [], ◌∷◌, ◌++◌, length, sym, ◌∙◌, ap, subst, arith}
use Rattle.std.specs.Prelude.{All}
use Rattle.std.proofs.Math.Seq.{drop-append_seam}
use Rattle.std.proofs.lemmas.List.Elements.{All-head, All-drop}
use Rattle.calibration.specs.Gain.{GainValue}
use Rattle.calibration.specs.Grid.{GridValue}
use Rattle.calibration.specs.History.{history, missing_count, refused_count}
use Rattle.calibration.proofs.History.{history-append}
use Rattle.calibration.proofs.HistoryBelow.{history_below}
use Rattle.turning_points.specs.Points.{points}
use Rattle.turning_points.specs.Turned.{HasGiven}
use Rattle.turning_points.specs.declared.turner.Recent.{Recent}
use Rattle.turning_points.proofs.Given.{All-next_given}
use Rattle.turning_points.proofs.Levels.{All-points}
use Rattle.turning_points.specs.three_point.Live.{HasCounted}
use Rattle.turning_points.specs.three_point.Run.{CountedRange, run}
use Rattle.segment.specs.Counts.{kinds_of, kinds_sum}
use Rattle.segment.specs.declared.counts.SampleCounts.{SampleCounts}
use Rattle.segment.proofs.Counted.{counts, kinds_of-append, kinds_are}
use Rattle.recount.specs.Counted.{HasCountedPairs, HasCountedSamples, HoldsPairs, IsRecount}
use Rattle.tally.specs.Counts.{Counts}
use Rattle.recount.specs.declared.running.RunningCount.{RunningCount}

module _ (grid : GridValue) (gain : GainValue) where
  -- A piece of samples: how many are of each kind, and its levels.
  module _ (raws : List ℤ) (used missing refused : ℕ) (u : used ≡ length (history grid gain raws))
      (m : missing ≡ missing_count grid gain raws) (r : refused ≡ refused_count grid gain raws) where
    module _ {C : Type 0} (classes room : C → ℕ) (holds : C → List CountedRange → Type 0) (start : ℕ)
        (old : RunningCount C) (w : List ℤ) (piece more : List ℕ) (turner : Recent) (levels : piece ≡ history grid gain raws)
        (turned : (h given : List ℕ) → HasGiven h given old.turner → HasGiven (h ++ piece) (given ++ more) turner) where
      turned_more : (are : HasCountedSamples classes room holds start grid gain old w) → HasGiven (history grid gain (w ++ raws))
          (are.decided ++ more) turner
      turned_more are =
          subst (λ (h : List ℕ). HasGiven h (are.decided ++ more) turner)
          (ap (λ (l : List ℕ). history grid gain w ++ l) levels ∙ sym (history-append grid gain w raws))
          (turned (history grid gain w) are.decided are.turned)

      pub points_below : HasCountedSamples classes room holds start grid gain old w → All (λ point. point < old.run.classes) more
      points_below are =
          subst (λ (n : ℕ). All (λ point. point < n) more) (sym are.levels)
          (All-next_given (λ point. point < grid.classes) are.decided more (history_below grid gain (w ++ raws)) (turned_more are))

      pub counted_more : (new : RunningCount C) → new.turner ≡ turner → new.counts ≡ kinds_sum old.counts
          (counts (length raws) used missing refused)
          → ((before : List ℕ) → HasCounted before old.run.live (holds old.counter) → HasCounted (before ++ more) new.run.live
          (holds new.counter))
          → new.run.classes ≡ old.run.classes → classes new.counter ≡ classes old.counter
          → length more ≤ used
          → room old.counter + length new.run.live ≤ room new.counter + length old.run.live + length more
          → HasCountedSamples classes room holds start grid gain old w → HasCountedSamples classes room holds start grid gain new
          (w ++ raws)
      counted_more new t sum counted same_classes same few rooms are = record {
        counts = sum ∙ ap (λ (c : SampleCounts). kinds_sum c (counts (length raws) used missing refused)) are.counts ∙ ap
            (λ (c : SampleCounts). kinds_sum (kinds_of grid gain w) c) (kinds_are grid gain raws used missing refused u m r) ∙ sym
            (kinds_of-append grid gain w raws);
        decided = are.decided ++ more;
        turned = subst (λ (k : Recent). HasGiven (history grid gain (w ++ raws)) (are.decided ++ more) k) (sym t) (turned_more are);
        counted = counted are.decided are.counted;
        levels = same_classes ∙ are.levels;
        takes = same ∙ are.takes;
        enough = are.enough;
        places = omega (arith, are.places, rooms, few, ap (λ (c : SampleCounts). c.used) sum);
      }

module _ {C : Type 0} (classes room : C → ℕ) (holds : C → List CountedRange → Type 0) (start : ℕ) (grid : GridValue) (gain : GainValue)
    (count : RunningCount C) (w : List ℤ) where
  pub last_below : (point : ℕ) → ((h given : List ℕ) → HasGiven h given count.turner → given ++ point ∷ [] ≡ points h)
      → HasCountedSamples classes room holds start grid gain count w → point < count.run.classes
  last_below point closed are =
      let h = history grid gain w in
      let all : All (λ p. p < grid.classes) (are.decided ++ point ∷ []) = subst (λ (l : List ℕ). All (λ p. p < grid.classes) l)
      (sym (closed h are.decided are.turned)) (All-points (λ p. p < grid.classes) h (history_below grid gain w)) in
      let last : All (λ p. p < grid.classes) (point ∷ []) = rw drop-append_seam at
      (All-drop (λ p. p < grid.classes) (length are.decided) (are.decided ++ point ∷ []) all) in
      subst (λ (n : ℕ). point < n) (sym are.levels) (All-head (λ p. p < grid.classes) point [] last)

  pub all_points : (last live : List ℕ) (counter : C) → ((h given : List ℕ) → HasGiven h given count.turner → given ++ last ≡ points h)
      → ((before : List ℕ) → HasCounted before count.run.live (holds count.counter) → HasCounted (before ++ last) live (holds counter))
      → HasCountedSamples classes room holds start grid gain count w → HasCounted (points (history grid gain w)) live (holds counter)
  all_points last live counter closed push are =
      subst (λ (p : List ℕ). HasCounted p live (holds counter)) (closed (history grid gain w) are.decided are.turned)
      (push are.decided are.counted)

pub recount_of : (grid grid' : GridValue) (gain gain' : GainValue) → grid' ≡ grid → gain' ≡ gain → (count : RunningCount Counts)
    (pairs : Counts) (w : List ℤ)
    → HasCountedPairs grid' gain' count w → HoldsPairs pairs (run [] (points (history grid' gain' w)))
    → pairs.classes ≡ count.counter.classes
    → IsRecount grid gain (record { counts = count.counts; pairs = pairs }) w
recount_of grid grid' gain gain' a b count pairs w has holds classes = rw (sym a, sym b)
    (record { counts = has.counts; classes = classes ∙ has.takes; halves = holds })
