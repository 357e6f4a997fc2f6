-- The figures of a body, one piece after the other, and what the body is at its end.
use Rattle.std.proofs.Common.{◌≡◌, ℕ, ℤ, ◌+◌, ◌<◌, ◌≤◌, List, ◌++◌, length, take, sym, ◌∙◌, ap, subst, length-append, arith}
use Rattle.calibration.specs.declared.limits.TheConstants.{MAX_SAMPLES}
use Rattle.recording.specs.Samples.{samples}
use Rattle.recording.specs.Filling.{SameFirst, Takes}
use Rattle.recording.specs.declared.ends.FillEnd.{FillEnd}
use Rattle.recording.specs.declared.ends.FillEnd.TheVariants.{More, Ended, Torn}
use Rattle.recording.proofs.Reading.{Splits, splits_next, last_ended, last_torn, read_at_most}
use Rattle.calibration.specs.Gain.{GainValue}
use Rattle.calibration.specs.Grid.{GridValue}
use Rattle.file_commands.specs.file_tasks.FileState.{Sound, TornEnd, TooManySamples, body_state}
use Rattle.monitor.specs.Figures.{AreFigures}
use Rattle.recount.specs.declared.running.RunningCount.{RunningCount}
use Rattle.file_commands.proofs.on_file_tasks.BodyState.{sound_body, torn_body, long_body}

-- by the gain and the grid of a classifier
pub by_classifier : (grid table_grid : GridValue) (gain table_gain : GainValue) (old new : RunningCount (List ℕ)) (raws : List ℤ)
    → grid ≡ table_grid → gain ≡ table_gain → ((w : List ℤ) → AreFigures grid gain old w → AreFigures grid gain new (w ++ raws))
    → (w : List ℤ) → AreFigures table_grid table_gain old w → AreFigures table_grid table_gain new (w ++ raws)
by_classifier grid table_grid gain table_gain old new raws a b step = rw (a, b) at step

pub of_classifier : (grid table_grid : GridValue) (gain table_gain : GainValue) (f : RunningCount (List ℕ)) (w : List ℤ)
    → grid ≡ table_grid → gain ≡ table_gain → AreFigures table_grid table_gain f w → AreFigures grid gain f w
of_classifier grid table_grid gain table_gain f w a b are = rw (a, b) are

-- The body was split after the samples w, and a piece was read, with the end that it had.
module _ (grid : GridValue) (gain : GainValue) (r : RunningCount (List ℕ)) (w : List ℤ) (body before after : List ℕ) (room n : ℕ)
    (end : FillEnd) (buf : List ℤ) (split : Splits body w before) (same : SameFirst n buf (samples before))
    (t : Takes room before n end after) (are : AreFigures grid gain r (w ++ take n buf)) where
  as_ended : (e : FillEnd) → end ≡ e → Takes room before n e after
  as_ended e is = subst (λ (x : FillEnd). Takes room before n x after) is t

  pub more_read : end ≡ More → Splits body (w ++ take n buf) after
  more_read is = splits_next room n buf body before after w split same (as_ended More is)

  whole : take n buf ≡ samples before → w ++ take n buf ≡ samples body
  whole is = ap (λ (l : List ℤ). w ++ l) is ∙ sym split.0

  count : take n buf ≡ samples before → r.counts.samples ≡ length (samples body)
  count is = ap (λ c. c.samples) are.counts ∙ ap (λ (l : List ℤ). length l) (whole is)

  pub all_read : end ≡ Ended → w ++ take n buf ≡ samples body
  all_read is = whole (last_ended room n buf before after same (as_ended Ended is)).all

  pub sound_end : end ≡ Ended → r.counts.samples ≤ MAX_SAMPLES → body_state body ≡ Sound
  sound_end is few =
      let last = last_ended room n buf before after same (as_ended Ended is) in
      sound_body body r.counts.samples (count last.all) few (sym split.1 ∙ last.torn)

  pub torn_end : (bytes : ℕ) → end ≡ Torn bytes → r.counts.samples ≤ MAX_SAMPLES → body_state body ≡ TornEnd bytes
  torn_end bytes is few =
      let last = last_torn room n buf before after same bytes (as_ended (Torn bytes) is) in
      torn_body body r.counts.samples bytes (count last.0.all) few (sym split.1 ∙ last.0.torn) last.1

  pub too_many : MAX_SAMPLES < r.counts.samples → body_state body ≡ TooManySamples
  too_many many =
      let held : r.counts.samples ≡ length w + length (take n buf) = ap (λ c. c.samples) are.counts ∙ length-append w (take n buf) in
      let all : length (samples body) ≡ length w + length (samples before) = ap (λ (l : List ℤ). length l) split.0 ∙ length-append w
      (samples before) in
      long_body body r.counts.samples (omega (arith, held, all, read_at_most room n buf before after same)) many
