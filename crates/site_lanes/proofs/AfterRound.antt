-- A lane after a round.
--   lane_after     how it stands to its recording
--   faulty_after   a read fault has raised its source's count
--   reached        where the rounds so far have brought it
use Rattle.std.proofs.Common.{◌≡◌, ◌≢◌, ◌≤◌, ◌<◌, ⊎_elim, ℕ, ◌+◌, ◌-◌, ◌*◌, min, ℤ, List, length, drop, refl, sym, ◌∙◌, ap, subst, arith}
use Rattle.std.specs.Prelude.{nat_le, nat_lt, ◌==◌, if◌then◌else◌}
use Rattle.std.proofs.lemmas.Bool.Decides.{nat_tests}
use Rattle.std.proofs.lemmas.List.{length-drop, drop-drop}
use Rattle.outside.specs.Fault.{CountRose}
use Rattle.recording.specs.Samples.{samples, torn_bytes}
use Rattle.calibration.specs.declared.limits.TheConstants.{MAX_SAMPLES}
use Rattle.recording.proofs.SampleLists.{length-samples, samples-drop, torn_bytes-drop}
use Rattle.recording.specs.declared.lane_ends.end.End.{End}
use Rattle.recording.specs.declared.lane_ends.end.End.TheVariants.{More, Ended, Torn, ReadFault, TooLong}
use Rattle.recording.specs.lane_ends.Ends.{IsRead}
use Rattle.recording.proofs.on_lane_ends.Giving.{more_or_not}
use Rattle.count_workers.specs.declared.lane_loans.lane.Lane.{Lane}
use Rattle.count_workers.specs.round_making.Round.{LaneDone}
use Rattle.site_config.specs.recorded.Recorded.{Recorded}
use Rattle.site_lanes.specs.Lanes.{SourceStands, IsLane, IsFaulty}
use Rattle.lemmas.proofs.Outcomes.{same_some}
use Rattle.board.specs.declared.flow.TheConstants.{BLOCKS_PER_WINDOW}

-- the rule of how a lane ends, over plain numbers
abbrev end_by : ℕ → ℕ → ℕ → ℕ → End
end_by room most len part =
    if nat_le room (min most len) then More else (if nat_lt most len then TooLong else (if part == 0 then Ended else Torn part))

when_more : (room most len part : ℕ) → More ≡ end_by room most len part → room ≤ min most len
when_more room most len part is = grind (arith, nat_tests)

when_ended : (room most len part : ℕ) → Ended ≡ end_by room most len part → (min most len < room) × (len ≤ most) × (part ≡ 0)
when_ended room most len part is = (grind (arith, nat_tests), grind (arith, nat_tests), grind (arith, nat_tests))

when_torn : (room most len part b : ℕ) → Torn b ≡ end_by room most len part
    → (min most len < room) × (len ≤ most) × (part ≡ b) × (0 < b)
when_torn room most len part b is = (grind (arith, nat_tests), grind (arith, nat_tests), grind (arith, nat_tests), grind (arith, nat_tests))

when_long : (room most len part : ℕ) → TooLong ≡ end_by room most len part → (min most len < room) × (most < len)
when_long room most len part is = (grind (arith, nat_tests), grind (arith, nat_tests))

-- of samples w and so many bytes behind them, those before `from` were read, and then those before `to`
module _ (block : ℕ) (w : List ℤ) (torn : ℕ) (before after : List ℕ) (from to : ℕ) (is : samples before ≡ drop from w)
    (same : torn_bytes before ≡ torn) (le : from ≤ length w) (on : from ≤ to) (limit : from ≤ MAX_SAMPLES) where
  there : length (samples before) ≡ length w - from
  there = ap length is ∙ length-drop from w

  stood_after : (end : End) → IsRead (BLOCKS_PER_WINDOW * block) (MAX_SAMPLES - from) before (to - from) end after →
      SourceStands w torn after to end
  stood_after More gives =
      let room = when_more (BLOCKS_PER_WINDOW * block) (MAX_SAMPLES - from) (length (samples before)) (torn_bytes before)
      (gives.ends (λ e. absurd cc)) in
      let to_is : to ≡ from + BLOCKS_PER_WINDOW * block = grind (arith, room, gives.count (λ e. absurd cc), on) in
      let enough : 4 * (BLOCKS_PER_WINDOW * block) ≤ length before = grind (arith, room, length-samples before) in (
        ap samples (gives.left refl) ∙ samples-drop (BLOCKS_PER_WINDOW * block) before
            ∙ ap (λ (l : List ℤ). drop (BLOCKS_PER_WINDOW * block) l) is
            ∙ drop-drop (BLOCKS_PER_WINDOW * block) from w ∙ ap (λ (k : ℕ). drop k w) (sym to_is),
        ap torn_bytes (gives.left refl) ∙ torn_bytes-drop (BLOCKS_PER_WINDOW * block) before enough ∙ same,
      )
  stood_after Ended gives =
      let e = when_ended (BLOCKS_PER_WINDOW * block) (MAX_SAMPLES - from) (length (samples before)) (torn_bytes before)
      (gives.ends (λ e. absurd cc)) in
      (grind (arith, e.0, e.1, gives.count (λ e. absurd cc), there, on, le), sym same ∙ e.2)
  stood_after (Torn bytes) gives =
      let e = when_torn (BLOCKS_PER_WINDOW * block) (MAX_SAMPLES - from) (length (samples before)) (torn_bytes before) bytes
      (gives.ends (λ e. absurd cc)) in
      (grind (arith, e.0, e.1, gives.count (λ e. absurd cc), there, on, le), sym same ∙ e.2, e.3)
  stood_after ReadFault gives = tt
  stood_after TooLong gives =
      let e = when_long (BLOCKS_PER_WINDOW * block) (MAX_SAMPLES - from) (length (samples before)) (torn_bytes before)
      (gives.ends (λ e. absurd cc)) in
      (grind (arith, e.0, e.1, gives.count (λ e. absurd cc), there, on, limit), grind (arith, e.0, e.1, there, limit))

  -- where it was reached by so many rounds, one more reaches
  reaches : (a : ℕ) (end : End) → end ≢ ReadFault → end ≢ TooLong → from ≡ min a (length w)
      → IsRead (BLOCKS_PER_WINDOW * block) (MAX_SAMPLES - from) before (to - from) end after → to
      ≡ min (a + BLOCKS_PER_WINDOW * block) (length w)
  reaches a More read long was gives =
      let room = when_more (BLOCKS_PER_WINDOW * block) (MAX_SAMPLES - from) (length (samples before)) (torn_bytes before)
      (gives.ends read) in
      grind (arith, room, gives.count read, there, on, le, was)
  reaches a Ended read long was gives =
      let e = when_ended (BLOCKS_PER_WINDOW * block) (MAX_SAMPLES - from) (length (samples before)) (torn_bytes before) (gives.ends read) in
      grind (arith, e.0, e.1, gives.count read, there, on, le, was)
  reaches a (Torn bytes) read long was gives =
      let e = when_torn (BLOCKS_PER_WINDOW * block) (MAX_SAMPLES - from) (length (samples before)) (torn_bytes before) bytes
      (gives.ends read) in
      grind (arith, e.0, e.1, gives.count read, there, on, le, was)
  reaches a ReadFault read long was gives = absurd (read refl)
  reaches a TooLong read long was gives = absurd (long refl)

  within_after : {end : End} → IsRead (BLOCKS_PER_WINDOW * block) (MAX_SAMPLES - from) before (to - from) end after → to ≤ length w
  within_after gives = omega (arith, gives.few.2, there, le, on)

stood_same : (w : List ℤ) (torn : ℕ) {left left2 : List ℕ} {at at2 : ℕ} {end end2 : End} → left2 ≡ left → at2 ≡ at → end2 ≡ end
    → SourceStands w torn left at end → SourceStands w torn left2 at2 end2
stood_same w torn {left} {left2} {at} {at2} {end} {end2} l a e s =
    subst (λ (x : List ℕ). SourceStands w torn x at2 end2) (sym l)
    (subst (λ (x : ℕ). SourceStands w torn left x end2) (sym a) (subst (λ (x : End). SourceStands w torn left at x) (sym e) s))

pub stood_more : (w : List ℤ) (torn : ℕ) (left : List ℕ) (at : ℕ) {end : End} → end ≡ More → SourceStands w torn left at end
    → SourceStands w torn left at More
stood_more w torn left at e s = subst (λ (x : End). SourceStands w torn left at x) e s

module _ {C : Type 0} {tells : Type 0} {left : C → List ℕ} {faults : C → ℕ} {block : ℕ} {old new : Lane C}
    (done : LaneDone tells left faults block old new) (limit : old.at ≤ MAX_SAMPLES) where
  pub lane_after : (r : Recorded) (g : ℕ) → IsLane tells left r g old → IsLane tells left r g new
  lane_after r g was = record {
    gain = λ d. done.gain ∙ was.gain d;
    within = λ t. ⊎_elim
        (λ more. let s = stood_more (r.samples g) (r.torn g) (left done.before) old.at more (was.stood t done.before done.was) in
        within_after block (r.samples g) (r.torn g) (left done.before) (left done.now) old.at new.at s.0 s.1 (was.within t)
        done.samples.0 limit
        (done.gives more t))
        (λ other. omega (arith, (done.ended other).0, was.within t)) (more_or_not old.end);
    stood = λ t src has. ⊎_elim
        (λ more. let s = stood_more (r.samples g) (r.torn g) (left done.before) old.at more (was.stood t done.before done.was) in
        stood_same (r.samples g) (r.torn g) (ap left (same_some has done.has)) refl refl
        (stood_after block (r.samples g) (r.torn g) (left done.before) (left done.now) old.at new.at s.0 s.1 (was.within t)
        done.samples.0 limit
        new.end (done.gives more t)))
        (λ other. let e = done.ended other in
        stood_same (r.samples g) (r.torn g) (ap left (same_some has done.has ∙ e.2)) e.0 e.1 (was.stood t done.before done.was))
        (more_or_not old.end);
  }

  pub faulty_after : IsFaulty faults old → IsFaulty faults new
  faulty_after was = λ src has ends. ⊎_elim
      (λ more. rose_some (faults done.before) (faults src)
      (subst (λ (x : C). CountRose (faults done.before) (faults x)) (same_some done.has has) (done.cause more ends)))
      (λ other. let e = done.ended other in
      subst (λ (x : C). 0 < faults x) (sym (same_some has done.has ∙ e.2)) (was done.before done.was (sym e.1 ∙ ends)))
      (more_or_not old.end)
    where
      rose_some : (a b : ℕ) → CountRose a b → 0 < b
      rose_some a b rose = grind (arith, rose)

  -- a lane that went on to a sound end, or to the end of the round
  pub reached : (r : Recorded) (g a : ℕ) → tells → IsLane tells left r g old → new.end ≢ ReadFault → new.end ≢ TooLong
      → old.at ≡ min a (length (r.samples g)) → new.at ≡ min (a + BLOCKS_PER_WINDOW * block) (length (r.samples g))
  reached r g a t was read long at = ⊎_elim
      (λ more. let s = stood_more (r.samples g) (r.torn g) (left done.before) old.at more (was.stood t done.before done.was) in
      reaches block (r.samples g) (r.torn g) (left done.before) (left done.now) old.at new.at s.0 s.1 (was.within t) done.samples.0 limit
      a new.end read long at (done.gives more t))
      (λ other. let e = done.ended other in
      let all : old.at ≡ length (r.samples g) =
      at_end (r.samples g) (r.torn g) (left done.before) old.at old.end other (λ f. read (e.1 ∙ f)) (λ f. long (e.1 ∙ f))
      (was.stood t done.before done.was) in
      grind (arith, e.0, all, at))
      (more_or_not old.end)
    where
      at_end : (w : List ℤ) (torn : ℕ) (left : List ℕ) (at : ℕ) (end : End) → end ≢ More → end ≢ ReadFault → end ≢ TooLong
          → SourceStands w torn left at end → at ≡ length w
      at_end w torn left at More other read long s = absurd (other refl)
      at_end w torn left at Ended other read long s = s.0
      at_end w torn left at (Torn b) other read long s = s.0
      at_end w torn left at ReadFault other read long s = absurd (read refl)
      at_end w torn left at TooLong other read long s = absurd (long refl)
