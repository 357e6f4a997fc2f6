-- What is joined of a window.
--   nothing_yet   before the first body
--   name_joined   it is named by the window of its bodies
--   stands_in     where the bodies stand for samples, it stands for those of the window
--   keeps_in      it has what the bodies keep
use Rattle.std.proofs.Common.{◌≡◌, ℕ, ℤ, ◌-◌, ◌<◌, ◌≤◌, List, [], ◌∷◌, ◌++◌, take, drop, refl, sym, ap, subst, ◌∙◌, arith}
use Rattle.std.proofs.lemmas.List.{drop-drop}
use Rattle.std.proofs.Math.Seq.{take-add}
use Rattle.calibration.specs.declared.limits.TheConstants.{MAX_SAMPLES}
use Rattle.calibration.specs.Grid.{GridValue}
use Rattle.calibration.specs.declared.setup.Setup.{Setup}
use Rattle.segment.specs.segment_rules.Parts.{PartsValue}
use Rattle.segment.specs.Segment.{SegmentValue, IsSegment, Stands, empty_at}
use Rattle.segment.specs.Parts.{parts_of}
use Rattle.segment.specs.Standing.{PartsStand}
use Rattle.segment.proofs.Empty.{empty_stands}
use Rattle.segment.proofs.PartsStanding.{parts_tell}
use Rattle.segment_store.specs.Holds.{AllStand, StandsIn, gain_at}
use Rattle.segment_store.proofs.HeldKeep.{KeepsBefore, keeps_more}
use Rattle.segment_store.proofs.HeldStand.{all_less}
use Rattle.report_command.specs.windows.Window.{window_of, window_end}
use Rattle.report_command.specs.declared.window_counts.counting.Times.{Times}
use Rattle.report_command.specs.window_counts.Joined.{IsJoined, none, first, more}
use Rattle.report_command.proofs.on_window_counts.Walked.{IsSoFar}

pub nothing_yet : (grid : GridValue) (t : Times) (period g end : ℕ) (v : SegmentValue) → v ≡ empty_at grid g 0 MAX_SAMPLES
    → IsSoFar grid t period g [] end v
nothing_yet grid t period g end v is = subst (IsSoFar grid t period g [] end) (sym is) (record {
  joined = none;
  own = record { grid_is = refl; gauge_is = refl; longest_is = refl };
  within = omega arith;
  nothing = λ e. refl;
  some = λ n. absurd (n refl);
  begins = λ n. absurd (n refl);
  ends = λ n. absurd (n refl);
})

abbrev pair : ℕ → ℕ → ℕ × ℕ
pair a b = (a, b)

end_push : (end : ℕ) (bodies : List PartsValue) (p : PartsValue) → window_end end (bodies ++ p ∷ []) ≡ p.name.to
end_push end [] p = refl
end_push end (b ∷ bodies) p = end_push b.name.to bodies p

same_pair : (a b c d : ℕ) → a ≡ c → b ≡ d → pair a b ≡ pair c d
same_pair a b c d e f = ap (λ x. pair x b) e ∙ ap (pair c) f

-- one body more
window_push : (l : List PartsValue) (a b : ℕ) (p : PartsValue) → window_of l ≡ pair a b → a < b
    → window_of (l ++ p ∷ []) ≡ pair a p.name.to
window_push [] a b p e lt = absurd (omega (arith, ap (λ (x : ℕ × ℕ). x.0) e, ap (λ (x : ℕ × ℕ). x.1) e, lt))
window_push (q ∷ l) a b p e lt = same_pair q.name.from (window_end q.name.to (l ++ p ∷ [])) a p.name.to
    (ap (λ (x : ℕ × ℕ). x.0) e) (end_push q.name.to l p)

module _ (grid : GridValue) (g : ℕ) where
  pub name_joined : (bodies : List PartsValue) (v : SegmentValue) → IsJoined grid g bodies v → window_of bodies ≡ pair v.from v.to
  name_joined bodies v none = refl
  name_joined bodies v (first s gauge over rules some j) = same_pair s.from s.to v.from v.to (sym j.start.2) (sym j.end)
  name_joined bodies v (more {bodies = before} {v = u} s gauge over rules some grown h j) =
      window_push before u.from u.to (parts_of s) (name_joined before u h) grown
      ∙ same_pair u.from s.to v.from v.to (sym j.start.2) (sym j.end)

  pub keeps_in : (bodies : List PartsValue) (v : SegmentValue) → IsJoined grid g bodies v → KeepsBefore v bodies
  keeps_in bodies v none = record { used = refl; missing = refl; refused = refl; halves = λ q lo hi. refl }
  keeps_in bodies v (first s gauge over rules some j) = keeps_more (empty_at grid g s.from MAX_SAMPLES) s v [] (record {
    used = refl;
    missing = refl;
    refused = refl;
    halves = λ q lo hi. refl;
  }) j
  keeps_in bodies v (more {bodies = before} {v = u} s gauge over rules some grown h j) = keeps_more u s v before (keeps_in before u h) j

take_none : (w : List ℤ) → take 0 w ≡ []
take_none [] = refl
take_none (x ∷ w) = refl

module _ (setup : Setup) (w : ℕ → List ℤ) (g : ℕ) where
  abbrev samples : ℕ → ℕ → List ℤ
  samples from to = take (to - from) (drop from (w g))

  -- those of a body
  part_stands : (s : SegmentValue) → s.gauge ≡ g → s.grid ≡ setup.grid → IsSegment s → StandsIn setup w (parts_of s)
      → Stands s (gain_at setup g) (samples s.from s.to)
  part_stands s gauge over rules h =
      let one : PartsStand setup.grid (gain_at setup g) (parts_of s) (samples s.from s.to) =
      subst (λ k. PartsStand setup.grid (gain_at setup k) (parts_of s) (take (s.to - s.from) (drop s.from (w k)))) gauge h in
      parts_tell s rules (gain_at setup g) (samples s.from s.to)
      (subst (λ k. PartsStand k (gain_at setup g) (parts_of s) (samples s.from s.to)) (sym over) one)

  together : (a b c : ℕ) → a ≤ b → b ≤ c → samples a b ++ samples b c ≡ samples a c
  together a b c h k =
      let d : drop (b - a) (drop a (w g)) ≡ drop b (w g) = drop-drop (b - a) a (w g) ∙ ap (λ n. drop n (w g)) (omega (arith, h)) in
      ap (λ l. samples a b ++ take (c - b) l) (sym d) ∙ sym (take-add (b - a) (c - b) (drop a (w g)))
      ∙ ap (λ n. take n (drop a (w g))) (omega (arith, h, k))

  pub stands_in : (bodies : List PartsValue) (v : SegmentValue) → IsJoined setup.grid g bodies v → AllStand setup w bodies
      → Stands v (gain_at setup g) (samples v.from v.to)
  stands_in bodies v none all =
      subst (Stands v (gain_at setup g)) (sym (take_none (drop 0 (w g)))) (empty_stands setup.grid g 0 MAX_SAMPLES (gain_at setup g))
  stands_in bodies v (first s gauge over rules some j) all =
      let gain = gain_at setup g in
      let right = part_stands s gauge over rules all.0 in
      let both = j.stands gain [] (samples s.from s.to) (empty_stands setup.grid g s.from MAX_SAMPLES gain) right in
      subst (λ n. Stands v gain (samples n v.to)) (sym j.start.2) (subst (λ n. Stands v gain (samples s.from n)) (sym j.end) both)
  stands_in bodies v (more {bodies = before} {v = u} s gauge over rules some grown h j) all =
      let gain = gain_at setup g in
      let parts = all_less (StandsIn setup w) before (parts_of s) all in
      let left = stands_in before u h parts.0 in
      let right = part_stands s gauge over rules parts.1 in
      let both = j.stands gain (samples u.from u.to) (samples s.from s.to) left right in
      let listed : samples u.from u.to ++ samples s.from s.to ≡ samples v.from v.to =
      ap (λ n. samples u.from u.to ++ samples n s.to) j.next
      ∙ together u.from u.to s.to (omega (arith, grown)) (omega (arith, j.next, some))
      ∙ ap (λ n. samples n s.to) (sym j.start.2) ∙ ap (λ n. samples v.from n) (sym j.end) in
      subst (Stands v gain) listed both
