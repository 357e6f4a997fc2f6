-- What the visitor of a window has after all bodies of a store.
use Rattle.std.proofs.Common.{◌≡◌, ◌<◌, ℕ, ◌==◌, Bool, true, false, cond, List, [], ◌∷◌, length, get_or, refl, sym, ap, subst, ◌∙◌, arith}
use Rattle.std.specs.Prelude.{map, filter, Result, Err}
use Rattle.std.specs.List.{AllByRecursion}
use Rattle.std.proofs.lemmas.List.{length-replicate}
use Rattle.calibration.specs.declared.limits.TheConstants.{MAX_SAMPLES}
use Rattle.calibration.specs.declared.setup.Setup.{Setup}
use Rattle.segment.specs.segment_rules.Parts.{PartsValue}
use Rattle.segment.specs.Segment.{SegmentValue, empty_at}
use Rattle.segment.specs.Parts.{parts_of}
use Rattle.segment_store.specs.Holds.{StandsIn}
use Rattle.segment_store.specs.Image.{nothing_held}
use Rattle.segment_store.specs.Keeps.{bodies_of}
use Rattle.segment_store.specs.declared.fault.ResumeFault.{ResumeFault}
use Rattle.segment_store.specs.Visiting.{Visits, still, goes, HasVisited}
use Rattle.segment_store.proofs.HeldKeep.{halves_by}
use Rattle.report_command.specs.windows.Window.{lies_inside}
use Rattle.report_command.specs.declared.window_counts.counting.Times.{Times}
use Rattle.report_command.specs.window_counts.Windows.{WindowsValue, Adds}
use Rattle.report_command.specs.window_counts.Counted.{IsCounted, inside_bodies}
use Rattle.report_command.proofs.on_window_counts.Joined.{nothing_yet, name_joined, stands_in, keeps_in}
use Rattle.report_command.proofs.on_window_counts.Walked.{IsSoFar, all_visited}

-- the fault of a walk, whatever it was for
pub same_fault : {X Y : Type 0} {e f : ResumeFault} → ◌≡◌ {A = Result X ResumeFault} (Err e) (Err f)
    → ◌≡◌ {A = Result Y ResumeFault} (Err e) (Err f)
same_fault {e = e} {f = f} is = let same : e ≡ f = cc in ap (λ (x : ResumeFault). Err x) same

filtered_one : {A : Type 0} (P : A → Type 0) (test : A → Bool) (x : A) (xs : List A) → P x → AllByRecursion P (filter test xs)
    → (b : Bool) → test x ≡ b → AllByRecursion P (filter test (x ∷ xs))
filtered_one P test x xs p rest true e = subst (λ b. AllByRecursion P (cond b (x ∷ filter test xs) (filter test xs))) (sym e) (p, rest)
filtered_one P test x xs p rest false e = subst (λ b. AllByRecursion P (cond b (x ∷ filter test xs) (filter test xs))) (sym e) rest

all_filtered : {A : Type 0} (P : A → Type 0) (test : A → Bool) (xs : List A) → AllByRecursion P xs → AllByRecursion P (filter test xs)
all_filtered P test [] all = tt
all_filtered P test (x ∷ xs) all = filtered_one P test x xs all.0 (all_filtered P test xs all.1) (test x) refl

counted_by : (setup : Setup) (t : Times) (period g end : ℕ) (bodies : List PartsValue) (v : SegmentValue)
    → IsSoFar setup.grid t period g bodies end v → IsCounted setup t period bodies g v
counted_by setup t period g end bodies v s =
    let inside = inside_bodies t period g bodies in
    let k = keeps_in setup.grid g inside v s.joined in
    record {
      name = name_joined setup.grid g inside v s.joined;
      grid = s.own.grid_is;
      gauge = s.own.gauge_is;
      stands = λ w all. stands_in setup w g inside v s.joined
          (all_filtered (StandsIn setup w) (λ b. lies_inside t.start period t.from t.to b.name) (bodies_of g bodies)
          (all_filtered (StandsIn setup w) (λ b. b.name.gauge == g) bodies all));
      used = k.used;
      missing = k.missing;
      refused = k.refused;
      halves = λ rules lo hi. halves_by inside v k rules lo hi;
    }

-- from nothing on
pub counted : (setup : Setup) (t : Times) (periods : List ℕ) (u w : WindowsValue) (segments : List SegmentValue) (last : List ℕ)
    → HasVisited Adds u w setup (nothing_held setup) segments last → u.times ≡ t → u.periods ≡ periods → u.grid ≡ setup.grid
    → length u.joined ≡ length setup.gains
    → ((g : ℕ) (d : SegmentValue) → g < length u.joined → get_or u.joined g d ≡ empty_at setup.grid g 0 MAX_SAMPLES)
    → (length w.joined ≡ length setup.gains) × ((g : ℕ) (d : SegmentValue) → g < length w.joined
    → IsCounted setup t (get_or periods g 0) (map parts_of segments) g (get_or w.joined g d))
counted setup t periods u w segments last v times ps grid gauges empty =
    let long : length u.joined ≡ length (nothing_held setup) = omega (arith, gauges, length-replicate {A = ℕ} (length setup.gains) 0) in
    let done = all_visited setup t periods [] u w segments (nothing_held setup) last v.visits v.over v.tiles times ps grid long
    (λ g d lt. nothing_yet setup.grid t (get_or periods g 0) g (get_or (nothing_held setup) g 0) (get_or u.joined g d) (empty g d lt)) in (
      done.gauges_are ∙ gauges,
      λ g d lt. counted_by setup t (get_or periods g 0) g (get_or last g 0) (map parts_of segments) (get_or w.joined g d)
          (done.so_far g d lt),
    )

-- the grid stays
grid_stays : {u w : WindowsValue} {segments : List SegmentValue} → Visits Adds u segments w → w.grid ≡ u.grid
grid_stays still = refl
grid_stays (goes step rest) = grid_stays rest ∙ step.grid

pub grid_after : {u w : WindowsValue} {setup : Setup} {ends last : List ℕ} {segments : List SegmentValue}
    → HasVisited Adds u w setup ends segments last → w.grid ≡ u.grid
grid_after v = grid_stays v.visits
