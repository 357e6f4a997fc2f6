-- What the visitor of a window holds after a walk: of each gauge the bodies that lie inside, joined. These follow one
-- another: a body between two that lie inside does so too.
--   IsSoFar       what is held of a gauge, when these bodies were passed
--   all_visited   after a walk over bodies that follow one another
use Rattle.std.proofs.Common.{◌≡◌, ◌≢◌, ◌⊎◌, inl, inr, ℕ, ◌<◌, ◌≤◌, ◌==◌, Bool, true, false, List, [], ◌∷◌, ◌++◌, length, get_or, set, refl, sym, ap, subst, ◌∙◌, arith, append_assoc, append-nil}
use Rattle.std.specs.Prelude.{◌≤ℤ◌, ◌<ℤ◌, map, All, if◌then◌else◌}
use Rattle.std.proofs.lemmas.Bool.{cases_eq}
use Rattle.std.proofs.lemmas.List.{get_or-set_same, get_or-set_other, length-set}
use Rattle.std.proofs.lemmas.List.Elements.{filter-append, All-head, All-tail}
use Rattle.calibration.specs.declared.limits.TheConstants.{MAX_SAMPLES}
use Rattle.calibration.specs.Grid.{GridValue}
use Rattle.calibration.specs.declared.setup.Setup.{Setup}
use Rattle.segment.specs.segment_rules.Parts.{PartsValue}
use Rattle.segment.specs.Segment.{SegmentValue, IsSegment, empty_at}
use Rattle.segment.specs.Parts.{parts_of}
use Rattle.segment_store.specs.Held.{JoinsPart}
use Rattle.segment_store.specs.Image.{ends_after, IsNext, Tiles, none, one}
use Rattle.segment_store.specs.Keeps.{bodies_of}
use Rattle.segment_store.specs.Visiting.{Visits, still, goes}
use Rattle.segment_store.proofs.HeldKeep.{is_of, not_of}
use Rattle.report_command.specs.windows.Window.{instant_of, lies_inside, inside_of}
use Rattle.report_command.specs.declared.window_counts.counting.Times.{Times}
use Rattle.report_command.specs.window_counts.Windows.{WindowsValue, IsOwn, AddsTo, Adds, name_in}
use Rattle.report_command.specs.window_counts.Counted.{inside_bodies}
use Rattle.report_command.specs.window_counts.Joined.{IsJoined, first, more}
use Rattle.report_command.proofs.on_window_counts.Instants.{instant_le, inside_is, past_end, le_then, lt_not}

abbrev lies : Times → ℕ → PartsValue → Bool
lies t period b = lies_inside t.start period t.from t.to b.name

pub record IsSoFar (grid : GridValue) (t : Times) (period : ℕ) (g : ℕ) (bodies : List PartsValue) (end : ℕ)
    (v : SegmentValue) : Type 0 where
  pub joined : IsJoined grid g (inside_bodies t period g bodies) v
  pub own : IsOwn grid g v
  pub within : v.to ≤ end
  pub nothing : v.from ≡ v.to → inside_bodies t period g bodies ≡ []
  pub some : v.from ≢ v.to → v.from < v.to
  pub begins : v.from ≢ v.to → t.from ≤ℤ instant_of t.start period v.from
  pub ends : v.from ≢ v.to → (v.to ≡ end) ⊎ (t.to <ℤ instant_of t.start period end)

module _ (grid : GridValue) (t : Times) (period : ℕ) (g : ℕ) where
  -- a body more of the gauge
  listed : (bodies : List PartsValue) (p : PartsValue) → p.name.gauge ≡ g
      → inside_bodies t period g (bodies ++ p ∷ []) ≡ inside_bodies t period g bodies ++ inside_of t.start period t.from t.to (p ∷ [])
  listed bodies p e =
      ap (inside_of t.start period t.from t.to) (filter-append (λ (b : PartsValue). b.name.gauge == g) bodies (p ∷ [])
      ∙ ap (λ l. bodies_of g bodies ++ l) (is_of p g e)) ∙ filter-append (lies t period) (bodies_of g bodies) (p ∷ [])

  listed_in : (bodies : List PartsValue) (p : PartsValue) → p.name.gauge ≡ g → lies t period p ≡ true
      → inside_bodies t period g (bodies ++ p ∷ []) ≡ inside_bodies t period g bodies ++ p ∷ []
  listed_in bodies p e h = listed bodies p e ∙ ap (λ (b : Bool). inside_bodies t period g bodies ++ (if b then p ∷ [] else [])) h

  listed_out : (bodies : List PartsValue) (p : PartsValue) → p.name.gauge ≡ g → lies t period p ≡ false
      → inside_bodies t period g (bodies ++ p ∷ []) ≡ inside_bodies t period g bodies
  listed_out bodies p e h = listed bodies p e ∙ ap (λ (b : Bool). inside_bodies t period g bodies ++ (if b then p ∷ [] else [])) h
      ∙ append-nil (inside_bodies t period g bodies)

  listed_other : (bodies : List PartsValue) (p : PartsValue) → p.name.gauge ≢ g
      → inside_bodies t period g (bodies ++ p ∷ []) ≡ inside_bodies t period g bodies
  listed_other bodies p n = ap (inside_of t.start period t.from t.to) (filter-append (λ (b : PartsValue). b.name.gauge == g) bodies (p ∷ [])
      ∙ ap (λ l. bodies_of g bodies ++ l) (not_of p g n) ∙ append-nil (bodies_of g bodies))

  -- one of another gauge
  step_other : (bodies : List PartsValue) (p : PartsValue) (end : ℕ) (v w : SegmentValue) → p.name.gauge ≢ g → w ≡ v
      → IsSoFar grid t period g bodies end v → IsSoFar grid t period g (bodies ++ p ∷ []) end w
  step_other bodies p end v w n same h =
      let l = listed_other bodies p n in
      subst (IsSoFar grid t period g (bodies ++ p ∷ []) end) (sym same) (record {
        joined = subst (λ x. IsJoined grid g x v) (sym l) h.joined;
        own = h.own;
        within = h.within;
        nothing = λ e. l ∙ h.nothing e;
        some = h.some;
        begins = h.begins;
        ends = h.ends;
      })

  joined_own : (v s w : SegmentValue) → IsOwn grid g v → JoinsPart v s w → IsOwn grid g w
  joined_own v s w o j = record {
    grid_is = j.start.0 ∙ o.grid_is;
    gauge_is = j.start.1 ∙ o.gauge_is;
    longest_is = j.start.3 ∙ o.longest_is;
  }

  module _ (bodies : List PartsValue) (end : ℕ) (v s w : SegmentValue) (h : IsSoFar grid t period g bodies end v)
      (adds : AddsTo t period v s w) (gauge : s.gauge ≡ g) (over : s.grid ≡ grid) (rules : IsSegment s) (next : s.from ≡ end)
      (some : s.from < s.to) where
    to_end : instant_of t.start period end ≤ℤ instant_of t.start period s.to
    to_end = instant_le t.start period end s.to (omega (arith, next, some))

    -- a body that doesn't lie inside
    step_out : lies_inside t.start period t.from t.to (name_in s) ≡ false → IsSoFar grid t period g (bodies ++ parts_of s ∷ []) s.to w
    step_out e =
        let l = listed_out bodies (parts_of s) gauge e in
        subst (IsSoFar grid t period g (bodies ++ parts_of s ∷ []) s.to) (sym (adds.outside e)) (record {
          joined = subst (λ x. IsJoined grid g x v) (sym l) h.joined;
          own = h.own;
          within = omega (arith, h.within, next, some);
          nothing = λ n. l ∙ h.nothing n;
          some = h.some;
          begins = h.begins;
          ends = λ n. inr (past_end t.from (instant_of t.start period s.from) (instant_of t.start period s.to) t.to e
              (le_then t.from (instant_of t.start period v.from) (instant_of t.start period s.from) (h.begins n)
              (instant_le t.start period v.from s.from (omega (arith, h.some n, h.within, next)))));
        })

    -- the first that does
    step_first : lies_inside t.start period t.from t.to (name_in s) ≡ true → v.from ≡ v.to
        → IsSoFar grid t period g (bodies ++ parts_of s ∷ []) s.to w
    step_first e nothing =
        let l = listed_in bodies (parts_of s) gauge e ∙ ap (λ x. x ++ parts_of s ∷ []) (h.nothing nothing) in
        let b = inside_is t.from (instant_of t.start period s.from) (instant_of t.start period s.to) t.to e in
        let o = h.own in
        let j : JoinsPart (empty_at grid g s.from MAX_SAMPLES) s w =
        subst (λ x. JoinsPart (empty_at x g s.from MAX_SAMPLES) s w) o.grid_is
        (subst (λ x. JoinsPart (empty_at v.grid x s.from MAX_SAMPLES) s w) o.gauge_is
        (subst (λ x. JoinsPart (empty_at v.grid v.gauge s.from x) s w) o.longest_is (adds.first e nothing))) in
        let from = j.start.2 in
        record {
          joined = subst (λ x. IsJoined grid g x w) (sym l) (first s gauge over rules some j);
          own = joined_own (empty_at grid g s.from MAX_SAMPLES) s w (record { grid_is = refl; gauge_is = refl; longest_is = refl }) j;
          within = omega (arith, j.end);
          nothing = λ n. absurd (omega (arith, n, from, j.end, some));
          some = λ n. omega (arith, from, j.end, some);
          begins = λ n. subst (λ i. t.from ≤ℤ instant_of t.start period i) (sym from) b.0;
          ends = λ n. inl j.end;
        }

    -- one behind another that does
    step_next : lies_inside t.start period t.from t.to (name_in s) ≡ true → v.from ≢ v.to
        → IsSoFar grid t period g (bodies ++ parts_of s ∷ []) s.to w
    step_next e not = by (h.ends not)
      where
        b : (t.from ≤ℤ instant_of t.start period s.from) × (instant_of t.start period s.to ≤ℤ t.to)
        b = inside_is t.from (instant_of t.start period s.from) (instant_of t.start period s.to) t.to e

        by : ((v.to ≡ end) ⊎ (t.to <ℤ instant_of t.start period end)) → IsSoFar grid t period g (bodies ++ parts_of s ∷ []) s.to w
        by (inr past) = absurd (lt_not t.to (instant_of t.start period end) (instant_of t.start period s.to) past to_end b.1)
        by (inl here) =
            let j = adds.next e not (next ∙ sym here) in
            let from = j.start.2 in
            let l = listed_in bodies (parts_of s) gauge e in
            record {
              joined = subst (λ x. IsJoined grid g x w) (sym l) (more s gauge over rules some (h.some not) h.joined j);
              own = joined_own v s w h.own j;
              within = omega (arith, j.end);
              nothing = λ n. absurd (omega (arith, n, from, j.end, some, h.some not, here, next));
              some = λ n. omega (arith, from, j.end, some, h.some not, here, next);
              begins = λ n. subst (λ i. t.from ≤ℤ instant_of t.start period i) (sym from) (h.begins not);
              ends = λ n. inl j.end;
            }

    pub step_own : IsSoFar grid t period g (bodies ++ parts_of s ∷ []) s.to w
    step_own = by (lies_inside t.start period t.from t.to (name_in s)) refl
      where
        by : (b : Bool) → lies_inside t.start period t.from t.to (name_in s) ≡ b
            → IsSoFar grid t period g (bodies ++ parts_of s ∷ []) s.to w
        by false e = step_out e
        by true e = elim (cases_eq v.from v.to) [ inl same ↦ step_first e same | inr not ↦ step_next e not ]

abbrev IsOver : Setup → SegmentValue → Type 0
IsOver setup s = s.grid ≡ setup.grid

-- of every gauge
abbrev pub AreSoFar : GridValue → Times → List ℕ → List PartsValue → List ℕ → List SegmentValue → Type 0
AreSoFar grid t periods bodies ends joined =
    (g : ℕ) (d : SegmentValue) → g < length joined
    → IsSoFar grid t (get_or periods g 0) g bodies (get_or ends g 0) (get_or joined g d)

pub record HasWalked (grid : GridValue) (t : Times) (periods : List ℕ) (bodies : List PartsValue) (ends : List ℕ) (w : WindowsValue)
    (gauges : ℕ) : Type 0 where
  pub so_far : AreSoFar grid t periods bodies ends w.joined
  pub gauges_are : length w.joined ≡ gauges

module _ (setup : Setup) (t : Times) (periods : List ℕ) where
  step_all : (bodies : List PartsValue) (ends : List ℕ) (u v : WindowsValue) (s : SegmentValue) → Adds u s v → u.times ≡ t
      → u.periods ≡ periods → u.grid ≡ setup.grid → s.grid ≡ setup.grid → length u.joined ≡ length ends → IsNext setup ends (parts_of s)
      → AreSoFar setup.grid t periods bodies ends u.joined
      → AreSoFar setup.grid t periods (bodies ++ parts_of s ∷ []) (ends_after ends (parts_of s)) v.joined
  step_all bodies ends u v s adds times ps grid over long next h g d lt =
      elim (cases_eq g s.gauge) [ inl e ↦ own e | inr n ↦ other n ]
    where
      lt_u : g < length u.joined
      lt_u = omega (arith, lt, adds.gauges)

      own : g ≡ s.gauge → IsSoFar setup.grid t (get_or periods g 0) g (bodies ++ parts_of s ∷ [])
          (get_or (ends_after ends (parts_of s)) g 0) (get_or v.joined g d)
      own e =
          let to : get_or (set ends s.gauge s.to) g 0 ≡ s.to = ap (λ n. get_or (set ends s.gauge s.to) n 0) e
          ∙ get_or-set_same ends s.gauge s.to 0 (omega (arith, lt_u, e, long)) in
          let one = adds.own d (over ∙ sym grid) (omega (arith, lt_u, e)) in
          let two : AddsTo u.times (get_or u.periods g 0) (get_or u.joined g d) s (get_or v.joined g d) =
          subst (λ n. AddsTo u.times (get_or u.periods n 0) (get_or u.joined n d) s (get_or v.joined n d)) (sym e) one in
          let three : AddsTo t (get_or periods g 0) (get_or u.joined g d) s (get_or v.joined g d) =
          subst (λ x. AddsTo x (get_or periods g 0) (get_or u.joined g d) s (get_or v.joined g d)) times
          (subst (λ (l : List ℕ). AddsTo u.times (get_or l g 0) (get_or u.joined g d) s (get_or v.joined g d)) ps two) in
          subst (λ n. IsSoFar setup.grid t (get_or periods g 0) g (bodies ++ parts_of s ∷ []) n (get_or v.joined g d)) (sym to)
          (step_own setup.grid t (get_or periods g 0) g bodies (get_or ends g 0) (get_or u.joined g d) s (get_or v.joined g d)
          (h g d lt_u) three (sym e) over adds.rules (next.joins ∙ ap (λ n. get_or ends n 0) (sym e)) next.body.some)

      other : g ≢ s.gauge → IsSoFar setup.grid t (get_or periods g 0) g (bodies ++ parts_of s ∷ [])
          (get_or (ends_after ends (parts_of s)) g 0) (get_or v.joined g d)
      other n =
          let to : get_or (set ends s.gauge s.to) g 0 ≡ get_or ends g 0 = get_or-set_other ends s.gauge g s.to 0 n in
          subst (λ k. IsSoFar setup.grid t (get_or periods g 0) g (bodies ++ parts_of s ∷ []) k (get_or v.joined g d)) (sym to)
          (step_other setup.grid t (get_or periods g 0) g bodies (parts_of s) (get_or ends g 0) (get_or u.joined g d) (get_or v.joined g d)
          (λ e. n (sym e)) (adds.others g d n) (h g d lt_u))

  pub all_visited : (bodies : List PartsValue) (u w : WindowsValue) (segments : List SegmentValue) (ends last : List ℕ)
      → Visits Adds u segments w → All (λ (s : SegmentValue). s.grid ≡ setup.grid) segments
      → Tiles setup ends (map parts_of segments) last
      → u.times ≡ t → u.periods ≡ periods → u.grid ≡ setup.grid → length u.joined ≡ length ends
      → AreSoFar setup.grid t periods bodies ends u.joined
      → HasWalked setup.grid t periods (bodies ++ map parts_of segments) last w (length u.joined)
  all_visited bodies u w [] ends last still over none times ps grid long h = record {
    so_far = subst (λ l. AreSoFar setup.grid t periods l ends u.joined) (sym (append-nil bodies)) h;
    gauges_are = refl;
  }
  all_visited bodies u w (s ∷ ss) ends last (goes {v = v} adds rest) over (one next tiles) times ps grid long h =
      let so_far = step_all bodies ends u v s adds times ps grid (All-head (IsOver setup) s ss over) long next h in
      let long2 : length v.joined ≡ length (ends_after ends (parts_of s)) =
      omega (arith, adds.gauges, long, length-set ends s.gauge s.to) in
      let done = all_visited (bodies ++ parts_of s ∷ []) v w ss (ends_after ends (parts_of s)) last rest
      (All-tail (IsOver setup) s ss over) tiles (adds.times ∙ times) (adds.periods ∙ ps) (adds.grid ∙ grid) long2 so_far in
      record {
        so_far = subst (λ l. AreSoFar setup.grid t periods l last w.joined)
            (append_assoc bodies (parts_of s ∷ []) (map parts_of ss)) done.so_far;
        gauges_are = done.gauges_are ∙ adds.gauges;
      }
