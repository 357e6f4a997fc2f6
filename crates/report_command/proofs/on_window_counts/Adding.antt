-- How a body is joined.
use Rattle.std.proofs.Common.{◌≡◌, ◌≢◌, ◌⊎◌, inl, inr, ℕ, Bool, true, false, ◌+◌, ◌-◌, ◌≤◌, ◌<◌, List, [], ◌∷◌, ◌++◌, length, get_or, set, refl, sym, ap, subst, ◌∙◌, arith, length-append}
use Rattle.std.specs.Prelude.{ℤ, pos, negsuc, Result, Ok, Err, OnOk, OnErr}
use Rattle.std.specs.Int.{w128, cast_signed, cast_unsigned}
use Rattle.std.specs.Int.RustNames.{FitsSigned}
use Rattle.std.proofs.lemmas.Int.{to_z-of_z}
use Rattle.std.proofs.lemmas.Bool.{cases_eq, false≢true}
use Rattle.std.proofs.lemmas.List.{get_or-set_same, get_or-set_other, length-set, get_or_append_left}
use Rattle.std.proofs.Math.Seq.{get_or-append_seam}
use Rattle.calibration.specs.Grid.{GridValue}
use Rattle.calibration.specs.declared.limits.TheConstants.{MAX_SAMPLES}
use Rattle.segment.specs.Segment.{SegmentValue, IsSegment, SameStart, empty_at}
use Rattle.segment.specs.declared.segment.join.JoinRefusal.{JoinRefusal}
use Rattle.segment.specs.declared.segment_rules.name.Name.{Name}
use Rattle.segment_store.specs.Held.{JoinsPart}
use Rattle.report_command.specs.windows.Window.{lies_inside, IsInstant}
use Rattle.report_command.specs.declared.window_counts.counting.Times.{Times}
use Rattle.report_command.specs.window_counts.Windows.{AreInstants, IsOwn, AreOwn, AddsTo, name_in}

pub room : (v w : SegmentValue) → IsSegment v → IsSegment w → v.longest ≡ MAX_SAMPLES → v.to ≡ w.from
    → (v.to - v.from) + (w.to - w.from) ≤ v.longest
room v w i j longest next = omega (arith, i.span.0, j.span.0, j.span.1)

pub own_after : (v w : SegmentValue) (r : Result (Unit {0}) JoinRefusal) → OnErr r (w ≡ v) → OnOk r (SameStart v w)
    → v.longest ≡ MAX_SAMPLES → IsOwn v.grid v.gauge w
own_after v w (Ok u) same start longest = record { grid_is = start.0; gauge_is = start.1; longest_is = start.3 ∙ longest }
own_after v w (Err e) same start longest = record {
  grid_is = ap (λ (x : SegmentValue). x.grid) same;
  gauge_is = ap (λ (x : SegmentValue). x.gauge) same;
  longest_is = ap (λ (x : SegmentValue). x.longest) same ∙ longest;
}

-- one empty segment more
pub empty_more : (grid : GridValue) (joined : List SegmentValue) (g : ℕ) (v : SegmentValue) → length joined ≡ g
    → v ≡ empty_at grid g 0 MAX_SAMPLES
    → ((k : ℕ) (d : SegmentValue) → k < length joined → get_or joined k d ≡ empty_at grid k 0 MAX_SAMPLES)
    → (k : ℕ) (d : SegmentValue) → k < length (joined ++ v ∷ []) → get_or (joined ++ v ∷ []) k d ≡ empty_at grid k 0 MAX_SAMPLES
empty_more grid joined g v long is all k d lt = by (cases_eq k g)
  where
    by : ((k ≡ g) ⊎ (k ≢ g)) → get_or (joined ++ v ∷ []) k d ≡ empty_at grid k 0 MAX_SAMPLES
    by (inl e) = ap (λ n. get_or (joined ++ v ∷ []) n d) (e ∙ sym long) ∙ get_or-append_seam joined v [] d ∙ is
        ∙ ap (λ n. empty_at grid n 0 MAX_SAMPLES) (sym e)
    by (inr n) =
        let short : k < length joined = omega (arith, lt, n, long, length-append joined (v ∷ [])) in
        get_or_append_left joined (v ∷ []) d k short ∙ all k d short

-- one that was set
module _ (grid : GridValue) (joined : List SegmentValue) (g : ℕ) (v w : SegmentValue) (known : g < length joined) where
  pub own_set : AreOwn grid joined → IsOwn grid g w → AreOwn grid (set joined g w)
  own_set all own k d lt = by (cases_eq k g)
    where
      by : ((k ≡ g) ⊎ (k ≢ g)) → IsOwn grid k (get_or (set joined g w) k d)
      by (inl e) =
          let here : get_or (set joined g w) k d ≡ w = ap (λ n. get_or (set joined g w) n d) e ∙ get_or-set_same joined g w d known in
          subst (IsOwn grid k) (sym here) (subst (λ n. IsOwn grid n w) (sym e) own)
      by (inr n) = subst (IsOwn grid k) (sym (get_or-set_other joined g k w d n)) (all k d (omega (arith, lt, length-set joined g w)))

abbrev lies : Times → ℕ → SegmentValue → Bool
lies t period s = lies_inside t.start period t.from t.to (name_in s)

pub left_out : (t : Times) (period : ℕ) (v s : SegmentValue) → lies t period s ≡ false → AddsTo t period v s v
left_out t period v s e = record {
  outside = λ f. refl;
  first = λ f. absurd (false≢true (sym e ∙ f));
  next = λ f. absurd (false≢true (sym e ∙ f));
}

pub put_in : (t : Times) (period : ℕ) (v s w : SegmentValue) → lies t period s ≡ true
    → (v.from ≡ v.to → JoinsPart (empty_at v.grid v.gauge s.from v.longest) s w) → (v.from ≢ v.to → s.from ≡ v.to → JoinsPart v s w)
    → AddsTo t period v s w
put_in t period v s w e first next = record {
  outside = λ f. absurd (false≢true (sym f ∙ e));
  first = λ f. first;
  next = λ f. next;
}

-- whether it lies inside, by its name and by its gauge's period
pub lies_by : (t : Times) (periods : List ℕ) (g : ℕ) (s : SegmentValue) (n : Name) (b : Bool) → n ≡ name_in s → g ≡ s.gauge
    → b ≡ lies_inside t.start (get_or periods g 0) t.from t.to n → lies t (get_or periods s.gauge 0) s ≡ b
lies_by t periods g s n b name gauge is =
    ap (λ k. lies_inside t.start (get_or periods k 0) t.from t.to (name_in s)) (sym gauge)
    ∙ ap (λ x. lies_inside t.start (get_or periods g 0) t.from t.to x) (sym name) ∙ sym is

-- a signed argument is seen through its bits
instant_fits : (z : ℤ) → IsInstant z → FitsSigned w128 z
instant_fits (pos n) h = omega (arith, h)
instant_fits (negsuc n) h = omega (arith, h)

through : (z : ℤ) → IsInstant z → cast_signed w128 (cast_unsigned w128 z) ≡ z
through z h = to_z-of_z w128 z (instant_fits z h)

pub passed : (t : Times) (period : ℕ) (n : Name) (b : Bool) → AreInstants t
    → b ≡ lies_inside (cast_signed w128 (cast_unsigned w128 t.start)) period (cast_signed w128 (cast_unsigned w128 t.from))
    (cast_signed w128 (cast_unsigned w128 t.to)) n → b ≡ lies_inside t.start period t.from t.to n
passed t period n b i e =
    e ∙ ap (λ z. lies_inside z period (cast_signed w128 (cast_unsigned w128 t.from)) (cast_signed w128 (cast_unsigned w128 t.to)) n)
    (through t.start i.start)
    ∙ ap (λ z. lies_inside t.start period z (cast_signed w128 (cast_unsigned w128 t.to)) n) (through t.from i.from)
    ∙ ap (λ z. lies_inside t.start period t.from z n) (through t.to i.to)

-- and so are the instants that a command is called with
abbrev pub times_of : ℤ → ℤ → ℤ → Times
times_of start from to = record { start = start; from = from; to = to }

pub times_passed : (start from to : ℤ) → IsInstant start → IsInstant from → IsInstant to
    → times_of (cast_signed w128 (cast_unsigned w128 start)) (cast_signed w128 (cast_unsigned w128 from))
    (cast_signed w128 (cast_unsigned w128 to)) ≡ times_of start from to
times_passed start from to a b c =
    ap (λ z. times_of z (cast_signed w128 (cast_unsigned w128 from)) (cast_signed w128 (cast_unsigned w128 to))) (through start a)
    ∙ ap (λ z. times_of start z (cast_signed w128 (cast_unsigned w128 to))) (through from b)
    ∙ ap (λ z. times_of start from z) (through to c)
