-- The numbers of seen lines.
--   steps_start, steps_more, steps_told   the steps of a gauge that were told: none, one more, and then what is held
--   seen_start, seen_more, seen_all       the gauges whose numbers were told: none, one more, and all
use Rattle.std.proofs.Common.{◌≡◌, ◌≤◌, ◌<◌, ◌+◌, ◌*◌, inl, inr, ℕ, zero, suc, min, List, [], ◌∷◌, ◌++◌, length, get_or, map, append_assoc, eqb, cond, refl, sym, ◌∙◌, ap, subst, arith}
use Rattle.std.specs.Prelude.{slice_index}
use Rattle.std.specs.List.{All}
use Rattle.std.specs.List.Sorted.{IsStrictlyIncreasing}
use Rattle.std.proofs.lemmas.Bool.{cases_lt}
use Rattle.std.proofs.lemmas.Bool.Decides.{nat_tests}
use Rattle.std.proofs.lemmas.List.{get_or_append_left, length-append, map-append}
use Rattle.std.proofs.lemmas.List.Elements.{All-append}
use Rattle.std.proofs.Math.Seq.{get_or-append_seam}
use Rattle.outside.specs.station.Station.{Lines}
use Rattle.board.specs.declared.flow.TheConstants.{BLOCKS_PER_WINDOW}
use Rattle.site_config.specs.recorded.Recorded.{Recorded}
use Rattle.count_command.specs.declared.watching.ends.TheConstants.{MOST_ENDS_BESIDE}
use Rattle.count_command.specs.held_samples.Told.{seen_line}
use Rattle.count_command.proofs.on_held_samples.Going.{same_lines}
use Rattle.count_command.specs.watching.Seen.{IsHeldNumber, AreSeenOf, TellsSeen, seen_lines}
use Rattle.count_command.specs.watching.Steps.{IsStep, AreSteps, TellsSteps}

ascend_more : (xs : List ℕ) (x : ℕ) → IsStrictlyIncreasing xs → All (λ y. y < x) xs → IsStrictlyIncreasing (xs ++ x ∷ [])
ascend_more xs x up below k within =
    let long : length (xs ++ x ∷ []) ≡ length xs + 1 = length-append xs (x ∷ []) in
    elim (cases_lt (k + 1) (length xs)) [
      | inl inside ↦ omega (
        arith,
        up k inside,
        get_or_append_left xs (x ∷ []) 0 k (omega (arith, inside)),
        get_or_append_left xs (x ∷ []) 0 (k + 1) inside,
      )
      | inr last ↦
          let is : k + 1 ≡ length xs = omega (arith, within, long, last) in
          omega (
            arith,
            below k 0 (omega (arith, is)),
            get_or_append_left xs (x ∷ []) 0 k (omega (arith, is)),
            ap (λ (i : ℕ). get_or (xs ++ x ∷ []) i 0) is,
            get_or-append_seam xs x [] 0,
          )
    ]

all_one : {X : Type 0} (P : X → Type 0) (x : X) → P x → All P (x ∷ [])
all_one P x here zero d lt = here
all_one P x here (suc k) d lt = absurd (omega (arith, lt))

all_last : {X : Type 0} (P : X → Type 0) (xs : List X) (x : X) → All P xs → P x → All P (xs ++ x ∷ [])
all_last P xs x all here = All-append P xs (x ∷ []) all (all_one P x here)

-- the steps of a gauge that were told so far, all below `least`, and at most so many
pub record StepsSoFar (name : List ℕ) (start step held least most : ℕ) (told told2 : Lines) : Type 0 where
  pub ns : List ℕ
  pub ascend : IsStrictlyIncreasing ns
  pub each : All (IsStep start step held) ns
  pub below : All (λ m. m < least) ns
  pub few : length ns ≤ most
  pub grew : told2 ≡ told ++ map (seen_line name) ns

told_more : (name : List ℕ) (ns : List ℕ) (m : ℕ) (told told2 told3 : Lines) → told2 ≡ told ++ map (seen_line name) ns
    → told3 ≡ told2 ++ seen_line name m ∷ [] → told3 ≡ told ++ map (seen_line name) (ns ++ m ∷ [])
told_more name ns m told told2 told3 so_far here =
    here ∙ ap (λ (l : Lines). l ++ seen_line name m ∷ []) so_far
    ∙ append_assoc told (map (seen_line name) ns) (seen_line name m ∷ [])
    ∙ ap (λ (l : Lines). told ++ l) (sym (map-append (seen_line name) ns (m ∷ [])))

pub steps_more : (name : List ℕ) (start step held least most m : ℕ) (told told2 told3 : Lines)
    → StepsSoFar name start step held least most told told2 → IsStep start step held m → least ≤ m
    → told3 ≡ told2 ++ seen_line name m ∷ [] → StepsSoFar name start step held (m + 1) (most + 1) told told3
steps_more name start step held least most m told told2 told3 s is le here = record {
  ns = s.ns ++ m ∷ [];
  ascend = ascend_more s.ns m s.ascend (λ k d lt. omega (arith, s.below k d lt, le));
  each = all_last (IsStep start step held) s.ns m s.each is;
  below = all_last (λ (n : ℕ). n < m + 1) s.ns m (λ k d lt. omega (arith, s.below k d lt, le)) (omega arith);
  few = omega (arith, s.few, length-append s.ns (m ∷ []));
  grew = told_more name s.ns m told told2 told3 s.grew here;
}

pub steps_told : (name : List ℕ) (start step held least most : ℕ) (told told2 told3 : Lines)
    → StepsSoFar name start step held least most told told2 → most ≤ MOST_ENDS_BESIDE → told3 ≡ told2 ++ seen_line name held ∷ []
    → TellsSteps name start step held told told3
steps_told name start step held least most told told2 told3 s le here = record {
  ns = s.ns ++ held ∷ [];
  steps = record {
    before = s.ns;
    are = refl;
    ascend = ascend_more s.ns held s.ascend (λ k d lt. (s.each k d lt).below);
    each = s.each;
    few = omega (arith, s.few, le);
  };
  grew = told_more name s.ns held told told2 told3 s.grew here;
}

-- the gauges below k, whose numbers were told
pub record SeenSoFar (names : ℕ → List ℕ) (starts ends : ℕ → ℕ) (step k : ℕ) (told told2 : Lines) : Type 0 where
  pub ns : ℕ → List ℕ
  pub each : (g : ℕ) → g < k → AreSteps (starts g) step (ends g) (ns g)
  pub grew : told2 ≡ told ++ seen_lines names ns k

pub seen_start : (names : ℕ → List ℕ) (starts ends : ℕ → ℕ) (step : ℕ) (told : Lines) → SeenSoFar names starts ends step 0 told told
seen_start names starts ends step told =
    record { ns = λ g. []; each = λ g lt. absurd (omega (arith, lt)); grew = same_lines told }

abbrev with_one : (ℕ → List ℕ) → ℕ → List ℕ → ℕ → List ℕ
with_one ns k here g = cond (eqb g k) here (ns g)

with_one-same : (ns : ℕ → List ℕ) (k : ℕ) (here : List ℕ) → with_one ns k here k ≡ here
with_one-same ns k here = grind (arith, nat_tests)

with_one-other : (ns : ℕ → List ℕ) (k g : ℕ) (here : List ℕ) → g < k → with_one ns k here g ≡ ns g
with_one-other ns k g here lt = grind (arith, nat_tests)

seen_same : (names : ℕ → List ℕ) (ns ms : ℕ → List ℕ) (k : ℕ) → ((g : ℕ) → g < k → ns g ≡ ms g) →
    seen_lines names ns k ≡ seen_lines names ms k
seen_same names ns ms zero same = refl
seen_same names ns ms (suc k) same =
    ap (λ (l : Lines). l ++ map (seen_line (names k)) (ns k)) (seen_same names ns ms k (λ g lt. same g (omega (arith, lt))))
    ∙ ap (λ (n : List ℕ). seen_lines names ms k ++ map (seen_line (names k)) n) (same k (omega arith))

pub seen_more : (names : ℕ → List ℕ) (starts ends : ℕ → ℕ) (step k : ℕ) (name : List ℕ) (start held : ℕ) (told told2 told3 : Lines)
    → SeenSoFar names starts ends step k told told2 → TellsSteps name start step held told2 told3
    → names k ≡ name → start ≡ starts k → held ≡ ends k → SeenSoFar names starts ends step (k + 1) told told3
seen_more names starts ends step k name start held told told2 told3 s t named from to =
    let ns = with_one s.ns k t.ns in
    let here : ns k ≡ t.ns = with_one-same s.ns k t.ns in
    let same : (g : ℕ) → g < k → s.ns g ≡ ns g = λ g lt. sym (with_one-other s.ns k g t.ns lt) in
    record {
      ns = ns;
      each = λ g lt. elim (cases_lt g k) [
        | inl below ↦ subst (AreSteps (starts g) step (ends g)) (same g below) (s.each g below)
        | inr past ↦
            let is : g ≡ k = omega (arith, lt, past) in
            subst (λ (h : ℕ). AreSteps (starts h) step (ends h) (ns h)) (sym is)
            (subst (AreSteps (starts k) step (ends k)) (sym here)
            (subst (λ (n : ℕ). AreSteps (starts k) step n t.ns) to (subst (λ (n : ℕ). AreSteps n step held t.ns) from t.steps)))
      ];
      grew = t.grew ∙ ap (λ (l : Lines). l ++ map (seen_line name) t.ns) (s.grew
          ∙ ap (λ (l : Lines). told ++ l) (seen_same names s.ns ns k same))
          ∙ append_assoc told (seen_lines names ns k) (map (seen_line name) t.ns)
          ∙ ap (λ (n : List ℕ). told ++ (seen_lines names ns k ++ map (seen_line n) t.ns)) (sym named)
          ∙ ap (λ (n : List ℕ). told ++ (seen_lines names ns k ++ map (seen_line (names k)) n)) (sym here)
          ∙ ap (λ (n : ℕ). told ++ seen_lines names ns n) (let e : suc k ≡ k + 1 = omega arith in e);
    }

min_left : (a b m : ℕ) → m ≡ a → m < b → m ≡ min a b
min_left a b m is lt = omega (arith, is, lt)

min_right : (a block b : ℕ) → 1 ≤ block → b ≡ min (a + BLOCKS_PER_WINDOW * block * b) b
min_right a block b some = grind arith

-- the end of so many steps below all samples is held after so many rounds, and all samples are after some
seen_of : (block : ℕ) (r : Recorded) (n : List ℕ) (g held : ℕ) (ns : List ℕ) → 1 ≤ block → held ≡ length (r.samples g)
    → AreSteps (slice_index n g) (BLOCKS_PER_WINDOW * block) held ns → AreSeenOf block r n g ns
seen_of block r n g held ns some all s =
    let each : All (IsHeldNumber block r n g) (s.before ++ held ∷ []) = all_last (IsHeldNumber block r n g) s.before held
    (λ k d lt. let is = s.each k d lt in
    inr (
      is.steps,
      min_left (slice_index n g + BLOCKS_PER_WINDOW * block * is.steps) (length (r.samples g)) _ is.at
          (subst (λ (m : ℕ). get_or s.before k d < m) all is.below),
    ))
    (inr (length (r.samples g), all ∙ min_right (slice_index n g) block (length (r.samples g)) some)) in
    record {
      ascend = s.ascend;
      each = subst (All (IsHeldNumber block r n g)) (sym s.are) each;
      before = s.before;
      last = s.are ∙ ap (λ (m : ℕ). s.before ++ m ∷ []) all;
      few = omega (arith, s.few, ap length s.are, length-append s.before (held ∷ []));
    }

pub seen_all : (block : ℕ) (r : Recorded) (n ends : List ℕ) (k : ℕ) (told told2 : Lines) → 1 ≤ block → k ≡ r.gauges
    → ((g : ℕ) → g < r.gauges → slice_index ends g ≡ length (r.samples g))
    → SeenSoFar r.names (slice_index n) (slice_index ends) (BLOCKS_PER_WINDOW * block) k told told2 → TellsSeen block r n told told2
seen_all block r n ends k told told2 some all_gauges held s = record {
  lines = seen_lines r.names s.ns r.gauges;
  grew = s.grew ∙ ap (λ (g : ℕ). told ++ seen_lines r.names s.ns g) all_gauges;
  seen = record {
    ns = s.ns;
    each = λ g lt. seen_of block r n g (slice_index ends g) (s.ns g) some (held g lt)
        (s.each g (subst (λ (h : ℕ). g < h) (sym all_gauges) lt));
    are = refl;
  };
}
