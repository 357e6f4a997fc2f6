-- Each list of arrivals is placed by a schedule that first makes every Feed.
use Rattle.std.proofs.Common.{◌≡◌, ◌⊎◌, inl, inr, ◌≤◌, ◌<◌, ◌+◌, ◌-◌, ◌*◌, ℕ, zero, suc, List, [], ◌∷◌, ◌++◌, take, drop, length, refl, sym, ap, ◌∙◌, subst, arith, append_assoc, cond, ltb}
use Rattle.std.proofs.lemmas.List.{append-nil}
use Rattle.std.proofs.lemmas.Bool.{cases_eq, cases_lt, lt-ltb, le-ltb}
use Rattle.std.proofs.Math.Nat.{mul-le-mul_right}
use Rattle.segment.specs.declared.segment_rules.name.Name.{Name}
use Rattle.board.specs.flow.Flow.{Flow, Event, with_value, with_value_at, IsAllowed, after, run, AllAllowed}
use Rattle.board.specs.flow.Flow.Event.{Feed, Count, Deposit}
use Rattle.board.specs.flow.Kept.{Each}
use Rattle.board.specs.flow.Kept.Each.{none, both}
use Rattle.board.proofs.on_flow.Counting.{changed_same, changed_other, changed_at_same, changed_at_gauge, changed_at_worker}
use Rattle.board.specs.arrivals.Arrivals.{Round, fed_to, worker_of, through, AreArrivals, IsRound, start, feeds_of, feeds, counts, IsDone, ArrivalsAreReached}
use Rattle.board.proofs.on_arrivals.Reached.{Line, step_feed, line_at_start, past_end, test_both, test_gauge, test_worker}
use Rattle.board.specs.declared.flow.TheConstants.{BLOCKS_PER_WINDOW}

module _ (block workers : ℕ) (r : Round) where
  run_both : (es fs : List Event) (s : Flow) → run block workers (es ++ fs) s ≡ run block workers fs (run block workers es s)
  run_both [] fs s = refl
  run_both (e ∷ es) fs s = run_both es fs (after block workers s e)

  allowed_both : (es fs : List Event) (s : Flow) → AllAllowed block workers es s → AllAllowed block workers fs (run block workers es s)
      → AllAllowed block workers (es ++ fs) s
  allowed_both [] fs s a b = b
  allowed_both (e ∷ es) fs s a b = (a.0, allowed_both es fs (after block workers s e) a.1 b)

  -- so far only fed
  record Feeding (gauges : ℕ) (s : Flow) : Type 0 where
    line : Line block workers r gauges s
    counted : (v : ℕ) → s.counted v ≡ []
    placed : s.placed ≡ []

  -- n blocks of a gauge were fed, or all; those of later gauges not yet
  record FedSo (gauges g n : ℕ) (s : Flow) : Type 0 where
    feeding : Feeding gauges s
    here : (s.fed g ≡ n) ⊎ ((s.fed g ≤ n) × (length (r.samples g) ≤ r.at g + s.fed g * block))
    before : (h : ℕ) → h < g → s.read h ≡ length (s.samples h)
    later : (h : ℕ) → g < h → s.fed h ≡ 0

  one_feed : (gauges g k : ℕ) (s : Flow) → 0 < block → 0 < workers → IsRound block workers r gauges → FedSo gauges g k s
      → r.at g + k * block < length (r.samples g) →
      (s.read g < length (s.samples g)) × FedSo gauges g (k + 1) (after block workers s (Feed g))
  one_feed gauges g k s pos many ok f h =
      let l = f.feeding.line in
      let fed : s.fed g ≡ k = elim f.here [
        | inl e ↦ e
        | inr e ↦ elim (cases_lt (s.fed g) k) [
          | inl a ↦ (let far : s.fed g * block ≤ k * block = mul-le-mul_right block e.0 in absurd (omega (arith, e.1, h, far)))
          | inr a ↦ omega (arith, a, e.0)
        ]
      ] in
      let same : s.fed g * block ≡ k * block = ap (λ n. n * block) fed in
      let long : length (s.samples g) ≡ length (r.samples g) = ap length (l.samples g) in
      let allowed : s.read g < length (s.samples g) = omega (arith, l.read g, h, same, long) in
      let t = after block workers s (Feed g) in (
        allowed,
        record {
          feeding = record {
            line = step_feed block workers r gauges s g pos many ok l allowed;
            counted = f.feeding.counted;
            placed =
                f.feeding.placed;
          };
          here = inl (changed_same s.fed g (s.fed g + 1) ∙ ap (λ n. n + 1) fed);
          before = λ i less. changed_other s.read g _ i (λ e. omega (arith, e, less)) ∙ f.before i less;
          later = λ i less. changed_other s.fed g (s.fed g + 1) i (λ e. omega (arith, e, less)) ∙ f.later i less;
        },
      )

  no_feed : (gauges g k : ℕ) (s : Flow) → FedSo gauges g k s → length (r.samples g) ≤ r.at g + k * block → FedSo gauges g (k + 1) s
  no_feed gauges g k s f h = record {
    feeding = f.feeding;
    before = f.before;
    later = f.later;
    here = elim f.here [
      | inl e ↦ inr (
        omega (arith, e),
        (let same : s.fed g * block ≡ k * block = ap (λ n. n * block) e in
            omega (arith, h, same)),
      )
      | inr e ↦ inr (omega (arith, e.0), e.1)
    ];
  }

  -- after so many tries
  record Tried (gauges g k : ℕ) (s : Flow) : Type 0 where
    allowed : AllAllowed block workers (feeds_of block workers r g k) s
    so : FedSo gauges g k (run block workers (feeds_of block workers r g k) s)

  tried_or : (gauges g k : ℕ) (s : Flow) → 0 < block → 0 < workers → IsRound block workers r gauges → Tried gauges g k s
      → ((r.at g + k * block < length (r.samples g)) ⊎ (length (r.samples g) ≤ r.at g + k * block)) →
      AllAllowed block workers (feeds_of block workers r g k ++ cond (ltb (r.at g + k * block) (length (r.samples g))) (Feed g ∷ []) []) s
      × FedSo gauges g (k + 1) (run block workers
      (feeds_of block workers r g k ++ cond (ltb (r.at g + k * block) (length (r.samples g))) (Feed g ∷ []) []) s)
  tried_or gauges g k s pos many ok t (inl h) =
      let u = run block workers (feeds_of block workers r g k) s in
      let f = one_feed gauges g k u pos many ok t.so h in
      subst (λ b. AllAllowed block workers (feeds_of block workers r g k ++ cond b (Feed g ∷ []) []) s
      × FedSo gauges g (k + 1) (run block workers (feeds_of block workers r g k ++ cond b (Feed g ∷ []) []) s))
      (sym (lt-ltb (r.at g + k * block) (length (r.samples g)) h)) (
        allowed_both (feeds_of block workers r g k) (Feed g ∷ []) s t.allowed (f.0, tt),
        subst (FedSo gauges g (k + 1)) (sym (run_both (feeds_of block workers r g k) (Feed g ∷ []) s)) f.1,
      )
  tried_or gauges g k s pos many ok t (inr h) =
      subst (λ b. AllAllowed block workers (feeds_of block workers r g k ++ cond b (Feed g ∷ []) []) s
      × FedSo gauges g (k + 1) (run block workers (feeds_of block workers r g k ++ cond b (Feed g ∷ []) []) s))
      (sym (le-ltb (r.at g + k * block) (length (r.samples g)) h)) (
        allowed_both (feeds_of block workers r g k) [] s t.allowed tt,
        subst (FedSo gauges g (k + 1)) (sym (run_both (feeds_of block workers r g k) [] s))
            (no_feed gauges g k (run block workers (feeds_of block workers r g k) s) t.so h),
      )

  tried : (gauges g k : ℕ) (s : Flow) → 0 < block → 0 < workers → IsRound block workers r gauges → FedSo gauges g 0 s → Tried gauges g k s
  tried gauges g zero s pos many ok f = record { allowed = tt; so = f }
  tried gauges g (suc k) s pos many ok f =
      let both_parts = tried_or gauges g k s pos many ok (tried gauges g k s pos many ok f)
      (cases_lt (r.at g + k * block) (length (r.samples g))) in
      record {
        allowed = both_parts.0;
        so =
            subst (λ n. FedSo gauges g n (run block workers (feeds_of block workers r g (suc k)) s)) (omega arith) both_parts.1;
      }

  all_read : (gauges g : ℕ) (s : Flow) → IsRound block workers r gauges → FedSo gauges g BLOCKS_PER_WINDOW s
      → s.read g ≡ length (s.samples g)
  all_read gauges g s ok f =
      let l = f.feeding.line in
      let long : length (s.samples g) ≡ length (r.samples g) = ap length (l.samples g) in
      elim f.here [
        | inl e ↦ (let same : s.fed g * block ≡ BLOCKS_PER_WINDOW * block = ap (λ n. n * block) e in
            omega (arith, l.read g, same, ok.few g, long))
        | inr e ↦ omega (arith, l.read g, e.1, long)
      ]

  record FedAll (gauges n : ℕ) (s : Flow) : Type 0 where
    allowed : AllAllowed block workers (feeds block workers r n) s
    so : FedSo gauges n 0 (run block workers (feeds block workers r n) s)

  fed_all : (gauges n : ℕ) (s : Flow) → 0 < block → 0 < workers → IsRound block workers r gauges → FedSo gauges 0 0 s → FedAll gauges n s
  fed_all gauges zero s pos many ok f = record { allowed = tt; so = f }
  fed_all gauges (suc n) s pos many ok f =
      let first = fed_all gauges n s pos many ok f in
      let u = run block workers (feeds block workers r n) s in
      let t = tried gauges n BLOCKS_PER_WINDOW u pos many ok first.so in
      let more = feeds_of block workers r n BLOCKS_PER_WINDOW in
      let w = run block workers more u in
      record {
        allowed = allowed_both (feeds block workers r n) more s first.allowed t.allowed;
        so = subst (FedSo gauges (suc n) 0) (sym (run_both (feeds block workers r n) more s)) (record {
          feeding = t.so.feeding;
          here = inl (t.so.later (suc n) (omega arith));
          before = λ h less. elim (cases_eq h n) [
            | inl e ↦ subst (λ x. w.read x ≡ length (w.samples x)) (sym e)
                (all_read gauges n w ok t.so)
            | inr e ↦ t.so.before h (omega (arith, less, e))
          ];
          later = λ h less. t.so.later h (omega (arith, less));
        });
      }

  -- what is left of the arrivals is in the rings
  record Leaving (gauges : ℕ) (before rest : List Name) (s : Flow) : Type 0 where
    read : (g : ℕ) → g < gauges → s.read g ≡ length (s.samples g)
    rings : (g v : ℕ) → g < gauges → v < workers → s.rings g v ≡ through block workers r g v rest
    counted : (v : ℕ) → s.counted v ≡ []
    placed : s.placed ≡ before

  through_own : (n : Name) (l : List Name)
      → through block workers r n.gauge (worker_of block workers r n) (n ∷ l)
      ≡ n ∷ through block workers r n.gauge (worker_of block workers r n) l
  through_own n l = ap (λ b. cond b (n ∷ through block workers r n.gauge (worker_of block workers r n) l)
      (through block workers r n.gauge (worker_of block workers r n) l))
      (test_both block workers r n.gauge n.gauge (worker_of block workers r n) (worker_of block workers r n) refl refl)

  ring_or : (gauges : ℕ) (before l : List Name) (n : Name) (s : Flow) → Leaving gauges before (n ∷ l) s → n.gauge < gauges
      → worker_of block workers r n < workers → (g v : ℕ) → g < gauges → v < workers → ((g ≡ n.gauge) ⊎ (g ≡ n.gauge → ⊥))
      → ((v ≡ worker_of block workers r n) ⊎ (v ≡ worker_of block workers r n → ⊥)) →
      with_value_at s.rings n.gauge (worker_of block workers r n) (drop 1 (s.rings n.gauge (worker_of block workers r n))) g v
      ≡ through block workers r g v l
  ring_or gauges before l n s h k w g v a b (inl e) (inl f) =
      let m = worker_of block workers r n in
      subst (λ x. with_value_at s.rings n.gauge m (drop 1 (s.rings n.gauge m)) x v ≡ through block workers r x v l) (sym e)
      (subst (λ y. with_value_at s.rings n.gauge m (drop 1 (s.rings n.gauge m)) n.gauge y ≡ through block workers r n.gauge y l) (sym f)
      (changed_at_same s.rings n.gauge m (drop 1 (s.rings n.gauge m)) ∙ ap (λ x. drop 1 x) (h.rings n.gauge m k w ∙ through_own n l)))
  ring_or gauges before l n s h k w g v a b (inr e) f =
      let m = worker_of block workers r n in
      changed_at_gauge s.rings n.gauge m (drop 1 (s.rings n.gauge m)) g v e ∙ h.rings g v a b
      ∙ ap (λ t. cond t (n ∷ through block workers r g v l) (through block workers r g v l))
      (test_gauge block workers r n.gauge g m v (λ q. e (sym q)))
  ring_or gauges before l n s h k w g v a b (inl e) (inr f) =
      let m = worker_of block workers r n in
      changed_at_worker s.rings n.gauge m (drop 1 (s.rings n.gauge m)) g v f ∙ h.rings g v a b
      ∙ ap (λ t. cond t (n ∷ through block workers r g v l) (through block workers r g v l))
      (test_worker block workers r n.gauge g m v (λ q. f (sym q)))

  one_more : (gauges : ℕ) (before l : List Name) (n : Name) (s : Flow) → 0 < workers → n.gauge < gauges → Leaving gauges before (n ∷ l) s →
      IsAllowed block workers s (Count (worker_of block workers r n) n.gauge)
      × IsAllowed block workers (after block workers s (Count (worker_of block workers r n) n.gauge))
      (Deposit (worker_of block workers r n))
      × Leaving gauges (before ++ n ∷ []) l
      (after block workers (after block workers s (Count (worker_of block workers r n) n.gauge)) (Deposit (worker_of block workers r n)))
  one_more gauges before l n s many k h =
      let v = worker_of block workers r n in let g = n.gauge in
      let w : v < workers = omega (arith, many) in
      let ring : s.rings g v ≡ n ∷ through block workers r g v l = h.rings g v k w ∙ through_own n l in
      let some : length (s.rings g v) ≡ suc (length (through block workers r g v l)) = ap length ring ∙ omega arith in
      let took : take 1 (s.rings g v) ≡ n ∷ [] = ap (λ x. take 1 x) ring in
      let kept : with_value s.counted v (s.counted v ++ take 1 (s.rings g v)) v ≡ n ∷ [] =
      changed_same s.counted v (s.counted v ++ take 1 (s.rings g v)) ∙ ap (λ x. x ++ take 1 (s.rings g v)) (h.counted v) ∙ took in
      let one : length (with_value s.counted v (s.counted v ++ take 1 (s.rings g v)) v) ≡ 1 = ap length kept in
      let t = after block workers s (Count v g) in (
        (w, omega (arith, some)),
        (w, omega (arith, one)),
        record {
          read = h.read;
          rings = λ i j a b. ring_or gauges before l n s h k w i j a b (cases_eq i g) (cases_eq j v);
          counted = λ j. elim (cases_eq j v) [
            | inl e ↦ subst (λ i. with_value t.counted v (drop 1 (t.counted v)) i ≡ []) (sym e)
                (changed_same t.counted v (drop 1 (t.counted v)) ∙ ap (λ x. drop 1 x) kept)
            | inr e ↦ changed_other t.counted v (drop 1 (t.counted v)) j e
                ∙ changed_other s.counted v (s.counted v ++ take 1 (s.rings g v)) j e ∙ h.counted j
          ];
          placed = ap (λ x. x ++ take 1 (t.counted v)) h.placed ∙ ap (λ x. before ++ take 1 x) kept;
        },
      )

  leave : (gauges : ℕ) (l before : List Name) (s : Flow) → 0 < workers → Each (λ n. n.gauge < gauges) l → Leaving gauges before l s →
      AllAllowed block workers (counts block workers r l) s × ((run block workers (counts block workers r l) s).placed ≡ before ++ l)
      × IsDone gauges workers (run block workers (counts block workers r l) s)
  leave gauges [] before s many none h = (
    tt,
    h.placed
        ∙ sym (append-nil before),
    record { read = h.read; rings = h.rings; counted = λ v w. h.counted v },
  )
  leave gauges (n ∷ l) before s many (both k d) h =
      let step = one_more gauges before l n s many k h in
      let rest = leave gauges l (before ++ n ∷ [])
      (after block workers (after block workers s (Count (worker_of block workers r n) n.gauge))
      (Deposit (worker_of block workers r n))) many d step.2 in
      ((step.0, (step.1, rest.0)), rest.1 ∙ append_assoc before (n ∷ []) l, rest.2)

  begin : (gauges : ℕ) → IsRound block workers r gauges → FedSo gauges 0 0 (start block workers r)
  begin gauges ok = record {
    feeding = record { line = line_at_start block workers r gauges ok; counted = λ v. refl; placed = refl };
    here = inl refl;
    before = λ h less. absurd (omega (arith, less));
    later = λ h less. refl;
  }

  -- once all is fed, the rings have what the arrivals have
  ready : (gauges : ℕ) (l : List Name) (s : Flow) → IsRound block workers r gauges → AreArrivals block workers r gauges l
      → FedSo gauges gauges 0 s → Leaving gauges [] l s
  ready gauges l s ok are f =
      let line = f.feeding.line in record {
        read = f.before;
        rings = λ g v a b.
            let whole : through block workers r g v s.placed ++ (through block workers r g v (s.counted v) ++ s.rings g v) ≡ s.rings g v =
            ap (λ x. through block workers r g v x ++ (through block workers r g v (s.counted v) ++ s.rings g v)) f.feeding.placed
            ∙ ap (λ x. through block workers r g v x ++ s.rings g v) (f.feeding.counted v) in
            let long : length (s.samples g) ≡ length (r.samples g) = ap length (line.samples g) in
            let far : length (r.samples g) ≤ r.at g + s.fed g * block = omega (arith, line.read g, f.before g a, long) in
            let sum : s.fed g + (BLOCKS_PER_WINDOW - s.fed g) ≡ BLOCKS_PER_WINDOW = omega (arith, line.few g) in
            sym whole ∙ line.line g v b ∙ sym (past_end block workers r g v (s.fed g) (BLOCKS_PER_WINDOW - s.fed g) far)
            ∙ ap (fed_to block workers r g v) sum ∙ sym (are.through g v a b);
        counted = f.feeding.counted;
        placed = f.feeding.placed;
      }

pub reached : ArrivalsAreReached
reached block workers gauges r l pos many ok are =
    let s = start block workers r in
    let fed = fed_all block workers r gauges gauges s pos many ok (begin block workers r gauges ok) in
    let u = run block workers (feeds block workers r gauges) s in
    let done = leave block workers r gauges l [] u many are.known (ready block workers r gauges l u ok are fed.so) in
    let same = run_both block workers r (feeds block workers r gauges) (counts block workers r l) s in (
      allowed_both block workers r (feeds block workers r gauges) (counts block workers r l) s fed.allowed done.0,
      ap (λ t. t.placed) same ∙ done.1,
      subst (IsDone gauges workers) (sym same) done.2,
    )
