-- What a round's schedule places.
use Rattle.std.proofs.Common.{◌≡◌, ◌⊎◌, inl, inr, ◌≤◌, ◌<◌, ◌+◌, ◌-◌, ◌*◌, ◌/◌, ◌%◌, ◌&&◌, ℕ, zero, suc, List, [], ◌∷◌, ◌++◌, take, drop, min, length, refl, sym, ap, ◌∙◌, subst, arith, append_assoc, Bool, true, false, cond, eqb, ltb}
use Rattle.std.proofs.lemmas.List.{append-nil}
use Rattle.std.proofs.lemmas.List.Elements.{filter-append}
use Rattle.std.proofs.lemmas.Bool.{cases_eq, cases_lt, eq-eqb, ne_eqb, lt-ltb, le-ltb}
use Rattle.std.proofs.Math.Nat.{mul-div_cancel, mul-le-mul_right}
use Rattle.std.proofs.Math.Bool.{and-false}
use Rattle.segment.specs.declared.segment_rules.name.Name.{Name}
use Rattle.board.specs.flow.Flow.{Flow, Event, name_of_samples, with_value, with_value_at, next, worker_of_next, IsAllowed, after, run, AllAllowed}
use Rattle.board.specs.flow.Flow.Event.{Feed, Count, Deposit, Commit, Stop}
use Rattle.board.specs.flow.Kept.{Each}
use Rattle.board.specs.flow.Kept.Each.{none, both}
use Rattle.board.proofs.on_flow.Counting.{each_append, each_map, each_drop, each_take, changed_same, changed_other, changed_at_same, changed_at_gauge, changed_at_worker, changed_all, changed_at_all}
use Rattle.board.specs.arrivals.Arrivals.{Round, name_at, fed_to, worker_of, through, AreArrivals, IsRound, start, IsRoundEvent, AreRoundEvents, IsDone, ReachedAreArrivals}
use Rattle.board.specs.arrivals.Arrivals.IsRoundEvent.{feed, count, deposit}
use Rattle.board.specs.arrivals.Arrivals.AreRoundEvents.{none as no_event, both as one_event}
use Rattle.board.specs.declared.flow.TheConstants.{BLOCKS_PER_WINDOW}

module _ (block workers : ℕ) (r : Round) where
  pub record Line (gauges : ℕ) (s : Flow) : Type 0 where
    pub samples : (g : ℕ) → s.samples g ≡ r.samples g
    pub read : (g : ℕ) → s.read g ≡ min (r.at g + s.fed g * block) (length (r.samples g))
    pub few : (g : ℕ) → s.fed g ≤ BLOCKS_PER_WINDOW
    pub line : (g v : ℕ) → v < workers → through block workers r g v s.placed ++ (through block workers r g v (s.counted v) ++ s.rings g v)
        ≡ fed_to block workers r g v (s.fed g)
    pub rings : (g v : ℕ) → v < workers → Each (λ n. (n.gauge ≡ g) × (worker_of block workers r n ≡ v) × (n.gauge < gauges)) (s.rings g v)
    pub counted : (v : ℕ) → v < workers → Each (λ n. (worker_of block workers r n ≡ v) × (n.gauge < gauges)) (s.counted v)
    pub placed : Each (λ n. n.gauge < gauges) s.placed

  abbrev passes : ℕ → ℕ → Name → Bool
  passes g v n = eqb n.gauge g && eqb (worker_of block workers r n) v

  pub test_both : (a g b v : ℕ) → a ≡ g → b ≡ v → (eqb a g && eqb b v) ≡ true
  test_both a g b v e f = ap (λ t. t && eqb b v) (eq-eqb a g e) ∙ eq-eqb b v f

  pub test_gauge : (a g b v : ℕ) → (a ≡ g → ⊥) → (eqb a g && eqb b v) ≡ false
  test_gauge a g b v e = ap (λ t. t && eqb b v) (ne_eqb a g e)

  pub test_worker : (a g b v : ℕ) → (b ≡ v → ⊥) → (eqb a g && eqb b v) ≡ false
  test_worker a g b v e = ap (λ t. eqb a g && t) (ne_eqb b v e) ∙ and-false (eqb a g)

  all_pass : (g v : ℕ) (l : List Name) → Each (λ n. passes g v n ≡ true) l → through block workers r g v l ≡ l
  all_pass g v [] none = refl
  all_pass g v (n ∷ l) (both p d) = ap (λ b. cond b (n ∷ through block workers r g v l) (through block workers r g v l)) p
      ∙ ap (λ m. n ∷ m) (all_pass g v l d)

  none_pass : (g v : ℕ) (l : List Name) → Each (λ n. passes g v n ≡ false) l → through block workers r g v l ≡ []
  none_pass g v [] none = refl
  none_pass g v (n ∷ l) (both p d) = ap (λ b. cond b (n ∷ through block workers r g v l) (through block workers r g v l)) p
      ∙ none_pass g v l d

  cut : (l : List Name) → take 1 l ++ drop 1 l ≡ l
  cut [] = refl
  cut (n ∷ l) = refl

  through_both : (g v : ℕ) (k l : List Name)
      → through block workers r g v (k ++ l) ≡ through block workers r g v k ++ through block workers r g v l
  through_both g v k l = filter-append (passes g v) k l

  worker_is : (g k : ℕ) → 0 < block → worker_of block workers r (name_at block workers r g k) ≡ k % workers
  worker_is g k pos =
      let e : r.at g + k * block - r.at g ≡ k * block = omega arith in
      ap (λ m. (m / block) % workers) e ∙ ap (λ m. m % workers) (mul-div_cancel k pos)

  fed_more : (g v k : ℕ) → r.at g + k * block < length (r.samples g)
      → fed_to block workers r g v (k + 1)
      ≡ fed_to block workers r g v k ++ cond (eqb (k % workers) v) (name_at block workers r g k ∷ []) []
  fed_more g v k h =
      let e : k + 1 ≡ suc k = omega arith in
      ap (fed_to block workers r g v) e ∙ ap
      (λ b. fed_to block workers r g v k ++ cond (b && eqb (k % workers) v) (name_at block workers r g k ∷ []) [])
      (lt-ltb (r.at g + k * block) (length (r.samples g)) h)

  -- nothing is fed behind the end
  pub past_end : (g v n j : ℕ) → length (r.samples g) ≤ r.at g + n * block
      → fed_to block workers r g v (n + j) ≡ fed_to block workers r g v n
  past_end g v n zero h = let e : n + 0 ≡ n = omega arith in ap (fed_to block workers r g v) e
  past_end g v n (suc j) h =
      let e : n + suc j ≡ suc (n + j) = omega arith in
      let far : (n + j) * block ≡ n * block + j * block = omega arith in
      let test : ltb (r.at g + (n + j) * block) (length (r.samples g)) ≡ false =
      le-ltb (r.at g + (n + j) * block) (length (r.samples g)) (omega (arith, h, far)) in
      ap (fed_to block workers r g v) e ∙ ap
      (λ b. fed_to block workers r g v (n + j) ++ cond (b && eqb ((n + j) % workers) v) (name_at block workers r g (n + j) ∷ []) []) test
      ∙ append-nil (fed_to block workers r g v (n + j)) ∙ past_end g v n j h

  fed_line : (g v w k : ℕ) (a b c : List Name) (m : Name) → m ≡ name_at block workers r g k → k % workers ≡ w
      → r.at g + k * block < length (r.samples g) → a ++ (b ++ c) ≡ fed_to block workers r g v k
      → ((v ≡ w) ⊎ (v ≡ w → ⊥)) → (d : List Name) → (v ≡ w → d ≡ c ++ m ∷ []) → ((v ≡ w → ⊥) → d ≡ c)
      → a ++ (b ++ d) ≡ fed_to block workers r g v (k + 1)
  fed_line g v w k a b c m is at h e (inl q) d here there =
      ap (λ x. a ++ (b ++ x)) (here q) ∙ ap (λ x. a ++ x) (sym (append_assoc b c (m ∷ []))) ∙ sym (append_assoc a (b ++ c) (m ∷ []))
      ∙ ap (λ x. x ++ m ∷ []) e
      ∙ ap (λ x. fed_to block workers r g v k ++ x ∷ []) is
      ∙ sym (fed_more g v k h ∙ ap (λ t. fed_to block workers r g v k ++ cond t (name_at block workers r g k ∷ []) [])
      (eq-eqb (k % workers) v (at ∙ sym q)))
  fed_line g v w k a b c m is at h e (inr q) d here there =
      ap (λ x. a ++ (b ++ x)) (there q) ∙ e
      ∙ sym (fed_more g v k h ∙ ap (λ t. fed_to block workers r g v k ++ cond t (name_at block workers r g k ∷ []) [])
      (ne_eqb (k % workers) v (λ p. q (sym p ∙ at))) ∙ append-nil (fed_to block workers r g v k))

  fed_or : (s : Flow) (g w : ℕ) (m : Name) (gauges : ℕ) → Line gauges s → m ≡ name_at block workers r g (s.fed g) → (s.fed g) % workers ≡ w
      → r.at g + s.fed g * block < length (r.samples g) → (h v : ℕ) → v < workers → ((h ≡ g) ⊎ (h ≡ g → ⊥)) →
      through block workers r h v s.placed ++
      (through block workers r h v (s.counted v) ++ with_value_at s.rings g w (s.rings g w ++ m ∷ []) h v)
      ≡ fed_to block workers r h v (with_value s.fed g (s.fed g + 1) h)
  fed_or s g w m gauges l is at more_left h v few (inl q) =
      subst (λ x. through block workers r x v s.placed ++
      (through block workers r x v (s.counted v) ++ with_value_at s.rings g w (s.rings g w ++ m ∷ []) x v)
      ≡ fed_to block workers r x v (with_value s.fed g (s.fed g + 1) x)) (sym q)
      (fed_line g v w (s.fed g) (through block workers r g v s.placed) (through block workers r g v (s.counted v))
      (s.rings g v) m is at more_left (l.line g v few) (cases_eq v w)
      (with_value_at s.rings g w (s.rings g w ++ m ∷ []) g v)
      (λ e. subst (λ u. with_value_at s.rings g w (s.rings g w ++ m ∷ []) g u ≡ s.rings g u ++ m ∷ []) (sym e)
      (changed_at_same s.rings g w (s.rings g w ++ m ∷ [])))
      (λ e. changed_at_worker s.rings g w (s.rings g w ++ m ∷ []) g v e)
      ∙ ap (fed_to block workers r g v) (sym (changed_same s.fed g (s.fed g + 1))))
  fed_or s g w m gauges l is at more_left h v few (inr q) =
      ap (λ x. through block workers r h v s.placed ++ (through block workers r h v (s.counted v) ++ x))
      (changed_at_gauge s.rings g w (s.rings g w ++ m ∷ []) h v q) ∙ l.line h v few
      ∙ ap (fed_to block workers r h v) (sym (changed_other s.fed g (s.fed g + 1) h q))

  pub step_feed : (gauges : ℕ) (s : Flow) (g : ℕ) → 0 < block → 0 < workers → IsRound block workers r gauges → Line gauges s
      → s.read g < length (s.samples g) → Line gauges (after block workers s (Feed g))
  step_feed gauges s g pos many ok l h =
      let n = length (r.samples g) in
      let m = next block workers s g in
      let w = worker_of_next block workers s g in
      let long : length (s.samples g) ≡ n = ap length (l.samples g) in
      let stands : s.read g ≡ r.at g + s.fed g * block = omega (arith, l.read g, h, long) in
      let left : r.at g + s.fed g * block < n = omega (arith, stands, h, long) in
      let below : s.fed g < BLOCKS_PER_WINDOW = elim (cases_lt (s.fed g) BLOCKS_PER_WINDOW) [
        | inl a ↦ a
        | inr a ↦ (let far : BLOCKS_PER_WINDOW * block ≤ s.fed g * block =
            mul-le-mul_right block a in absurd (omega (arith, ok.few g, left, far)))
      ] in
      let small : s.fed g % BLOCKS_PER_WINDOW ≡ s.fed g = omega (arith, below) in
      let at : (s.fed g) % workers ≡ w = ap (λ k. k % workers) (sym small) in
      let is : m ≡ name_at block workers r g (s.fed g) = ap (λ k. name_of_samples g k (min (k + block) (length (s.samples g)))) stands
      ∙ ap (λ k. name_of_samples g (r.at g + s.fed g * block) (min (r.at g + s.fed g * block + block) k)) long in
      let known : g < gauges = elim (cases_lt g gauges) [ inl a ↦ a | inr a ↦ absurd (omega (arith, ok.others g a, left)) ] in
      let to : m.to ≡ min (s.read g + block) (length (s.samples g)) = refl in
      let next_read : m.to ≡ min (r.at g + (s.fed g + 1) * block) n = omega (arith, to, stands, long) in
      record {
        samples = l.samples;
        read = λ i. elim (cases_eq i g) [
          | inl q ↦ subst (λ x. with_value s.read g m.to x ≡
              min (r.at x + with_value s.fed g (s.fed g + 1) x * block) (length (r.samples x)))
              (sym q) (changed_same s.read g m.to ∙ next_read
              ∙ ap (λ k. min (r.at g + k * block) n) (sym (changed_same s.fed g (s.fed g + 1))))
          | inr q ↦ changed_other s.read g m.to i q ∙ l.read i
              ∙ ap (λ k. min (r.at i + k * block) (length (r.samples i))) (sym (changed_other s.fed g (s.fed g + 1) i q))
        ];
        few = changed_all (λ i k. k ≤ BLOCKS_PER_WINDOW) s.fed g (s.fed g + 1) l.few (omega (arith, below));
        line = λ i v b. fed_or s g w m gauges l is at left i v b (cases_eq i g);
        rings = changed_at_all (λ i j x. j < workers
            → Each (λ n. (n.gauge ≡ i) × (worker_of block workers r n ≡ j) × (n.gauge < gauges)) x) s.rings g w
            (s.rings g w ++ m ∷ []) l.rings
            (λ b. each_append (s.rings g w) (m ∷ []) (l.rings g w b)
            (both (refl, ap (worker_of block workers r) is ∙ worker_is g (s.fed g) pos ∙ at, known) none));
        counted = l.counted;
        placed = l.placed;
      }

  counted_line : (g v : ℕ) (a b c t d : List Name) → t ++ d ≡ c → through block workers r g v t ≡ t
      → a ++ (through block workers r g v b ++ c) ≡ a ++ (through block workers r g v (b ++ t) ++ d)
  counted_line g v a b c t d e p = ap (λ x. a ++ x) (ap (λ x. through block workers r g v b ++ x) (sym e)
      ∙ sym (append_assoc (through block workers r g v b) t d) ∙ ap (λ x. (through block workers r g v b ++ x) ++ d) (sym p)
      ∙ ap (λ x. x ++ d) (sym (through_both g v b t)))

  count_or : (gauges : ℕ) (s : Flow) (g v : ℕ) → v < workers → Line gauges s → (h u : ℕ) → u < workers → ((h ≡ g) ⊎ (h ≡ g → ⊥))
      → ((u ≡ v) ⊎ (u ≡ v → ⊥)) →
      through block workers r h u s.placed ++
      (through block workers r h u (with_value s.counted v (s.counted v ++ take 1 (s.rings g v)) u) ++ with_value_at s.rings g v
      (drop 1 (s.rings g v)) h u) ≡ through block workers r h u s.placed ++ (through block workers r h u (s.counted u) ++ s.rings h u)
  count_or gauges s g v w l h u k (inl e) (inl f) =
      let claim : ℕ → ℕ → Type 0 = λ x y. through block workers r x y s.placed ++
      (through block workers r x y (with_value s.counted v (s.counted v ++ take 1 (s.rings g v)) y) ++ with_value_at s.rings g v
      (drop 1 (s.rings g v)) x y) ≡ through block workers r x y s.placed ++ (through block workers r x y (s.counted y) ++ s.rings x y) in
      let own : through block workers r g v (take 1 (s.rings g v)) ≡ take 1 (s.rings g v) =
      all_pass g v (take 1 (s.rings g v))
      (each_take (s.rings g v) (each_map (s.rings g v) (λ n p. test_both n.gauge g (worker_of block workers r n) v p.0 p.1)
      (l.rings g v w))) in
      subst (λ x. claim x u) (sym e) (subst (λ y. claim g y) (sym f)
      (ap (λ x. through block workers r g v s.placed ++
      (through block workers r g v x ++ with_value_at s.rings g v (drop 1 (s.rings g v)) g v))
      (changed_same s.counted v (s.counted v ++ take 1 (s.rings g v)))
      ∙ ap (λ x. through block workers r g v s.placed ++ (through block workers r g v (s.counted v ++ take 1 (s.rings g v)) ++ x))
      (changed_at_same s.rings g v (drop 1 (s.rings g v)))
      ∙ sym (counted_line g v (through block workers r g v s.placed) (s.counted v) (s.rings g v) (take 1 (s.rings g v))
      (drop 1 (s.rings g v)) (cut (s.rings g v)) own)))
  count_or gauges s g v w l h u k (inr e) (inl f) =
      let claim : ℕ → Type 0 = λ y. through block workers r h y s.placed ++
      (through block workers r h y (with_value s.counted v (s.counted v ++ take 1 (s.rings g v)) y) ++ with_value_at s.rings g v
      (drop 1 (s.rings g v)) h y) ≡ through block workers r h y s.placed ++ (through block workers r h y (s.counted y) ++ s.rings h y) in
      let other : through block workers r h v (take 1 (s.rings g v)) ≡ [] =
      none_pass h v (take 1 (s.rings g v))
      (each_take (s.rings g v) (each_map (s.rings g v)
      (λ n p. test_gauge n.gauge h (worker_of block workers r n) v (λ q. e (sym q ∙ p.0))) (l.rings g v w))) in
      subst claim (sym f)
      (ap (λ x. through block workers r h v s.placed ++
      (through block workers r h v x ++ with_value_at s.rings g v (drop 1 (s.rings g v)) h v))
      (changed_same s.counted v (s.counted v ++ take 1 (s.rings g v)))
      ∙ ap (λ x. through block workers r h v s.placed ++ (through block workers r h v (s.counted v ++ take 1 (s.rings g v)) ++ x))
      (changed_at_gauge s.rings g v (drop 1 (s.rings g v)) h v e)
      ∙ ap (λ x. through block workers r h v s.placed ++ (x ++ s.rings h v)) (through_both h v (s.counted v) (take 1 (s.rings g v))
      ∙ ap (λ x. through block workers r h v (s.counted v) ++ x) other ∙ append-nil (through block workers r h v (s.counted v))))
  count_or gauges s g v w l h u k e (inr f) =
      ap (λ x. through block workers r h u s.placed ++
      (through block workers r h u x ++ with_value_at s.rings g v (drop 1 (s.rings g v)) h u))
      (changed_other s.counted v (s.counted v ++ take 1 (s.rings g v)) u f)
      ∙ ap (λ x. through block workers r h u s.placed ++ (through block workers r h u (s.counted u) ++ x))
      (changed_at_worker s.rings g v (drop 1 (s.rings g v)) h u f)

  step_count : (gauges : ℕ) (s : Flow) (v g : ℕ) → v < workers → Line gauges s → Line gauges (after block workers s (Count v g))
  step_count gauges s v g w l = record {
    samples = l.samples;
    read = l.read;
    few = l.few;
    line = λ h u k. count_or gauges s g v w l h u k (cases_eq h g) (cases_eq u v) ∙ l.line h u k;
    rings = changed_at_all (λ i j x. j < workers
        → Each (λ n. (n.gauge ≡ i) × (worker_of block workers r n ≡ j) × (n.gauge < gauges)) x) s.rings g v (drop 1 (s.rings g v)) l.rings
        (λ b. each_drop (s.rings g v) (l.rings g v b));
    counted = changed_all (λ j x. j < workers → Each (λ n. (worker_of block workers r n ≡ j) × (n.gauge < gauges)) x) s.counted v
        (s.counted v ++ take 1 (s.rings g v)) l.counted
        (λ b. each_append (s.counted v) (take 1 (s.rings g v)) (l.counted v b)
        (each_take (s.rings g v) (each_map (s.rings g v) (λ n p. (p.1, p.2)) (l.rings g v b))));
    placed = l.placed;
  }

  deposit_or : (gauges : ℕ) (s : Flow) (v : ℕ) → v < workers → Line gauges s → (h u : ℕ) → u < workers → ((u ≡ v) ⊎ (u ≡ v → ⊥)) →
      through block workers r h u (s.placed ++ take 1 (s.counted v)) ++
      (through block workers r h u (with_value s.counted v (drop 1 (s.counted v)) u) ++ s.rings h u)
      ≡ through block workers r h u s.placed ++ (through block workers r h u (s.counted u) ++ s.rings h u)
  deposit_or gauges s v w l h u k (inl f) =
      let claim : ℕ → Type 0 = λ y. through block workers r h y (s.placed ++ take 1 (s.counted v)) ++
      (through block workers r h y (with_value s.counted v (drop 1 (s.counted v)) y) ++ s.rings h y)
      ≡ through block workers r h y s.placed ++ (through block workers r h y (s.counted y) ++ s.rings h y) in
      let split : through block workers r h v (take 1 (s.counted v)) ++ through block workers r h v (drop 1 (s.counted v))
      ≡ through block workers r h v (s.counted v) = sym (through_both h v (take 1 (s.counted v)) (drop 1 (s.counted v)))
      ∙ ap (through block workers r h v) (cut (s.counted v)) in
      let p = through block workers r h v s.placed in let a = through block workers r h v (take 1 (s.counted v)) in
      let b = through block workers r h v (drop 1 (s.counted v)) in
      subst claim (sym f)
      (ap (λ x. through block workers r h v (s.placed ++ take 1 (s.counted v)) ++ (through block workers r h v x ++ s.rings h v))
      (changed_same s.counted v (drop 1 (s.counted v)))
      ∙ ap (λ x. x ++ (b ++ s.rings h v)) (through_both h v s.placed (take 1 (s.counted v)))
      ∙ append_assoc p a (b ++ s.rings h v) ∙ ap (λ x. p ++ x) (sym (append_assoc a b (s.rings h v)) ∙ ap (λ x. x ++ s.rings h v) split))
  deposit_or gauges s v w l h u k (inr f) =
      let other : through block workers r h u (take 1 (s.counted v)) ≡ [] =
      none_pass h u (take 1 (s.counted v))
      (each_take (s.counted v) (each_map (s.counted v)
      (λ n p. test_worker n.gauge h (worker_of block workers r n) u (λ q. f (sym q ∙ p.0))) (l.counted v w))) in
      ap (λ x. through block workers r h u (s.placed ++ take 1 (s.counted v)) ++ (through block workers r h u x ++ s.rings h u))
      (changed_other s.counted v (drop 1 (s.counted v)) u f)
      ∙ ap (λ x. x ++ (through block workers r h u (s.counted u) ++ s.rings h u)) (through_both h u s.placed (take 1 (s.counted v))
      ∙ ap (λ x. through block workers r h u s.placed ++ x) other ∙ append-nil (through block workers r h u s.placed))

  step_deposit : (gauges : ℕ) (s : Flow) (v : ℕ) → v < workers → Line gauges s → Line gauges (after block workers s (Deposit v))
  step_deposit gauges s v w l = record {
    samples = l.samples;
    read = l.read;
    few = l.few;
    line = λ h u k. deposit_or gauges s v w l h u k (cases_eq u v) ∙ l.line h u k;
    rings = l.rings;
    counted = changed_all (λ j x. j < workers → Each (λ n. (worker_of block workers r n ≡ j) × (n.gauge < gauges)) x) s.counted v
        (drop 1 (s.counted v)) l.counted (λ b. each_drop (s.counted v) (l.counted v b));
    placed = each_append s.placed (take 1 (s.counted v)) l.placed
        (each_take (s.counted v) (each_map (s.counted v) (λ n p. p.1) (l.counted v w)));
  }

  step : (gauges : ℕ) (s : Flow) (e : Event) → 0 < block → 0 < workers → IsRound block workers r gauges → IsRoundEvent e → Line gauges s
      → IsAllowed block workers s e → Line gauges (after block workers s e)
  step gauges s (Feed g) pos many ok feed l a = step_feed gauges s g pos many ok l a
  step gauges s (Count v g) pos many ok count l a = step_count gauges s v g a.0 l
  step gauges s (Deposit v) pos many ok deposit l a = step_deposit gauges s v a.0 l
  step gauges s (Commit g e) pos many ok i l a = elim i [ ]
  step gauges s (Stop more) pos many ok i l a = elim i [ ]

  steps : (gauges : ℕ) (es : List Event) (s : Flow) → 0 < block → 0 < workers → IsRound block workers r gauges → AreRoundEvents es
      → Line gauges s → AllAllowed block workers es s → Line gauges (run block workers es s)
  steps gauges [] s pos many ok no_event l a = l
  steps gauges (e ∷ es) s pos many ok (one_event i is) l a =
      steps gauges es (after block workers s e) pos many ok is (step gauges s e pos many ok i l a.0) a.1

  pub line_at_start : (gauges : ℕ) → IsRound block workers r gauges → Line gauges (start block workers r)
  line_at_start gauges ok = record {
    samples = λ g. refl;
    read = λ g. omega (arith, ok.at g);
    few = λ g. omega arith;
    line = λ g v w. refl;
    rings = λ g v w. none;
    counted = λ v w. none;
    placed = none;
  }

  at_end : (gauges : ℕ) (s : Flow) → IsRound block workers r gauges → Line gauges s → IsDone gauges workers s
      → AreArrivals block workers r gauges s.placed
  at_end gauges s ok l done = record {
    known = l.placed;
    through = λ g v a b.
        let p = through block workers r g v s.placed in
        let all : p ++ (through block workers r g v (s.counted v) ++ s.rings g v) ≡ p =
        ap (λ x. p ++ (through block workers r g v x ++ s.rings g v)) (done.counted v b) ∙ ap (λ x. p ++ x) (done.rings g v a b)
        ∙ append-nil p in
        let long : length (s.samples g) ≡ length (r.samples g) = ap length (l.samples g) in
        let far : length (r.samples g) ≤ r.at g + s.fed g * block = omega (arith, l.read g, done.read g a, long) in
        let sum : s.fed g + (BLOCKS_PER_WINDOW - s.fed g) ≡ BLOCKS_PER_WINDOW = omega (arith, l.few g) in
        sym all ∙ l.line g v b ∙ sym (past_end g v (s.fed g) (BLOCKS_PER_WINDOW - s.fed g) far) ∙ ap (fed_to block workers r g v) sum;
  }

pub are_arrivals : ReachedAreArrivals
are_arrivals block workers gauges r es pos many ok are allowed done =
    at_end block workers r gauges (run block workers es (start block workers r)) ok
    (steps block workers r gauges es (start block workers r) pos many ok are (line_at_start block workers r gauges ok) allowed) done
