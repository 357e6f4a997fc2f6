-- The names that a lane feeds to a worker are those of the flow.
use Rattle.std.proofs.Common.{◌≡◌, ◌≤◌, ◌<◌, ◌+◌, ◌*◌, ◌%◌, ℕ, suc, List, [], ◌∷◌, ◌++◌, length, refl, sym, ap, ◌∙◌, subst, arith, append_assoc, Bool, true, false, cond, eqb, ltb, min}
use Rattle.std.specs.Prelude.{◌&&◌}
use Rattle.std.proofs.lemmas.List.{append-nil}
use Rattle.std.proofs.lemmas.Bool.{lt-ltb}
use Rattle.board.specs.flow.Flow.{name_of_samples}
use Rattle.board.specs.block_pool.Units.{FilledValue}
use Rattle.board.specs.arrivals.Arrivals.{Round, names_of, name_at, fed_to}
use Rattle.count_workers.specs.declared.block_workers.desk.Desk.{Desk}
use Rattle.count_workers.specs.block_workers.Dealing.{blocks_of_worker}
use Rattle.count_workers.specs.block_workers.Reading.{IsUnit, AreBlocks}
use Rattle.count_workers.specs.block_workers.Reading.AreBlocks.{none, last, more}
use Rattle.count_workers.proofs.on_block_workers.Accounts.{blocks_ascend}

names_cond : (b : Bool) (u : FilledValue) (l : List FilledValue) → names_of (cond b (u ∷ l) l) ≡ cond b (u.name ∷ []) [] ++ names_of l
names_cond true u l = refl
names_cond false u l = refl

module _ (block n : ℕ) (r : Round) (d : Desk) (to : ℕ) (is : block ≡ d.block) (ends : length (r.samples d.gauge) ≡ to) where
  abbrev at : ℕ → ℕ
  at k = r.at d.gauge + k * block

  -- one block is fed
  fed_one : (v k b : ℕ) (u : FilledValue) → IsUnit d (at k) b u → b ≡ min (at k + block) to → at k < to
      → fed_to block n r d.gauge v (suc k) ≡ fed_to block n r d.gauge v k ++ cond (eqb (k % n) v) (u.name ∷ []) []
  fed_one v k b u i e some =
      let test : ltb (at k) (length (r.samples d.gauge)) ≡ true = ap (λ l. ltb (at k) l) ends ∙ lt-ltb (at k) to some in
      let name : name_at block n r d.gauge k ≡ u.name = ap (λ l. name_of_samples d.gauge (at k) (min (at k + block) l)) ends
      ∙ ap (λ l. name_of_samples d.gauge (at k) l) (sym e) ∙ sym i.name in
      ap (λ t. fed_to block n r d.gauge v k ++ cond (t && eqb (k % n) v) (name_at block n r d.gauge k ∷ []) []) test
      ∙ ap (λ m. fed_to block n r d.gauge v k ++ cond (eqb (k % n) v) (m ∷ []) []) name

  step : (v k : ℕ) (u : FilledValue) (us : List FilledValue)
      → fed_to block n r d.gauge v (suc k) ≡ fed_to block n r d.gauge v k ++ cond (eqb (k % n) v) (u.name ∷ []) []
      → fed_to block n r d.gauge v (suc k) ++ names_of (blocks_of_worker n v (k + 1) us) ≡ fed_to block n r d.gauge v (suc k + length us)
      → fed_to block n r d.gauge v k ++ names_of (blocks_of_worker n v k (u ∷ us)) ≡ fed_to block n r d.gauge v (k + length (u ∷ us))
  step v k u us one rest =
      let sum : suc k + length us ≡ k + length (u ∷ us) = omega arith in
      ap (λ l. fed_to block n r d.gauge v k ++ l) (names_cond (eqb (k % n) v) u (blocks_of_worker n v (k + 1) us))
      ∙ sym (append_assoc (fed_to block n r d.gauge v k) (cond (eqb (k % n) v) (u.name ∷ []) [])
      (names_of (blocks_of_worker n v (k + 1) us)))
      ∙ ap (λ l. l ++ names_of (blocks_of_worker n v (k + 1) us)) (sym one) ∙ rest ∙ ap (fed_to block n r d.gauge v) sum

  -- the blocks from the k-th on
  pub blocks_of_worker_names : (v k a b : ℕ) (us : List FilledValue) → AreBlocks d a us b → a ≡ at k → b ≡ to
      → fed_to block n r d.gauge v k ++ names_of (blocks_of_worker n v k us) ≡ fed_to block n r d.gauge v (k + length us)
  blocks_of_worker_names v k a b [] none e f = let same : k ≡ k + 0 = omega arith in
      append-nil (fed_to block n r d.gauge v k) ∙ ap (fed_to block n r d.gauge v) same
  blocks_of_worker_names v k a b (u ∷ []) (last i) e f =
      let j : IsUnit d (at k) to u = subst (λ x. IsUnit d (at k) x u) f (subst (λ x. IsUnit d x b u) e i) in
      let one = fed_one v k to u j (let s = j.short in omega (arith, s, is)) j.some in
      let same : suc k ≡ suc k + 0 = omega arith in
      step v k u [] one (append-nil (fed_to block n r d.gauge v (suc k)) ∙ ap (fed_to block n r d.gauge v) same)
  blocks_of_worker_names v k a b (u ∷ us) (more i h) e f =
      let up : a + d.block ≤ b = blocks_ascend d (a + d.block) b us h in
      let next : a + d.block ≡ at (suc k) = let s : suc k * block ≡ block + k * block = omega arith in omega (arith, e, s, is) in
      let j : IsUnit d (at k) (a + d.block) u = subst (λ x. IsUnit d x (a + d.block) u) e i in
      let one = fed_one v k (a + d.block) u j (omega (arith, e, f, up, is)) (let s = i.some in omega (arith, e, f, s, up)) in
      let plus : suc k ≡ k + 1 = omega arith in
      step v k u us one (ap (λ j. fed_to block n r d.gauge v (suc k) ++ names_of (blocks_of_worker n v j us)) (sym plus)
      ∙ blocks_of_worker_names v (suc k) (a + d.block) b us h next f)
