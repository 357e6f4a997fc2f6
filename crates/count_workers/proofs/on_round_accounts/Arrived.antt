-- In what order the units came back.
use Rattle.std.proofs.Common.{◌≡◌, ◌≢◌, ◌⊎◌, inl, inr, ◌≤◌, ◌<◌, ◌+◌, ◌*◌, ◌-◌, ◌/◌, ◌%◌, ℕ, zero, suc, List, [], ◌∷◌, ◌++◌, length, refl, sym, ap, ◌∙◌, subst, arith, Bool, true, false, cond, eqb}
use Rattle.std.specs.Prelude.{◌&&◌}
use Rattle.std.specs.List.{filter}
use Rattle.std.proofs.lemmas.Bool.{cases_eq, cases_lt, eq-eqb, ne_eqb, eqb-true}
use Rattle.std.proofs.lemmas.List.{append-nil}
use Rattle.std.proofs.Math.Nat.{mul-div_cancel}
use Rattle.std.proofs.Math.Bool.{and-false}
use Rattle.calibration.specs.Grid.{GridValue}
use Rattle.segment.specs.declared.segment_rules.name.Name.{Name}
use Rattle.board.specs.flow.Kept.{Each}
use Rattle.board.proofs.on_flow.Counting.{each_map, each_append, each_cond}
use Rattle.board.specs.block_pool.Units.{FilledValue, CountedValue}
use Rattle.board.specs.deposits.Deposited.{unit_names}
use Rattle.board.specs.flow.Kept.Each.{none as no_item, both}
use Rattle.board.proofs.on_deposits.Mixing.{mixed_filter, mixed_beyond, filter_both}
use Rattle.board.specs.arrivals.Arrivals.{Round as RoundOfFlow, names_of, fed_to, worker_of, AreArrivals}
use Rattle.board.proofs.on_arrivals.Reached.{past_end}
use Rattle.count_workers.specs.declared.block_workers.desk.Desk.{Desk}
use Rattle.count_workers.specs.block_workers.Dealing.{blocks_of_worker}
use Rattle.count_workers.specs.block_workers.Reading.{AreBlocks}
use Rattle.count_workers.specs.block_workers.Reading.AreBlocks.{none, last, more}
use Rattle.count_workers.specs.block_workers.Working.{in_turn}
use Rattle.count_workers.proofs.on_round_accounts.Names.{blocks_of_worker_names}
use Rattle.count_workers.proofs.on_round_accounts.Taken.{AreTaken, blocks_reach, each_name, list_names, mixed_names, taken_known}
use Rattle.board.specs.declared.flow.TheConstants.{BLOCKS_PER_WINDOW}

-- a name of a gauge, and of a block that a worker gets
pub record IsOf (block workers : ℕ) (r : RoundOfFlow) (g v : ℕ) (x : Name) : Type 0 where
  pub gauge : x.gauge ≡ g
  pub worker : worker_of block workers r x ≡ v

number_of : (block workers : ℕ) (r : RoundOfFlow) (g k : ℕ) (x : Name) → 0 < block → x.gauge ≡ g → x.from ≡ r.at g + k * block
    → worker_of block workers r x ≡ k % workers
number_of block workers r g k x pos e f =
    let start : r.at x.gauge ≡ r.at g = ap r.at e in
    let over_start : x.from - r.at x.gauge ≡ k * block = omega (arith, f, start) in
    ap (λ z. (z / block) % workers) over_start ∙ ap (λ z. z % workers) (mul-div_cancel k pos)

of_cond : (P : FilledValue → Type 0) (k v n : ℕ) (u : FilledValue) (l : List FilledValue) → ((k % n ≡ v) → P u) → Each P l
    → Each P (cond (eqb (k % n) v) (u ∷ l) l)
of_cond P k v n u l p d = each_cond u l (eqb (k % n) v) (λ t. p (eqb-true (k % n) v t)) d

-- the blocks of a lane that a worker is dealt
pub blocks_of_worker_of : (block workers : ℕ) (r : RoundOfFlow) (v k : ℕ) (d : Desk) (a b : ℕ) (us : List FilledValue) → 0 < block →
    d.block ≡ block
    → AreBlocks d a us b → a ≡ r.at d.gauge + k * block →
    Each (λ u. IsOf block workers r d.gauge v u.name) (blocks_of_worker workers v k us)
blocks_of_worker_of block workers r v k d a b [] pos s none e = no_item
blocks_of_worker_of block workers r v k d a b (u ∷ []) pos s (last i) e =
    let gauge : u.name.gauge ≡ d.gauge = ap (λ x. x.gauge) i.name in let from : u.name.from ≡ a = ap (λ x. x.from) i.name in
    of_cond (λ x. IsOf block workers r d.gauge v x.name) k v workers u []
    (λ q. record { gauge = gauge; worker = number_of block workers r d.gauge k u.name pos gauge (from ∙ e) ∙ q }) no_item
blocks_of_worker_of block workers r v k d a b (u ∷ us) pos s (more i h) e =
    let gauge : u.name.gauge ≡ d.gauge = ap (λ x. x.gauge) i.name in let from : u.name.from ≡ a = ap (λ x. x.from) i.name in
    let next : a + d.block ≡ r.at d.gauge + (k + 1) * block = let m : (k + 1) * block ≡ k * block + block = omega arith in
    omega (arith, e, s, m) in
    of_cond (λ x. IsOf block workers r d.gauge v x.name) k v workers u (blocks_of_worker workers v (k + 1) us)
    (λ q. record { gauge = gauge; worker = number_of block workers r d.gauge k u.name pos gauge (from ∙ e) ∙ q })
    (blocks_of_worker_of block workers r v (k + 1) d (a + d.block) b us pos s h next)

-- lists that pass a test, and lists that do not
pub filter_all : (t : Name → Bool) (l : List Name) → Each (λ x. t x ≡ true) l → filter t l ≡ l
filter_all t [] no_item = refl
filter_all t (x ∷ l) (both p d) = ap (λ b. cond b (x ∷ filter t l) (filter t l)) p ∙ ap (λ m. x ∷ m) (filter_all t l d)

pub filter_none : (t : Name → Bool) (l : List Name) → Each (λ x. t x ≡ false) l → filter t l ≡ []
filter_none t [] no_item = refl
filter_none t (x ∷ l) (both p d) = ap (λ b. cond b (x ∷ filter t l) (filter t l)) p ∙ filter_none t l d

turn_filter : (t : Name → Bool) (n g : ℕ) (f : ℕ → List Name) → g < n → ((h : ℕ) → h < n → h ≢ g → filter t (f h) ≡ [])
    → filter t (in_turn n f) ≡ filter t (f g)
turn_filter t zero g f l o = absurd (omega (arith, l))
turn_filter t (suc n) g f l o = elim (cases_eq g n) [
  | inl e ↦ (
      let rest : filter t (in_turn n f) ≡ [] = turn_none t n f (λ h m. o h (omega arith) (λ q. absurd (omega (arith, q, e, m)))) in
      filter_both t (in_turn n f) (f n) ∙ ap (λ m. m ++ filter t (f n)) rest ∙ ap (λ j. filter t (f j)) (sym e))
  | inr d ↦ (
      let here : filter t (f n) ≡ [] = o n (omega arith) (λ q. d (sym q)) in
      filter_both t (in_turn n f) (f n) ∙ ap (λ m. filter t (in_turn n f) ++ m) here ∙ append-nil (filter t (in_turn n f))
      ∙ turn_filter t n g f (omega (arith, l, d)) (λ h m q. o h (omega arith) q))
]
  where
    turn_none : (t : Name → Bool) (n : ℕ) (f : ℕ → List Name) → ((h : ℕ) → h < n → filter t (f h) ≡ []) → filter t (in_turn n f) ≡ []
    turn_none t zero f o = refl
    turn_none t (suc n) f o = filter_both t (in_turn n f) (f n)
        ∙ ap (λ m. m ++ filter t (f n)) (turn_none t n f (λ h m. o h (omega arith))) ∙ o n (omega arith)

module _ (block : ℕ) (kind : GridValue) (n workers : ℕ) (at to : ℕ → ℕ) (desk : ℕ → Desk) (given : ℕ → List FilledValue) (lists : ℕ
    → List CountedValue) (units : List CountedValue) (h : AreTaken block kind n workers at to desk given lists units)
    (r : RoundOfFlow) (starts : (g : ℕ) → g < n → r.at g ≡ at g) (ends : (g : ℕ) → g < n → length (r.samples g) ≡ to g) where
  abbrev test : ℕ → ℕ → Name → Bool
  test g v x = eqb x.gauge g && eqb (worker_of block workers r x) v

  ring_names : (g v : ℕ) → g < n → Each (IsOf block workers r g v) (names_of (blocks_of_worker workers v 0 (given g)))
  ring_names g v l =
      let z : at g ≡ r.at (desk g).gauge + 0 * block = let e : r.at (desk g).gauge ≡ at g = ap r.at (h.gauge g l) ∙ starts g l in
      omega (arith, e) in
      subst (λ j. Each (IsOf block workers r j v) (names_of (blocks_of_worker workers v 0 (given g)))) (h.gauge g l)
      (each_name (blocks_of_worker workers v 0 (given g))
      (blocks_of_worker_of block workers r v 0 (desk g) (at g) (to g) (given g) h.some.0 (h.size g l) (h.blocks g l) z))

  passes : (g v : ℕ) (x : Name) → IsOf block workers r g v x → test g v x ≡ true
  passes g v x i = ap (λ b. b && eqb (worker_of block workers r x) v) (eq-eqb x.gauge g i.gauge)
      ∙ eq-eqb (worker_of block workers r x) v i.worker

  fails_gauge : (g v k u : ℕ) (x : Name) → k ≢ g → IsOf block workers r k u x → test g v x ≡ false
  fails_gauge g v k u x o i = ap (λ b. b && eqb (worker_of block workers r x) v) (ne_eqb x.gauge g (λ q. o (sym i.gauge ∙ q)))

  fails_worker : (g v k u : ℕ) (x : Name) → u ≢ v → IsOf block workers r k u x → test g v x ≡ false
  fails_worker g v k u x o i = ap (λ b. eqb x.gauge g && b) (ne_eqb (worker_of block workers r x) v (λ q. o (sym i.worker ∙ q)))
      ∙ and-false (eqb x.gauge g)

  -- of the names that were dealt to a worker, those of a gauge
  of_worker : (g v : ℕ) → g < n → v < workers → filter (test g v) (unit_names (lists v)) ≡ names_of (blocks_of_worker workers v 0 (given g))
  of_worker g v l m =
      ap (filter (test g v)) (list_names block kind n workers at to desk given lists units h v m)
      ∙ turn_filter (test g v) n g (λ k. names_of (blocks_of_worker workers v 0 (given k))) l
      (λ k q o. filter_none (test g v) (names_of (blocks_of_worker workers v 0 (given k)))
      (each_map (names_of (blocks_of_worker workers v 0 (given k))) (λ x i. fails_gauge g v k v x o i) (ring_names k v q)))
      ∙ filter_all (test g v) (names_of (blocks_of_worker workers v 0 (given g)))
      (each_map (names_of (blocks_of_worker workers v 0 (given g))) (passes g v) (ring_names g v l))

  of_other : (g v u : ℕ) → u < workers → u ≢ v → filter (test g v) (unit_names (lists u)) ≡ []
  of_other g v u m o =
      ap (filter (test g v)) (list_names block kind n workers at to desk given lists units h u m)
      ∙ filter_none (test g v) (in_turn n (λ k. names_of (blocks_of_worker workers u 0 (given k)))) (turn_fails (test g v) n u)
    where
      turn_some : (j : ℕ) → j ≤ n → Each (λ x. test g v x ≡ false) (in_turn j (λ k. names_of (blocks_of_worker workers u 0 (given k))))
      turn_some zero q = no_item
      turn_some (suc j) q = each_append (in_turn j (λ k. names_of (blocks_of_worker workers u 0 (given k))))
          (names_of (blocks_of_worker workers u 0 (given j)))
          (turn_some j (omega (arith, q)))
          (each_map (names_of (blocks_of_worker workers u 0 (given j))) (λ x i. fails_worker g v j u x o i)
          (ring_names j u (omega (arith, q))))

      turn_fails : (t : Name → Bool) (j w : ℕ) →
          Each (λ x. test g v x ≡ false) (in_turn n (λ k. names_of (blocks_of_worker workers u 0 (given k))))
      turn_fails t j w = turn_some n (omega arith)

  of_others : (g v u : ℕ) → u ≢ v → ((u < workers) ⊎ (workers ≤ u)) → filter (test g v) (unit_names (lists u)) ≡ []
  of_others g v u o (inl m) = of_other g v u m o
  of_others g v u o (inr b) = ap (filter (test g v))
      (mixed_beyond workers u (λ w. unit_names (lists w)) (unit_names units)
      (mixed_names block kind n workers at to desk given lists units h) b)

  -- the names of a ring are those of the flow
  pub ring_is_fed : (g v : ℕ) → g < n → names_of (blocks_of_worker workers v 0 (given g)) ≡ fed_to block workers r g v BLOCKS_PER_WINDOW
  ring_is_fed g v l =
      let gauge = h.gauge g l in
      let stops : length (r.samples (desk g).gauge) ≡ to g = ap (λ k. length (r.samples k)) gauge ∙ ends g l in
      let start : at g ≡ r.at (desk g).gauge + 0 * block = let e : r.at (desk g).gauge ≡ at g = ap r.at gauge ∙ starts g l in
      omega (arith, e) in
      let fed = blocks_of_worker_names block workers r (desk g) (to g) (sym (h.size g l)) stops v 0 (at g) (to g) (given g)
      (h.blocks g l) start refl in
      let reach : length (r.samples g) ≤ r.at g + length (given g) * block =
      let m = blocks_reach (desk g) (at g) (to g) (given g) (h.blocks g l) in
      let s : length (given g) * (desk g).block ≡ length (given g) * block = ap (λ k. length (given g) * k) (h.size g l) in
      let e = ends g l in let f = starts g l in omega (arith, m, s, e, f) in
      let sum : length (given g) + (BLOCKS_PER_WINDOW - length (given g)) ≡ BLOCKS_PER_WINDOW = let f = h.few g l in omega (arith, f) in
      let from_none : 0 + length (given g) ≡ length (given g) = omega arith in
      fed ∙ ap (fed_to block workers r (desk g).gauge v) from_none ∙ ap (λ k. fed_to block workers r k v (length (given g))) gauge
      ∙ sym (past_end block workers r g v (length (given g)) (BLOCKS_PER_WINDOW - length (given g)) reach)
      ∙ ap (fed_to block workers r g v) sum

  pub arrived : AreArrivals block workers r n (unit_names units)
  arrived = record {
    known = taken_known block kind n workers at to desk given lists units h;
    through = λ g v l m. mixed_filter workers v (test g v) (λ u. unit_names (lists u)) (unit_names units)
        (λ u o. of_others g v u o (cases_lt u workers)) (mixed_names block kind n workers at to desk given lists units h)
        ∙ of_worker g v l m ∙ ring_is_fed g v l;
  }
