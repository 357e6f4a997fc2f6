-- The units that came back in a round, from what each worker was dealt of each lane.
use Rattle.std.proofs.Common.{◌≡◌, ◌≢◌, ◌≤◌, ◌<◌, ◌+◌, ◌*◌, ℕ, List, [], ◌∷◌, length, drop, sym, ap, ◌∙◌, subst, arith, mul-le-mul_right}
use Rattle.std.specs.Prelude.{ℤ}
use Rattle.std.proofs.lemmas.List.{append-nil}
use Rattle.calibration.specs.Gain.{GainValue}
use Rattle.calibration.specs.Grid.{GridValue}
use Rattle.segment.specs.declared.segment_rules.name.Name.{Name}
use Rattle.board.specs.flow.Flow.{hits}
use Rattle.board.specs.flow.Kept.{over, between, Each}
use Rattle.board.proofs.on_flow.Counting.{over_same, hits_other, each_map}
use Rattle.board.specs.block_pool.Units.{FilledValue, CountedValue, IsCountOf}
use Rattle.board.specs.Board.{IsBlockOf}
use Rattle.board.proofs.Counts.{over_only}
use Rattle.board.specs.deposits.Deposited.{unit_name, unit_names, UnitStands}
use Rattle.board.specs.flow.Kept.Each.{none as no_item, both}
use Rattle.board.specs.deposits.Mixed.{IsMixOf}
use Rattle.board.proofs.on_deposits.Mixing.{mixed_map, mixed_hits, mixed_long, mixed_each}
use Rattle.board.specs.arrivals.Arrivals.{names_of}
use Rattle.count_workers.specs.declared.block_workers.desk.Desk.{Desk}
use Rattle.count_workers.specs.block_workers.Dealing.{blocks_of_worker}
use Rattle.count_workers.specs.block_workers.Reading.{IsUnit, AreBlocks, samples_of}
use Rattle.count_workers.specs.block_workers.Reading.AreBlocks.{none, last, more}
use Rattle.count_workers.specs.block_workers.Working.{in_turn, AreCounts}
use Rattle.count_workers.proofs.on_block_workers.Steps.{counts_long}
use Rattle.count_workers.proofs.on_block_workers.Accounts.{blocks_of_worker_once, blocks_once}
use Rattle.count_workers.proofs.on_round_accounts.Lists.{over_swap, turn_long, turn_each, turn_names, turn_hits, blocks_of_worker_long}
use Rattle.count_workers.proofs.on_round_accounts.Standing.{FromLanes, from_lane, each_dealt, count_stands, each_count, counts_names}
use Rattle.board.specs.declared.flow.TheConstants.{BLOCKS_PER_WINDOW}

-- what each lane gave and each worker counted, and a mix of the counts
pub record AreTaken (block : ℕ) (kind : GridValue) (n workers : ℕ) (at to : ℕ → ℕ) (desk : ℕ → Desk) (given : ℕ → List FilledValue)
    (lists : ℕ → List CountedValue) (units : List CountedValue) : Type 0 where
  pub some : (0 < block) × (0 < workers)
  pub gauge : (g : ℕ) → g < n → (desk g).gauge ≡ g
  pub size : (g : ℕ) → g < n → (desk g).block ≡ block
  pub grid : (g : ℕ) → g < n → (desk g).grid ≡ kind
  pub few : (g : ℕ) → g < n → length (given g) ≤ BLOCKS_PER_WINDOW
  pub blocks : (g : ℕ) → g < n → AreBlocks (desk g) (at g) (given g) (to g)
  pub counts : (v : ℕ) → v < workers → AreCounts (in_turn n (λ g. blocks_of_worker workers v 0 (given g))) (lists v)
  pub mixed : IsMixOf workers lists units

-- the blocks of a lane, as units of its desk and blocks of its window
pub record IsBlockAt (block n start : ℕ) (d : Desk) (u : FilledValue) : Type 0 where
  pub gauge : u.name.gauge ≡ d.gauge
  pub block_of : IsBlockOf block n start u.name
  pub size : u.block ≡ d.block
  pub grid : u.grid ≡ d.grid

block_at : (block n start k : ℕ) (d : Desk) (a b : ℕ) (u : FilledValue) → IsUnit d a b u → a ≡ start + k * block → d.block ≡ block
    → d.gauge < n → k < BLOCKS_PER_WINDOW → IsBlockAt block n start d u
block_at block n start k d a b u i e s l few =
    let gauge : u.name.gauge ≡ d.gauge = ap (λ x. x.gauge) i.name in
    let from : u.name.from ≡ a = ap (λ x. x.from) i.name in
    let to : u.name.to ≡ b = ap (λ x. x.to) i.name in
    let up : k * block + block ≤ BLOCKS_PER_WINDOW * block = mul-le block k few in
    record {
      gauge = gauge;
      block_of = record {
        known = omega (arith, gauge, l);
        some = omega (arith, from, to, i.some);
        short =
            omega (arith, from, to, i.short, s);
        number = k;
        at = from ∙ e;
        window = omega (arith, to, i.short, e, s, up);
      };
      size = i.block;
      grid = i.grid;
    }
  where
    mul-le : (b k : ℕ) → k < BLOCKS_PER_WINDOW → k * b + b ≤ BLOCKS_PER_WINDOW * b
    mul-le b k h = let m : (k + 1) * b ≤ BLOCKS_PER_WINDOW * b = mul-le-mul_right b (omega (arith, h)) in let e : (k + 1) * b ≡ k * b + b =
        omega arith in
        omega (arith, m, e)

pub blocks_at : (block n start k : ℕ) (d : Desk) (a b : ℕ) (us : List FilledValue) → AreBlocks d a us b → a ≡ start + k * block
    → d.block ≡ block → d.gauge < n → k + length us ≤ BLOCKS_PER_WINDOW → Each (IsBlockAt block n start d) us
blocks_at block n start k d a b [] none e s l few = no_item
blocks_at block n start k d a b (u ∷ []) (last i) e s l few = both (block_at block n start k d a b u i e s l (omega (arith, few))) no_item
blocks_at block n start k d a b (u ∷ us) (more i r) e s l few =
    let next : a + d.block ≡ start + (k + 1) * block = let m : (k + 1) * block ≡ k * block + block = omega arith in
    omega (arith, e, s, m) in
    both (block_at block n start k d a (a + d.block) u i e s l (omega (arith, few)))
    (blocks_at block n start (k + 1) d (a + d.block) b us r next s l (omega (arith, few)))

-- so many blocks reach as far as the lane was read
pub blocks_reach : (d : Desk) (a b : ℕ) (us : List FilledValue) → AreBlocks d a us b → b ≤ a + length us * d.block
blocks_reach d a b [] none = omega arith
blocks_reach d a b (u ∷ []) (last i) = let s = i.short in let m : (length (u ∷ [])) * d.block ≡ d.block = omega arith in omega (arith, s, m)
blocks_reach d a b (u ∷ us) (more i r) = let h = blocks_reach d (a + d.block) b us r in
    let m : length (u ∷ us) * d.block ≡ length us * d.block + d.block = omega arith in omega (arith, h, m)

pub each_name : {P : Name → Type 0} → (us : List FilledValue) → Each (λ u. P u.name) us → Each P (names_of us)
each_name [] no_item = no_item
each_name (u ∷ us) (both p d) = both p (each_name us d)

each_counted : {P : Name → Type 0} → (us : List CountedValue) → Each (λ u. P (unit_name u)) us → Each P (unit_names us)
each_counted [] no_item = no_item
each_counted (u ∷ us) (both p d) = both p (each_counted us d)

module _ (block : ℕ) (kind : GridValue) (n workers : ℕ) (at to : ℕ → ℕ) (desk : ℕ → Desk) (given : ℕ → List FilledValue) (lists : ℕ
    → List CountedValue) (units : List CountedValue) (h : AreTaken block kind n workers at to desk given lists units) where
  -- a fact of each block that the lanes gave, and so of each unit
  pub each_taken : {P : FilledValue → Type 0} {Q : CountedValue → Type 0}
      → ((f : FilledValue) (c : CountedValue) → IsCountOf f c → P f → Q c) → ((g : ℕ) → g < n → Each P (given g)) → Each Q units
  each_taken k all = mixed_each workers lists units h.mixed
      (λ v l. each_count (in_turn n (λ g. blocks_of_worker workers v 0 (given g))) (lists v) k (h.counts v l)
      (turn_each n (λ g. blocks_of_worker workers v 0 (given g)) (λ g m. each_dealt workers v 0 (given g) (all g m))))

  pub each_block : (g : ℕ) → g < n → Each (IsBlockAt block n (at g) (desk g)) (given g)
  each_block g l =
      let z : at g ≡ at g + 0 * block = omega arith in
      blocks_at block n (at g) 0 (desk g) (at g) (to g) (given g) (h.blocks g l) z (h.size g l) (let e = h.gauge g l in
      omega (arith, e, l)) (let f = h.few g l in omega (arith, f))

  pub taken_long : length units ≡ over n (λ g. length (given g))
  taken_long =
      mixed_long workers lists units h.mixed
      ∙ over_same workers (λ v. length (lists v)) (λ v. over n (λ g. length (blocks_of_worker workers v 0 (given g))))
      (λ v l. counts_long (in_turn n (λ g. blocks_of_worker workers v 0 (given g))) (lists v) (h.counts v l)
      ∙ turn_long n (λ g. blocks_of_worker workers v 0 (given g)))
      ∙ over_swap workers n (λ v g. length (blocks_of_worker workers v 0 (given g)))
      ∙ over_same n (λ g. over workers (λ v. length (blocks_of_worker workers v 0 (given g)))) (λ g. length (given g))
      (λ g l. blocks_of_worker_long workers 0 (given g) h.some.1)

  pub list_names : (v : ℕ) → v < workers → unit_names (lists v) ≡ in_turn n (λ g. names_of (blocks_of_worker workers v 0 (given g)))
  list_names v l = counts_names (in_turn n (λ g. blocks_of_worker workers v 0 (given g))) (lists v) (h.counts v l)
      ∙ turn_names n (λ g. blocks_of_worker workers v 0 (given g))

  pub mixed_names : IsMixOf workers (λ v. unit_names (lists v)) (unit_names units)
  mixed_names = mixed_map unit_name workers lists units h.mixed

  taken_hits : (g i : ℕ) → hits g i (unit_names units) ≡ over n (λ k. hits g i (names_of (given k)))
  taken_hits g i =
      mixed_hits workers g i (λ v. unit_names (lists v)) (unit_names units) mixed_names
      ∙ over_same workers (λ v. hits g i (unit_names (lists v)))
      (λ v. over n (λ k. hits g i (names_of (blocks_of_worker workers v 0 (given k)))))
      (λ v l. ap (hits g i) (list_names v l) ∙ turn_hits g i n (λ k. names_of (blocks_of_worker workers v 0 (given k))))
      ∙ over_swap workers n (λ v k. hits g i (names_of (blocks_of_worker workers v 0 (given k))))
      ∙ over_same n (λ k. over workers (λ v. hits g i (names_of (blocks_of_worker workers v 0 (given k)))))
      (λ k. hits g i (names_of (given k)))
      (λ k l. blocks_of_worker_once g i workers 0 (given k) h.some.1)

  others_hits : (g i k : ℕ) → k < n → k ≢ g → hits g i (names_of (given k)) ≡ 0
  others_hits g i k l o = hits_other g i (names_of (given k))
      (each_name (given k) (each_map (given k) (λ u b e. o (sym (h.gauge k l) ∙ sym b.gauge ∙ e)) (each_block k l)))

  -- each sample that a lane gave is named once, and no other
  pub taken_once : (g i : ℕ) → g < n → hits g i (unit_names units) ≡ between (at g) (to g) i
  taken_once g i l =
      taken_hits g i ∙ over_only n g (between (at g) (to g) i) (λ k. hits g i (names_of (given k))) l
      (ap (λ x. hits x i (names_of (given g))) (sym (h.gauge g l)) ∙ blocks_once (desk g) (at g) (to g) i (given g) (h.blocks g l))
      (λ k m o. others_hits g i k m o)

  pub taken_fit : Each (λ u. IsBlockOf block n (at (unit_name u).gauge) (unit_name u)) units
  taken_fit = each_taken {P = λ f. IsBlockOf block n (at f.name.gauge) f.name}
      (λ f c i p. subst (λ (x : Name). IsBlockOf block n (at x.gauge) x) (sym i.name) p)
      (λ g l. each_map (given g) (λ u b. subst (λ x. IsBlockOf block n (at x) u.name) (sym (b.gauge ∙ h.gauge g l)) b.block_of)
      (each_block g l))

  pub taken_kind : Each (λ u. (u.block ≡ block) × (u.grid ≡ kind)) units
  taken_kind = each_taken {P = λ f. (f.block ≡ block) × (f.grid ≡ kind)} (λ f c i p. (i.block ∙ p.0, i.grid ∙ p.1))
      (λ g l. each_map (given g) (λ u b. (b.size ∙ h.size g l, b.grid ∙ h.grid g l)) (each_block g l))

  pub taken_known : Each (λ x. x.gauge < n) (unit_names units)
  taken_known = each_counted units (each_map units (λ u b. b.known) taken_fit)

  -- the units stand for the samples of recordings that have what the lanes gave
  pub taken_stand : (gain : ℕ → GainValue) (w : ℕ → List ℤ) → ((g : ℕ) → g < n → (desk g).gain ≡ gain g)
      → ((g : ℕ) → g < n → drop (at g) (w g) ≡ samples_of (given g)) → Each (UnitStands gain w) units
  taken_stand gain w gains ws = each_taken {P = FromLanes gain w} (count_stands gain w)
      (λ g l. from_lane (desk g) gain w (at g) (to g) (given g) [] (h.blocks g l) (gains g l ∙ ap gain (sym (h.gauge g l)))
      (ap (λ x. drop (at g) (w x)) (h.gauge g l) ∙ ws g l ∙ sym (append-nil (samples_of (given g)))))
