-- A round, from its beginning to its end: everything rests again, and the lanes' fronts stand on the board.
use Rattle.std.proofs.Common.{◌≡◌, ◌⊎◌, inl, inr, ◌≤◌, ◌<◌, ◌+◌, ◌*◌, ◌-◌, ℕ, zero, suc, List, [], ◌∷◌, ◌++◌, length, map, take, get_or, vec_len, refl, sym, ap, ◌∙◌, subst, arith, drop, length-append, mul-le-mul_right}
use Rattle.calibration.specs.declared.limits.TheConstants.{MAX_SAMPLES}
use Rattle.board.specs.declared.flow.TheConstants.{BLOCKS_PER_WINDOW}
use Rattle.std.specs.List.{All}
use Rattle.std.specs.declared.vec.Vec.{Vec}
use Rattle.std.specs.declared.alloc.Global.{Global}
use Rattle.std.proofs.lemmas.Bool.{cases_lt}
use Rattle.std.proofs.lemmas.Bool.Decides.{nat_tests}
use Rattle.std.proofs.lemmas.List.{get_or_default, take_all, length-replicate}
use Rattle.count_workers.specs.declared.gauge_ring.taker.Taker.{Taker}
use Rattle.count_workers.specs.declared.gauge_ring.feeder.Feeder.{Feeder}
use Rattle.count_workers.specs.gauge_ring.Ends.{fed, taken, AreOneRing}
use Rattle.segment.specs.declared.segment_rules.name.Name.{Name}
use Rattle.board.specs.flow.Flow.{hits, name_of_samples}
use Rattle.board.specs.flow.Kept.{over, between}
use Rattle.board.proofs.on_flow.Counting.{over_same, over_sum, hits_other, each_map}
use Rattle.board.specs.block_pool.Units.{FilledValue, PoolValue, IsBlank}
use Rattle.board.specs.Board.{BoardValue, IsBegun, IsBlockOf, start_of, IsFront, CarriesSamples}
use Rattle.board.proofs.Counts.{over_most}
use Rattle.board.specs.deposits.Deposited.{unit_name, unit_names, IsGood, SamePool, UnitsArePlaced}
use Rattle.board.specs.deposits.Mixed.{IsMixOf}
use Rattle.board.proofs.on_deposits.Going.{good_at_first}
use Rattle.count_workers.specs.declared.block_workers.item.Item.{Item}
use Rattle.count_workers.specs.declared.block_workers.desk.Desk.{Desk}
use Rattle.count_workers.specs.declared.block_workers.jobs.Reader.{Reader}
use Rattle.count_workers.specs.declared.block_workers.worker.Worker.{Worker}
use Rattle.count_workers.specs.block_workers.Dealing.{round_of, blocks_of_worker}
use Rattle.count_workers.specs.block_workers.Reading.{AreBlocks, samples_of}
use Rattle.count_workers.specs.block_workers.Working.{in_turn, AreCounts, return_round, WorkJob}
use Rattle.count_workers.specs.block_workers.Jobs.{CanRead, ReadJob, SameRead, SameWork, Fifo}
use Rattle.count_workers.proofs.on_block_workers.Accounts.{even_round, even_return, blocks_ascend}
use Rattle.count_workers.specs.declared.collector.collecting.Return.{Return}
use Rattle.count_workers.specs.collector.Collecting.{IsCollected}
use Rattle.count_workers.specs.collector.Settling.{SameFeeding, IsStillAwaited, BackFifo}
use Rattle.count_workers.specs.declared.lane_loans.lane.Lane.{Lane}
use Rattle.count_workers.specs.lane_loans.Lent.{LendsSource, blanks_at, ReturnsSource, CanRound, at_of}
use Rattle.count_workers.specs.round_making.Resting.{PreparedValue, IsResting, RestingReader, RestingWorker, RestingReturn, IsEven, value_of, rings_of}
use Rattle.count_workers.specs.round_making.Round.{LaneDone, FrontDone, RingDone, RoundDone, flow_of}
use Rattle.count_workers.proofs.on_lane_loans.Walking.{map_at, some_of}
use Rattle.count_workers.proofs.on_block_workers.Steps.{turn_same}
use Rattle.count_workers.proofs.on_round_accounts.Lists.{choose, chosen}
use Rattle.count_workers.proofs.on_round_accounts.Taken.{AreTaken, taken_long, taken_once, taken_fit, taken_kind, taken_known, taken_stand, blocks_reach}
use Rattle.count_workers.proofs.on_round_making.Ran.{LaneRan, lane_ran, WorkerRan, worker_ran}
use Rattle.std.specs.Prelude.{ℤ, pos, replicate, slice_range}
use Rattle.std.proofs.lemmas.Option.{same_Some}
use Rattle.recording.specs.Samples.{samples}
use Rattle.recording.specs.lane_ends.Ends.{IsRead}
use Rattle.calibration.specs.Gain.{GainValue}
use Rattle.segment.specs.Segment.{SegmentValue, Stands}
use Rattle.segment.specs.Name.{name_of}
use Rattle.board.proofs.on_deposits.Fronting.{front_name}
use Rattle.count_workers.specs.block_workers.Reading.AreBlocks.{none, last, more}
use Rattle.count_workers.proofs.on_gauge_ring.Ends.{same_takers, still_one}
use Rattle.board.specs.arrivals.Arrivals.{Round as RoundOfFlow, AreArrivals, IsRound}
use Rattle.count_workers.proofs.on_round_accounts.Arrived.{arrived, ring_is_fed}
use Rattle.count_workers.proofs.on_block_workers.Blocks.{gives_as}

between_one : (a b i : ℕ) → between a b i ≤ 1
between_one a b i = grind (arith, nat_tests)

over_const : (n c : ℕ) → over n (λ g. c) ≡ n * c
over_const zero c = omega arith
over_const (suc n) c = let e = over_const n c in let m : suc n * c ≡ c + n * c = omega arith in omega (arith, e, m)

pub fits_as : (block c n m start s : ℕ) (x : Name) → block ≡ c → n ≡ m → start ≡ s → IsBlockOf block n start x → IsBlockOf c m s x
fits_as block c n m start s x e f h i = subst (λ z. IsBlockOf c m z x) h
    (subst (λ z. IsBlockOf c z start x) f (subst (λ z. IsBlockOf z n start x) e i))

-- a fact of an item, whatever stands beyond the list
by_default : {A : Type 0} → (P : A → Type 0) (xs : List A) (i : ℕ) (d e : A) → i < length xs → P (get_or xs i d) → P (get_or xs i e)
by_default P xs i d e m p = subst P (get_or_default xs i d e m) p

blocks_long : (d : Desk) (a b : ℕ) (us : List FilledValue) → AreBlocks d a us b → a + length (samples_of us) ≡ b
blocks_long d a b [] none = omega arith
blocks_long d a b (u ∷ []) (last i) = let e = i.long in
    let n : length (u.samples ++ []) ≡ length u.samples + 0 = length-append u.samples [] in omega (arith, e, n)
blocks_long d a b (u ∷ us) (more i r) = let e = i.long in let f = blocks_long d (a + d.block) b us r in
    let n : length (u.samples ++ samples_of us) ≡ length u.samples + length (samples_of us) = length-append u.samples (samples_of us) in
    omega (arith, e, f, n)

drop_replicate : (k : ℕ) (x : ℤ) (l : List ℤ) → drop k (replicate k x ++ l) ≡ l
drop_replicate zero x l = refl
drop_replicate (suc k) x l = drop_replicate k x l

beyond : {A : Type 0} → (f : A → ℕ) (xs : List A) (g z : ℕ) → length xs ≤ g → get_or (map f xs) g z ≡ z
beyond f [] g z h = refl
beyond f (x ∷ xs) zero z h = absurd (omega (arith, h))
beyond f (x ∷ xs) (suc g) z h = beyond f xs g z (omega (arith, h))

-- what is seen of a ring
ring_value : (ws : List Worker) (v g : ℕ) (w : Worker) (d : Taker Item) → v < length ws → g < vec_len (get_or ws v w).takers
    → get_or (get_or (rings_of ws) v []) g [] ≡ taken (get_or (get_or ws v w).takers.items g d)
ring_value ws v g w d m h =
    ap (λ x. get_or x g []) (map_at (λ (x : Worker). map (λ (t : Taker Item). taken t) x.takers.items) ws v [] w m)
    ∙ map_at (λ (t : Taker Item). taken t) (get_or ws v w).takers.items g [] d (let e = (get_or ws v w).takers.ok.0 in omega (arith, h, e))

-- the calls of a round until all rings are settled
pub record Settled {C : Type 0} (tells : Type 0) (left : C → List ℕ) (faults : C → ℕ) (p0 p1 p2 : PoolValue) (b0 b1 b2 : BoardValue)
    (rs0 rs1 rs2 rs3 : List (Reader C)) (ws0 ws1 ws2 ws3 : List Worker) (bs0 bs1 bs2 : List Return) (ls0 ls1 : List (Lane C)) : Type 0 where
  pub resting : IsResting p0 b0 rs0 ws0 bs0
  pub long : length ls0 ≡ length rs0
  pub lanes : (g : ℕ) (d : Lane C) → g < length ls0 → CanRound g (get_or ls0 g d)
  pub plan : (b1.grid ≡ b0.grid) × (b1.block ≡ b0.block) × (length b1.rows ≡ length b0.rows)
  pub begun : IsBegun b1 (at_of ls0)
  pub lent : (g : ℕ) (d : Reader C) (e : Lane C) → g < length rs0 →
      LendsSource (get_or rs0 g d) (get_or rs1 g d) (get_or ls0 g e) (get_or ls1 g e)
  pub lent_long : (length rs1 ≡ length rs0) × (length ls1 ≡ length ls0)
  pub ready : (g : ℕ) (d : Reader C) → g < length rs1 → CanRead (get_or rs1 g d)
  pub lent_pool : SamePool p0 p1 × (p1.inside ≡ 0)
  pub collected : IsCollected b1 b2 p1 p2 bs0 bs1
  pub read : (g : ℕ) (d : Reader C) → g < length rs1 → ReadJob tells left faults (get_or rs1 g d) (get_or rs2 g d)
  pub worked : (v : ℕ) (d : Worker) → v < length ws0 → WorkJob (get_or ws0 v d) (get_or ws1 v d)
  pub ran_long : (length rs2 ≡ length rs1) × (length ws1 ≡ length ws0)
  pub still_work : (v : ℕ) (d : Worker) → SameWork (get_or ws1 v d) (get_or ws2 v d)
  pub still_read : (g : ℕ) (d : Reader C) → SameRead (get_or rs2 g d) (get_or rs3 g d)
  pub fifo : (v g : ℕ) (d : Worker) (e : Reader C) → v < length ws1 → g < length rs2 → Fifo (get_or ws1 v d) (get_or rs2 g e) g v
  pub still_long : (length rs3 ≡ length rs2) × (length ws2 ≡ length ws1)
  pub opened : (v : ℕ) (d : Return) → v < length bs1 → IsStillAwaited (get_or bs1 v d) (get_or bs2 v d)
  pub fed_back : (v : ℕ) (d : Worker) → v < length ws2 → SameFeeding (get_or ws2 v d) (get_or ws3 v d)
  pub back_fifo : (v : ℕ) (d : Worker) (e : Return) → v < length ws2 → BackFifo (get_or ws2 v d) (get_or bs1 v e)
  pub back_long : (length bs2 ≡ length bs1) × (length ws3 ≡ length ws2)

module _ {C : Type 0} (tells : Type 0) (left : C → List ℕ) (faults : C → ℕ) (p0 p1 p2 : PoolValue) (b0 b1 b2 : BoardValue)
    (rs0 rs1 rs2 rs3 : List (Reader C)) (ws0 ws1 ws2 ws3 : List Worker) (bs0 bs1 bs2 : List Return) (ls0 ls1 : List (Lane C))
    (s : Settled tells left faults p0 p1 p2 b0 b1 b2 rs0 rs1 rs2 rs3 ws0 ws1 ws2 ws3 bs0 bs1 bs2 ls0 ls1) where
  abbrev pub n : ℕ
  n = length rs0

  abbrev pub workers : ℕ
  workers = length ws0

  -- items for places beyond the lists
  abbrev pub r : Reader C
  r = some_of rs0 s.resting.gauges_few.0

  abbrev pub l : Lane C
  l = some_of ls0 (subst (λ k. 1 ≤ k) (sym s.long) s.resting.gauges_few.0)

  abbrev pub w : Worker
  w = some_of ws0 s.resting.workers_few.0

  abbrev pub k : Return
  k = some_of bs0 (subst (λ j. 1 ≤ j) (sym s.resting.returns_long) s.resting.workers_few.0)

  pub ran_at : (g : ℕ) → g < n → LaneRan tells left faults workers (get_or rs0 g r) (get_or rs3 g r) (get_or ls0 g l)
  ran_at g m =
      let rest = s.resting.each_reader g r m in
      lane_ran tells left faults workers (get_or rs0 g r) (get_or rs1 g r) (get_or rs2 g r) (get_or rs3 g r) (get_or ls0 g l)
      (get_or ls1 g l)
      rest.feeders rest.room (s.lanes g l (omega (arith, m, s.long))).at (s.lent g r l m) (s.ready g r (omega (arith, m, s.lent_long.0)))
      (s.read g r (omega (arith, m, s.lent_long.0))) (s.still_read g r)

  -- what each lane gave
  abbrev pub given_at : ℕ → Desk × List FilledValue
  given_at = choose n (λ g m. ((ran_at g m).desk, (ran_at g m).units)) (r.desk, [])

  abbrev pub desk : ℕ → Desk
  desk g = (given_at g).0

  abbrev pub given : ℕ → List FilledValue
  given g = (given_at g).1

  abbrev pub to : ℕ → ℕ
  to g = (get_or rs3 g r).desk.at

  pub record LaneIs (g : ℕ) (a : Desk × List FilledValue) : Type 0 where
    pub run : LaneRan tells left faults workers (get_or rs0 g r) (get_or rs3 g r) (get_or ls0 g l)
    pub is : (a.0 ≡ run.desk) × (a.1 ≡ run.units)

  pub lane : (g : ℕ) → g < n → LaneIs g (given_at g)
  lane g m = chosen LaneIs n (λ i h. ((ran_at i h).desk, (ran_at i h).units)) (r.desk, []) g
      (λ i h. record { run = ran_at i h; is = (refl, refl) }) m

  pub worker_at : (v : ℕ) → v < workers → WorkerRan (get_or ws0 v w) (get_or ws3 v w)
  worker_at v m =
      worker_ran (get_or ws0 v w) (get_or ws1 v w) (get_or ws2 v w) (get_or ws3 v w) (s.worked v w m) (s.still_work v w)
      (s.fed_back v w (omega (arith, m, s.ran_long.1, s.still_long.1)))

  pub wide : (v : ℕ) (m : v < workers) → vec_len (get_or ws0 v w).takers ≡ n
  wide v m = (s.resting.each_worker v w m).takers

  -- a ring after the round
  pub ring_even : (v g : ℕ) (m : v < workers) (h : g < n) (d : Taker Item) (e : Feeder Item)
      → ((worker_at v m).blocks g ≡ blocks_of_worker workers v 0 (given g))
      × (fed (get_or (get_or rs3 g r).desk.feeders.items v e) ≡ taken (get_or (get_or ws3 v w).takers.items g d))
  ring_even v g m h d e =
      let q = lane g h in
      let wr = worker_at v m in
      let start = (s.resting.rings v g w r m h).even d e in
      let f0 = fed (get_or (get_or rs0 g r).desk.feeders.items v e) in
      let line = s.fifo v g w r (omega (arith, m, s.ran_long.1)) (omega (arith, h, s.ran_long.0, s.lent_long.0)) in
      let back : taken (get_or (get_or ws3 v w).takers.items g d) ≡ taken (get_or (get_or ws1 v w).takers.items g d) =
      ap (λ (x : Vec (Taker Item) Global). taken (get_or x.items g d))
      (s.fed_back v w (omega (arith, m, s.ran_long.1, s.still_long.1))).takers ∙ (s.still_work v w).taken g d in
      even_round f0 (fed (get_or (get_or rs3 g r).desk.feeders.items v e)) (taken (get_or (get_or ws3 v w).takers.items g d)) line.left
      (blocks_of_worker workers v 0 (given g)) (wr.blocks g)
      (q.run.fed v e m ∙ ap (λ us. f0 ++ round_of (blocks_of_worker workers v 0 us)) (sym q.is.1))
      (wr.took g d (let x = wide v m in omega (arith, h, x)) ∙ ap (λ x. x ++ round_of (wr.blocks g)) (sym start))
      ((s.still_read g r).fed v e ∙ line.fifo d e ∙ ap (λ x. x ++ line.left) (sym back))

  -- a return ring after the round
  pub back_even : (v : ℕ) (m : v < workers)
      → (s.collected.lists v ≡ (worker_at v m).units) × (fed (get_or ws3 v w).back ≡ taken (get_or bs1 v k).taker)
  back_even v m =
      let wr = worker_at v m in
      let start = (s.resting.each_return v w k m).even in
      let f0 = fed (get_or ws0 v w).back in
      let few : v < length ws2 = omega (arith, m, s.ran_long.1, s.still_long.1) in
      let line = s.back_fifo v w k few in
      even_return f0 (fed (get_or ws3 v w).back) (taken (get_or bs1 v k).taker) line.left wr.units (s.collected.lists v)
      wr.fed
      (s.collected.taken v k (omega (arith, m, s.resting.returns_long)) ∙ ap (λ x. x ++ return_round (s.collected.lists v)) (sym start))
      ((s.fed_back v w few).fed ∙ line.fifo)

  counts_at : (v : ℕ) (m : v < workers) (d : Taker Item) (e : Feeder Item)
      → AreCounts (in_turn n (λ g. blocks_of_worker workers v 0 (given g))) (s.collected.lists v)
  counts_at v m d e =
      let wr = worker_at v m in
      let all : in_turn (vec_len (get_or ws0 v w).takers) wr.blocks ≡ in_turn n (λ g. blocks_of_worker workers v 0 (given g)) =
      ap (λ j. in_turn j wr.blocks) (wide v m)
      ∙ turn_same n wr.blocks (λ g. blocks_of_worker workers v 0 (given g)) (λ g h. (ring_even v g m h d e).0) in
      subst (AreCounts (in_turn n (λ g. blocks_of_worker workers v 0 (given g)))) (sym (back_even v m).0)
      (subst (λ fs. AreCounts fs wr.units) all wr.counts)

  -- ends of rings for places beyond the lists
  pub some_taker : (v : ℕ) → v < workers → Taker Item
  some_taker v m = some_of (get_or ws0 v w).takers.items (let e = wide v m in let f = (get_or ws0 v w).takers.ok.0 in
      omega (arith, e, f, s.resting.gauges_few.0))

  pub some_feeder : (g : ℕ) → g < n → Feeder Item
  some_feeder g m = some_of (get_or rs0 g r).desk.feeders.items (let e = (s.resting.each_reader g r m).feeders in
      let f = (get_or rs0 g r).desk.feeders.ok.0 in omega (arith, e, f, s.resting.workers_few.0))

  pub start_at : (g : ℕ) → g < n → at_of ls0 g ≡ (get_or ls0 g l).at
  start_at g m = map_at (λ (x : Lane C). x.at) ls0 g 0 l (omega (arith, m, s.long))

  pub are_taken : AreTaken p0.block p0.grid n workers (at_of ls0) to desk given s.collected.lists s.collected.units
  are_taken = record {
    some = (s.resting.block.0, s.resting.workers_few.0);
    gauge = λ g m. (let q = lane g m in ap (λ (x : Desk). x.gauge) q.is.0 ∙ q.run.desk_gauge ∙ (s.resting.each_reader g r m).gauge);
    size = λ g m. (let q = lane g m in ap (λ (x : Desk). x.block) q.is.0 ∙ q.run.desk_block ∙ (s.resting.each_reader g r m).size);
    grid = λ g m. (let q = lane g m in ap (λ (x : Desk). x.grid) q.is.0 ∙ q.run.desk_grid ∙ (s.resting.each_reader g r m).kind);
    few = λ g m. (let q = lane g m in subst (λ us. length us ≤ BLOCKS_PER_WINDOW) (sym q.is.1) q.run.few);
    blocks = λ g m. (
        let q = lane g m in
        subst (λ a. AreBlocks (desk g) a (given g) (to g)) (sym (start_at g m))
        (subst (λ d. AreBlocks d (get_or ls0 g l).at (given g) (to g)) (sym q.is.0)
        (subst (λ us. AreBlocks q.run.desk (get_or ls0 g l).at us (to g)) (sym q.is.1) q.run.blocks)));
    counts = λ v m. counts_at v m (some_taker v m) (some_feeder 0 (omega (arith, s.resting.gauges_few.0)));
    mixed = subst (λ j. IsMixOf j s.collected.lists s.collected.units) s.resting.returns_long s.collected.mixed;
  }

  once_by : (g i : ℕ) → ((g < n) ⊎ (n ≤ g)) → hits g i (unit_names s.collected.units) ≤ 1
  once_by g i (inl m) = let e = taken_once p0.block p0.grid n workers
      (at_of ls0) to desk given s.collected.lists s.collected.units are_taken g i m in let o = between_one (at_of ls0 g) (to g) i in
      omega (arith, e, o)
  once_by g i (inr b) =
      let e : hits g i (unit_names s.collected.units) ≡ 0 =
      hits_other g i (unit_names s.collected.units)
      (each_map (unit_names s.collected.units) (λ x known q. absurd (omega (arith, known, q, b)))
      (taken_known p0.block p0.grid n workers (at_of ls0) to desk given s.collected.lists s.collected.units are_taken)) in
      omega (arith, e)

  pub units_long : length s.collected.units ≡ over n (λ g. length (given g))
  units_long = taken_long p0.block p0.grid n workers (at_of ls0) to desk given s.collected.lists s.collected.units are_taken

  pub good : IsGood b1 p1 s.collected.units
  good = good_at_first b1 p1 s.collected.units s.begun.arrivals
      (each_map s.collected.units (λ u f. (
      let rows : length b1.rows ≡ n = s.plan.2 ∙ s.resting.board.2 in
      fits_as p0.block b1.block n (length b1.rows) (at_of ls0 (unit_name u).gauge) (start_of b1 (unit_name u).gauge) (unit_name u)
      (sym (s.plan.1 ∙ s.resting.board.1)) (sym rows)
      (sym (s.begun.windows (unit_name u).gauge (let c = f.known in omega (arith, c, rows)))) f))
      (taken_fit p0.block p0.grid n workers (at_of ls0) to desk given s.collected.lists s.collected.units are_taken))
      (each_map s.collected.units (λ u f. (f.0 ∙ sym s.lent_pool.0.block, f.1 ∙ sym s.lent_pool.0.grid))
      (taken_kind p0.block p0.grid n workers (at_of ls0) to desk given s.collected.lists s.collected.units are_taken))
      (λ g i. once_by g i (cases_lt g n))
      (let most : over n (λ g. length (given g)) ≤ n * BLOCKS_PER_WINDOW =
      over_most n BLOCKS_PER_WINDOW (λ g. length (given g)) (λ g m. are_taken.few g m) in
      omega (arith, s.lent_pool.1, units_long, most, s.lent_pool.0.units, s.resting.pool.0))

  pub came : UnitsArePlaced b1 b2 p1 p2 s.collected.units
  came = s.collected.deposited.came good

  blanks_here : (g : ℕ) → g < n → blanks_at rs3 g + length (given g) ≡ BLOCKS_PER_WINDOW
  blanks_here g m =
      let q = lane g m in
      let at : blanks_at rs3 g ≡ vec_len (get_or rs3 g r).desk.blanks =
      map_at (λ (x : Reader C). vec_len x.desk.blanks) rs3 g 0 r (omega (arith, m, s.still_long.0, s.ran_long.0, s.lent_long.0)) in
      let e = q.run.blanks in let f : length (given g) ≡ length q.run.units = ap length q.is.1 in
      omega (arith, at, e, f)

  -- units that were used and units that were not are all of them
  pub all_units : over n (blanks_at rs3) + length s.collected.units ≡ BLOCKS_PER_WINDOW * n
  all_units =
      let sum : over n (λ g. blanks_at rs3 g + length (given g)) ≡ over n (blanks_at rs3) + over n (λ g. length (given g)) =
      over_sum n (blanks_at rs3) (λ g. length (given g)) in
      let each : over n (λ g. blanks_at rs3 g + length (given g)) ≡ over n (λ g. BLOCKS_PER_WINDOW) =
      over_same n (λ g. blanks_at rs3 g + length (given g)) (λ g. BLOCKS_PER_WINDOW) blanks_here in
      let all : over n (λ g. BLOCKS_PER_WINDOW) ≡ n * BLOCKS_PER_WINDOW = over_const n BLOCKS_PER_WINDOW in
      omega (arith, sum, each, all, units_long)

  pub fit_all : (g : ℕ) (d : Reader C) → g < length rs3 → All (IsBlank p2.block p2.grid) (get_or rs3 g d).desk.blanks.items
  fit_all g d m =
      let few : g < n = omega (arith, m, s.still_long.0, s.ran_long.0, s.lent_long.0) in
      let q = lane g few in
      let rest = s.resting.each_reader g r few in
      let size : (get_or rs0 g r).desk.block ≡ p2.block = rest.size ∙ sym s.lent_pool.0.block ∙ sym s.collected.deposited.pool.block in
      let kind : (get_or rs0 g r).desk.grid ≡ p2.grid = rest.kind ∙ sym s.lent_pool.0.grid ∙ sym s.collected.deposited.pool.grid in
      subst (λ (x : Reader C). All (IsBlank p2.block p2.grid) x.desk.blanks.items) (get_or_default rs3 g r d m)
      (subst (λ x. All (IsBlank p2.block x) (get_or rs3 g r).desk.blanks.items) kind
      (subst (λ x. All (IsBlank x (get_or rs0 g r).desk.grid) (get_or rs3 g r).desk.blanks.items) size q.run.fit))

  pub room_all : p2.inside + over (length rs3) (blanks_at rs3) ≤ p2.units
  room_all =
      let long : length rs3 ≡ n = s.still_long.0 ∙ s.ran_long.0 ∙ s.lent_long.0 in
      let e : over (length rs3) (blanks_at rs3) ≡ over n (blanks_at rs3) = ap (λ j. over j (blanks_at rs3)) long in
      let i = came.inside in
      omega (arith, e, i, all_units, s.lent_pool.1, s.collected.deposited.pool.units, s.lent_pool.0.units, s.resting.pool.0)

  -- the lanes have their sources back, and the pool its units
  module _ (p3 : PoolValue) (rs4 : List (Reader C)) (ls2 : List (Lane C)) (back : (g : ℕ) (d : Reader C) (e : Lane C) → g < length rs3
      → ReturnsSource (get_or rs3 g d) (get_or rs4 g d) (get_or ls1 g e) (get_or ls2 g e))
      (back_lanes : (length rs4 ≡ length rs3) × (length ls2 ≡ length ls1))
      (back_pool : SamePool p2 p3 × (p3.inside ≡ p2.inside + over (length rs3) (blanks_at rs3))) where
    long3 : length rs3 ≡ n
    long3 = s.still_long.0 ∙ s.ran_long.0 ∙ s.lent_long.0

    wide3 : length ws3 ≡ workers
    wide3 = s.back_long.1 ∙ s.still_long.1 ∙ s.ran_long.1

    returns3 : length bs2 ≡ length bs0
    returns3 = s.back_long.0 ∙ s.collected.long

    size3 : p3.block ≡ p0.block
    size3 = back_pool.0.block ∙ s.collected.deposited.pool.block ∙ s.lent_pool.0.block

    kind3 : p3.grid ≡ p0.grid
    kind3 = back_pool.0.grid ∙ s.collected.deposited.pool.grid ∙ s.lent_pool.0.grid

    units3 : p3.units ≡ p0.units
    units3 = back_pool.0.units ∙ s.collected.deposited.pool.units ∙ s.lent_pool.0.units

    back_at : (g : ℕ) → g < n → ReturnsSource (get_or rs3 g r) (get_or rs4 g r) (get_or ls1 g l) (get_or ls2 g l)
    back_at g m = back g r l (omega (arith, m, long3))

    rest_reader : (g : ℕ) → g < n → RestingReader p3 workers g (get_or rs4 g r)
    rest_reader g m =
        let q = (lane g m).run in let b = back_at g m in let rest = s.resting.each_reader g r m in
        record {
          src = b.gone;
          gauge = b.gauge ∙ q.gauge ∙ rest.gauge;
          size = b.block ∙ q.block ∙ rest.size ∙ sym size3;
          kind = b.grid ∙ q.grid ∙ rest.kind ∙ sym kind3;
          feeders = ap (λ (x : Vec (Feeder Item) Global). vec_len x) b.feeders ∙ q.feeders;
          blanks = b.blanks;
          room = let x = b.room in let y = q.room in omega (arith, x, y);
        }

    rest_worker : (v : ℕ) → v < workers → RestingWorker n v (get_or ws3 v w)
    rest_worker v m = let q = worker_at v m in let rest = s.resting.each_worker v w m in
        record { number = q.number ∙ rest.number; takers = q.takers ∙ rest.takers; idle = q.idle }

    rest_ring : (v g : ℕ) → v < workers → g < n → IsEven (get_or ws3 v w) (get_or rs4 g r) g v
    rest_ring v g m h =
        let q = (lane g h).run in let b = back_at g h in let wr = worker_at v m in
        record {
          one = record {
            one = λ d e. subst (λ (x : Vec (Feeder Item) Global). AreOneRing (get_or x.items v e)
                (get_or (get_or ws3 v w).takers.items g d)) (sym b.feeders)
                (still_one (get_or (get_or rs0 g r).desk.feeders.items v e) (get_or (get_or rs3 g r).desk.feeders.items v e)
                (get_or (get_or ws0 v w).takers.items g d) (get_or (get_or ws3 v w).takers.items g d)
                ((s.resting.rings v g w r m h).one.one d e) (q.ends v e m) (wr.ends g d (let x = wide v m in omega (arith, h, x))));
          };
          even = λ d e. ap (λ (x : Vec (Feeder Item) Global). fed (get_or x.items v e)) b.feeders ∙ (ring_even v g m h d e).1;
        }

    rest_return : (v : ℕ) → v < workers → RestingReturn (get_or ws3 v w) (get_or bs2 v k)
    rest_return v m =
        let o = s.opened v k (omega (arith, m, s.collected.long, s.resting.returns_long)) in
        let start = s.resting.each_return v w k m in
        record {
          one = record {
            one = still_one (get_or ws0 v w).back (get_or ws3 v w).back (get_or bs0 v k).taker (get_or bs2 v k).taker
                start.one.one (worker_at v m).same
                (same_takers (get_or bs0 v k).taker (get_or bs1 v k).taker (get_or bs2 v k).taker
                (s.collected.same v k (omega (arith, m, s.resting.returns_long))) o.same);
          };
          even = (back_even v m).1 ∙ sym o.taken;
          awaited = o.awaited;
        }

    long4 : length rs4 ≡ n
    long4 = back_lanes.0 ∙ long3

    all_inside : p3.inside ≡ BLOCKS_PER_WINDOW * n
    all_inside =
        let e : over (length rs3) (blanks_at rs3) ≡ over n (blanks_at rs3) = ap (λ j. over j (blanks_at rs3)) long3 in
        let i = came.inside in
        omega (arith, e, i, all_units, s.lent_pool.1, back_pool.1)

    board3 : (b2.grid ≡ p0.grid) × (b2.block ≡ p0.block) × (length b2.rows ≡ n)
    board3 = (
      s.collected.deposited.board.grid ∙ s.plan.0 ∙ s.resting.board.0,
      s.collected.deposited.board.block ∙ s.plan.1
          ∙ s.resting.board.1,
      s.collected.deposited.board.gauges ∙ s.plan.2 ∙ s.resting.board.2,
    )

    pub rests : IsResting p3 b2 rs4 ws3 bs2
    rests = record {
      gauges_few = let x = s.resting.gauges_few in (omega (arith, x.0, long4), omega (arith, x.1, long4));
      block = let x = s.resting.block in (omega (arith, x.0, size3), omega (arith, x.1, size3));
      workers_few = let x = s.resting.workers_few in (omega (arith, x.0, wide3), omega (arith, x.1, wide3));
      pool = (omega (arith, units3, long4, s.resting.pool.0), omega (arith, all_inside, long4));
      board = (board3.0 ∙ sym kind3, board3.1 ∙ sym size3, board3.2 ∙ sym long4);
      each_reader = λ g d m. by_default (RestingReader p3 (length ws3) g) rs4 g r d m
          (subst (λ j. RestingReader p3 j g (get_or rs4 g r)) (sym wide3) (rest_reader g (omega (arith, m, long4))));
      each_worker = λ v d m. by_default (RestingWorker (length rs4) v) ws3 v w d m
          (subst (λ j. RestingWorker j v (get_or ws3 v w)) (sym long4) (rest_worker v (omega (arith, m, wide3))));
      rings = λ v g d e m h. by_default (λ x. IsEven x (get_or rs4 g e) g v) ws3 v w d m
          (by_default (λ y. IsEven (get_or ws3 v w) y g v) rs4 g r e h (rest_ring v g (omega (arith, m, wide3)) (omega (arith, h, long4))));
      returns_long = returns3 ∙ s.resting.returns_long ∙ sym wide3;
      each_return = λ v d e m. by_default (λ x. RestingReturn x (get_or bs2 v e)) ws3 v w d m
          (by_default (λ y. RestingReturn (get_or ws3 v w) y) bs2 v k e (omega (arith, m, wide3, returns3, s.resting.returns_long))
          (rest_return v (omega (arith, m, wide3))));
    }

    arrivals3 : b2.arrivals ≡ unit_names s.collected.units
    arrivals3 = came.arrivals ∙ ap (λ x. x ++ unit_names s.collected.units) s.begun.arrivals

    up_at : (g : ℕ) → g < n → (get_or ls0 g l).at ≤ to g
    up_at g m = let q = (lane g m).run in blocks_ascend q.desk (get_or ls0 g l).at (to g) q.units q.blocks

    front_is : (g : ℕ) → g < n → (front : SegmentValue) → IsFront b2 g front → name_of front ≡ name_of_samples g (at_of ls0 g) (to g)
    front_is g m front f =
        let rows = board3.2 in
        let known : g < length b1.rows = omega (arith, m, s.plan.2, s.resting.board.2) in
        front_name b2 g (at_of ls0 g) (to g) front f (s.collected.deposited.board.starts g ∙ s.begun.windows g known) (let u = up_at g m in
        let e = start_at g m in omega (arith, u, e))
        (λ i. ap (hits g i) arrivals3 ∙ taken_once p0.block p0.grid n workers
        (at_of ls0) to desk given s.collected.lists s.collected.units are_taken g i m)

    abbrev gain_of : ℕ → GainValue
    gain_of g = (get_or ls0 g l).gain

    -- recordings that have what the lanes gave
    abbrev heard : ℕ → List ℤ
    heard g = replicate (at_of ls0 g) (pos 0) ++ samples_of (given g)

    carried : CarriesSamples b2 gain_of heard
    carried = came.carries gain_of heard (s.begun.carries gain_of heard)
        (taken_stand p0.block p0.grid n workers (at_of ls0) to desk given s.collected.lists s.collected.units are_taken gain_of heard
        (λ g m. (let q = lane g m in ap (λ (x : Desk). x.gain) q.is.0 ∙ q.run.desk_gain))
        (λ g m. drop_replicate (at_of ls0 g) (pos 0) (samples_of (given g))))

    front_heard : (g : ℕ) → g < n → (front : SegmentValue) → IsFront b2 g front → Stands front (gain_of g) (samples_of (given g))
    front_heard g m front f =
        let size : length (samples_of (given g)) ≡ to g - at_of ls0 g = let e =
        blocks_long (desk g) (at_of ls0 g) (to g) (given g) (are_taken.blocks g m) in omega (arith, e) in
        let same : slice_range (heard g) front.from front.to ≡ samples_of (given g) =
        ap (λ (x : Name). slice_range (heard g) x.from x.to) (front_is g m front f)
        ∙ ap (take (to g - at_of ls0 g)) (drop_replicate (at_of ls0 g) (pos 0) (samples_of (given g)))
        ∙ take_all (to g - at_of ls0 g) (samples_of (given g)) (omega (arith, size)) in
        subst (Stands front (gain_of g)) same (f.stands gain_of heard carried)

    lanes3 : length ls2 ≡ n
    lanes3 = back_lanes.1 ∙ s.lent_long.1 ∙ s.long

    abbrev flow : RoundOfFlow
    flow = flow_of ls0 ls2

    end_at : (g : ℕ) → g < n → length (flow.samples g) ≡ to g
    end_at g m = length-replicate (at_of ls2 g) (pos 0) ∙ map_at (λ (x : Lane C). x.at) ls2 g 0 l (omega (arith, m, lanes3))
        ∙ (back_at g m).at

    ring_done : (g v : ℕ) → g < n → v < workers → RingDone p0.block workers flow (value_of p0 b0 rs0 ws0) (value_of p3 b2 rs4 ws3) g v
    ring_done g v h m =
        let wr = worker_at v m in let d = some_taker v m in let e = some_feeder g h in
        let few : g < vec_len (get_or ws0 v w).takers = let x = wide v m in omega (arith, h, x) in
        record {
          units = blocks_of_worker workers v 0 (given g);
          ring = ring_value ws3 v g w d (omega (arith, m, wide3)) (let x = wr.takers in omega (arith, few, x)) ∙ wr.took g d few
              ∙ ap (λ x. taken (get_or (get_or ws0 v w).takers.items g d) ++ round_of x) (ring_even v g m h d e).0
              ∙ ap (λ x. x ++ round_of (blocks_of_worker workers v 0 (given g))) (sym (ring_value ws0 v g w d m few));
          names = ring_is_fed p0.block p0.grid n workers (at_of ls0) to desk given s.collected.lists s.collected.units are_taken flow
              (λ j x. refl) end_at g v h;
        }

    flow_by : (g : ℕ) → ((g < n) ⊎ (n ≤ g))
        → (at_of ls0 g ≤ length (flow.samples g)) × (length (flow.samples g) ≤ at_of ls0 g + BLOCKS_PER_WINDOW * p0.block)
    flow_by g (inl m) =
        let u = up_at g m in let e = start_at g m in let f = end_at g m in let q = (lane g m).run in
        let reach = blocks_reach q.desk (get_or ls0 g l).at (to g) q.units q.blocks in
        let size : length q.units * q.desk.block ≡ length q.units * p0.block =
        ap (λ j. length q.units * j) (q.desk_block ∙ (s.resting.each_reader g r m).size) in
        let most : length q.units * p0.block ≤ BLOCKS_PER_WINDOW * p0.block = mul-le-mul_right p0.block q.few in
        (omega (arith, u, e, f), omega (arith, reach, size, most, e, f))
    flow_by g (inr b) =
        let e : at_of ls0 g ≡ 0 = beyond (λ (x : Lane C). x.at) ls0 g 0 (omega (arith, b, s.long)) in
        let f : length (flow.samples g) ≡ 0 = length-replicate (at_of ls2 g) (pos 0)
        ∙ beyond (λ (x : Lane C). x.at) ls2 g 0 (omega (arith, b, lanes3)) in
        (omega (arith, e, f), omega (arith, e, f))

    lane_done : (g : ℕ) → g < n → LaneDone tells left faults p0.block (get_or ls0 g l) (get_or ls2 g l)
    lane_done g m =
        let x = (lane g m).run in let b = back_at g m in let lent = s.lent g r l m in
        let size = (s.resting.each_reader g r m).size in
        let long : to g - (get_or ls0 g l).at ≡ (get_or ls2 g l).at - (get_or ls0 g l).at = let e = b.at in omega (arith, e) in
        let flows = flow_by g (inl m) in
        record {
          before = x.before;
          now = x.now;
          was = x.was;
          has = b.src ∙ x.has;
          gauge = b.same.0 ∙ lent.same.0;
          gain = b.same.1 ∙ lent.same.1;
          samples = let e = b.at in let f = start_at g m in let h = end_at g m in
              (omega (arith, flows.0, e, f, h), omega (arith, flows.1, e, f, h));
          limit = let e = b.at in let u = x.limit in omega (arith, e, u);
          gives = λ o t. subst (λ e. IsRead (BLOCKS_PER_WINDOW * p0.block) (MAX_SAMPLES - (get_or ls0 g l).at) (left x.before)
              ((get_or ls2 g l).at - (get_or ls0 g l).at) e (left x.now)) (sym b.end)
              (gives_as (BLOCKS_PER_WINDOW * (get_or rs0 g r).desk.block) (BLOCKS_PER_WINDOW * p0.block) (MAX_SAMPLES - (get_or ls0 g l).at)
              (to g - (get_or ls0 g l).at) ((get_or ls2 g l).at - (get_or ls0 g l).at) (left x.before) (left x.now)
              (get_or rs3 g r).desk.end (ap (λ j. BLOCKS_PER_WINDOW * j) size) long (x.gives o t));
          cause = λ o e. x.cause o (sym b.end ∙ e);
          later = x.later;
          ended = λ o. (let e = x.ended o in (b.at ∙ e.0, b.end ∙ e.1, e.2));
        }

    front_done : (g : ℕ) → g < n → (front : SegmentValue) → IsFront b2 g front
        → FrontDone tells left (get_or ls0 g l) (get_or ls2 g l) front
    front_done g m front f =
        let q = lane g m in let x = q.run in let b = back_at g m in
        let gauge = (s.lanes g l (omega (arith, m, s.long))).gauge in
        let long : to g - (get_or ls0 g l).at ≡ (get_or ls2 g l).at - (get_or ls0 g l).at = let e = b.at in omega (arith, e) in
        record {
          name = front_is g m front f ∙ ap (λ a. name_of_samples g a (to g)) (start_at g m)
              ∙ ap (λ a. name_of_samples g (get_or ls0 g l).at a) (sym b.at)
              ∙ ap (λ a. name_of_samples a (get_or ls0 g l).at (get_or ls2 g l).at) (sym gauge);
          stands = λ src e t. (
              let same : x.before ≡ src = same_Some x.before src (sym x.was ∙ e) in
              subst (Stands front (gain_of g)) (ap samples_of q.is.1 ∙ x.samples t ∙ ap (λ j. take j (samples (left x.before))) long
              ∙ ap (λ c. take ((get_or ls2 g l).at - (get_or ls0 g l).at) (samples (left c))) same) (front_heard g m front f));
        }

    is_round : IsRound p0.block workers flow n
    is_round = record {
      at = λ g. (flow_by g (cases_lt g n)).0;
      few = λ g. (flow_by g (cases_lt g n)).1;
      others = λ g b. (
          let e : at_of ls0 g ≡ 0 = beyond (λ (x : Lane C). x.at) ls0 g 0 (omega (arith, b, s.long)) in
          let f : length (flow.samples g) ≡ 0 = length-replicate (at_of ls2 g) (pos 0)
          ∙ beyond (λ (x : Lane C). x.at) ls2 g 0 (omega (arith, b, lanes3)) in
          f ∙ sym e);
    }

    pub done : RoundDone tells left faults (value_of p0 b0 rs0 ws0) (value_of p3 b2 rs4 ws3) ls0 ls2
    done = record {
      grid = kind3;
      gauges = long4;
      block = size3;
      workers = wide3;
      inside = all_inside;
      board = board3;
      long = back_lanes.1 ∙ s.lent_long.1;
      lane = λ g d m. by_default (λ x. LaneDone tells left faults p0.block x (get_or ls2 g d)) ls0 g l d (omega (arith, m, s.long))
          (by_default (λ y. LaneDone tells left faults p0.block (get_or ls0 g l) y) ls2 g l d (omega (arith, m, lanes3)) (lane_done g m));
      front = λ g d front m f. by_default (λ x. FrontDone tells left x (get_or ls2 g d) front) ls0 g l d (omega (arith, m, s.long))
          (by_default (λ y. FrontDone tells left (get_or ls0 g l) y front) ls2 g l d (omega (arith, m, lanes3)) (front_done g m front f));
      rings = ring_done;
      flow = is_round;
      arrivals = subst (AreArrivals p0.block workers flow n) (sym arrivals3)
          (arrived p0.block p0.grid n workers (at_of ls0) to desk given s.collected.lists s.collected.units are_taken flow
          (λ g m. refl) end_at);
      once = λ g i m. ap (hits g i) arrivals3
          ∙ taken_once p0.block p0.grid n workers (at_of ls0) to desk given s.collected.lists s.collected.units are_taken g i m
          ∙ ap (λ b. between (at_of ls0 g) b i)
          (sym (map_at (λ (x : Lane C). x.at) ls2 g 0 l (omega (arith, m, lanes3)) ∙ (back_at g m).at));
    }

-- after a round another may be made of the lanes
pub can_go_on : {C : Type 0} → (tells : Type 0) (left : C → List ℕ) (faults : C → ℕ) (old new : PreparedValue) (ls0 ls2 : List (Lane C))
    → RoundDone tells left faults old new ls0 ls2
    → (length ls0 ≡ old.gauges) × ((g : ℕ) (d : Lane C) → g < length ls0 → CanRound g (get_or ls0 g d))
    → (length ls2 ≡ new.gauges) × ((g : ℕ) (d : Lane C) → g < length ls2 → CanRound g (get_or ls2 g d))
can_go_on tells left faults old new ls0 ls2 h can = (
  h.long ∙ can.0 ∙ sym h.gauges,
  λ g d m. (
      let few : g < length ls0 = omega (arith, m, h.long) in
      let x = h.lane g d (omega (arith, few, can.0)) in
      record { src = x.now; has = x.has; gauge = x.gauge ∙ (can.1 g d few).gauge; at = x.limit }),
)
