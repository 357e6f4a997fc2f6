-- What a round does to a reader and to a worker, from lending to settling.
use Rattle.std.proofs.Common.{◌≡◌, ◌≢◌, inl, inr, ◌≤◌, ◌<◌, ◌+◌, ◌*◌, ◌-◌, ℕ, List, [], ◌++◌, length, take, get_or, vec_len, vec_capacity, sym, ap, ◌∙◌, subst, arith, Some}
use Rattle.calibration.specs.declared.limits.TheConstants.{MAX_SAMPLES}
use Rattle.board.specs.declared.flow.TheConstants.{BLOCKS_PER_WINDOW}
use Rattle.std.specs.List.{All}
use Rattle.std.specs.declared.vec.Vec.{Vec}
use Rattle.std.specs.declared.alloc.Global.{Global}
use Rattle.calibration.specs.Grid.{GridValue}
use Rattle.outside.specs.Fault.{CountRose}
use Rattle.recording.specs.Samples.{samples}
use Rattle.recording.specs.declared.lane_ends.end.End.TheVariants.{More, ReadFault}
use Rattle.recording.specs.lane_ends.Ends.{IsRead}
use Rattle.recording.proofs.on_lane_ends.Giving.{more_or_not}
use Rattle.count_workers.specs.declared.gauge_ring.taker.Taker.{Taker}
use Rattle.count_workers.specs.declared.gauge_ring.feeder.Feeder.{Feeder}
use Rattle.count_workers.specs.gauge_ring.Ends.{fed, taken, IsSameFeeder, IsSameTaker}
use Rattle.board.specs.block_pool.Units.{FilledValue, CountedValue, BlankValue, IsBlank}
use Rattle.count_workers.specs.declared.block_workers.item.Item.{Item}
use Rattle.count_workers.specs.declared.block_workers.desk.Desk.{Desk}
use Rattle.count_workers.specs.declared.block_workers.jobs.Reader.{Reader}
use Rattle.count_workers.specs.declared.block_workers.worker.Worker.{Worker}
use Rattle.count_workers.specs.block_workers.Dealing.{round_of, blocks_of_worker}
use Rattle.count_workers.specs.block_workers.Reading.{AreBlocks, samples_of, ReadDone, SameDesk}
use Rattle.count_workers.specs.block_workers.Reading.AreBlocks.{none}
use Rattle.count_workers.specs.block_workers.Working.{in_turn, AreCounts, return_round, WorkJob, IsIdle, waiting_in}
use Rattle.count_workers.specs.block_workers.Jobs.{RingAt, CanRead, ReadJob, NotRead, SameRead, SameWork}
use Rattle.count_workers.proofs.on_block_workers.Blocks.{gives_as}
use Rattle.count_workers.proofs.on_gauge_ring.Ends.{same_feeders, same_takers, still_one}
use Rattle.count_workers.specs.declared.collector.collecting.Return.{Return}
use Rattle.count_workers.specs.collector.Settling.{SameFeeding, ReturnAt}
use Rattle.count_workers.specs.declared.lane_loans.lane.Lane.{Lane}
use Rattle.count_workers.specs.lane_loans.Lent.{LendsSource}

fit_as : (b c : ℕ) (g k : GridValue) (xs : List BlankValue) → b ≡ c → g ≡ k → All (IsBlank b g) xs → All (IsBlank c k) xs
fit_as b c g k xs e f h = subst (λ x. All (IsBlank c x) xs) f (subst (λ x. All (IsBlank x g) xs) e h)

module _ {C : Type 0} where
  -- a reader after a round, and the blocks that its lane gave
  pub record LaneRan (tells : Type 0) (left : C → List ℕ) (faults : C → ℕ) (workers : ℕ) (r0 r3 : Reader C) (l0 : Lane C) : Type 0 where
    pub desk : Desk
    pub desk_gauge : desk.gauge ≡ r0.desk.gauge
    pub desk_gain : desk.gain ≡ l0.gain
    pub desk_block : desk.block ≡ r0.desk.block
    pub desk_grid : desk.grid ≡ r0.desk.grid
    pub units : List FilledValue
    pub few : length units ≤ BLOCKS_PER_WINDOW
    pub blocks : AreBlocks desk l0.at units r3.desk.at
    pub before : C
    pub now : C
    pub was : l0.src ≡ Some before
    pub has : r3.src ≡ Some now
    pub samples : tells → samples_of units ≡ take (r3.desk.at - l0.at) (samples (left before))
    pub limit : r3.desk.at ≤ MAX_SAMPLES
    pub gives : l0.end ≡ More → tells → IsRead (BLOCKS_PER_WINDOW * r0.desk.block) (MAX_SAMPLES - l0.at) (left before) (r3.desk.at - l0.at)
        r3.desk.end (left now)
    pub cause : l0.end ≡ More → r3.desk.end ≡ ReadFault → CountRose (faults before) (faults now)
    pub later : faults before ≤ faults now
    pub ended : l0.end ≢ More → (r3.desk.at ≡ l0.at) × (r3.desk.end ≡ l0.end) × (now ≡ before)
    pub fed : (v : ℕ) (d : Feeder Item) → v < workers
        → fed (get_or r3.desk.feeders.items v d) ≡ fed (get_or r0.desk.feeders.items v d) ++ round_of (blocks_of_worker workers v 0 units)
    pub ends : (v : ℕ) (d : Feeder Item) → v < workers → IsSameFeeder (get_or r0.desk.feeders.items v d) (get_or r3.desk.feeders.items v d)
    pub blanks : vec_len r3.desk.blanks + length units ≡ BLOCKS_PER_WINDOW
    pub fit : All (IsBlank r0.desk.block r0.desk.grid) r3.desk.blanks.items
    pub gauge : r3.desk.gauge ≡ r0.desk.gauge
    pub block : r3.desk.block ≡ r0.desk.block
    pub grid : r3.desk.grid ≡ r0.desk.grid
    pub feeders : vec_len r3.desk.feeders ≡ workers
    pub room : BLOCKS_PER_WINDOW ≤ vec_capacity r3.desk.blanks

  -- what a reader's job keeps, whatever its lane
  pub record JobKeeps (workers : ℕ) (r1 r2 : Reader C) : Type 0 where
    pub same : SameDesk r1.desk r2.desk
    pub ends : (v : ℕ) (d : Feeder Item) → v < workers → IsSameFeeder (get_or r1.desk.feeders.items v d) (get_or r2.desk.feeders.items v d)

  pub job_keeps : (tells : Type 0) (left : C → List ℕ) (faults : C → ℕ) (workers : ℕ) (r1 r2 : Reader C)
      → vec_len r1.desk.feeders ≡ workers → ReadJob tells left faults r1 r2 → JobKeeps workers r1 r2
  job_keeps tells left faults workers r1 r2 wide job = elim (more_or_not r1.desk.end) [
    | inl q ↦ (let rd = (job.read q).0 in record { same = rd.same; ends = λ v d m. rd.ends v d (omega (arith, m, wide)) })
    | inr o ↦ (let nr = (job.ended o).0 in record { same = nr.same; ends = λ v d m. nr.ends v d (omega (arith, m, wide)) })
  ]

  -- from a resting reader to the end of its job
  pub ends_so_far : (workers : ℕ) (r0 r1 r2 : Reader C) (l0 l1 : Lane C) → LendsSource r0 r1 l0 l1 → JobKeeps workers r1 r2
      → (v : ℕ) (d : Feeder Item) → v < workers → IsSameFeeder (get_or r0.desk.feeders.items v d) (get_or r2.desk.feeders.items v d)
  ends_so_far workers r0 r1 r2 l0 l1 lent keeps v d m =
      subst (λ (fs : Vec (Feeder Item) Global). IsSameFeeder (get_or fs.items v d) (get_or r2.desk.feeders.items v d)) lent.feeders
      (keeps.ends v d m)

  ran_on : (tells : Type 0) (left : C → List ℕ) (faults : C → ℕ) (workers : ℕ) (r0 r1 r2 r3 : Reader C) (l0 l1 : Lane C)
      → vec_len r0.desk.feeders ≡ workers → BLOCKS_PER_WINDOW ≤ vec_capacity r0.desk.blanks → LendsSource r0 r1 l0 l1
      → (job : ReadJob tells left faults r1 r2) → SameRead r2 r3 → JobKeeps workers r1 r2
      → l0.end ≡ More → ReadDone tells (left job.before) (left job.now) r1.desk r2.desk
      → (r2.desk.end ≡ ReadFault → CountRose (faults job.before) (faults job.now)) → LaneRan tells left faults workers r0 r3 l0
  ran_on tells left faults workers r0 r1 r2 r3 l0 l1 wide room lent job same keeps q rd cause =
      let b = job.before in let n = job.now in
      let here : vec_len r1.desk.feeders ≡ workers = ap (λ (fs : Vec (Feeder Item) Global). vec_len fs) lent.feeders ∙ wide in
      let long : r2.desk.at - r1.desk.at ≡ r3.desk.at - l0.at = omega (arith, lent.at, same.at) in
      record {
        desk = r1.desk;
        desk_gauge = lent.gauge;
        desk_gain = lent.gain;
        desk_block = lent.block;
        desk_grid = lent.grid;
        units = rd.units;
        few = rd.few;
        blocks = subst (λ a. AreBlocks r1.desk a rd.units r3.desk.at) lent.at
            (subst (λ t. AreBlocks r1.desk r1.desk.at rd.units t) (sym same.at) rd.blocks);
        before = b;
        now = n;
        was = sym lent.src ∙ job.was;
        has = same.src ∙ job.has;
        samples = λ t. rd.samples t ∙ ap (λ k. take k (samples (left b))) long;
        limit = let l = rd.limit in let e = same.at in omega (arith, l, e);
        gives = λ m t. subst (λ e. IsRead (BLOCKS_PER_WINDOW * r0.desk.block) (MAX_SAMPLES - l0.at) (left b)
            (r3.desk.at - l0.at) e (left n))
            (sym same.end)
            (subst (λ a. IsRead (BLOCKS_PER_WINDOW * r0.desk.block) (MAX_SAMPLES - a) (left b) (r3.desk.at - l0.at) r2.desk.end (left n))
            lent.at
            (gives_as (BLOCKS_PER_WINDOW * r1.desk.block) (BLOCKS_PER_WINDOW * r0.desk.block) (MAX_SAMPLES - r1.desk.at)
            (r2.desk.at - r1.desk.at) (r3.desk.at - l0.at) (left b) (left n) r2.desk.end (ap (λ k. BLOCKS_PER_WINDOW * k) lent.block) long
            (rd.gives t)));
        cause = λ m f. cause (sym same.end ∙ f);
        later = job.later;
        ended = λ o. absurd (o q);
        fed = λ v d m. same.fed v d ∙ rd.fed v d (omega (arith, m, here))
            ∙ ap (λ k. fed (get_or r1.desk.feeders.items v d) ++ round_of (blocks_of_worker k v 0 rd.units)) here
            ∙ ap (λ (fs : Vec (Feeder Item) Global). fed (get_or fs.items v d)
            ++ round_of (blocks_of_worker workers v 0 rd.units)) lent.feeders;
        ends = λ v d m. same_feeders (get_or r0.desk.feeders.items v d) (get_or r2.desk.feeders.items v d)
            (get_or r3.desk.feeders.items v d) (ends_so_far workers r0 r1 r2 l0 l1 lent keeps v d m) (same.ends v d);
        blanks = let e = rd.blanks in let f = lent.blanks in
            let k : vec_len r3.desk.blanks ≡ vec_len r2.desk.blanks = ap (λ (x : Vec BlankValue Global). vec_len x) same.blanks in
            omega (arith, e, f, k);
        fit = fit_as r1.desk.block r0.desk.block r1.desk.grid r0.desk.grid r3.desk.blanks.items lent.block lent.grid
            (subst (λ (x : Vec BlankValue Global). All (IsBlank r1.desk.block r1.desk.grid) x.items) (sym same.blanks) rd.fit);
        gauge = same.gauge ∙ keeps.same.gauge ∙ lent.gauge;
        block = same.block ∙ keeps.same.block ∙ lent.block;
        grid = same.grid ∙ keeps.same.grid ∙ lent.grid;
        feeders = same.feeders ∙ keeps.same.feeders ∙ here;
        room = let k : vec_capacity r3.desk.blanks ≡ vec_capacity r2.desk.blanks =
            ap (λ (x : Vec BlankValue Global). vec_capacity x) same.blanks in let e = keeps.same.room in let f = lent.room in
            omega (arith, room, k, e, f);
      }

  ran_over : (tells : Type 0) (left : C → List ℕ) (faults : C → ℕ) (workers : ℕ) (r0 r1 r2 r3 : Reader C) (l0 l1 : Lane C)
      → vec_len r0.desk.feeders ≡ workers → BLOCKS_PER_WINDOW ≤ vec_capacity r0.desk.blanks → l0.at ≤ MAX_SAMPLES → LendsSource r0 r1 l0 l1
      → CanRead r1 → (job : ReadJob tells left faults r1 r2) → SameRead r2 r3 → JobKeeps workers r1 r2
      → l0.end ≢ More → NotRead r1.desk r2.desk → job.now ≡ job.before → LaneRan tells left faults workers r0 r3 l0
  ran_over tells left faults workers r0 r1 r2 r3 l0 l1 wide room limit lent can job same keeps o nr still =
      let here : vec_len r1.desk.feeders ≡ workers = ap (λ (fs : Vec (Feeder Item) Global). vec_len fs) lent.feeders ∙ wide in
      let at : r3.desk.at ≡ l0.at = same.at ∙ nr.at ∙ lent.at in
      let blanks : r3.desk.blanks ≡ r1.desk.blanks = same.blanks ∙ nr.blanks in
      let no_samples : r3.desk.at - l0.at ≡ 0 = omega (arith, at) in
      record {
        desk = r1.desk;
        desk_gauge = lent.gauge;
        desk_gain = lent.gain;
        desk_block = lent.block;
        desk_grid = lent.grid;
        units = [];
        few = omega arith;
        blocks = subst (λ b. AreBlocks r1.desk l0.at [] b) (sym at) none;
        before = job.before;
        now = job.now;
        was = sym lent.src ∙ job.was;
        has = same.src ∙ job.has;
        samples = λ t. sym (ap (λ k. take k (samples (left job.before))) no_samples);
        limit = omega (arith, limit, at);
        gives = λ m t. absurd (o m);
        cause = λ m f. absurd (o m);
        later = job.later;
        ended = λ m. (at, same.end ∙ nr.end ∙ lent.end, still);
        fed = λ v d m. same.fed v d ∙ nr.fed v d (omega (arith, m, here))
            ∙ ap (λ (fs : Vec (Feeder Item) Global). fed (get_or fs.items v d) ++ round_of []) lent.feeders;
        ends = λ v d m. same_feeders (get_or r0.desk.feeders.items v d) (get_or r2.desk.feeders.items v d)
            (get_or r3.desk.feeders.items v d) (ends_so_far workers r0 r1 r2 l0 l1 lent keeps v d m) (same.ends v d);
        blanks = let f = lent.blanks in let k : vec_len r3.desk.blanks ≡ vec_len r1.desk.blanks =
            ap (λ (x : Vec BlankValue Global). vec_len x) blanks in omega (arith, f, k);
        fit = fit_as r1.desk.block r0.desk.block r1.desk.grid r0.desk.grid r3.desk.blanks.items lent.block lent.grid
            (subst (λ (x : Vec BlankValue Global). All (IsBlank r1.desk.block r1.desk.grid) x.items) (sym blanks) can.fit);
        gauge = same.gauge ∙ keeps.same.gauge ∙ lent.gauge;
        block = same.block ∙ keeps.same.block ∙ lent.block;
        grid = same.grid ∙ keeps.same.grid ∙ lent.grid;
        feeders = same.feeders ∙ keeps.same.feeders ∙ here;
        room = let k : vec_capacity r3.desk.blanks ≡ vec_capacity r2.desk.blanks =
            ap (λ (x : Vec BlankValue Global). vec_capacity x) same.blanks in let e = keeps.same.room in let f = lent.room in
            omega (arith, room, k, e, f);
      }

  pub lane_ran : (tells : Type 0) (left : C → List ℕ) (faults : C → ℕ) (workers : ℕ) (r0 r1 r2 r3 : Reader C) (l0 l1 : Lane C)
      → vec_len r0.desk.feeders ≡ workers → BLOCKS_PER_WINDOW ≤ vec_capacity r0.desk.blanks → l0.at ≤ MAX_SAMPLES → LendsSource r0 r1 l0 l1
      → CanRead r1 → ReadJob tells left faults r1 r2 → SameRead r2 r3 → LaneRan tells left faults workers r0 r3 l0
  lane_ran tells left faults workers r0 r1 r2 r3 l0 l1 wide room limit lent can job same =
      let here : vec_len r1.desk.feeders ≡ workers = ap (λ (fs : Vec (Feeder Item) Global). vec_len fs) lent.feeders ∙ wide in
      let keeps = job_keeps tells left faults workers r1 r2 here job in
      elim (more_or_not r1.desk.end) [
        | inl q ↦ ran_on tells left faults workers r0 r1 r2 r3 l0 l1 wide room lent job same keeps (sym lent.end ∙ q) (job.read q).0
            (job.read q).1
        | inr o ↦ ran_over tells left faults workers r0 r1 r2 r3 l0 l1 wide room limit lent can job same keeps (λ q. o (lent.end ∙ q))
            (job.ended o).0 (job.ended o).1
      ]

  -- the ends of a ring until the jobs are done
  pub ring_so_far : (tells : Type 0) (left : C → List ℕ) (faults : C → ℕ) (workers g v : ℕ) (r0 r1 r2 : Reader C) (l0 l1 : Lane C)
      (w0 w1 : Worker) → v < workers → vec_len r0.desk.feeders ≡ workers → LendsSource r0 r1 l0 l1
      → ReadJob tells left faults r1 r2 → WorkJob w0 w1 → RingAt w0 r0 g v → RingAt w1 r2 g v
  ring_so_far tells left faults workers g v r0 r1 r2 l0 l1 w0 w1 m wide lent job work ring =
      let here : vec_len r1.desk.feeders ≡ workers = ap (λ (fs : Vec (Feeder Item) Global). vec_len fs) lent.feeders ∙ wide in
      record {
        one = λ d e. still_one (get_or r0.desk.feeders.items v e) (get_or r2.desk.feeders.items v e) (get_or w0.takers.items g d)
            (get_or w1.takers.items g d) (ring.one d e)
            (ends_so_far workers r0 r1 r2 l0 l1 lent (job_keeps tells left faults workers r1 r2 here job) v e m)
            (work.ends g d);
      }

  pub feeders_so_far : (tells : Type 0) (left : C → List ℕ) (faults : C → ℕ) (workers : ℕ) (r0 r1 r2 : Reader C) (l0 l1 : Lane C)
      → vec_len r0.desk.feeders ≡ workers → LendsSource r0 r1 l0 l1 → ReadJob tells left faults r1 r2 → vec_len r2.desk.feeders ≡ workers
  feeders_so_far tells left faults workers r0 r1 r2 l0 l1 wide lent job =
      let here : vec_len r1.desk.feeders ≡ workers = ap (λ (fs : Vec (Feeder Item) Global). vec_len fs) lent.feeders ∙ wide in
      (job_keeps tells left faults workers r1 r2 here job).same.feeders ∙ here

-- the ends of a return ring until the first settling
pub back_so_far : (w0 w1 w2 : Worker) (b0 b1 : Return) → ReturnAt w0 b0 → WorkJob w0 w1 → SameWork w1 w2 → IsSameTaker b0.taker b1.taker
    → ReturnAt w2 b1
back_so_far w0 w1 w2 b0 b1 ring job same taker =
    record {
      one = still_one w0.back w2.back b0.taker b1.taker ring.one
          (same_feeders w0.back w1.back w2.back job.same same.back.1) taker;
    }

-- a worker after a round, what it took of each gauge and what it fed back
pub record WorkerRan (w0 w3 : Worker) : Type 0 where
  pub number : w3.number ≡ w0.number
  pub takers : vec_len w3.takers ≡ vec_len w0.takers
  pub blocks : ℕ → List FilledValue
  pub took : (g : ℕ) (d : Taker Item) → g < vec_len w0.takers
      → taken (get_or w3.takers.items g d) ≡ taken (get_or w0.takers.items g d) ++ round_of (blocks g)
  pub ends : (g : ℕ) (d : Taker Item) → g < vec_len w0.takers → IsSameTaker (get_or w0.takers.items g d) (get_or w3.takers.items g d)
  pub units : List CountedValue
  pub counts : AreCounts (in_turn (vec_len w0.takers) blocks) units
  pub fed : fed w3.back ≡ fed w0.back ++ return_round units
  pub same : IsSameFeeder w0.back w3.back
  pub idle : IsIdle w3

pub worker_ran : (w0 w1 w2 w3 : Worker) → WorkJob w0 w1 → SameWork w1 w2 → SameFeeding w2 w3 → WorkerRan w0 w3
worker_ran w0 w1 w2 w3 job same feeding = record {
  number = feeding.number ∙ same.number ∙ job.number;
  takers = ap (λ (x : Vec (Taker Item) Global). vec_len x) feeding.takers ∙ same.takers ∙ job.takers;
  blocks = job.blocks;
  took = λ g d m. ap (λ (x : Vec (Taker Item) Global). taken (get_or x.items g d)) feeding.takers ∙ same.taken g d ∙ job.took g d m;
  ends = λ g d m. subst (λ (x : Vec (Taker Item) Global). IsSameTaker (get_or w0.takers.items g d) (get_or x.items g d))
      (sym feeding.takers)
      (same_takers (get_or w0.takers.items g d) (get_or w1.takers.items g d) (get_or w2.takers.items g d) (job.ends g d) (same.ends g d));
  units = job.units;
  counts = job.counts;
  fed = feeding.fed ∙ same.back.0 ∙ job.fed;
  same = same_feeders w0.back w2.back w3.back (same_feeders w0.back w1.back w2.back job.same same.back.1) feeding.same;
  idle = ap waiting_in (feeding.line ∙ same.line) ∙ job.idle;
}
