-- Readers, workers and rings while rounds are prepared.
use Rattle.std.proofs.Common.{◌≡◌, ◌⊎◌, inl, inr, ◌≤◌, ◌<◌, ◌+◌, ◌*◌, ℕ, List, [], ◌∷◌, ◌++◌, length, get_or, map, set, vec_len, vec_capacity, sym, ap, ◌∙◌, subst, arith, length-append}
use Rattle.std.proofs.lemmas.List.{get_or-set_same, get_or-set_other, get_or_append_left}
use Rattle.std.proofs.Math.Seq.{get_or-append_seam}
use Rattle.std.proofs.lemmas.Bool.{cases_eq}
use Rattle.count_workers.specs.declared.gauge_ring.taker.Taker.{Taker}
use Rattle.count_workers.specs.declared.gauge_ring.feeder.Feeder.{Feeder}
use Rattle.count_workers.specs.gauge_ring.Ends.{fed, taken, AreOneRing}
use Rattle.count_workers.specs.declared.block_workers.item.Item.{Item}
use Rattle.count_workers.specs.declared.block_workers.item.Back.{Back}
use Rattle.count_workers.specs.declared.block_workers.jobs.Reader.{Reader}
use Rattle.count_workers.specs.declared.block_workers.worker.Worker.{Worker}
use Rattle.count_workers.specs.declared.plan.Plan.{Plan}
use Rattle.count_workers.specs.Plans.{IsPlan}
use Rattle.count_workers.specs.block_workers.Working.{waiting_in}
use Rattle.count_workers.specs.round_making.Resting.{IsEven, RestingWorker, RestingReturn, IsResting, rings_of}
use Rattle.count_workers.proofs.on_lane_loans.Walking.{map_at, some_of}
use Rattle.board.specs.block_pool.Units.{PoolValue}
use Rattle.board.specs.Board.{BoardValue}
use Rattle.count_workers.specs.declared.collector.collecting.Return.{Return}
use Rattle.count_workers.specs.Preparing.{IsFreshReader, NewReaders, ConnectsRing, NewWorker}
use Rattle.board.specs.declared.flow.TheConstants.{BLOCKS_PER_WINDOW}

pushed_by : {A : Type 0} → (P : ℕ → A → Type 0) (xs : List A) (x : A) (k u : ℕ) (d : A) → length xs ≡ k → (u < k → P u (get_or xs u d))
    → P k x → u < k + 1 → ((u ≡ k) ⊎ (u ≡ k → ⊥)) → P u (get_or (xs ++ x ∷ []) u d)
pushed_by P xs x k u d e before here m (inl q) =
    subst (λ j. P j (get_or (xs ++ x ∷ []) j d)) (e ∙ sym q)
    (subst (P (length xs)) (sym (get_or-append_seam xs x [] d)) (subst (λ j. P j x) (sym e) here))
pushed_by P xs x k u d e before here m (inr o) =
    subst (P u) (sym (get_or_append_left xs (x ∷ []) d u (omega (arith, e, m, o)))) (before (omega (arith, m, o)))

-- an item more
pub pushed : {A : Type 0} → (P : ℕ → A → Type 0) (xs ys : List A) (x : A) (k : ℕ) → ys ≡ xs ++ x ∷ [] → length xs ≡ k
    → ((u : ℕ) (d : A) → u < k → P u (get_or xs u d)) → P k x → (u : ℕ) (d : A) → u < k + 1 → P u (get_or ys u d)
pushed P xs ys x k q e before here u d m =
    subst (λ zs. P u (get_or zs u d)) (sym q) (pushed_by P xs x k u d e (before u d) here m (cases_eq u k))

-- an item changed in one list, and one more in the other
pub set_pushed : {A B : Type 0} → (R : A → A → B → Type 0) (xs ys : List A) (zs ws : List B) (k : ℕ) (a : A) (b : B) (d : A) (e : B)
    → k < length ys → length zs ≡ k → ws ≡ zs ++ b ∷ [] → ((i : ℕ) (c : B) → i < k → R (get_or xs i d) (get_or ys i d) (get_or zs i c))
    → R (get_or xs k d) a b
    → (u : ℕ) → u < k + 1 → R (get_or xs u d) (get_or (set ys k a) u d) (get_or ws u e)
set_pushed R xs ys zs ws k a b d e l n q before here u m =
    pushed (λ i c. R (get_or xs i d) (get_or (set ys k a) i d) c) zs ws b k q n
    (λ i c o. subst (λ x. R (get_or xs i d) x (get_or zs i c)) (sym (get_or-set_other ys k i a d (λ p. omega (arith, p, o))))
    (before i c o))
    (subst (λ x. R (get_or xs k d) x b) (sym (get_or-set_same ys k a d l)) here) u e m

-- two items more
pub two_pushed : {A B : Type 0} → (R : A → B → Type 0) (xs ys : List A) (zs ws : List B) (a : A) (b : B) (k : ℕ) → ys ≡ xs ++ a ∷ []
    → ws ≡ zs ++ b ∷ [] → length xs ≡ k → length zs ≡ k → ((u : ℕ) (d : A) (e : B) → u < k → R (get_or xs u d) (get_or zs u e)) → R a b
    → (u : ℕ) (d : A) (e : B) → u < k + 1 → R (get_or ys u d) (get_or ws u e)
two_pushed R xs ys zs ws a b k p q m n before here u d e l =
    pushed (λ i x. (c : _) → R x (get_or ws i c)) xs ys a k p m
    (λ i x o c. subst (λ vs. R (get_or xs i x) (get_or vs i c)) (sym q)
    (subst (λ y. R (get_or xs i x) y) (sym (get_or_append_left zs (b ∷ []) c i (omega (arith, n, o)))) (before i x c o)))
    (λ c. subst (λ vs. R a (get_or vs k c)) (sym q)
    (subst (λ j. R a (get_or (zs ++ b ∷ []) j c)) n (subst (R a) (sym (get_or-append_seam zs b [] c)) here))) u d l e

module _ {C : Type 0} where
  pub fresh_more : (plan : Plan) (g k : ℕ) (old new : Reader C) (t : Taker Item) → IsFreshReader plan g k old → ConnectsRing old new t
      → IsFreshReader plan g (k + 1) new
  fresh_more plan g k old new t h c = record {
    src = c.src ∙ h.src;
    gauge = c.gauge ∙ h.gauge;
    size = c.size ∙ h.size;
    kind = c.kind ∙ h.kind;
    feeders = (
        let a = old.desk.feeders.ok.0 in let b = new.desk.feeders.ok.0 in
        let n : length new.desk.feeders.items ≡ length old.desk.feeders.items + 1 = ap length c.feeders
        ∙ length-append old.desk.feeders.items (c.feeder ∷ []) in
        let f = h.feeders in omega (arith, a, b, n, f));
    places = let p = h.places in let q = c.places in omega (arith, p, q);
    blanks = ap (λ x. vec_len x) c.blanks ∙ h.blanks;
    room = let p = h.room in let q = ap (λ x. vec_capacity x) c.blanks in omega (arith, p, q);
  }

  -- the rings that were there
  pub even_still : (w : Worker) (old new : Reader C) (g v k : ℕ) (t : Taker Item) → vec_len old.desk.feeders ≡ k → v < k
      → ConnectsRing old new t → IsEven w old g v → IsEven w new g v
  even_still w old new g v k t n l c h =
      let a = old.desk.feeders.ok.0 in
      let same : (e : Feeder Item) → get_or new.desk.feeders.items v e ≡ get_or old.desk.feeders.items v e =
      λ e. ap (λ x. get_or x v e) c.feeders ∙ get_or_append_left old.desk.feeders.items (c.feeder ∷ []) e v (omega (arith, n, l, a)) in
      record {
        one = record { one = λ d e. subst (λ f. AreOneRing f (get_or w.takers.items g d)) (sym (same e)) (h.one.one d e) };
        even = λ d e. ap (λ f. fed f) (same e) ∙ h.even d e;
      }

  -- and the new one
  pub even_new : (w : Worker) (old new : Reader C) (g k : ℕ) → vec_len old.desk.feeders ≡ k
      → ((e : Taker Item) → ConnectsRing old new (get_or w.takers.items g e)) → IsEven w new g k
  even_new w old new g k n c =
      let a = old.desk.feeders.ok.0 in
      let last : (d : Taker Item) (e : Feeder Item) → get_or new.desk.feeders.items k e ≡ (c d).feeder = λ d e.
      (let at : length old.desk.feeders.items ≡ k = omega (arith, n, a) in
      ap (λ x. get_or x k e) (c d).feeders ∙ ap (λ j. get_or (old.desk.feeders.items ++ (c d).feeder ∷ []) j e) (sym at)
      ∙ get_or-append_seam old.desk.feeders.items (c d).feeder [] e) in
      record {
        one = record { one = λ d e. subst (λ f. AreOneRing f (get_or w.takers.items g d)) (sym (last d e)) (c d).one };
        even = λ d e. ap (λ f. fed f) (last d e) ∙ (c d).fresh.0 ∙ sym (c d).fresh.1;
      }

-- so many workers, each with its return ring and a ring from each reader
pub record Preparing {C : Type 0} (plan : Plan) (k : ℕ) (rs : List (Reader C)) (ws : List Worker) (bs : List Return) : Type 0 where
  pub long : length rs ≡ plan.gauges
  pub made : (length ws ≡ k) × (length bs ≡ k)
  pub readers : NewReaders plan k rs
  pub workers : (v : ℕ) (d : Worker) → v < k → RestingWorker plan.gauges v (get_or ws v d)
  pub rings : (v g : ℕ) (d : Worker) (e : Reader C) → v < k → g < plan.gauges → IsEven (get_or ws v d) (get_or rs g e) g v
  pub returns : (v : ℕ) (d : Worker) (e : Return) → v < k → RestingReturn (get_or ws v d) (get_or bs v e)
  pub fresh : (v g : ℕ) (d : Worker) (e : Taker Item) → v < k → g < plan.gauges → taken (get_or (get_or ws v d).takers.items g e) ≡ []

module _ {C : Type 0} where
  pub prepared_none : (plan : Plan) (rs : List (Reader C)) (ws : List Worker) (bs : List Return) → length rs ≡ plan.gauges
      → NewReaders plan 0 rs → length ws ≡ 0 → length bs ≡ 0 → Preparing plan 0 rs ws bs
  prepared_none plan rs ws bs n h a b = record {
    long = n;
    made = (a, b);
    readers = h;
    workers = λ v d m. absurd (omega (arith, m));
    rings =
        λ v g d e m. absurd (omega (arith, m));
    returns = λ v d e m. absurd (omega (arith, m));
    fresh = λ v g d e m. absurd (omega (arith, m));
  }

  pub prepared_more : (plan : Plan) (k : ℕ) (rs rs' : List (Reader C)) (ws ws' : List Worker) (bs bs' : List Return) (w : Worker)
      (b : Return) (back : Feeder Back) → Preparing plan k rs ws bs → NewWorker k back rs rs' w → RestingReturn w b → ws' ≡ ws ++ w ∷ []
      → bs' ≡ bs ++ b ∷ [] → 1 ≤ plan.gauges
      → Preparing plan (k + 1) rs' ws' bs'
  prepared_more plan k rs rs' ws ws' bs bs' w b back h n r p q some =
      let t : Taker Item = some_of w.takers.items (let e = w.takers.ok.0 in let f = n.takers in let g = h.long in
      omega (arith, e, f, g, some)) in
      record {
        long = n.long ∙ h.long;
        made = (
          (let e : length ws' ≡ length ws + 1 = ap length p ∙ length-append ws (w ∷ []) in omega (arith, e, h.made.0)),
          (let e : length bs' ≡ length bs + 1 = ap length q ∙ length-append bs (b ∷ []) in omega (arith, e, h.made.1)),
        );
        readers = λ g d m. (let l : g < length rs = omega (arith, m, n.long) in
            fresh_more plan g k (get_or rs g d) (get_or rs' g d) (get_or w.takers.items g t) (h.readers g d l) (n.rings g d t l));
        workers = pushed (λ v x. RestingWorker plan.gauges v x) ws ws' w k p h.made.0 h.workers
            (record { number = n.number_is; takers = n.takers ∙ h.long; idle = ap waiting_in n.alone });
        rings = λ v g d e m l. (
            let few : g < length rs = omega (arith, l, h.long) in
            let rings_at : vec_len (get_or rs g e).desk.feeders ≡ k = (h.readers g e few).feeders in
            pushed (λ u x. IsEven x (get_or rs' g e) g u) ws ws' w k p h.made.0
            (λ u x o. even_still (get_or ws u x) (get_or rs g e) (get_or rs' g e) g u k (get_or w.takers.items g t) rings_at o
            (n.rings g e t few) (h.rings u g x e o l))
            (even_new w (get_or rs g e) (get_or rs' g e) g k rings_at (λ c. n.rings g e c few)) v d m);
        returns = two_pushed RestingReturn ws ws' bs bs' w b k p q h.made.0 h.made.1 h.returns r;
        fresh = λ v g d e m l. pushed (λ u x. taken (get_or x.takers.items g e) ≡ []) ws ws' w k p h.made.0
            (λ u x o. h.fresh u g x e o l) (n.rings g (some_of rs (omega (arith, l, h.long))) e (omega (arith, l, h.long))).fresh.1 v d m;
      }

  -- with all workers nothing was taken from any ring
  pub nothing_taken : (plan : Plan) (k : ℕ) (rs : List (Reader C)) (ws : List Worker) (bs : List Return) → k ≡ plan.workers
      → Preparing plan k rs ws bs → (g v : ℕ) → g < plan.gauges → v < plan.workers → get_or (get_or (rings_of ws) v []) g [] ≡ []
  nothing_taken plan k rs ws bs all h g v l m =
      let few : v < length ws = omega (arith, m, all, h.made.0) in
      let w : Worker = some_of ws (omega (arith, few)) in
      let long : g < length (get_or ws v w).takers.items =
      let e = (get_or ws v w).takers.ok.0 in let f = (h.workers v w (omega (arith, m, all))).takers in omega (arith, e, f, l) in
      let t : Taker Item = some_of (get_or ws v w).takers.items (omega (arith, long)) in
      ap (λ x. get_or x g []) (map_at (λ (x : Worker). map (λ (i : Taker Item). taken i) x.takers.items) ws v [] w few)
      ∙ map_at (λ (i : Taker Item). taken i) (get_or ws v w).takers.items g [] t long ∙ h.fresh v g w t (omega (arith, m, all)) l

  -- with all workers everything rests
  pub rests_first : (plan : Plan) (p : PoolValue) (b : BoardValue) (k : ℕ) (rs : List (Reader C)) (ws : List Worker) (bs : List Return)
      → IsPlan plan → k ≡ plan.workers → Preparing plan k rs ws bs
      → p ≡ record {
        units = BLOCKS_PER_WINDOW * plan.gauges;
        block = plan.block;
        grid = plan.grid;
        inside = BLOCKS_PER_WINDOW * plan.gauges;
      }
      → (b.grid ≡ plan.grid) × (b.block ≡ plan.block) × (length b.rows ≡ plan.gauges)
      → IsResting p b rs ws bs
  rests_first plan p b k rs ws bs ok all h pool board =
      let size : p.block ≡ plan.block = ap (λ (x : PoolValue). x.block) pool in
      let kind : p.grid ≡ plan.grid = ap (λ (x : PoolValue). x.grid) pool in
      let units : p.units ≡ BLOCKS_PER_WINDOW * plan.gauges = ap (λ (x : PoolValue). x.units) pool in
      let inside : p.inside ≡ BLOCKS_PER_WINDOW * plan.gauges = ap (λ (x : PoolValue). x.inside) pool in
      record {
        gauges_few = let x = ok.gauges in (omega (arith, x.0, h.long), omega (arith, x.1, h.long));
        block = let x = ok.block in (omega (arith, x.0, size), omega (arith, x.1, size));
        workers_few = let x = ok.workers in (omega (arith, x.0, h.made.0, all), omega (arith, x.1, h.made.0, all));
        pool = (omega (arith, units, h.long), omega (arith, inside, h.long));
        board = (board.0 ∙ sym kind, board.1 ∙ sym size, board.2 ∙ sym h.long);
        each_reader = λ g d m. (
            let r = h.readers g d m in
            record {
              src = r.src;
              gauge = r.gauge;
              size = r.size ∙ sym size;
              kind = r.kind ∙ sym kind;
              feeders = r.feeders
                  ∙ sym h.made.0;
              blanks = r.blanks;
              room = r.room;
            });
        each_worker = λ v d m. (let r = h.workers v d (omega (arith, m, h.made.0)) in
            record { number = r.number; takers = r.takers ∙ sym h.long; idle = r.idle });
        rings = λ v g d e m l. h.rings v g d e (omega (arith, m, h.made.0)) (omega (arith, l, h.long));
        returns_long = h.made.1 ∙ sym h.made.0;
        each_return = λ v d e m. h.returns v d e (omega (arith, m, h.made.0));
      }
