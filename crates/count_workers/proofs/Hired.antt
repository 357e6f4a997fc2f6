-- Prepared rounds whose workers are given helpers, or lose them, are seen as they were and rest as they did.
use Rattle.std.proofs.Common.{◌≡◌, ◌<◌, ℕ, zero, suc, List, [], ◌∷◌, ◌++◌, length, take, drop, map, get_or, vec_len, refl, sym, ap, ◌∙◌, subst, arith}
use Rattle.lemmas.proofs.Lists.{all_written}
use Rattle.count_workers.specs.declared.gauge_ring.taker.Taker.{Taker}
use Rattle.std.specs.declared.vec.Vec.{Vec}
use Rattle.std.specs.declared.alloc.Global.{Global}
use Rattle.count_workers.specs.gauge_ring.Ends.{fed, taken, AreOneRing}
use Rattle.count_workers.specs.declared.block_workers.item.Item.{Item}
use Rattle.count_workers.specs.declared.block_workers.jobs.Reader.{Reader}
use Rattle.count_workers.specs.declared.block_workers.worker.Worker.{Worker}
use Rattle.count_workers.specs.declared.collector.collecting.Return.{Return}
use Rattle.count_workers.specs.Hiring.{SameButLine, AllSameButLines}
use Rattle.count_workers.specs.round_making.Resting.{RestingReader, RestingReturn, IsEven, IsResting, rings_of, value_of}
use Rattle.board.specs.block_pool.Units.{PoolValue}
use Rattle.board.specs.Board.{BoardValue}

map_still : {A B : Type 0} → (k : A → B) (xs ys : List A) → length ys ≡ length xs
    → ((v : ℕ) (d : A) → v < length xs → k (get_or ys v d) ≡ k (get_or xs v d)) → map k ys ≡ map k xs
map_still k [] [] long each = refl
map_still k [] (y ∷ ys) long each = absurd (omega (arith, long))
map_still k (x ∷ xs) [] long each = absurd (omega (arith, long))
map_still k (x ∷ xs) (y ∷ ys) long each =
    let head : k y ≡ k x = each zero x (omega arith) in
    let tail = map_still k xs ys (omega (arith, long)) (λ v d m. each (suc v) d (omega (arith, m))) in
    ap (λ z. z ∷ map k ys) head ∙ ap (λ l. k x ∷ l) tail

pub rings_still : (ws vs : List Worker) → AllSameButLines ws vs → rings_of vs ≡ rings_of ws
rings_still ws vs h = map_still (λ (w : Worker). map (λ (t : Taker Item). taken t) w.takers.items) ws vs h.long
    (λ v d m. ap (λ (ts : Vec (Taker Item) Global). map (λ (t : Taker Item). taken t) ts.items) (h.each v d m).takers)

return_still : (w v : Worker) (r : Return) → SameButLine w v → RestingReturn w r → RestingReturn v r
return_still w v r s h = record {
  one = record { one = subst (λ f. AreOneRing f r.taker) (sym s.back) h.one.one };
  even = ap (λ f. fed f) s.back ∙ h.even;
  awaited = h.awaited;
}

module _ {C : Type 0} where
  value_still : (p : PoolValue) (b : BoardValue) (rs : List (Reader C)) (ws vs : List Worker) → AllSameButLines ws vs
      → value_of p b rs vs ≡ value_of p b rs ws
  value_still p b rs ws vs h = ap (λ n. record {
    grid = p.grid;
    gauges = length rs;
    block = p.block;
    workers = n;
    board = b;
    inside = p.inside;
    rings = rings_of vs;
  }) h.long ∙ ap (λ l. record {
    grid = p.grid;
    gauges = length rs;
    block = p.block;
    workers = length ws;
    board = b;
    inside = p.inside;
    rings = l;
  }) (rings_still ws vs h)

  even_still : (w v : Worker) (r : Reader C) (g u : ℕ) → SameButLine w v → IsEven w r g u → IsEven v r g u
  even_still w v r g u s h = record {
    one = record { one = λ d e. subst (λ (ts : Vec (Taker Item) Global). AreOneRing (get_or r.desk.feeders.items u e) (get_or ts.items g d)) (sym s.takers) (h.one.one d e) };
    even = λ d e. h.even d e ∙ ap (λ (ts : Vec (Taker Item) Global). taken (get_or ts.items g d)) (sym s.takers);
  }

  rests_still : (p : PoolValue) (b : BoardValue) (rs : List (Reader C)) (ws vs : List Worker) (bs : List Return)
      → AllSameButLines ws vs → IsResting p b rs ws bs → IsResting p b rs vs bs
  rests_still p b rs ws vs bs s h = record {
    gauges_few = h.gauges_few;
    block = h.block;
    workers_few = (let f = h.workers_few in (omega (arith, f.0, s.long), omega (arith, f.1, s.long)));
    pool = h.pool;
    board = h.board;
    each_reader = λ g d m. subst (λ n. RestingReader p n g (get_or rs g d)) (sym s.long) (h.each_reader g d m);
    each_worker = λ v d m. (
        let l : v < length ws = omega (arith, m, s.long) in
        let q = s.each v d l in let r = h.each_worker v d l in
        record { number = q.number ∙ r.number; takers = ap (λ (ts : Vec (Taker Item) Global). vec_len ts) q.takers ∙ r.takers; idle = q.idle });
    rings = λ v g d e m l. (let i : v < length ws = omega (arith, m, s.long) in
        even_still (get_or ws v d) (get_or vs v d) (get_or rs g e) g v (s.each v d i) (h.rings v g d e i l));
    returns_long = h.returns_long ∙ sym s.long;
    each_return = λ v d e m. (let i : v < length ws = omega (arith, m, s.long) in
        return_still (get_or ws v d) (get_or vs v d) (get_or bs v e) (s.each v d i) (h.each_return v d e i));
  }

  -- the same after a slice of the workers, which was seen as `seen`, was written back as `vs`
  module _ (p : PoolValue) (b : BoardValue) (rs : List (Reader C)) (own : Vec Worker Global) (seen vs : List Worker)
      (at : seen ≡ own.items) (alike : AllSameButLines seen vs) where
    same : AllSameButLines own.items vs
    same = subst (λ l. AllSameButLines l vs) at alike

    written : take own.len (vs ++ drop (length vs) own.items) ≡ vs
    written = all_written own.items vs own.len own.ok.0 same.long

    pub rests_written : (bs : List Return) → IsResting p b rs own.items bs
        → IsResting p b rs (take own.len (vs ++ drop (length vs) own.items)) bs
    rests_written bs h = subst (λ ws. IsResting p b rs ws bs) (sym written) (rests_still p b rs own.items vs bs same h)

    pub value_written : value_of p b rs (take own.len (vs ++ drop (length vs) own.items)) ≡ value_of p b rs own.items
    value_written = ap (λ ws. value_of p b rs ws) written ∙ value_still p b rs own.items vs same
