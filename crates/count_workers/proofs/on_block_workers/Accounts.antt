-- The blocks of a round, counted over its workers.
use Rattle.std.proofs.Common.{◌≡◌, ◌≢◌, ◌≤◌, ◌<◌, ◌+◌, ◌%◌, ℕ, List, [], ◌∷◌, ◌++◌, map, refl, sym, ap, ◌∙◌, arith, append_assoc, Bool, true, false, cond, eqb}
use Rattle.std.proofs.lemmas.Bool.{eq-eqb, ne_eqb}
use Rattle.std.proofs.lemmas.List.{append_cancel_left}
use Rattle.segment.specs.declared.segment_rules.name.Name.{Name}
use Rattle.board.specs.flow.Flow.{name_of_samples, hits_of_name, hits}
use Rattle.board.specs.flow.Kept.{over, between}
use Rattle.board.proofs.on_flow.Counting.{over_same, over_one, over_none, over_sum, between_parts, nothing_between}
use Rattle.board.specs.block_pool.Units.{FilledValue, CountedValue}
use Rattle.count_workers.specs.declared.block_workers.item.Item.{Item}
use Rattle.count_workers.specs.declared.block_workers.item.Item.TheVariants.{Mark}
use Rattle.count_workers.specs.declared.block_workers.item.Back.{Back}
use Rattle.count_workers.specs.declared.block_workers.item.Back.TheVariants.{Over}
use Rattle.count_workers.specs.declared.block_workers.desk.Desk.{Desk}
use Rattle.count_workers.specs.block_workers.Dealing.{block_of, round_of, blocks_of_worker}
use Rattle.count_workers.specs.block_workers.Working.{back_of, return_round}
use Rattle.count_workers.specs.block_workers.Reading.{AreBlocks}
use Rattle.count_workers.specs.block_workers.Reading.AreBlocks.{none, last, more}
use Rattle.board.specs.arrivals.Arrivals.{names_of}

-- rounds of a ring: each puts some items, and then the mark, which is none of them
module _ {A I : Type 0} (put : A → I) (mark : I) (same : (x y : A) → put x ≡ put y → x ≡ y) (other : (x : A) → put x ≢ mark) where
  abbrev marked : List A → List I
  marked us = map put us ++ mark ∷ []

  -- two that begin alike are one, and nothing is behind it
  same_round : (us vs : List A) (rest : List I) → marked us ≡ marked vs ++ rest → (vs ≡ us) × (rest ≡ [])
  same_round [] [] rest e = (refl, let no_more : [] ≡ rest = cc in sym no_more)
  same_round [] (v ∷ vs) rest e = absurd (other v (let head : put v ≡ mark = cc in head))
  same_round (u ∷ us) [] rest e = absurd (other u (let head : put u ≡ mark = cc in head))
  same_round (u ∷ us) (v ∷ vs) rest e =
      let head : put v ≡ put u = cc in
      let behind : marked us ≡ marked vs ++ rest = cc in
      let tail_is = same_round us vs rest behind in
      (ap (λ x. x ∷ vs) (same v u head) ∙ ap (λ l. u ∷ l) tail_is.0, tail_is.1)

  -- a ring that was even before a round is even after it, and what was taken is what was fed
  even : (f fed taken left : List I) (us vs : List A) → fed ≡ f ++ marked us → taken ≡ f ++ marked vs → fed ≡ taken ++ left
      → (vs ≡ us) × (fed ≡ taken)
  even f fed taken left us vs a b e =
      let both_ends : f ++ marked us ≡ f ++ (marked vs ++ left) = sym a ∙ e ∙ ap (λ t. t ++ left) b ∙ append_assoc f (marked vs) left in
      let (is, no_more) = same_round us vs left (append_cancel_left f (marked us) (marked vs ++ left) both_ends) in
      (is, rw (a, b, is) refl)

pub even_round : (f fed taken left : List Item) (us vs : List FilledValue) → fed ≡ f ++ round_of us → taken ≡ f ++ round_of vs
    → fed ≡ taken ++ left → (vs ≡ us) × (fed ≡ taken)
even_round = even block_of Mark (λ x y e. cc) (λ x e. absurd cc)

pub even_return : (f fed taken left : List Back) (us vs : List CountedValue) → fed ≡ f ++ return_round us → taken ≡ f ++ return_round vs
    → fed ≡ taken ++ left → (vs ≡ us) × (fed ≡ taken)
even_return = even back_of Over (λ x y e. cc) (λ x e. absurd cc)

blocks_of_worker_test : (g i : ℕ) (u : FilledValue) (l : List FilledValue) (b : Bool)
    → hits g i (names_of (cond b (u ∷ l) l)) ≡ cond b (hits_of_name g i u.name) 0 + hits g i (names_of l)
blocks_of_worker_test g i u l true = refl
blocks_of_worker_test g i u l false = omega arith

blocks_of_worker_hits : (g i n k v : ℕ) (u : FilledValue) (us : List FilledValue)
    → hits g i (names_of (blocks_of_worker n v k (u ∷ us)))
    ≡ cond (eqb (k % n) v) (hits_of_name g i u.name) 0 + hits g i (names_of (blocks_of_worker n v (k + 1) us))
blocks_of_worker_hits g i n k v u us = blocks_of_worker_test g i u (blocks_of_worker n v (k + 1) us) (eqb (k % n) v)

pub one_worker : (n w x : ℕ) → w < n → over n (λ v. cond (eqb w v) x 0) ≡ x
one_worker n w x l =
    let f : ℕ → ℕ = λ v. cond (eqb w v) x 0 in
    let z : ℕ → ℕ = λ v. 0 in
    let split : over n f + z w ≡ over n z + f w = over_one n w f z l (λ u d. ap (λ b. cond b x 0) (ne_eqb w u (λ q. d (sym q)))) in
    let zeros : over n z ≡ 0 = over_none n z (λ v h. refl) in
    let here : f w ≡ x = ap (λ b. cond b x 0) (eq-eqb w w refl) in omega (arith, split, zeros, here)

-- each block of a lane goes to one worker
pub blocks_of_worker_once : (g i n k : ℕ) (us : List FilledValue) → 0 < n → over n (λ v. hits g i (names_of (blocks_of_worker n v k us)))
    ≡ hits g i (names_of us)
blocks_of_worker_once g i n k [] h = over_none n (λ v. 0) (λ v l. refl)
blocks_of_worker_once g i n k (u ∷ us) h =
    let x = hits_of_name g i u.name in
    let parts : over n (λ v. hits g i (names_of (blocks_of_worker n v k (u ∷ us))))
    ≡ over n (λ v. cond (eqb (k % n) v) x 0 + hits g i (names_of (blocks_of_worker n v (k + 1) us))) =
    over_same n _ _ (λ v l. blocks_of_worker_hits g i n k v u us) in
    let sums : over n (λ v. cond (eqb (k % n) v) x 0 + hits g i (names_of (blocks_of_worker n v (k + 1) us)))
    ≡ over n (λ v. cond (eqb (k % n) v) x 0) + over n (λ v. hits g i (names_of (blocks_of_worker n v (k + 1) us))) =
    over_sum n (λ v. cond (eqb (k % n) v) x 0) (λ v. hits g i (names_of (blocks_of_worker n v (k + 1) us))) in
    let here : over n (λ v. cond (eqb (k % n) v) x 0) ≡ x = one_worker n (k % n) x (omega (arith, h)) in
    let rest : over n (λ v. hits g i (names_of (blocks_of_worker n v (k + 1) us))) ≡ hits g i (names_of us) =
    blocks_of_worker_once g i n (k + 1) us h in
    omega (arith, parts, sums, here, rest)

named_has : (g a b i : ℕ) → hits_of_name g i (name_of_samples g a b) ≡ between a b i
named_has g a b i = ap (λ t. cond t (between a b i) 0) (eq-eqb g g refl)

hits_of_name_named : (g a b i : ℕ) (n : Name) → n ≡ name_of_samples g a b → hits_of_name g i n ≡ between a b i
hits_of_name_named g a b i n e = ap (hits_of_name g i) e ∙ named_has g a b i

pub blocks_ascend : (d : Desk) (a b : ℕ) (us : List FilledValue) → AreBlocks d a us b → a ≤ b
blocks_ascend d a b [] none = omega arith
blocks_ascend d a b (u ∷ []) (last i) = omega (arith, i.some)
blocks_ascend d a b (u ∷ us) (more i r) = omega (arith, i.some, blocks_ascend d (a + d.block) b us r)

-- the blocks of a lane name its samples once each
pub blocks_once : (d : Desk) (a b i : ℕ) (us : List FilledValue) → AreBlocks d a us b → hits d.gauge i (names_of us) ≡ between a b i
blocks_once d a b i [] none = sym (nothing_between a i)
blocks_once d a b i (u ∷ []) (last h) = let e : hits_of_name d.gauge i u.name ≡ between a b i =
    hits_of_name_named d.gauge a b i u.name h.name in
    omega (arith, e)
blocks_once d a b i (u ∷ us) (more h r) =
    let e : hits_of_name d.gauge i u.name ≡ between a (a + d.block) i = hits_of_name_named d.gauge a (a + d.block) i u.name h.name in
    let f : hits d.gauge i (names_of us) ≡ between (a + d.block) b i = blocks_once d (a + d.block) b i us r in
    let s : between a (a + d.block) i + between (a + d.block) b i ≡ between a b i =
    between_parts a (a + d.block) b i (omega arith) (blocks_ascend d (a + d.block) b us r) in
    omega (arith, e, f, s)
