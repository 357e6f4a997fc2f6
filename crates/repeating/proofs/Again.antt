-- A residue put behind itself has itself for its residue.
use Rattle.std.proofs.Common.{◌≡◌, ℕ, ◌<◌, ◌⊎◌, inl, inr, List, [], ◌∷◌, ◌++◌, refl, sym, ap, ◌∙◌, subst, arith, append_assoc, append-nil, ◌≤◌, suc}
use Rattle.std.proofs.lemmas.Bool.Decides.{nat_tests}
use Rattle.std.proofs.lemmas.List.Elements.{All-append}
use Rattle.std.specs.Prelude.{All}
use Rattle.turning_points.specs.Pairs.{Pair, pair}
use Rattle.turning_points.specs.Points.{points}
use Rattle.turning_points.proofs.Zigzag.{IsZigzag, zig_points}
use Rattle.turning_points.proofs.Over.{own, points_inside}
use Rattle.turning_points.proofs.Levels.{All-points}
use Rattle.four_point.proofs.Drops.{Drops, here}
use Rattle.four_point.proofs.Chain.{Chain, done, more}
use Rattle.four_point.proofs.HasNoCycle.{HasNoCycle}
use Rattle.four_point.proofs.Reach.{reach, zig_chain, chain_append}
use Rattle.four_point.proofs.Inside.{chain_inside}
use Rattle.repeating.proofs.Ending.{EndsIn, ends_here, ends_on, ends_points, ends_after, ends_chain}
use Rattle.repeating.proofs.Cut.{chain_first}
use Rattle.repeating.proofs.Widest.{Spans, rises, falls, widest, straight_up, straight_down}
use Rattle.lemmas.proofs.Lists.{All-front, All-behind}
use Rattle.repeating.proofs.Below.{All-chain}

record Straight (f e : ℕ) (w : List ℕ) : Type 0 where
  pairs : List Pair
  by : Chain (points w) pairs (f ∷ e ∷ [])

-- a history from one extreme to the other
straight : (f e : ℕ) (w : List ℕ) → EndsIn e (f ∷ w) → Spans e f (f ∷ w) → Straight f e (f ∷ w)
straight f e w n (rises p i) =
    let g = zig_points (f ∷ w) in
    let r = reach (points (f ∷ w)) g in
    let k = chain_first r.by in
    let c = subst (λ z. Chain (points (f ∷ w)) r.pairs z) k.1 r.by in
    let t = straight_down e f k.0 p (zig_chain g c) (subst HasNoCycle k.1 r.no_cycle)
    (All-chain (λ z. (e ≤ z) × (z < suc f)) c (All-points (λ z. (e ≤ z) × (z < suc f)) (f ∷ w) i))
    (ends_chain c (ends_points n)) in
    record { pairs = r.pairs; by = subst (λ z. Chain (points (f ∷ w)) r.pairs (f ∷ z)) t c }
straight f e w n (falls p i) =
    let g = zig_points (f ∷ w) in
    let r = reach (points (f ∷ w)) g in
    let k = chain_first r.by in
    let c = subst (λ z. Chain (points (f ∷ w)) r.pairs z) k.1 r.by in
    let t = straight_up f e k.0 p (zig_chain g c) (subst HasNoCycle k.1 r.no_cycle)
    (All-chain (λ z. (f ≤ z) × (z < suc e)) c (All-points (λ z. (f ≤ z) × (z < suc e)) (f ∷ w) i))
    (ends_chain c (ends_points n)) in
    record { pairs = r.pairs; by = subst (λ z. Chain (points (f ∷ w)) r.pairs (f ∷ z)) t c }

record LeftAgain (r l : List ℕ) : Type 0 where
  pairs : List Pair
  by : Chain (points l) pairs r

-- e f e f with the extremes e and f
rebound : {e f : ℕ} (s : List ℕ) → ((e < f) ⊎ (f < e)) → Drops (e ∷ f ∷ e ∷ f ∷ s) (pair f e) (e ∷ f ∷ s)
rebound s (inl p) = here (inl (omega arith, p, omega arith))
rebound s (inr p) = here (inr (omega arith, p, omega arith))

differ : {e f : ℕ} {l : List ℕ} → Spans e f l → (e < f) ⊎ (f < e)
differ (rises p w) = inl p
differ (falls p w) = inr p

around : (P : ℕ → Type 0) (p q : List ℕ) → All P (p ++ q) → All P (q ++ p)
around P p q a = All-append P q p (All-behind P p q a) (All-front P p q a)

spans_around : {e f : ℕ} (p q : List ℕ) → Spans e f (p ++ q) → Spans e f (q ++ p)
spans_around {e} {f} p q (rises h w) = rises h (around (λ z. (e ≤ z) × (z < suc f)) p q w)
spans_around {e} {f} p q (falls h w) = falls h (around (λ z. (f ≤ z) × (z < suc e)) p q w)

chain_moved : {l k m n : List ℕ} {xs : List Pair} → k ≡ l → m ≡ n → Chain l xs m → Chain k xs n
chain_moved {l} {k} {m} {n} {xs} e f c = subst (λ z. Chain z xs n) (sym e) (subst (λ z. Chain l xs z) f c)

-- the second copy up to its widest neighbours, with what follows those in the first, goes
again_at : (g : List ℕ) (e f : ℕ) (s r : List ℕ) → r ≡ g ++ (e ∷ f ∷ s) → IsZigzag r → Spans e f r → LeftAgain r (r ++ r)
again_at g e f s r is z sp =
    let p = g ++ (e ∷ []) in
    let q = f ∷ s in
    let pq : p ++ q ≡ r = append_assoc g (e ∷ []) q ∙ sym is in
    let w = s ++ p in
    let st = straight f e w (ends_on (ends_after s (ends_after g (ends_here refl)))) (spans_around p q (subst (Spans e f) (sym pq) sp)) in
    let b = rebound s (differ sp) in
    let one_way : points (r ++ r) ≡ points (p ++ (points (f ∷ w) ++ q)) = ap (λ l. points (l ++ l)) (sym pq) ∙ ap points
    (append_assoc p q (p ++ q)) ∙ ap (λ l. points (p ++ l)) (sym (append_assoc q p q)) ∙ sym (points_inside p (f ∷ w) q) in
    let mid : points (p ++ (f ∷ e ∷ f ∷ s)) ≡ points (g ++ ((e ∷ f ∷ e ∷ f ∷ s) ++ [])) = ap points
    (append_assoc g (e ∷ []) (f ∷ e ∷ f ∷ s)) ∙ ap (λ l. points (g ++ l)) (sym (append-nil (e ∷ f ∷ e ∷ f ∷ s))) in
    let back : points (g ++ ((e ∷ f ∷ s) ++ [])) ≡ r = ap (λ l. points (g ++ l)) (append-nil (e ∷ f ∷ s)) ∙ ap points (sym is) ∙ own z in
    let c = chain_moved one_way mid (chain_inside p q st.by) in
    let d = chain_moved refl back (chain_inside g [] (more b done)) in
    record { pairs = st.pairs ++ (pair f e ∷ []); by = chain_append c d }

pub record Again (r : List ℕ) : Type 0 where
  pub pairs : List Pair
  pub by : Chain (points (r ++ r)) pairs r

-- a residue put behind itself is its own residue
pub again : (r : List ℕ) → HasNoCycle r → IsZigzag r → Again r
again [] c z = record { pairs = []; by = done }
again (x ∷ []) c z = record { pairs = []; by = chain_moved (grind (arith, nat_tests)) refl done }
again (x ∷ y ∷ l) c z =
    let w = widest x y l c z in
    let b = again_at w.g w.e w.f w.s (x ∷ y ∷ l) w.is z w.spans in
    record { pairs = b.pairs; by = b.by }
