-- A deletion keeps the ends of a residue alike to those of the points.
use Rattle.std.proofs.Common.{◌≡◌, ℕ, ◌<◌, ◌≤◌, ◌⊎◌, inl, inr, List, [], ◌∷◌, length, get_or, refl, sym, ◌∙◌, subst, arith}
use Rattle.std.proofs.lemmas.Bool.{cases_lt}
use Rattle.turning_points.specs.Pairs.{Pair}
use Rattle.turning_points.specs.EndPoints.{EndPoints, ends_of, last_point, last_but_one}
use Rattle.turning_points.proofs.Zigzag.{IsZigzag, zig_tail, ends_differ}
use Rattle.turning_points.proofs.Put.{side_self}
use Rattle.four_point.proofs.Drops.{Drops, here, past, Encloses}
use Rattle.four_point.proofs.Chain.{Chain, done, more}
use Rattle.four_point.proofs.Unique.{zig_drops}
use Rattle.segment.specs.Alike.{Alike}
use Rattle.turning_points.specs.Points.{OnSide}

-- what a deletion leaves of the ends
record Same (l m : List ℕ) : Type 0 where
  long : 4 ≤ length l
  many : 2 ≤ length m
  first : get_or m 0 0 ≡ get_or l 0 0
  second : OnSide (get_or l 0 0) (get_or l 1 0) (get_or m 1 0)
  last : last_point m ≡ last_point l
  before : OnSide (last_point l) (last_but_one l) (last_but_one m)

fit_second : (a b c d : ℕ) → Encloses a b c d → OnSide a b d
fit_second a b c d f = grind arith

fit_before : (a b c d : ℕ) → Encloses a b c d → OnSide d c a
fit_before a b c d f = grind arith

end_side : (x : ℕ) (l : List ℕ) (d : ℕ) → IsZigzag (d ∷ x ∷ l) →
    OnSide (last_point (d ∷ x ∷ l)) (last_but_one (d ∷ x ∷ l)) (last_but_one (d ∷ x ∷ l))
end_side x [] d z = side_self x d (λ e. ends_differ z (sym e))
end_side x (y ∷ l) d z = end_side y l x (zig_tail z)

here_same : (a b c d : ℕ) (q : List ℕ) → IsZigzag (a ∷ b ∷ c ∷ d ∷ q) → Encloses a b c d → Same (a ∷ b ∷ c ∷ d ∷ q) (a ∷ d ∷ q)
here_same a b c d [] z f = record {
  long = omega arith;
  many = omega arith;
  first = refl;
  second = fit_second a b c d f;
  last = refl;
  before = fit_before a b c d f;
}
here_same a b c d (x ∷ q) z f = record {
  long = omega arith;
  many = omega arith;
  first = refl;
  second = fit_second a b c d f;
  last = refl;
  before = end_side x q d (zig_tail (zig_tail (zig_tail z)));
}

past_same : (h : ℕ) (l m : List ℕ) → IsZigzag (h ∷ l) → Same l m → Same (h ∷ l) (h ∷ m)
past_same h [] m z s = absurd (let o = s.long in omega arith)
past_same h (x ∷ []) m z s = absurd (let o = s.long in omega arith)
past_same h (x ∷ y ∷ l) [] z s = absurd (let o = s.many in omega arith)
past_same h (x ∷ y ∷ l) (w ∷ []) z s = absurd (let o = s.many in omega arith)
past_same h (x ∷ y ∷ l) (w ∷ v ∷ m) z s =
    let o = s.long in
    record {
      long = omega arith;
      many = omega arith;
      first = refl;
      second = subst (λ k. OnSide h x k) (sym s.first) (side_self h x (ends_differ z));
      last = s.last;
      before = s.before;
    }

drops_same : {l m : List ℕ} {x : Pair} → IsZigzag l → Drops l x m → Same l m
drops_same z (here {a} {b} {c} {d} {q} f) = here_same a b c d q z f
drops_same z (past h {l} {x} {m} d) = past_same h l m z (drops_same (zig_tail z) d)

pub side_next : (a x n m : ℕ) → OnSide a x n → OnSide a n m → OnSide a x m
side_next a x n m s t = grind arith

four : (e r : EndPoints) → Alike e r → 4 ≤ r.points → ((e.points < 4) ⊎ (4 ≤ e.points)) → 4 ≤ e.points
four e r a h (inl c) = let s = a.short (omega arith) in absurd (omega arith)
four e r a h (inr c) = c

same_alike : (e : EndPoints) (l m : List ℕ) → Same l m → Alike e (ends_of l) → Alike e (ends_of m)
same_alike e l m s a =
    let h = four e (ends_of l) a s.long (cases_lt e.points 4) in
    record {
      short = λ z. absurd (omega arith);
      long = λ z. s.many;
      first = s.first ∙ a.first;
      last = s.last ∙ a.last;
      second = λ z. side_next _ _ _ _ (a.second z) (subst (λ w. OnSide w (get_or l 1 0) (get_or m 1 0)) a.first s.second);
      before = λ z. side_next _ _ _ _ (a.before z) (subst (λ w. OnSide w (last_but_one l) (last_but_one m)) a.last s.before);
      three = λ z. absurd (omega arith);
    }

pub chain_alike : {l m : List ℕ} {xs : List Pair} (e : EndPoints) → IsZigzag l → Chain l xs m → Alike e (ends_of l) → Alike e (ends_of m)
chain_alike e z done a = a
chain_alike e z (more d c) a = chain_alike e (zig_drops d z) c (same_alike e _ _ (drops_same z d) a)
