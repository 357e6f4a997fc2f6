-- Points and residue lose equally many levels where two parts meet.
use Rattle.std.proofs.Common.{◌≡◌, ◌≢◌, ℕ, ◌+◌, ◌<◌, ◌≤◌, ◌⊎◌, inl, inr, refl, sym, ap, ◌∙◌, subst, arith}
use Rattle.std.proofs.lemmas.Bool.{cases_eq, cases_lt}
use Rattle.turning_points.specs.Points.{IsBetween, IsTurn, OnSide}
use Rattle.turning_points.specs.EndPoints.{EndPoints, IsEnds, ends_prepend, ends_of_both}
use Rattle.turning_points.proofs.Put.{PutCase, at_none, at_equal, at_second, at_turn, at_passed, put_none, put_equal, put_second, put_turn, put_two, put_passed, put_first, put_side, side_self}
use Rattle.turning_points.proofs.PutEnds.{case_of, put_ends}
use Rattle.turning_points.proofs.MeetEnds.{Left, left_zero, left_one, left_two, left_long, left_of, ends_of_both_zero, ends_of_both_one, ends_of_both_two, ends_of_both_long, twice}
use Rattle.segment.specs.Alike.{Alike}
use Rattle.segment.proofs.Deleted.{side_next}

-- after a level was put before each, where the levels lie on one side
pub record Opened (g s h k : EndPoints) : Type 0 where
  pub balance : h.points + s.points ≡ g.points + k.points
  pub short : h.points ≤ 3 → k.points ≡ h.points
  pub many : 2 ≤ k.points
  pub last : k.last ≡ h.last
  pub before : OnSide h.last h.before k.before
  pub three : h.points ≡ 3 → k.second ≡ h.second

opened_to : {g s h k h' k' : EndPoints} → h' ≡ h → k' ≡ k → Opened g s h k → Opened g s h' k'
opened_to {g} {s} {h} {k} {h'} {k'} p q o = subst (λ w. Opened g s w k') (sym p) (subst (λ w. Opened g s h w) (sym q) o)

turn_side : (p q x a b : ℕ) → IsTurn p x a → OnSide x p q → OnSide x a b → IsTurn q x b
turn_side p q x a b t u v = grind arith

between_side : (p q x a b : ℕ) → IsBetween p x a → OnSide x p q → OnSide x a b → IsBetween q x b
between_side p q x a b t u v = grind arith

far_side : (p q x l : ℕ) → IsBetween p x l → IsBetween q x l → OnSide l p q
far_side p q x l t u = grind arith

near_side : (q x l b : ℕ) → OnSide l b x → IsBetween q x l → OnSide l b q
near_side q x l b t u = grind arith

module _ (K : ℕ) (g s : EndPoints) (i : IsEnds K g) (j : IsEnds K s) (a : Alike g s) (p q : ℕ) (d : OnSide g.first p q) where
  open_second : g.points ≡ 1 → p ≢ g.first → q ≢ s.first → Opened g s (ends_prepend p g) (ends_prepend q s)
  open_second n m o =
      let c = a.short (omega arith) in
      let f : s.points ≡ 1 = omega arith in
      opened_to (put_second p g n m) (put_second q s f o)
      (record { balance = omega arith; short = λ w. refl; many = omega arith; last = a.first; before = d; three = λ w. a.first })

  open_turn : 2 ≤ g.points → IsTurn p g.first g.second → Opened g s (ends_prepend p g) (ends_prepend q s)
  open_turn n t =
      let l = a.long n in
      let u : IsTurn q s.first s.second = subst (λ w. IsTurn q w s.second) (sym a.first)
      (turn_side p q g.first g.second s.second t d (a.second n)) in
      opened_to (put_turn p g n t) (put_turn q s l u)
      (record {
        balance = omega arith;
        short = λ w. let c = a.short (omega arith) in omega arith;
        many = omega arith;
        last = a.last;
        before = a.before n;
        three = λ w. a.first;
      })

  passes : 2 ≤ g.points → IsBetween p g.first g.second → IsBetween q s.first s.second
  passes n t = subst (λ w. IsBetween q w s.second) (sym a.first) (between_side p q g.first g.second s.second t d (a.second n))

  last_of_two : (e : EndPoints) → IsEnds K e → e.points ≡ 2 → (x : ℕ) → IsBetween x e.first e.second → IsBetween x e.first e.last
  last_of_two e k n x t = subst (λ w. IsBetween x e.first w) (sym (k.two n).1) t

  open_two : g.points ≡ 2 → IsBetween p g.first g.second → Opened g s (ends_prepend p g) (ends_prepend q s)
  open_two n t =
      let c = a.short (omega arith) in
      let f : s.points ≡ 2 = omega arith in
      let u = passes (omega arith) t in
      let v = last_of_two g i n p t in
      let w : IsBetween q g.first g.last = subst (λ z. IsBetween q z g.last) a.first
      (subst (λ z. IsBetween q s.first z) a.last (last_of_two s j f q u)) in
      opened_to (put_two p g n t) (put_two q s f u)
      (record {
        balance = omega arith;
        short = λ z. c;
        many = omega arith;
        last = a.last;
        before = far_side p q g.first g.last v w;
        three = λ z. absurd (omega arith);
      })

  open_both : 3 ≤ g.points → 3 ≤ s.points → IsBetween p g.first g.second → Opened g s (ends_prepend p g) (ends_prepend q s)
  open_both n m t =
      let u = passes (omega arith) t in
      opened_to (put_passed p g n t) (put_passed q s m u)
      (record {
        balance = omega arith;
        short = λ z. a.short z;
        many = omega arith;
        last = a.last;
        before = a.before (omega arith);
        three = λ z. a.three z;
      })

  open_one : 4 ≤ g.points → s.points ≡ 2 → IsBetween p g.first g.second → Opened g s (ends_prepend p g) (ends_prepend q s)
  open_one n m t =
      let u = passes (omega arith) t in
      let w : IsBetween q g.first g.last = subst (λ z. IsBetween q z g.last) a.first
      (subst (λ z. IsBetween q s.first z) a.last (last_of_two s j m q u)) in
      let b : OnSide g.last g.before g.first = subst (λ z. OnSide g.last g.before z) ((j.two m).0 ∙ a.first) (a.before (omega arith)) in
      let n' : 3 ≤ g.points = omega arith in
      opened_to (put_passed p g n' t) (put_two q s m u)
      (record {
        balance = omega arith;
        short = λ z. absurd (omega arith);
        many = omega arith;
        last = a.last;
        before = near_side q g.first
            g.last g.before b w;
        three = λ z. absurd (omega arith);
      })

  open_more : 3 ≤ g.points → IsBetween p g.first g.second → ((s.points < 3) ⊎ (3 ≤ s.points)) →
      Opened g s (ends_prepend p g) (ends_prepend q s)
  open_more n t (inr m) = open_both n m t
  open_more n t (inl m) =
      let l = a.long (omega arith) in
      let k : s.points ≡ 2 = omega arith in
      open_one (at_four (cases_lt 3 g.points) n k) k t
    where
      at_four : ((3 < g.points) ⊎ (g.points ≤ 3)) → 3 ≤ g.points → s.points ≡ 2 → 4 ≤ g.points
      at_four (inl w) n k = omega arith
      at_four (inr w) n k = let c = a.short w in absurd (omega arith)

  open_passed : 2 ≤ g.points → IsBetween p g.first g.second → ((g.points < 3) ⊎ (3 ≤ g.points)) →
      Opened g s (ends_prepend p g) (ends_prepend q s)
  open_passed n t (inl m) = open_two (omega arith) t
  open_passed n t (inr m) = open_more m t (cases_lt s.points 3)

  pub opened : 1 ≤ g.points → p ≢ g.first → q ≢ s.first → PutCase p g → Opened g s (ends_prepend p g) (ends_prepend q s)
  opened n m o (at_none e) = absurd (omega arith)
  opened n m o (at_equal e f) = absurd (m f)
  opened n m o (at_second e f) = open_second e f o
  opened n m o (at_turn e f) = open_turn e f
  opened n m o (at_passed e f) = open_passed e f (cases_lt g.points 3)

-- what a level put before both leaves
pub record Put (e r e' r' : EndPoints) : Type 0 where
  pub alike : Alike e' r'
  pub balance : e'.points + r.points ≡ e.points + r'.points

put_to : {e r h k h' k' : EndPoints} → h' ≡ h → k' ≡ k → Put e r h k → Put e r h' k'
put_to {e} {r} {h} {k} {h'} {k'} p q o = subst (λ w. Put e r w k') (sym p) (subst (λ w. Put e r h w) (sym q) o)

side_both : (x a n m : ℕ) → OnSide x a n → OnSide x a m → OnSide x n m
side_both x a n m s t = grind arith

module _ (K : ℕ) (e r : EndPoints) (i : IsEnds K e) (j : IsEnds K r) (a : Alike e r) (x : ℕ) where
  put_open : 1 ≤ e.points → x ≢ e.first → 1 ≤ r.points → x ≢ r.first → Put e r (ends_prepend x e) (ends_prepend x r)
  put_open n m l o =
      let c = case_of K x e i in
      let d = case_of K x r j in
      let w = opened K e r i j a x x (side_self e.first x (λ q. m (sym q))) n m o c in
      let s = put_side x e n m c in
      let t = put_side x r l o d in
      record {
        alike = record {
          short = w.short;
          long = λ z. w.many;
          first = (put_first x r d).0 ∙ sym (put_first x e c).0;
          last = w.last;
          second = λ z. subst (λ b. OnSide b (ends_prepend x e).second (ends_prepend x r).second) (sym (put_first x e c).0)
              (side_both x e.first _ _ s.0 (subst (λ b. OnSide x b (ends_prepend x r).second) a.first t.0));
          before = λ z. w.before;
          three = w.three;
        };
        balance = w.balance;
      }

  put_empty : e.points ≡ 0 → Put e r (ends_prepend x e) (ends_prepend x r)
  put_empty n =
      let c = a.short (omega arith) in
      let l : r.points ≡ 0 = omega arith in
      put_to (put_none x e n) (put_none x r l) (record {
        alike = record {
          short = λ z. refl;
          long = λ z. absurd (omega arith);
          first = refl;
          last = refl;
          second = λ z. absurd (omega arith);
          before = λ z. absurd (omega arith);
          three = λ z. absurd (omega arith);
        };
        balance = omega arith;
      })

  some : 1 ≤ e.points → ((e.points < 2) ⊎ (2 ≤ e.points)) → 1 ≤ r.points
  some n (inl m) = let c = a.short (omega arith) in omega arith
  some n (inr m) = let c = a.long m in omega arith

  put_some : 1 ≤ e.points → ((x ≡ e.first) ⊎ (x ≢ e.first)) → Put e r (ends_prepend x e) (ends_prepend x r)
  put_some n (inl m) = put_to (put_equal x e n m) (put_equal x r (some n (cases_lt e.points 2)) (m ∙ sym a.first))
      (record { alike = a; balance = omega arith })
  put_some n (inr m) = put_open n m (some n (cases_lt e.points 2)) (λ q. m (q ∙ a.first))

  put_any : ((e.points < 1) ⊎ (1 ≤ e.points)) → Put e r (ends_prepend x e) (ends_prepend x r)
  put_any (inl n) = let p : e.points ≡ 0 = omega arith in put_empty p
  put_any (inr n) = put_some n (cases_eq x e.first)

  pub put_alike : Put e r (ends_prepend x e) (ends_prepend x r)
  put_alike = put_any (cases_lt e.points 1)

-- what two parts leave, one after the other
pub record Met (e r f s e' r' : EndPoints) : Type 0 where
  pub alike : Alike e' r'
  pub balance : e'.points + (r.points + s.points) ≡ e.points + (f.points + r'.points)

met_to : {e r f s h k h' k' : EndPoints} → h' ≡ h → k' ≡ k → Met e r f s h k → Met e r f s h' k'
met_to {e} {r} {f} {s} {h} {k} {h'} {k'} p q o = subst (λ w. Met e r f s w k') (sym p) (subst (λ w. Met e r f s h w) (sym q) o)

module _ (K : ℕ) (e r f s : EndPoints) (ie : IsEnds K e) (ir : IsEnds K r) (jf : IsEnds K f) (js : IsEnds K s) (a : Alike e r)
    (b : Alike f s) where
  one_put : Put f s (ends_prepend e.last f) (ends_prepend r.last s)
  one_put = put_to refl (ap (λ w. ends_prepend w s) a.last) (put_alike K f s jf js b e.last)

  ends_one : IsEnds K (ends_prepend r.last s)
  ends_one = put_ends K r.last s js ir.below.3

  meet_zero : e.points ≡ 0 → Met e r f s (ends_of_both e f) (ends_of_both r s)
  meet_zero n = let c = a.short (omega arith) in let l : r.points ≡ 0 = omega arith in
      met_to (ends_of_both_zero e f n) (ends_of_both_zero r s l)
      (record { alike = b; balance = omega arith })

  meet_one : e.points ≡ 1 → Met e r f s (ends_of_both e f) (ends_of_both r s)
  meet_one n = let c = a.short (omega arith) in let l : r.points ≡ 1 = omega arith in let o = one_put.balance in
      met_to (ends_of_both_one e f n) (ends_of_both_one r s l) (record { alike = one_put.alike; balance = omega arith })

  opens : 2 ≤ e.points → Opened (ends_prepend e.last f) (ends_prepend r.last s) (ends_prepend e.before (ends_prepend e.last f))
      (ends_prepend r.before (ends_prepend r.last s))
  opens n =
      let g = ends_prepend e.last f in
      let c = case_of K e.last f jf in
      let d = case_of K r.last s js in
      let p = put_first e.last f c in
      let q = put_first r.last s d in
      let i = put_ends K e.last f jf ie.below.3 in
      opened K g (ends_prepend r.last s) i ends_one one_put.alike e.before r.before
      (subst (λ w. OnSide w e.before r.before) (sym p.0) (a.before n))
      p.1 (λ w. (ie.differ n).1 (w ∙ p.0)) (λ w. (ir.differ (a.long n)).1 (w ∙ q.0)) (case_of K e.before g i)

  balances : (h k : EndPoints) → Opened (ends_prepend e.last f) (ends_prepend r.last s) h k → h.points + s.points ≡ f.points + k.points
  balances h k o = omega (arith, o.balance, one_put.balance)

  meet_two : e.points ≡ 2 → Met e r f s (ends_of_both e f) (ends_of_both r s)
  meet_two n =
      let c = a.short (omega arith) in
      let l : r.points ≡ 2 = omega arith in
      let m : e.before ≡ r.before = (ie.two n).0 ∙ sym a.first ∙ sym (ir.two l).0 in
      let i = put_ends K e.last f jf ie.below.3 in
      let w = put_alike K (ends_prepend e.last f) (ends_prepend r.last s) i ends_one one_put.alike e.before in
      let o = one_put.balance in
      let v = w.balance in
      met_to (ends_of_both_two e f n) (ends_of_both_two r s l ∙ ap (λ z. ends_prepend z (ends_prepend r.last s)) (sym m))
      (record { alike = w.alike; balance = omega arith })

  meet_long_long : 3 ≤ e.points → 3 ≤ r.points → Met e r f s (ends_of_both e f) (ends_of_both r s)
  meet_long_long n l =
      let o = opens (omega arith) in
      let t = twice K e f ie jf (omega arith) in
      let m = t.many in
      let y = o.many in
      let x = balances _ _ o in
      met_to (ends_of_both_long e f n) (ends_of_both_long r s l) (record {
        alike = record {
          short = λ z. let c = a.short (omega arith) in let d = o.short (omega arith) in omega arith;
          long = λ z. omega arith;
          first = a.first;
          last = o.last;
          second = λ z. a.second (omega arith);
          before = λ z. o.before;
          three = λ z. a.three (omega arith);
        };
        balance = omega arith;
      })

  meet_long_two : 3 ≤ e.points → r.points ≡ 2 → Met e r f s (ends_of_both e f) (ends_of_both r s)
  meet_long_two n l =
      let o = opens (omega arith) in
      let t = twice K e f ie jf (omega arith) in
      let u = twice K r s ir js (omega arith) in
      let m = t.many in
      let y = o.many in
      let x = balances _ _ o in
      let k = ends_prepend r.before (ends_prepend r.last s) in
      let h = ir.two l in
      let v : OnSide e.first r.second k.second = subst (λ w. OnSide w r.second k.second) (h.0 ∙ a.first)
      (subst (λ w. OnSide r.before w k.second) h.1 u.side) in
      met_to (ends_of_both_long e f n) (ends_of_both_two r s l) (record {
        alike = record {
          short = λ z. let c = a.short (omega arith) in absurd (omega arith);
          long = λ z. y;
          first = u.first ∙ h.0 ∙ a.first;
          last = o.last;
          second = λ z. side_next e.first e.second r.second k.second (a.second (omega arith)) v;
          before = λ z. o.before;
          three = λ z. let c = a.short (omega arith) in absurd (omega arith);
        };
        balance = omega arith;
      })

  meet_longer : 3 ≤ e.points → ((r.points < 3) ⊎ (3 ≤ r.points)) → Met e r f s (ends_of_both e f) (ends_of_both r s)
  meet_longer n (inl m) = let c = a.long (omega arith) in let l : r.points ≡ 2 = omega arith in meet_long_two n l
  meet_longer n (inr m) = meet_long_long n m

  meet_by : Left e.points → Met e r f s (ends_of_both e f) (ends_of_both r s)
  meet_by (left_zero h) = meet_zero h
  meet_by (left_one h) = meet_one h
  meet_by (left_two h) = meet_two h
  meet_by (left_long h) = meet_longer h (cases_lt r.points 3)

  -- points and residue lose equally many where two parts meet
  pub ends_of_both_alike : Met e r f s (ends_of_both e f) (ends_of_both r s)
  ends_of_both_alike = meet_by (left_of e.points)
