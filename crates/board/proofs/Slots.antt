-- Lists of segments at numbered places.
use Rattle.std.proofs.Common.{◌≡◌, ◌<◌, ◌+◌, ℕ, zero, suc, List, [], ◌∷◌, ◌++◌, length, get_or, set, take, drop, refl, sym, ap, subst, ◌∙◌, arith, rules, Result, Ok, Err, IsOk, OnOk}
use Rattle.segment.specs.Segment.{SegmentValue, SameStart}
use Rattle.board.specs.flow.Kept.{between}
use Rattle.std.proofs.lemmas.List.{get_or_default, get_or-take, get_or-drop}
use Rattle.board.specs.Board.{spans}
use Rattle.board.specs.flow.Flow.{name_of_samples}
use Rattle.segment.specs.Name.{name_of}
use Rattle.segment.specs.Joining.{IsJoinAnswer}
use Rattle.segment.specs.declared.segment.join.JoinRefusal.{JoinRefusal}
use Rattle.segment.specs.declared.segment.join.JoinRefusal.TheVariants.{OtherGauge, NotNext}
use Rattle.board.specs.Rows.{IsEmptied, IsJoin, IsNextTo, JoinsPlaces}

-- a segment of the same gauge that begins where the other ends is joined
pub joined : (v w : SegmentValue) (r : Result (Unit {0}) JoinRefusal) → IsNextTo v w → IsJoinAnswer v w r → IsOk r
joined v w (Ok u) next a = search rules
joined v w (Err (OtherGauge x y)) next a = absurd (a.0 (sym next.0))
joined v w (Err (NotNext t f)) next a = absurd (a.1 (sym next.1))

pub from_ok : {T E : Type 0} → (r : Result T E) (P : Type 0) → IsOk r → OnOk r P → P
from_ok (Ok x) P h p = p
from_ok (Err e) P h p = absurd (search (rules, h))

front : {A : Type 0} → (l : List A) (k : ℕ) (y : A) → take k l ++ set (drop k l) 0 y ≡ set l k y
front [] zero y = refl
front [] (suc k) y = refl
front (a ∷ l) zero y = refl
front (a ∷ l) (suc k) y = ap (λ s. a ∷ s) (front l k y)

pub set_split : {A : Type 0} → (l : List A) (j k : ℕ) (x y : A) → j < k → k < length l → set (take k l) j x ++ set (drop k l) 0 y ≡ set
    (set l j x) k y
set_split [] j k x y h l = absurd (omega (arith, l))
set_split (a ∷ l) j zero x y h m = absurd (omega (arith, h))
set_split (a ∷ l) zero (suc k) x y h m = ap (λ s. x ∷ s) (front l k y)
set_split (a ∷ l) (suc j) (suc k) x y h m = ap (λ s. a ∷ s) (set_split l j k x y (omega (arith, h)) (omega (arith, m)))

pub spans-set : (i : ℕ) (l : List SegmentValue) (k : ℕ) (x d : SegmentValue) → k < length l → spans i (set l k x) + between
    (get_or l k d).from (get_or l k d).to i ≡ spans i l + between x.from x.to i
spans-set i [] k x d h = absurd (omega (arith, h))
spans-set i (a ∷ l) zero x d h = omega arith
spans-set i (a ∷ l) (suc k) x d h = let e : spans i (set l k x) + between (get_or l k d).from
    (get_or l k d).to i ≡ spans i l + between x.from x.to i = spans-set i l k x d (omega (arith, h)) in omega (arith, e)

pub merged_from : (s l r : List SegmentValue) (j k : ℕ) (x y p q o : SegmentValue) → j < k → k < length s → l ≡ take k s → r ≡ drop k s
    → IsJoin (get_or l j p) (get_or r 0 q) x
    → IsEmptied (get_or r 0 o) y → JoinsPlaces s (set l j x ++ set r 0 y) j k
merged_from s l r j k x y p q o h m e f i w =
    let at_l : (d : SegmentValue) → get_or s j d ≡ get_or l j p = λ d. get_or_default s j d p (omega (arith, h, m)) ∙ sym
    (get_or-take k s j p h) ∙ ap (λ z. get_or z j p) (sym e) in
    let zero_more : k + 0 ≡ k = omega arith in
    let at_r : (d c : SegmentValue) → get_or s k d ≡ get_or r 0 c = λ d c. get_or_default s k d c m ∙ sym
    (get_or-drop k s 0 c ∙ ap (λ z. get_or s z c) zero_more) ∙ ap (λ z. get_or z 0 c) (sym f) in
    let same : get_or r 0 q ≡ get_or r 0 o = sym (at_r q q) ∙ at_r q o in
    record {
      was = get_or l j p;
      next = get_or r 0 q;
      at = at_l;
      at_next = λ d. at_r d q;
      now = x;
      left = y;
      set = ap (λ z. set z j x ++ set r 0 y) e ∙ ap (λ z. set (take k s) j x ++ set z 0 y) f ∙ set_split s j k x y h m;
      join = i;
      emptied = subst (λ (z : SegmentValue). IsEmptied z y) (sym same) w;
    }

pub join_name : (old new : SegmentValue) (to : ℕ) → SameStart old new → new.to ≡ to → name_of new ≡ name_of_samples old.gauge old.from to
join_name old new to start end = ap (λ k. name_of_samples k new.from new.to) start.1 ∙ ap (λ k. name_of_samples old.gauge k new.to) start.2
    ∙ ap
    (λ k. name_of_samples old.gauge old.from k) end
