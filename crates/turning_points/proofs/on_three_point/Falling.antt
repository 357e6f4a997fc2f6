-- Between two reads the ranges of the live points fall, so there are few of them.
--   falling_after, is_live_after   a read keeps this
--   length-live                    no more points are live than one for each class and one
--   buffer_after, below_of_live    the same of a run's buffer
use Rattle.std.proofs.Common.{◌≡◌, ℕ, ◌+◌, ◌<◌, ◌≤◌, ◌⊎◌, inl, inr, List, [], ◌∷◌, ◌++◌, length, reverse, take, drop, refl, sym, subst, arith}
use Rattle.std.specs.Prelude.{All}
use Rattle.std.proofs.lemmas.Bool.{cases_lt}
use Rattle.std.proofs.lemmas.List.Elements.{All-nil, All-head, All-tail}
use Rattle.std.proofs.lemmas.List.{length-reverse, length-take, take_at}
use Rattle.lemmas.proofs.Lists.{All-of_reverse}
use Rattle.turning_points.specs.Pairs.{range}
use Rattle.turning_points.specs.three_point.Run.{live_after}
use Rattle.turning_points.specs.three_point.Live.{HasFallingRanges, no_point, one_point, one_range, next_range, IsLive, IsRunBuffer}
use Rattle.turning_points.proofs.on_three_point.Steps.{live_after_cycle, live_after_half, live_after_less}
use Rattle.turning_points.proofs.on_three_point.Bounds.{All-live_after}

falling_tail : {x : ℕ} {live : List ℕ} → HasFallingRanges (x ∷ live) → HasFallingRanges live
falling_tail one_point = no_point
falling_tail one_range = one_point
falling_tail (next_range h f) = f

falling_by : (z y x : ℕ) (live : List ℕ) → HasFallingRanges (y ∷ x ∷ live) → ((range y z < range x y) ⊎ (range x y ≤ range y z))
    → ((w : ℕ) (older : List ℕ) → live ≡ w ∷ older → HasFallingRanges (live_after z (w ∷ older))) →
    HasFallingRanges (live_after z (y ∷ x ∷ live))
falling_by z y x live f (inl h) next = subst HasFallingRanges (sym (live_after_less z y x live h)) (next_range h f)
falling_by z y x [] f (inr h) next = subst HasFallingRanges (sym (live_after_half z y x h)) one_range
falling_by z y x (w ∷ older) f (inr h) next = subst HasFallingRanges (sym (live_after_cycle z y x w older h)) (next w older refl)

falling_after : (z : ℕ) (live : List ℕ) → HasFallingRanges live → HasFallingRanges (live_after z live)
falling_after z [] f = one_point
falling_after z (y ∷ []) f = one_range
falling_after z (y ∷ x ∷ []) f = falling_by z y x [] f (cases_lt (range y z) (range x y)) (λ w older e. absurd (cc))
falling_after z (y ∷ x ∷ w ∷ older) f =
    falling_by z y x (w ∷ older) f (cases_lt (range y z) (range x y))
    (λ v rest e. subst (λ l. HasFallingRanges (live_after z l)) e (falling_after z (w ∷ older) (falling_tail (falling_tail f))))

pub is_live_after : {classes z : ℕ} {live after : List ℕ} → z < classes → IsLive classes live → after ≡ live_after z live →
    IsLive classes after
is_live_after {classes} {z} {live} p l e = subst (IsLive classes) (sym e) (record {
  below = All-live_after (λ x. x < classes) z live p l.below;
  falling = falling_after z live l.falling;
})

pub is_live_none : (classes : ℕ) → IsLive classes []
is_live_none classes = record { below = All-nil (λ x. x < classes); falling = no_point }

-- the newest range leaves room for as many greater ones as there are older points
range_and_older : (classes y x : ℕ) (live : List ℕ) → All (λ p. p < classes) (y ∷ x ∷ live) → HasFallingRanges (y ∷ x ∷ live) →
    range x y + length live < classes
range_and_older classes y x [] a f =
    let p = All-head (λ p. p < classes) y (x ∷ []) a in
    let q = All-head (λ p. p < classes) x [] (All-tail (λ p. p < classes) y (x ∷ []) a) in omega arith
range_and_older classes y x (w ∷ live) a (next_range h f) =
    omega (arith, h, range_and_older classes x w live (All-tail (λ p. p < classes) y (x ∷ w ∷ live) a) f)

pub length-live : (classes : ℕ) (live : List ℕ) → IsLive classes live → length live ≤ classes + 1
length-live classes [] l = omega arith
length-live classes (x ∷ []) l = omega arith
length-live classes (y ∷ x ∷ live) l = omega (arith, range_and_older classes y x live l.below l.falling)

-- the same of a buffer
pub below_of_live : {classes top : ℕ} (s : List ℕ) → classes ≤ top → IsLive classes (reverse s) → All (λ x. x < top) s
below_of_live {classes} {top} s h l = λ i d w. let b = All-of_reverse (λ x. x < classes) s l.below i d w in omega arith

pub length-first : (classes n : ℕ) (s : List ℕ) → n ≤ length s → IsLive classes (reverse (take n s)) → n ≤ classes + 1
length-first classes n s h l = omega (arith, length-live classes (reverse (take n s)) l, length-reverse (take n s), length-take n s)

-- a run's buffer after a read
pub buffer_after : {classes z n m : ℕ} {s t : List ℕ} → z < classes → IsRunBuffer classes s n → length t ≡ length s → m ≤ n + 1 →
    reverse (take m t) ≡ live_after z (reverse (take n s)) → IsRunBuffer classes t m
buffer_after {classes} {z} {n} {m} {s} {t} p b same fewer e =
    let l = is_live_after p b.is_live e in
    let r = b.room in
    let w = b.within in
    record { room = omega arith; within = length-first classes m t (omega arith) l; is_live = l }

-- what is written back through a slice
pub take-written_back : (n : ℕ) (new old : List ℕ) → length new ≡ n → take n (new ++ drop (length new) old) ≡ new
take-written_back n new old e = take_at new (drop (length new) old) n e
