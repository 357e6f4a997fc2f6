-- The bytes of one gauge after the other.
use Rattle.std.proofs.Common.{◌≡◌, ℕ, ◌+◌, ◌-◌, ◌<◌, ◌≤◌, List, [], ◌∷◌, ◌++◌, length, get_or, take, drop, slice_range, None, sym, ap, subst, ◌∙◌, arith, append_assoc, take-add}
use Rattle.std.specs.Prelude.{All}
use Rattle.std.proofs.lemmas.List.Elements.{All-push}
use Rattle.std.proofs.lemmas.List.{take_more, take_at, drop_at, drop-drop, length-take, append-nil}
use Rattle.std.specs.Option.{option_or}
use Rattle.calibration.specs.Gain.{GainValue, IsGain}
use Rattle.calibration.specs.declared.setup.Setup.{Setup}
use Rattle.recording.specs.declared.head.Head.{Head}
use Rattle.recording.specs.Head.{IsRecorded}
use Rattle.store_bytes.specs.store_head.Head.{HeadValue, front, gauge, gauges, head_of, start_of, gauge_place}
use Rattle.store_bytes.specs.store_head.HeadFaults.{gauge_fault, gauge_at, gauges_fault}
use Rattle.store_bytes.specs.declared.store_head.setup.TheConstants.{FRONT_LENGTH, GAUGE_LENGTH}

-- what stands between two parts
pub slice_range-middle : (x y z : List ℕ) (i j : ℕ) → i ≡ length x → j ≡ length x + length y → slice_range (x ++ (y ++ z)) i j ≡ y
slice_range-middle x y z i j here there =
    let long : length y ≡ j - i = omega arith in
    ap (take (j - i)) (drop_at x (y ++ z) i (sym here)) ∙ take_at y z (j - i) long

module _ (g : ℕ) (x : GainValue) (gains : List GainValue) (i : ℕ) (image : List ℕ) (here : drop i gains ≡ x ∷ drop (i + 1) gains) where
  pub fault_next : gauge_fault g x (gauge_at g image) ≡ None
      → gauges_fault g (drop i gains) image ≡ gauges_fault (g + 1) (drop (i + 1) gains) image
  fault_next e = ap (λ l. gauges_fault g l image) here ∙ ap (λ o. option_or o (gauges_fault (g + 1) (drop (i + 1) gains) image)) e

-- the bytes of one gauge more
pub gauges_more : (hs : List Head) (gs : List GainValue) (h : Head) (g : GainValue) → length hs ≡ length gs
    → gauges (hs ++ h ∷ []) (gs ++ g ∷ []) ≡ gauges hs gs ++ gauge h g
gauges_more [] [] h g e = append-nil (gauge h g)
gauges_more (x ∷ hs) (y ∷ gs) h g e = ap (λ (l : List ℕ). gauge x y ++ l) (gauges_more hs gs h g (omega (arith, e)))
    ∙ sym (append_assoc (gauge x y) (gauges hs gs) (gauge h g))
gauges_more [] (y ∷ gs) h g e = absurd (omega (arith, e))
gauges_more (x ∷ hs) [] h g e = absurd (omega (arith, e))

slice_more : (image : List ℕ) (i j k : ℕ) → i ≤ j → j ≤ k → slice_range image i k ≡ slice_range image i j ++ slice_range image j k
slice_more image i j k a b =
    let d : drop (j - i) (drop i image) ≡ drop j image = drop-drop (j - i) i image ∙ ap (λ n. drop n image) (sum_is i j a) in
    let e : k - i ≡ (j - i) + (k - j) = omega (arith, a, b) in
    ap (λ n. take n (drop i image)) e ∙ take-add (j - i) (k - j) (drop i image) ∙ ap (λ l. slice_range image i j ++ take (k - j) l) d
  where
    sum_is : (i j : ℕ) → i ≤ j → i + (j - i) ≡ j
    sum_is i j a = omega (arith, a)

pub bytes_more : (image : List ℕ) (hs : List Head) (gains : List GainValue) (h : Head) (g : GainValue) (i : ℕ) → length hs ≡ i
    → i < length gains → take (i + 1) gains ≡ take i gains ++ g ∷ []
    → slice_range image FRONT_LENGTH (gauge_place i) ≡ gauges hs (take i gains)
    → gauge_at i image ≡ gauge h g
    → slice_range image FRONT_LENGTH (gauge_place (i + 1)) ≡ gauges (hs ++ h ∷ []) (take (i + 1) gains)
bytes_more image hs gains h g i long lt more so_far one =
    let e : gauge_place (i + 1) ≡ gauge_place i + GAUGE_LENGTH = omega arith in
    let same : length hs ≡ length (take i gains) = omega (arith, long, lt, length-take i gains) in
    ap (λ n. slice_range image FRONT_LENGTH n) e
    ∙ slice_more image FRONT_LENGTH (gauge_place i) (gauge_place i + GAUGE_LENGTH) (omega arith) (omega arith)
    ∙ ap (λ (l : List ℕ). l ++ gauge_at i image) so_far ∙ ap (λ (l : List ℕ). gauges hs (take i gains) ++ l) one
    ∙ sym (gauges_more hs (take i gains) h g same) ∙ ap (gauges (hs ++ h ∷ [])) (sym more)

-- the head, from its two parts
pub head_is : (image : List ℕ) (s : Setup) (h : HeadValue) → h.setup ≡ s → slice_range image 0 FRONT_LENGTH ≡ front h.layout s
    → slice_range image FRONT_LENGTH (start_of s) ≡ gauges h.heads s.gains → take (start_of s) image ≡ head_of h
head_is image s h same a b =
    let e : start_of s ≡ start_of s - 0 = omega arith in
    ap (λ n. take n image) e ∙ slice_more image 0 FRONT_LENGTH (start_of s) (omega arith) (omega arith)
    ∙ ap (λ (l : List ℕ). l ++ slice_range image FRONT_LENGTH (start_of s)) a ∙ ap (λ (l : List ℕ). front h.layout s ++ l) b
    ∙ ap (λ (v : Setup). front h.layout v ++ gauges h.heads v.gains) (sym same)

-- so far for the first i gauges, and for one more, which is read from equal lists
module _ (heads heads2 : List Head) (gains gains2 : List GainValue) (i : ℕ) (d : Head) (x : GainValue) (lt : i < length heads)
    (same : length heads ≡ length gains) (heads_are : heads2 ≡ heads) (gains_are : gains2 ≡ gains) (is : x ≡ get_or gains2 i x) where
  more_gains : take (i + 1) gains ≡ take i gains ++ x ∷ []
  more_gains =
      take_more gains i x (omega (arith, lt, same)) ∙ ap (λ y. take i gains ++ y ∷ [])
      (sym (is ∙ ap (λ (l : List GainValue). get_or l i x) gains_are))

  more_heads : take (i + 1) heads ≡ take i heads ++ get_or heads2 i d ∷ []
  more_heads = take_more heads i d lt ∙ ap (λ (l : List Head). take i heads ++ get_or l i d ∷ []) (sym heads_are)

  pub gauges_push : (f so_far more : List ℕ) → so_far ≡ f ++ gauges (take i heads) (take i gains)
      → more ≡ so_far ++ gauge (get_or heads2 i d) x → more ≡ f ++ gauges (take (i + 1) heads) (take (i + 1) gains)
  gauges_push f so_far more e m =
      let h = get_or heads2 i d in
      let fronts : length (take i heads) ≡ length (take i gains) = omega (arith, length-take i heads, length-take i gains, same) in
      m ∙ ap (λ (l : List ℕ). l ++ gauge h x) e ∙ append_assoc f (gauges (take i heads) (take i gains)) (gauge h x)
      ∙ ap (λ (l : List ℕ). f ++ l) (sym (gauges_more (take i heads) (take i gains) h x fronts)
      ∙ ap (λ l. gauges l (take i gains ++ x ∷ [])) (sym more_heads) ∙ ap (gauges (take (i + 1) heads)) (sym more_gains))

  pub heads_push : All IsRecorded (take i heads) → IsRecorded (get_or heads2 i d) → All IsRecorded (take (i + 1) heads)
  heads_push a p = subst (All IsRecorded) (sym more_heads) (All-push IsRecorded (take i heads) (get_or heads2 i d) a p)

  pub gains_push : All IsGain (take i gains) → IsGain x → All IsGain (take (i + 1) gains)
  gains_push a p = subst (All IsGain) (sym more_gains) (All-push IsGain (take i gains) x a p)
