-- An image with the head has no fault of its head.
use Rattle.std.proofs.Common.{◌≡◌, ℕ, ◌+◌, ◌*◌, ◌<◌, ◌≤◌, List, [], ◌∷◌, ◌++◌, length, take, drop, slice_range, None, refl, sym, ap, ◌∙◌, arith, append_assoc, length-append}
use Rattle.std.specs.Prelude.{All}
use Rattle.std.proofs.lemmas.List.{take_at, drop_at}
use Rattle.std.proofs.lemmas.List.Elements.{All-head, All-tail}
use Rattle.std.proofs.lemmas.Bool.{le-leb}
use Rattle.calibration.specs.Gain.{GainValue, IsGain}
use Rattle.recording.specs.declared.head.Head.{Head}
use Rattle.store_bytes.specs.declared.segment_bytes.layout.Layout.{Layout}
use Rattle.store_bytes.specs.declared.segment_bytes.layout.Layout.TheVariants.{One, Two}
use Rattle.recording.specs.Head.{IsRecorded}
use Rattle.store_bytes.specs.store_head.Head.{HeadValue, IsHead, front, numbers, gauge, gauges, head_of, start_of, gauge_place}
use Rattle.store_bytes.specs.store_head.HeadFaults.{front_fault, gauge_fault, gauge_at, gauges_fault, head_fault, layout_in, recording_in}
use Rattle.lemmas.proofs.Outcomes.{none_both}
use Rattle.segment.proofs.on_segment_rules.Chosen.{kept_none}
use Rattle.store_bytes.proofs.on_store_head.Faultless.{is_front, is_gauge}
use Rattle.store_bytes.proofs.on_store_head.Gauges.{slice_range-middle}
use Rattle.store_bytes.specs.declared.store_head.setup.TheConstants.{FRONT_LENGTH, GAUGE_LENGTH}

gauge_long : (h : Head) (x : GainValue) → IsRecorded h → length (gauge h x) ≡ GAUGE_LENGTH
gauge_long h x r = omega (arith, length-append h.id (numbers h x), r.id)

gauges_long : (hs : List Head) (gs : List GainValue) → length hs ≡ length gs → All IsRecorded hs
    → length (gauges hs gs) ≡ GAUGE_LENGTH * length gs
gauges_long [] [] e r = refl
gauges_long (h ∷ hs) (x ∷ gs) e r =
    omega (
      arith,
      length-append (gauge h x) (gauges hs gs),
      gauge_long h x (All-head IsRecorded h hs r),
      gauges_long hs gs
          (omega (arith, e)) (All-tail IsRecorded h hs r),
    )
gauges_long [] (x ∷ gs) e r = absurd (omega (arith, e))
gauges_long (h ∷ hs) [] e r = absurd (omega (arith, e))

gauges_pass : (g : ℕ) (hs : List Head) (gs : List GainValue) (a rest : List ℕ) (image : List ℕ) → image ≡ a ++ (gauges hs gs ++ rest)
    → length a ≡ gauge_place g → length hs ≡ length gs → All IsRecorded hs → All IsGain gs → gauges_fault g gs image ≡ None
gauges_pass g hs [] a rest image is here e r i = refl
gauges_pass g [] (x ∷ gs) a rest image is here e r i = absurd (omega (arith, e))
gauges_pass g (h ∷ hs) (x ∷ gs) a rest image is here e r i =
    let long = gauge_long h x (All-head IsRecorded h hs r) in
    let grouped : image ≡ a ++ (gauge h x ++ (gauges hs gs ++ rest)) = is
    ∙ ap (λ (l : List ℕ). a ++ l) (append_assoc (gauge h x) (gauges hs gs) rest) in
    let at : gauge_at g image ≡ gauge h x = ap (λ (l : List ℕ). slice_range l (gauge_place g) (gauge_place g + GAUGE_LENGTH)) grouped
    ∙ slice_range-middle a (gauge h x) (gauges hs gs ++ rest) (gauge_place g) (gauge_place g + GAUGE_LENGTH) (sym here)
    (omega (arith, here, long)) in
    let one = is_gauge g h x (All-head IsRecorded h hs r) (All-head IsGain x gs i) in
    let next : image ≡ (a ++ gauge h x) ++ (gauges hs gs ++ rest) = grouped ∙ sym (append_assoc a (gauge h x) (gauges hs gs ++ rest)) in
    none_both _ _ (ap (gauge_fault g x) at ∙ one.0)
    (gauges_pass (g + 1) hs gs (a ++ gauge h x) rest image next (omega (arith, here, long, length-append a (gauge h x)))
    (omega (arith, e)) (All-tail IsRecorded h hs r) (All-tail IsGain x gs i))

pub head_long : (h : HeadValue) → IsHead h → length (head_of h) ≡ start_of h.setup
head_long h is = omega (
  arith,
  length-append (front h.layout h.setup)
      (gauges h.heads h.setup.gains),
  gauges_long h.heads h.setup.gains is.same is.each,
)

-- the layout is told by the fifth byte
pub layout_told : (h : HeadValue) (rest image : List ℕ) → image ≡ head_of h ++ rest → layout_in image ≡ h.layout
layout_told h rest image whole = ap layout_in whole ∙ by h.layout
  where
    by : (l : Layout) → layout_in ((front l h.setup ++ gauges h.heads h.setup.gains) ++ rest) ≡ l
    by One = refl
    by Two = refl

pub no_fault : (h : HeadValue) (rest : List ℕ) (image : List ℕ) → IsHead h → image ≡ head_of h ++ rest → 0 < length rest
    → head_fault h.setup image ≡ None
no_fault h rest image is whole some =
    let s = h.setup in
    let l = h.layout in
    let long = head_long h is in
    let size : start_of s + 1 ≤ length image = omega (arith, ap length whole, length-append (head_of h) rest, long, some) in
    let grouped : image ≡ front l s ++ (gauges h.heads s.gains ++ rest) = whole ∙ append_assoc (front l s) (gauges h.heads s.gains) rest in
    let first : slice_range image 0 FRONT_LENGTH ≡ front l s = ap (take FRONT_LENGTH) grouped
    ∙ take_at (front l s) (gauges h.heads s.gains ++ rest) FRONT_LENGTH refl in
    none_both _ _ (none_both _ _ (kept_none _ _ (le-leb FRONT_LENGTH (length image) (omega (arith, size))))
    (ap (front_fault s (length image)) first ∙ is_front l s (length image) is.setup is.narrow size))
    (gauges_pass 0 h.heads s.gains (front l s) rest image grouped refl is.same is.each is.setup.gains)

-- the heads are told by their bytes
pub heads_told : (hs hs2 : List Head) (gs : List GainValue) (t t2 : List ℕ) → length hs ≡ length gs → length hs2 ≡ length gs
    → All IsRecorded hs → All IsRecorded hs2 → All IsGain gs → gauges hs gs ++ t ≡ gauges hs2 gs ++ t2 → hs ≡ hs2
heads_told [] [] gs t t2 e e2 r r2 i same = refl
heads_told [] (h2 ∷ hs2) gs t t2 e e2 r r2 i same = absurd (omega (arith, e, e2))
heads_told (h ∷ hs) [] gs t t2 e e2 r r2 i same = absurd (omega (arith, e, e2))
heads_told (h ∷ hs) (h2 ∷ hs2) [] t t2 e e2 r r2 i same = absurd (omega (arith, e))
heads_told (h ∷ hs) (h2 ∷ hs2) (x ∷ gs) t t2 e e2 r r2 i same =
    let rh = All-head IsRecorded h hs r in
    let rh2 = All-head IsRecorded h2 hs2 r2 in
    let ix = All-head IsGain x gs i in
    let grouped : gauge h x ++ (gauges hs gs ++ t) ≡ gauge h2 x ++ (gauges hs2 gs ++ t2) =
    sym (append_assoc (gauge h x) (gauges hs gs) t) ∙ same ∙ append_assoc (gauge h2 x) (gauges hs2 gs) t2 in
    let long = gauge_long h x rh in
    let long2 = gauge_long h2 x rh2 in
    let one : gauge h x ≡ gauge h2 x =
    sym (take_at (gauge h x) (gauges hs gs ++ t) GAUGE_LENGTH long) ∙ ap (take GAUGE_LENGTH) grouped
    ∙ take_at (gauge h2 x) (gauges hs2 gs ++ t2) GAUGE_LENGTH long2 in
    let rest : gauges hs gs ++ t ≡ gauges hs2 gs ++ t2 =
    sym (drop_at (gauge h x) (gauges hs gs ++ t) GAUGE_LENGTH long) ∙ ap (drop GAUGE_LENGTH) grouped
    ∙ drop_at (gauge h2 x) (gauges hs2 gs ++ t2) GAUGE_LENGTH long2 in
    let first : h ≡ h2 = sym (is_gauge 0 h x rh ix).1 ∙ ap recording_in one ∙ (is_gauge 0 h2 x rh2 ix).1 in
    let others = heads_told hs hs2 gs t t2 (omega (arith, e)) (omega (arith, e2)) (All-tail IsRecorded h hs r)
    (All-tail IsRecorded h2 hs2 r2)
    (All-tail IsGain x gs i) rest in
    ap (λ y. y ∷ hs) first ∙ ap (λ l. h2 ∷ l) others
