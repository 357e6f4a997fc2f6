-- The head's tests find nothing exactly where the bytes are those of the setup.
use Rattle.std.proofs.Common.{◌≡◌, inl, inr, ℕ, ◌+◌, ◌-◌, ◌*◌, ◌^◌, ◌<◌, ◌≤◌, Bool, true, false, ◌&&◌, ◌||◌, not, cond, eqb, leb, ltb, List, ◌∷◌, ◌++◌, length, get_or, take, drop, slice_range, Option, None, refl, sym, ap, subst, ◌∙◌, arith, take-append-drop}
use Rattle.std.specs.Prelude.{ℤ, pos, negsuc, unsigned_abs}
use Rattle.std.specs.Int.{w16, w32, w64, from_be_bytes, to_be_bytes, cast_signed, cast_unsigned}
use Rattle.std.specs.Int.RustNames.{FitsSigned}
use Rattle.std.proofs.lemmas.Bool.Decides.{nat_tests, Decides-int_eq}
use Rattle.std.proofs.lemmas.Int.{of_z-to_z, to_z-of_z, to_z_pos}
use Rattle.std.proofs.lemmas.Nat.{mul-le, be_bytes_2, be_bytes_4, be_bytes_8, from_be_bytes-to_be_bytes_2, from_be_bytes-to_be_bytes_4, from_be_bytes-to_be_bytes_8}
use Rattle.std.proofs.lemmas.List.{take_at, drop_at, drop_more, drop-drop, length-take, length-drop, append-nil, nil_from_length, get_or-drop, get_or-take, get_or_past}
use Rattle.std.proofs.lemmas.Bool.{cases_lt, and_parts, leb-true, le-leb, eqb-true}
use Rattle.std.proofs.lemmas.List.Folds.{drop_split}
use Rattle.std.specs.Option.{option_or}
use Rattle.lemmas.proofs.Outcomes.{both_none, none_both}
use Rattle.segment.specs.segment_rules.Tests.{unless}
use Rattle.segment.proofs.on_segment_rules.Chosen.{kept, kept_none}
use Rattle.calibration.specs.Gain.{GainValue, IsGain}
use Rattle.calibration.specs.Grid.{GridValue, IsGrid}
use Rattle.store_bytes.specs.declared.segment_bytes.layout.Layout.{Layout}
use Rattle.store_bytes.specs.declared.segment_bytes.layout.Layout.TheVariants.{One, Two}
use Rattle.store_bytes.specs.declared.segment_bytes.layout.TheConstants.{MAX_CLASSES_ONE}
use Rattle.recording.specs.declared.head.Head.{Head}
use Rattle.store_bytes.proofs.on_segment_bytes.Formats.{IsBytes}
use Rattle.store_bytes.specs.declared.store_head.fault.Field.{Field}
use Rattle.store_bytes.specs.declared.store_head.fault.HeadFault.{HeadFault}
use Rattle.calibration.specs.declared.setup.Setup.{Setup}
use Rattle.recording.specs.Head.{IsRecorded}
use Rattle.store_bytes.specs.store_head.Head.{IsSetup, version_of, front, numbers, gauge, gauge_place, start_of}
use Rattle.store_bytes.specs.store_head.HeadFaults.{number, signed_number, differs, is_version, layout_of, front_fault, gauge_fault, recording_in}
use Rattle.store_bytes.specs.declared.store_head.setup.TheConstants.{FRONT_LENGTH, GAUGE_LENGTH}

-- ---- tests

same_of : (field : Field) (a b : ℤ) → differs field a b ≡ None → a ≡ b
same_of field a b e = (Decides-int_eq a b).0 (kept _ _ e)

of_same : (field : Field) (a b : ℤ) → a ≡ b → differs field a b ≡ None
of_same field a b e = kept_none _ _ ((Decides-int_eq a b).1 e)

pub chain : {a a2 b b2 : Option HeadFault} → a ≡ a2 → b ≡ b2 → option_or a b ≡ option_or a2 b2
chain {a} {a2} {b} {b2} e f = ap (λ x. option_or x b) e ∙ ap (option_or a2) f

-- a signed argument is seen through its bits
pub through : (z z2 : ℤ) → FitsSigned w64 z → z ≡ z2 → cast_signed w64 (cast_unsigned w64 z) ≡ z2
through z z2 fits e = to_z-of_z w64 z fits ∙ e

pub through_pos : (n n2 : ℕ) → n < 2 ^ 63 → n ≡ n2 → cast_signed w64 n ≡ pos n2
through_pos n n2 fits e = to_z_pos w64 n fits ∙ ap pos e

pub small_fits : (z : ℤ) → unsigned_abs z ≤ 1000000000 → FitsSigned w64 z
small_fits (pos n) h = omega (arith, h)
small_fits (negsuc n) h = omega (arith, h)

pub num_fits : {z : ℤ} (g : GainValue) → IsGain g → z ≡ g.num → FitsSigned w64 z
num_fits g i e = subst (FitsSigned w64) (sym e) (small_fits g.num i.num)

pub offset_fits : {z : ℤ} (g : GainValue) → IsGain g → z ≡ g.offset → FitsSigned w64 z
offset_fits g i e = subst (FitsSigned w64) (sym e) (small_fits g.offset i.offset)

pub low_fits : {z : ℤ} (g : GridValue) → IsGrid g → z ≡ g.low_kpa → FitsSigned w64 z
low_fits g i e = subst (FitsSigned w64) (sym e) (small_fits g.low_kpa i.low)

pub differs_as : (field : Field) {k k2 z z2 : ℤ} → k ≡ k2 → z ≡ z2 → differs field k z ≡ differs field k2 z2
differs_as field {k} {k2} {z} {z2} e f = ap (λ x. differs field x z) e ∙ ap (differs field k2) f

pub unless_as : (f : HeadFault) {b c : Bool} → b ≡ c → unless b f ≡ unless c f
unless_as f e = ap (λ x. unless x f) e

value_of : ℤ → ℕ
value_of (pos n) = n
value_of (negsuc n) = n

same_number : (field : Field) (a b : ℕ) → differs field (pos a) (pos b) ≡ None → a ≡ b
unfolding value_of
same_number field a b e = ap value_of (same_of field (pos a) (pos b) e)

-- ---- one field after the other

pub slice_long : (s : List ℕ) (i n : ℕ) → i + n ≤ length s → length (slice_range s i (i + n)) ≡ n
slice_long s i n le = omega (arith, length-take (i + n - i) (drop i s), length-drop i s)

slice_fits : (s : List ℕ) (i j : ℕ) → IsBytes s → IsBytes (slice_range s i j)
slice_fits s i j h k =
    elim (cases_lt k (j - i)) [
      | inl lt ↦ rw (get_or-take (j - i) (drop i s) k 0 lt, get_or-drop) (h (i + k))
      | inr le ↦ rw (get_or_past (take (j - i) (drop i s)) k 0 (omega (arith, length-take (j - i) (drop i s)))) (omega arith)
    ]

step16 : (b : List ℕ) (at n : ℕ) → at + 2 ≤ length b → IsBytes b → number w16 at b ≡ n → drop at b ≡ to_be_bytes w16 n ++ drop (at + 2) b
step16 b at n le fits e = drop_split b at (at + 2) (omega arith) ∙ ap (λ (l : List ℕ). l ++ drop (at + 2) b)
    (sym (be_bytes_2 (slice_range b at (at + 2)) n (slice_long b at 2 le) (slice_fits b at (at + 2) fits) (sym e)))

step32 : (b : List ℕ) (at n : ℕ) → at + 4 ≤ length b → IsBytes b → number w32 at b ≡ n → drop at b ≡ to_be_bytes w32 n ++ drop (at + 4) b
step32 b at n le fits e = drop_split b at (at + 4) (omega arith) ∙ ap (λ (l : List ℕ). l ++ drop (at + 4) b)
    (sym (be_bytes_4 (slice_range b at (at + 4)) n (slice_long b at 4 le) (slice_fits b at (at + 4) fits) (sym e)))

below64 : (bytes : List ℕ) → IsBytes bytes → from_be_bytes w64 bytes < 2 ^ 64
below64 bytes fits = omega (arith, fits 0, fits 1, fits 2, fits 3, fits 4, fits 5, fits 6, fits 7)

step64 : (b : List ℕ) (at : ℕ) (z : ℤ) → at + 8 ≤ length b → IsBytes b → signed_number at b ≡ z
    → drop at b ≡ to_be_bytes w64 (cast_unsigned w64 z) ++ drop (at + 8) b
step64 b at z le fits e =
    let s = slice_range b at (at + 8) in
    let n : cast_unsigned w64 z ≡ from_be_bytes w64 s = ap (cast_unsigned w64) (sym e)
    ∙ of_z-to_z w64 (from_be_bytes w64 s) (below64 s (slice_fits b at (at + 8) fits)) in
    drop_split b at (at + 8) (omega arith) ∙ ap (λ (l : List ℕ). l ++ drop (at + 8) b)
    (sym (be_bytes_8 s (cast_unsigned w64 z) (slice_long b at 8 le) (slice_fits b at (at + 8) fits) n))

step1 : (b : List ℕ) (at n : ℕ) → at < length b → eqb (get_or b at 0) n ≡ true → drop at b ≡ n ∷ drop (at + 1) b
step1 b at n lt e = drop_more b at 0 lt ∙ ap (λ (x : ℕ). x ∷ drop (at + 1) b) (eqb-true _ _ e)

ends_here : (b : List ℕ) (n : ℕ) (l : List ℕ) → length b ≡ n → l ++ drop n b ≡ l
ends_here b n l e = ap (λ (r : List ℕ). l ++ r) (nil_from_length (drop n b) (omega (arith, e, length-drop n b))) ∙ append-nil l

-- ---- the front

version_back : (v : ℕ) → is_version v ≡ true → eqb v (version_of (layout_of v)) ≡ true
version_back v e = by (eqb v 1) refl
  where
    other : (b : Bool) (x y : Bool) → b ≡ false → (b || x) ≡ true → x ≡ true
    other true x y e f = absurd cc
    other false x y e f = f

    by : (b : Bool) → eqb v 1 ≡ b → eqb v (version_of (layout_of v)) ≡ true
    by true e = ap (λ t. eqb v (version_of (cond t One Two))) e ∙ e
    by false f = ap (λ t. eqb v (version_of (cond t One Two))) f ∙ other (eqb v 1) (eqb v 2) true f e

one_back : (v : ℕ) → layout_of v ≡ One → eqb v 1 ≡ true
one_back v e = by (eqb v 1) refl
  where
    two : Two ≡ One → ⊥
    two f = absurd cc

    by : (b : Bool) → eqb v 1 ≡ b → eqb v 1 ≡ true
    by true f = f
    by false f = absurd (two (sym (ap (λ t. cond t One Two) f) ∙ e))

narrow_is : (a : Bool) (n k : ℕ) → not (a && ltb MAX_CLASSES_ONE n) ≡ true → a ≡ true → n ≡ k → k ≤ MAX_CLASSES_ONE
narrow_is a n k e f g = grind (arith, nat_tests)

pub front_is : (s : Setup) (size : ℕ) (b : List ℕ) → length b ≡ FRONT_LENGTH → IsBytes b → front_fault s size b ≡ None
    → (b ≡ front (layout_of (get_or b 5 0)) s) × (start_of s + 1 ≤ size)
    × (layout_of (get_or b 5 0) ≡ One → s.grid.classes ≤ MAX_CLASSES_ONE)
front_is s size b long fits none =
    let a = both_none _ _ none in
    let v = both_none _ _ a.1 in
    let g = both_none _ _ v.1 in
    let z = both_none _ _ g.1 in
    let c = both_none _ _ z.1 in
    let w = both_none _ _ c.1 in
    let l = both_none _ _ w.1 in
    let magic = and_parts _ _ (kept _ _ a.0) in
    let m = and_parts _ _ magic.1 in
    let m1 = and_parts _ _ m.0 in
    let m2 = and_parts _ _ m.1 in
    let d20 : drop 20 b ≡ to_be_bytes w16 s.grid.reference =
    step16 b 20 s.grid.reference (omega (arith, long)) fits (same_number _ _ _ l.1)
    ∙ ends_here b FRONT_LENGTH (to_be_bytes w16 s.grid.reference) long in
    let d12 = step64 b 12 s.grid.low_kpa (omega (arith, long)) fits (same_of _ _ _ l.0)
    ∙ ap (λ (r : List ℕ). to_be_bytes w64 (cast_unsigned w64 s.grid.low_kpa) ++ r) d20 in
    let d10 = step16 b 10 s.grid.w2 (omega (arith, long)) fits (same_number _ _ _ w.0)
    ∙ ap (λ (r : List ℕ). to_be_bytes w16 s.grid.w2 ++ r) d12 in
    let d8 = step16 b 8 s.grid.classes (omega (arith, long)) fits (same_number _ _ _ c.0)
    ∙ ap (λ (r : List ℕ). to_be_bytes w16 s.grid.classes ++ r) d10 in
    let d6 = step16 b 6 (length s.gains) (omega (arith, long)) fits (same_number _ _ _ g.0)
    ∙ ap (λ (r : List ℕ). to_be_bytes w16 (length s.gains) ++ r) d8 in
    let v5 = version_of (layout_of (get_or b 5 0)) in
    let d5 = step1 b 5 v5 (omega (arith, long)) (version_back (get_or b 5 0) (kept _ _ v.0)) ∙ ap (λ (r : List ℕ). v5 ∷ r) d6 in
    let whole = and_parts _ _ (kept _ _ z.0) in
    let d4 = step1 b 4 84 (omega (arith, long)) m2.1 ∙ ap (λ (r : List ℕ). 84 ∷ r) d5 in
    let d3 = step1 b 3 83 (omega (arith, long)) m2.0 ∙ ap (λ (r : List ℕ). 83 ∷ r) d4 in
    let d2 = step1 b 2 71 (omega (arith, long)) m1.1 ∙ ap (λ (r : List ℕ). 71 ∷ r) d3 in
    let d1 = step1 b 1 83 (omega (arith, long)) m1.0 ∙ ap (λ (r : List ℕ). 83 ∷ r) d2 in
    let d0 = step1 b 0 1 (omega (arith, long)) magic.0 ∙ ap (λ (r : List ℕ). 1 ∷ r) d1 in (
      d0,
      leb-true _ _ whole.0,
      λ one. narrow_is (eqb (get_or b 5 0) 1) (number w16 8 b) s.grid.classes whole.1 (one_back (get_or b 5 0) one)
          (same_number _ _ _ c.0),
    )

small_signed : (z : ℤ) → unsigned_abs z ≤ 1000000000 → cast_signed w64 (cast_unsigned w64 z) ≡ z
small_signed z h = to_z-of_z w64 z (small_fits z h)

below_signed : (z : ℤ) → unsigned_abs z ≤ 1000000000 → cast_unsigned w64 z < 2 ^ 64
below_signed (pos n) h = omega (arith, h)
below_signed (negsuc n) h = omega (arith, h)

read_signed : (z : ℤ) → unsigned_abs z ≤ 1000000000 → cast_signed w64 (from_be_bytes w64 (to_be_bytes w64 (cast_unsigned w64 z))) ≡ z
read_signed z h = ap (cast_signed w64) (from_be_bytes-to_be_bytes_8 (cast_unsigned w64 z) (below_signed z h)) ∙ small_signed z h

is_one : (l : Layout) → is_version (version_of l) ≡ true
is_one One = refl
is_one Two = refl

whole_true : (l : Layout) (gauges size classes : ℕ) → gauge_place gauges + 1 ≤ size → classes < 2 ^ 16
    → (l ≡ One → classes ≤ MAX_CLASSES_ONE)
    → (leb (gauge_place gauges + 1) size
    && not (eqb (version_of l) 1 && ltb MAX_CLASSES_ONE (from_be_bytes w16 (to_be_bytes w16 classes)))) ≡ true
whole_true l gauges size classes le k narrow =
    ap (λ n. leb (gauge_place gauges + 1) size && not (eqb (version_of l) 1 && ltb MAX_CLASSES_ONE n))
    (from_be_bytes-to_be_bytes_2 classes k) ∙ by l narrow
  where
    below : (n : ℕ) → n ≤ MAX_CLASSES_ONE → ltb MAX_CLASSES_ONE n ≡ false
    below n h = grind (arith, nat_tests)

    by : (l : Layout) → (l ≡ One → classes ≤ MAX_CLASSES_ONE)
        → (leb (gauge_place gauges + 1) size && not (eqb (version_of l) 1 && ltb MAX_CLASSES_ONE classes)) ≡ true
    by One h = ap (λ b. leb (gauge_place gauges + 1) size && not b) (below classes (h refl)) ∙ ap (λ b. b && true) (le-leb _ _ le)
    by Two h = ap (λ b. b && true) (le-leb _ _ le)

pub is_front : (l : Layout) (s : Setup) (size : ℕ) → IsSetup s → (l ≡ One → s.grid.classes ≤ MAX_CLASSES_ONE) → start_of s + 1 ≤ size
    → front_fault s size (front l s) ≡ None
is_front l s size i narrow le =
    let g = i.grid in
    let k : s.grid.classes < 2 ^ 16 = omega (arith, g.classes_to) in
    let w : s.grid.w2 < 2 ^ 16 = width_small s.grid.classes s.grid.w2 g.classes_from g.span in
    let r : s.grid.reference < 2 ^ 16 = omega (arith, g.classes_to, g.reference_to) in
    none_both _ _ refl (none_both _ _ (kept_none _ _ (is_one l))
    (none_both _ _ (of_same _ _ _ (ap pos (from_be_bytes-to_be_bytes_2 (length s.gains) (omega (arith, i.few)))))
    (none_both _ _ (kept_none _ _ (whole_true l (length s.gains) size s.grid.classes le k narrow))
    (none_both _ _ (of_same _ _ _ (ap pos (from_be_bytes-to_be_bytes_2 s.grid.classes k)))
    (none_both _ _ (of_same _ _ _ (ap pos (from_be_bytes-to_be_bytes_2 s.grid.w2 w)))
    (none_both _ _ (of_same _ _ _ (read_signed s.grid.low_kpa g.low))
    (of_same _ _ _ (ap pos (from_be_bytes-to_be_bytes_2 s.grid.reference r)))))))))
  where
    width_small : (k w : ℕ) → 2 ≤ k → (k - 1) * w ≤ 2000 → w < 2 ^ 16
    width_small k w le h = let m : 1 * w ≤ (k - 1) * w = mul-le 1 w (k - 1) w (omega (arith, le)) (omega arith) in omega (arith, m, h)

-- ---- a gauge

pub gauge_is : (g : ℕ) (x : GainValue) (b : List ℕ) → length b ≡ GAUGE_LENGTH → IsBytes b → gauge_fault g x b ≡ None
    → b ≡ gauge (recording_in b) x
gauge_is g x b long fits none =
    let a = both_none _ _ none in
    let d = both_none _ _ a.1 in
    let d32 = step64 b 32 x.offset (omega (arith, long)) fits (same_of _ _ _ d.1)
    ∙ ends_here b GAUGE_LENGTH (to_be_bytes w64 (cast_unsigned w64 x.offset)) long in
    let d28 = step32 b 28 x.den (omega (arith, long)) fits (same_number _ _ _ d.0) ∙ ap (λ (r : List ℕ). to_be_bytes w32 x.den ++ r) d32 in
    let d20 = step64 b 20 x.num (omega (arith, long)) fits (same_of _ _ _ a.0)
    ∙ ap (λ (r : List ℕ). to_be_bytes w64 (cast_unsigned w64 x.num) ++ r) d28 in
    let d16 = step32 b 16 (number w32 16 b) (omega (arith, long)) fits refl
    ∙ ap (λ (r : List ℕ). to_be_bytes w32 (number w32 16 b) ++ r) d20 in
    sym (take-append-drop 16 b) ∙ ap (λ (r : List ℕ). take 16 b ++ r) d16

abbrev made : List ℕ → ℕ → Head
made i p = record { id = i; period_us = p }

-- the numbers behind an id of 16 bytes
behind : (id x : List ℕ) (i j : ℕ) → length id ≡ 16 → slice_range (id ++ x) (16 + i) (16 + j) ≡ slice_range x i j
behind id x i j long =
    let e : 16 + j - (16 + i) ≡ j - i = omega arith in
    let d : drop (16 + i) (id ++ x) ≡ drop i x = sym (drop-drop i 16 (id ++ x)) ∙ ap (drop i) (drop_at id x 16 long) in
    ap (λ n. take n (drop (16 + i) (id ++ x))) e ∙ ap (take (j - i)) d

head_made : (i j : List ℕ) (p q : ℕ) → i ≡ j → p ≡ q → made i p ≡ made j q
head_made i j p q e f = ap (λ (l : List ℕ). made l p) e ∙ ap (made j) f

pub is_gauge : (g : ℕ) (h : Head) (x : GainValue) → IsRecorded h → IsGain x
    → (gauge_fault g x (gauge h x) ≡ None) × (recording_in (gauge h x) ≡ h)
is_gauge g h x r i =
    let b = numbers h x in
    let num : signed_number 20 (gauge h x) ≡ x.num = ap (λ (l : List ℕ). cast_signed w64 (from_be_bytes w64 l)) (behind h.id b 4 12 r.id)
    ∙ read_signed x.num i.num in
    let den : number w32 28 (gauge h x) ≡ x.den = ap (from_be_bytes w32) (behind h.id b 12 16 r.id)
    ∙ from_be_bytes-to_be_bytes_4 x.den (omega (arith, i.den_to)) in
    let offset : signed_number 32 (gauge h x) ≡ x.offset = ap (λ (l : List ℕ). cast_signed w64 (from_be_bytes w64 l))
    (behind h.id b 16 24 r.id) ∙ read_signed x.offset i.offset in
    let period : number w32 16 (gauge h x) ≡ h.period_us = ap (from_be_bytes w32) (behind h.id b 0 4 r.id)
    ∙ from_be_bytes-to_be_bytes_4 h.period_us r.period in (
      none_both _ _ (of_same _ _ _ num) (none_both _ _ (of_same _ _ _ (ap pos den)) (of_same _ _ _ offset)),
      head_made
          (take 16 (gauge h x)) h.id (number w32 16 (gauge h x)) h.period_us (take_at h.id b 16 r.id) period,
    )
