-- The bytes of a head tell the setup.
use Rattle.std.proofs.Common.{◌≡◌, ℕ, ◌+◌, List, [], ◌∷◌, ◌++◌, length, ap, refl, sym, ◌∙◌, arith, append_assoc}
use Rattle.std.specs.Prelude.{ℤ, pos, negsuc, None, nat_le, slice_range}
use Rattle.std.specs.Int.{w16}
use Rattle.segment.specs.segment_rules.Tests.{unless}
use Rattle.std.proofs.lemmas.Bool.Decides.{Decides-int_eq}
use Rattle.std.proofs.lemmas.List.{length-append}
use Rattle.lemmas.proofs.Outcomes.{both_none}
use Rattle.segment.specs.segment_rules.Parts.{PartsValue}
use Rattle.segment.proofs.on_segment_rules.Chosen.{kept}
use Rattle.calibration.specs.Gain.{GainValue}
use Rattle.calibration.specs.Grid.{GridValue}
use Rattle.calibration.specs.declared.setup.Setup.{Setup}
use Rattle.outside.specs.station.Station.{Image}
use Rattle.store_bytes.specs.declared.store_head.fault.Field.{Field}
use Rattle.store_bytes.specs.declared.store_head.fault.Field.TheVariants.{Gauges, Classes, Width, Low, Reference}
use Rattle.store_bytes.specs.declared.store_head.fault.HeadFault.TheVariants.{NotAStore}
use Rattle.store_bytes.specs.declared.store_head.setup.TheConstants.{FRONT_LENGTH}
use Rattle.store_bytes.specs.store_head.Head.{HeadValue, head_of}
use Rattle.store_bytes.specs.store_head.HeadFaults.{number, signed_number, differs, front_fault, gauges_fault, start_fault, head_fault}
use Rattle.store_bytes.proofs.on_store_head.Passing.{no_fault}
use Rattle.segment_store.specs.Image.{open_bodies, Reads}

same_of : (field : Field) (a b : ℤ) → differs field a b ≡ None → a ≡ b
same_of field a b none = (Decides-int_eq a b).0 (kept _ _ none)

value_of : ℤ → ℕ
value_of (pos n) = n
value_of (negsuc n) = n

same_number : (field : Field) (n a b : ℕ) → differs field (pos n) (pos a) ≡ None → differs field (pos n) (pos b) ≡ None → a ≡ b
unfolding value_of
same_number field n a b here there =
    sym (ap value_of (same_of field (pos n) (pos a) here)) ∙ ap value_of (same_of field (pos n) (pos b) there)

same_signed : (field : Field) (n a b : ℤ) → differs field n a ≡ None → differs field n b ≡ None → a ≡ b
same_signed field n a b here there = sym (same_of field n a here) ∙ same_of field n b there

abbrev gain : ℤ → ℕ → ℤ → GainValue
gain num den offset = record { num = num; den = den; offset = offset }

abbrev grid : ℕ → ℕ → ℤ → ℕ → GridValue
grid classes w2 low reference = record { classes = classes; w2 = w2; low_kpa = low; reference = reference }

abbrev setup : GridValue → List GainValue → Setup
setup g gains = record { grid = g; gains = gains }

same_gains : (image : Image) (g : ℕ) (xs ys : List GainValue) → length xs ≡ length ys → gauges_fault g xs image ≡ None
    → gauges_fault g ys image ≡ None → xs ≡ ys
same_gains image g [] [] long here there = refl
same_gains image g [] (y ∷ ys) long here there = absurd (omega (arith, long))
same_gains image g (x ∷ xs) [] long here there = absurd (omega (arith, long))
same_gains image g (x ∷ xs) (y ∷ ys) long here there =
    let a = both_none _ _ here in
    let b = both_none _ _ there in
    let n = both_none _ _ a.0 in
    let m = both_none _ _ b.0 in
    let d = both_none _ _ n.1 in
    let e = both_none _ _ m.1 in
    let first : x ≡ y = ap (λ z. gain z x.den x.offset) (same_signed _ _ _ _ n.0 m.0)
    ∙ ap (λ z. gain y.num z x.offset) (same_number _ _ _ _ d.0 e.0) ∙ ap (λ z. gain y.num y.den z) (same_signed _ _ _ _ d.1 e.1) in
    ap (λ z. z ∷ xs) first ∙ ap (λ zs. y ∷ zs) (same_gains image (g + 1) xs ys (omega (arith, long)) a.1 b.1)

-- the fields of a front are those of the bytes
record Fields (s : Setup) (b : List ℕ) : Type 0 where
  many : differs Gauges (pos (number w16 6 b)) (pos (length s.gains)) ≡ None
  classes : differs Classes (pos (number w16 8 b)) (pos s.grid.classes) ≡ None
  width : differs Width (pos (number w16 10 b)) (pos s.grid.w2) ≡ None
  low : differs Low (signed_number 12 b) s.grid.low_kpa ≡ None
  reference : differs Reference (pos (number w16 20 b)) (pos s.grid.reference) ≡ None

fields : (s : Setup) (size : ℕ) (b : List ℕ) → front_fault s size b ≡ None → Fields s b
fields s size b none =
    let magic = both_none _ _ none in
    let version = both_none _ _ magic.1 in
    let many = both_none _ _ version.1 in
    let whole = both_none _ _ many.1 in
    let classes = both_none _ _ whole.1 in
    let width = both_none _ _ classes.1 in
    let low = both_none _ _ width.1 in
    record { many = many.0; classes = classes.0; width = width.0; low = low.0; reference = low.1 }

one_setup : (s t : Setup) (image : Image) → head_fault s image ≡ None → head_fault t image ≡ None → s ≡ t
one_setup s t image here there =
    let b = slice_range image 0 FRONT_LENGTH in
    let all = both_none (start_fault s image) (gauges_fault 0 s.gains image) here in
    let all2 = both_none (start_fault t image) (gauges_fault 0 t.gains image) there in
    let size = length image in
    let f = fields s size b (both_none (unless (nat_le FRONT_LENGTH size) NotAStore) (front_fault s size b) all.0).1 in
    let f2 = fields t size b (both_none (unless (nat_le FRONT_LENGTH size) NotAStore) (front_fault t size b) all2.0).1 in
    let k = s.grid in
    let l = t.grid in
    let grids : k ≡ l = ap (λ z. grid z k.w2 k.low_kpa k.reference)
    (same_number Classes (number w16 8 b) k.classes l.classes f.classes f2.classes)
    ∙ ap (λ z. grid l.classes z k.low_kpa k.reference) (same_number Width (number w16 10 b) k.w2 l.w2 f.width f2.width)
    ∙ ap (λ z. grid l.classes l.w2 z k.reference) (same_signed Low (signed_number 12 b) k.low_kpa l.low_kpa f.low f2.low)
    ∙ ap (λ z. grid l.classes l.w2 l.low_kpa z)
    (same_number Reference (number w16 20 b) k.reference l.reference f.reference f2.reference) in
    let many : length s.gains ≡ length t.gains =
    same_number Gauges (number w16 6 b) (length s.gains) (length t.gains) f.many f2.many in
    ap (λ z. setup z s.gains) grids ∙ ap (λ z. setup l z) (same_gains image 0 s.gains t.gains many all.1 all2.1)

-- what an image reads as has the setup that its head passes for
pub setup_read : (head : HeadValue) (bodies : List PartsValue) (ends : List ℕ) (t : Setup) (image : Image) → Reads head bodies ends image
    → head_fault t image ≡ None → head.setup ≡ t
setup_read head bodies ends t image r passes =
    let rest = open_bodies head.layout bodies ++ r.gate ∷ r.rest in
    let whole : image ≡ head_of head ++ rest = r.whole ∙ append_assoc (head_of head) (open_bodies head.layout bodies) (r.gate ∷ r.rest) in
    one_setup head.setup t image (no_fault head rest image r.is_head whole
    (omega (arith, length-append (open_bodies head.layout bodies) (r.gate ∷ r.rest)))) passes
