-- What is read is what was written, and what was written is read again: for numbers, pairs and lists, once each.
use Rattle.std.proofs.Common.{◌≡◌, ℕ, zero, suc, ◌+◌, ◌-◌, ◌^◌, ◌<◌, ◌≤◌, Bool, true, false, if◌then◌else◌, nat_lt, List, [], ◌∷◌, ◌++◌, length, slice_index, take, drop, Result, Ok, Err, refl, sym, ap, subst, ◌∙◌, append_assoc, arith, inl, inr}
use Rattle.std.specs.List.{flat_map, AllByRecursion}
use Rattle.std.specs.Int.{Width, w16, w32, w64, byte_len, from_be_bytes, to_be_bytes}
use Rattle.std.proofs.lemmas.Bool.{cases_lt, ltb-false, le-ltb}
use Rattle.std.proofs.lemmas.List.{take_at, drop_at, take-append-drop, length-append, length-take, get_or-drop, get_or-take, get_or_past}
use Rattle.std.proofs.lemmas.List.Concat.{flat_map-cons}
use Rattle.std.proofs.lemmas.Nat.{be_bytes_2, be_bytes_4, be_bytes_8, from_be_bytes-to_be_bytes_2, from_be_bytes-to_be_bytes_4, from_be_bytes-to_be_bytes_8}
use Rattle.store_bytes.specs.declared.segment_bytes.fault.BytesFault.{BytesFault}
use Rattle.store_bytes.specs.declared.segment_bytes.fault.BytesFault.TheVariants.{Short}
use Rattle.store_bytes.specs.segment_bytes.Fields.{◌>>=◌, Reader, number_at, both, seen_as, entry_list, list_at, list_bytes}

abbrev pub IsBytes : List ℕ → Type 0
IsBytes bytes = (i : ℕ) → (slice_index bytes i) < 256

IsBytes-drop : (n : ℕ) (bytes : List ℕ) → IsBytes bytes → IsBytes (drop n bytes)
IsBytes-drop n bytes h i = rw get_or-drop (h (n + i))

IsBytes-take : (n : ℕ) (bytes : List ℕ) → IsBytes bytes → IsBytes (take n bytes)
IsBytes-take n bytes h i =
    elim (cases_lt i n) [
      | inl lt ↦ rw (get_or-take n bytes i 0 lt) (h i)
      | inr le ↦ rw (get_or_past (take n bytes) i 0 (omega (arith, length-take n bytes))) (omega arith)
    ]

-- the value of a step that did not fail
pub bind_ok : {A B : Type 0} (r : Result A BytesFault) (f : A → Result B BytesFault) (y : B) → (r >>= f) ≡ Ok y
    → (x : A) × (r ≡ Ok x) × (f x ≡ Ok y)
bind_ok (Ok x) f y e = (x, refl, e)
bind_ok (Err d) f y e = absurd cc

-- a test that did not fail
pub guard_ok : {A : Type 0} (b : Bool) (d : BytesFault) (x y : A) → (if b then Err d else Ok x) ≡ Ok y → (b ≡ false) × (x ≡ y)
guard_ok true d x y e = absurd cc
guard_ok false d x y e = (refl, cc)

abbrev done : {A : Type 0} → A → Result A BytesFault
done x = Ok x

pub ok_is : {A : Type 0} (x y : A) → done x ≡ done y → x ≡ y
ok_is x y e = cc

-- what a reader took from the front
pub record Takes (bytes text rest : List ℕ) : Type 0 where
  pub parts : bytes ≡ text ++ rest
  pub rest_fits : IsBytes rest

Takes-then : (a x b y c : List ℕ) → Takes a x b → Takes b y c → Takes a (x ++ y) c
Takes-then a x b y c p q = record {
  parts = p.parts ∙ ap (λ (t : List ℕ). x ++ t) q.parts
      ∙ sym (append_assoc x y c);
  rest_fits = q.rest_fits;
}

-- a way to write values that fit, and the reader of it
pub record IsFormat {A : Type 0} (Fits : A → Type 0) (write : A → List ℕ) (reader : Reader A) : Type 0 where
  pub takes : (have : ℕ) (bytes : List ℕ) (x : A × List ℕ) → IsBytes bytes → reader have bytes ≡ Ok x
      → Takes bytes (write x.0) x.1 × Fits x.0
  pub again : (have : ℕ) (x : A) (rest : List ℕ) → Fits x → reader have (write x ++ rest) ≡ Ok (x, rest)

-- ---- numbers

record IsWide (w : Width) (limit : ℕ) : Type 0 where
  pub len : (n : ℕ) → length (to_be_bytes w n) ≡ byte_len w
  pub back : (bytes : List ℕ) → length bytes ≡ byte_len w → IsBytes bytes → to_be_bytes w (from_be_bytes w bytes) ≡ bytes
  pub again : (n : ℕ) → n < limit → from_be_bytes w (to_be_bytes w n) ≡ n
  pub below : (bytes : List ℕ) → IsBytes bytes → from_be_bytes w bytes < limit

wide16 : IsWide w16 (2 ^ 16)
wide16 = record {
  len = λ n. refl;
  back = λ bytes len fits. be_bytes_2 bytes _ len fits refl;
  again = λ n lt. from_be_bytes-to_be_bytes_2 n lt;
  below = λ bytes fits. omega (arith, fits 0, fits 1);
}

wide32 : IsWide w32 (2 ^ 32)
wide32 = record {
  len = λ n. refl;
  back = λ bytes len fits. be_bytes_4 bytes _ len fits refl;
  again = λ n lt. from_be_bytes-to_be_bytes_4 n lt;
  below = λ bytes fits. omega (arith, fits 0, fits 1, fits 2, fits 3);
}

wide64 : IsWide w64 (2 ^ 64)
wide64 = record {
  len = λ n. refl;
  back = λ bytes len fits. be_bytes_8 bytes _ len fits refl;
  again = λ n lt. from_be_bytes-to_be_bytes_8 n lt;
  below = λ bytes fits. omega (arith, fits 0, fits 1, fits 2, fits 3, fits 4, fits 5, fits 6, fits 7);
}

number_takes : (w : Width) (limit : ℕ) (wide : IsWide w limit) (have : ℕ) (bytes : List ℕ) (x : ℕ × List ℕ) → IsBytes bytes
    → number_at w have bytes ≡ Ok x → Takes bytes (to_be_bytes w x.0) x.1 × (x.0 < limit)
number_takes w limit wide have bytes x fits e =
    let g = guard_ok (nat_lt (length bytes) (byte_len w)) (Short (have - length bytes + byte_len w) have)
    (from_be_bytes w (take (byte_len w) bytes), drop (byte_len w) bytes) x e in
    let long : byte_len w ≤ length bytes = ltb-false _ _ g.0 in
    let n-is : from_be_bytes w (take (byte_len w) bytes) ≡ x.0 = ap (λ (p : ℕ × List ℕ). p.0) g.1 in
    let rest-is : drop (byte_len w) bytes ≡ x.1 = ap (λ (p : ℕ × List ℕ). p.1) g.1 in
    let front : to_be_bytes w x.0 ≡ take (byte_len w) bytes = ap (to_be_bytes w) (sym n-is)
    ∙ wide.back (take (byte_len w) bytes) (omega (arith, length-take (byte_len w) bytes)) (IsBytes-take (byte_len w) bytes fits) in (
      record {
        parts = sym (take-append-drop (byte_len w) bytes) ∙ ap (λ (l : List ℕ). l ++ drop (byte_len w) bytes) (sym front)
            ∙ ap (λ (l : List ℕ). to_be_bytes w x.0 ++ l) rest-is;
        rest_fits = subst IsBytes rest-is
            (IsBytes-drop (byte_len w) bytes fits);
      },
      subst (λ n. n < limit) n-is
          (wide.below (take (byte_len w) bytes) (IsBytes-take (byte_len w) bytes fits)),
    )

number_again : (w : Width) (limit : ℕ) (wide : IsWide w limit) (have n : ℕ) (rest : List ℕ) → n < limit
    → number_at w have (to_be_bytes w n ++ rest) ≡ Ok (n, rest)
number_again w limit wide have n rest lt =
    let len = wide.len n in
    let long : byte_len w ≤ length (to_be_bytes w n ++ rest) = omega (arith, len, length-append (to_be_bytes w n) rest) in
    rw (
      le-ltb (length (to_be_bytes w n ++ rest)) (byte_len w) long,
      take_at (to_be_bytes w n) rest (byte_len w) len,
      drop_at (to_be_bytes w n) rest (byte_len w) len,
      wide.again n lt,
    ) refl

number : (w : Width) (limit : ℕ) → IsWide w limit → IsFormat (λ n. n < limit) (to_be_bytes w) (number_at w)
number w limit wide = record { takes = number_takes w limit wide; again = number_again w limit wide }

pub number16 : IsFormat (λ n. n < 2 ^ 16) (to_be_bytes w16) (number_at w16)
number16 = number w16 (2 ^ 16) wide16

pub number32 : IsFormat (λ n. n < 2 ^ 32) (to_be_bytes w32) (number_at w32)
number32 = number w32 (2 ^ 32) wide32

pub number64 : IsFormat (λ n. n < 2 ^ 64) (to_be_bytes w64) (number_at w64)
number64 = number w64 (2 ^ 64) wide64

-- ---- pairs

module _ {A B : Type 0} (F : A → Type 0) (G : B → Type 0) (v : A → List ℕ) (w : B → List ℕ) (first : Reader A) (second : Reader B)
    (f : IsFormat F v first) (g : IsFormat G w second) where
  both_takes : (have : ℕ) (bytes : List ℕ) (x : (A × B) × List ℕ) → IsBytes bytes → both first second have bytes ≡ Ok x
      → Takes bytes (v x.0.0 ++ w x.0.1) x.1 × (F x.0.0 × G x.0.1)
  both_takes have bytes x fits e =
      let a = bind_ok (first have bytes) (λ x. second have x.1 >>= λ y. Ok ((x.0, y.0), y.1)) x e in
      let b = bind_ok (second have a.0.1) (λ y. Ok ((a.0.0, y.0), y.1)) x a.2 in
      let s = f.takes have bytes a.0 fits a.1 in
      let t = g.takes have a.0.1 b.0 s.0.rest_fits b.1 in
      subst (λ (y : (A × B) × List ℕ). Takes bytes (v y.0.0 ++ w y.0.1) y.1 × (F y.0.0 × G y.0.1)) (ok_is ((a.0.0, b.0.0), b.0.1) x b.2)
      (Takes-then _ _ _ _ _ s.0 t.0, (s.1, t.1))

  both_again : (have : ℕ) (x : A × B) (rest : List ℕ) → F x.0 × G x.1 → both first second have ((v x.0 ++ w x.1) ++ rest) ≡ Ok (x, rest)
  both_again have x rest fits =
      ap (both first second have) (append_assoc (v x.0) (w x.1) rest)
      ∙ ap (λ (r : Result (A × List ℕ) BytesFault). r >>= λ x. second have x.1 >>= λ y. Ok ((x.0, y.0), y.1))
      (f.again have x.0 (w x.1 ++ rest) fits.0)
      ∙ ap (λ (r : Result (B × List ℕ) BytesFault). r >>= λ y. Ok ((x.0, y.0), y.1)) (g.again have x.1 rest fits.1)

  pub pair : IsFormat (λ (x : A × B). F x.0 × G x.1) (λ (x : A × B). v x.0 ++ w x.1) (both first second)
  pair = record { takes = both_takes; again = both_again }

-- ---- the same values, seen otherwise

module _ {A B : Type 0} (F : A → Type 0) (w : A → List ℕ) (reader : Reader A) (f : IsFormat F w reader) (there : A → B) (here : B → A)
    (over : (x : A) → here (there x) ≡ x) (under : (y : B) → there (here y) ≡ y) where
  seen_takes : (have : ℕ) (bytes : List ℕ) (x : B × List ℕ) → IsBytes bytes → seen_as there reader have bytes ≡ Ok x
      → Takes bytes (w (here x.0)) x.1 × F (here x.0)
  seen_takes have bytes x fits e =
      let a = bind_ok (reader have bytes) (λ x. Ok (there x.0, x.1)) x e in
      let s = f.takes have bytes a.0 fits a.1 in
      subst (λ (y : B × List ℕ). Takes bytes (w (here y.0)) y.1 × F (here y.0)) (ok_is (there a.0.0, a.0.1) x a.2)
      (subst (λ (y : A). Takes bytes (w y) a.0.1 × F y) (sym (over a.0.0)) s)

  seen_again : (have : ℕ) (x : B) (rest : List ℕ) → F (here x) → seen_as there reader have (w (here x) ++ rest) ≡ Ok (x, rest)
  seen_again have x rest fits =
      ap (λ (r : Result (A × List ℕ) BytesFault). r >>= λ y. Ok (there y.0, y.1)) (f.again have (here x) rest fits)
      ∙ ap (λ (y : B). Ok (y, rest)) (under x)

  pub seen : IsFormat (λ (x : B). F (here x)) (λ (x : B). w (here x)) (seen_as there reader)
  seen = record { takes = seen_takes; again = seen_again }

-- ---- lists

module _ {A : Type 0} (F : A → Type 0) (w : A → List ℕ) (one : Reader A) (f : IsFormat F w one) where
  entry_list_takes : (n have : ℕ) (bytes : List ℕ) (x : List A × List ℕ) → IsBytes bytes → entry_list one n have bytes ≡ Ok x
      → Takes bytes (flat_map w x.0) x.1 × ((length x.0 ≡ n) × AllByRecursion F x.0)
  unfolding entry_list
  entry_list_takes zero have bytes x fits e =
      subst (λ (y : List A × List ℕ). Takes bytes (flat_map w y.0) y.1 × ((length y.0 ≡ 0) × AllByRecursion F y.0))
      (ok_is ([], bytes) x e) (record { parts = refl; rest_fits = fits }, (refl, tt))
  entry_list_takes (suc n) have bytes x fits e =
      let a = bind_ok (one have bytes) (λ x. entry_list one n have x.1 >>= λ y. Ok (x.0 ∷ y.0, y.1)) x e in
      let b = bind_ok (entry_list one n have a.0.1) (λ y. Ok (a.0.0 ∷ y.0, y.1)) x a.2 in
      let s = f.takes have bytes a.0 fits a.1 in
      let t = entry_list_takes n have a.0.1 b.0 s.0.rest_fits b.1 in
      let both : Takes bytes (w a.0.0 ++ flat_map w b.0.0) b.0.1 = Takes-then _ _ _ _ _ s.0 t.0 in
      subst (λ (y : List A × List ℕ). Takes bytes (flat_map w y.0) y.1 × ((length y.0 ≡ suc n) × AllByRecursion F y.0))
      (ok_is (a.0.0 ∷ b.0.0, b.0.1) x b.2) (rw flat_map-cons both, (ap suc t.1.0, (s.1, t.1.1)))

  entry_list_again : (have : ℕ) (xs : List A) (rest : List ℕ) → AllByRecursion F xs
      → entry_list one (length xs) have (flat_map w xs ++ rest) ≡ Ok (xs, rest)
  unfolding entry_list
  entry_list_again have [] rest fits = refl
  entry_list_again have (x ∷ xs) rest fits =
      let regrouped : flat_map w (x ∷ xs) ++ rest ≡ w x ++ (flat_map w xs ++ rest) = ap (λ (l : List ℕ). l ++ rest)
      (flat_map-cons w x xs) ∙ append_assoc (w x) (flat_map w xs) rest in
      ap (entry_list one (suc (length xs)) have) regrouped
      ∙ ap (λ (r : Result (A × List ℕ) BytesFault). r >>= λ x. entry_list one (length xs) have x.1 >>= λ y. Ok (x.0 ∷ y.0, y.1))
      (f.again have x (flat_map w xs ++ rest) fits.0)
      ∙ ap (λ (r : Result (List A × List ℕ) BytesFault). r >>= λ y. Ok (x ∷ y.0, y.1)) (entry_list_again have xs rest fits.1)

  module _ (width : Width) (limit : ℕ) (count : IsFormat (λ n. n < limit) (to_be_bytes width) (number_at width)) where
    counted_takes : (have : ℕ) (bytes : List ℕ) (x : List A × List ℕ) → IsBytes bytes → list_at width one have bytes ≡ Ok x
        → Takes bytes (list_bytes width w x.0) x.1 × ((length x.0 < limit) × AllByRecursion F x.0)
    counted_takes have bytes x fits e =
        let a = bind_ok (number_at width have bytes) (λ n. entry_list one n.0 have n.1) x e in
        let s = count.takes have bytes a.0 fits a.1 in
        let t = entry_list_takes a.0.0 have a.0.1 x s.0.rest_fits a.2 in
        let same : a.0.0 ≡ length x.0 = sym t.1.0 in (
          subst (λ n. Takes bytes (to_be_bytes width n ++ flat_map w x.0) x.1) same (Takes-then _ _ _ _ _ s.0 t.0),
          (omega (arith, same, s.1), t.1.1),
        )

    counted_again : (have : ℕ) (xs : List A) (rest : List ℕ) → (length xs < limit) × AllByRecursion F xs
        → list_at width one have (list_bytes width w xs ++ rest) ≡ Ok (xs, rest)
    counted_again have xs rest fits =
        ap (list_at width one have) (append_assoc (to_be_bytes width (length xs)) (flat_map w xs) rest)
        ∙ ap (λ (r : Result (ℕ × List ℕ) BytesFault). r >>= λ n. entry_list one n.0 have n.1)
        (count.again have (length xs) (flat_map w xs ++ rest) fits.0)
        ∙ entry_list_again have xs rest fits.1

    pub list : IsFormat (λ (xs : List A). (length xs < limit) × AllByRecursion F xs) (list_bytes width w) (list_at width one)
    list = record { takes = counted_takes; again = counted_again }
