-- What a fill tells of the bytes that were left: those that it leaves, and how a body ends.
--   Splits          samples that were read, and those of what is left
--   ReadsLast       all samples were read, and so many bytes stand behind them
--   splits_more     of a fill that was full
--   splits_next     the same behind samples that were read before
--   last_ended      of one that found the end after a whole sample
--   last_torn       of one that found it after a part of one
--   read_at_most    no fill reads more samples than there are
use Rattle.std.proofs.Common.{◌≡◌, ℤ, ℕ, ◌*◌, ◌<◌, ◌≤◌, min, nat_le, ◌==◌, if◌then◌else◌, Bool, true, false, List, ◌++◌, length, take, drop, refl, sym, ◌∙◌, ap, subst, take-append-drop, length-take, arith, append_assoc}
use Rattle.std.proofs.lemmas.Bool.Decides.{nat_tests}
use Rattle.std.proofs.lemmas.List.{take_all}
use Rattle.recording.specs.Samples.{samples, torn_bytes}
use Rattle.recording.specs.Filling.{SameFirst, Takes}
use Rattle.recording.specs.declared.ends.FillEnd.TheVariants.{More, Ended, Torn}
use Rattle.recording.proofs.SampleLists.{samples-drop, torn_bytes-drop, length-samples}

-- the samples before, where some of them were read and the others are left
abbrev pub Splits : List ℕ → List ℤ → List ℕ → Type 0
Splits before read after = (samples before ≡ read ++ samples after) × (torn_bytes after ≡ torn_bytes before)

-- all samples were read, and so many bytes stand behind them
pub record ReadsLast (before : List ℕ) (read : List ℤ) (bytes : ℕ) : Type 0 where
  pub all : read ≡ samples before
  pub torn : torn_bytes before ≡ bytes

is_more : (b c : Bool) (m : ℕ) → More ≡ (if b then More else (if c then Ended else Torn m)) → b ≡ true
is_more true c m is = refl
is_more false true m is = absurd (cc)
is_more false false m is = absurd (cc)

is_ended : (b c : Bool) (m : ℕ) → Ended ≡ (if b then More else (if c then Ended else Torn m)) → (b ≡ false) × (c ≡ true)
is_ended true c m is = absurd (cc)
is_ended false true m is = (refl, refl)
is_ended false false m is = absurd (cc)

is_torn : (b c : Bool) (m bytes : ℕ) → Torn bytes ≡ (if b then More else (if c then Ended else Torn m)) →
    (b ≡ false) × (c ≡ false) × (bytes ≡ m)
is_torn true c m bytes is = absurd (cc)
is_torn false true m bytes is = absurd (cc)
is_torn false false m bytes is = (refl, refl, cc)

-- room samples were wanted, and the n that were read stand at the front of a buffer
module _ (room n : ℕ) (buf : List ℤ) (before after : List ℕ) (same : SameFirst n buf (samples before)) where
  pub read_at_most : length (take n buf) ≤ length (samples before)
  read_at_most = subst (λ l. length l ≤ length (samples before)) (sym same.1) (omega (arith, length-take n (samples before)))

  -- the first n of a list, and the others
  split_at : samples before ≡ take n buf ++ drop n (samples before)
  split_at = sym (take-append-drop n (samples before)) ∙ ap (λ l. l ++ drop n (samples before)) (sym same.1)

  pub splits_more : Takes room before n More after → Splits before (take n buf) after
  splits_more taken =
      let enough : nat_le room (length (samples before)) ≡ true = is_more _ _ _ (taken.ends (λ fault. cc)) in
      let count : n ≡ min room (length (samples before)) = taken.count (λ fault. cc) in
      let all : room ≡ n = grind (arith, nat_tests, enough, count) in
      let left : after ≡ drop (4 * n) before = taken.left (λ fault. cc) ∙ ap (λ m. drop (4 * m) before) all in
      let inside : 4 * n ≤ length before = omega (arith, same.0, length-samples before) in (
        split_at ∙ ap (λ l. take n buf ++ l) (sym (ap samples left ∙ samples-drop n before)),
        ap torn_bytes left ∙ torn_bytes-drop
            n before inside,
      )

  -- fewer samples were left than were wanted
  reads_all : n ≡ min room (length (samples before)) → nat_le room (length (samples before)) ≡ false → take n buf ≡ samples before
  reads_all count short =
      let few : length (samples before) < room = grind (arith, nat_tests, short) in
      same.1 ∙ take_all n (samples before) (omega (arith, count, few))

  pub last_ended : Takes room before n Ended after → ReadsLast before (take n buf) 0
  last_ended taken =
      let both = is_ended _ _ _ (taken.ends (λ fault. cc)) in
      let none : (torn_bytes before == 0) ≡ true = both.1 in
      record { all = reads_all (taken.count (λ fault. cc)) both.0; torn = grind (arith, nat_tests, none) }

  pub last_torn : (bytes : ℕ) → Takes room before n (Torn bytes) after → ReadsLast before (take n buf) bytes × (0 < bytes)
  last_torn bytes taken =
      let three = is_torn _ _ _ bytes (taken.ends (λ fault. cc)) in
      let some : (torn_bytes before == 0) ≡ false = three.1 in
      (record { all = reads_all (taken.count (λ fault. cc)) three.0; torn = sym three.2 }, grind (arith, nat_tests, some, three.2))

-- the body was split after the samples w, and a piece was read that did not end it
pub splits_next : (room n : ℕ) (buf : List ℤ) (body before after : List ℕ) (w : List ℤ) → Splits body w before →
    SameFirst n buf (samples before) → Takes room before n More after → Splits body (w ++ take n buf) after
splits_next room n buf body before after w split same taken =
    let piece = splits_more room n buf before after same taken in
    (split.0 ∙ ap (λ (l : List ℤ). w ++ l) piece.0 ∙ sym (append_assoc w (take n buf) (samples after)), piece.1 ∙ split.1)
