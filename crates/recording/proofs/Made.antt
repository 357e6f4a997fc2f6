-- Samples that are made one by one.
use Rattle.std.proofs.Common.{◌≡◌, ◌<◌, ◌≤◌, ℕ, zero, suc, ◌+◌, ◌-◌, ◌*◌, List, ◌++◌, length, take, drop, sym, ap, ◌∙◌, arith, append_assoc, length-drop, length-take-le}
use Rattle.std.proofs.lemmas.List.{take_at, take-append-le, drop-append-le}
use Rattle.lemmas.proofs.Lists.{take-append-taken}
use Rattle.std.specs.Int.{to_le_bytes, cast_unsigned, w32}
use Rattle.recording.specs.Samples.{sample_bytes}
use Rattle.recording.specs.Synth.{next_state, made_sample, made_samples, state_after}

-- the first of several samples
made_first : (n m x : ℕ) → n ≡ suc m → sample_bytes (made_samples n x)
    ≡ to_le_bytes w32 (cast_unsigned w32 (made_sample (next_state x))) ++ sample_bytes (made_samples m (next_state x))
made_first n m x e = ap (λ k. sample_bytes (made_samples k x)) e

pub state_after-next : (n i x y all : ℕ) → i < n → y ≡ next_state x → state_after (n - i) x ≡ all → state_after (n - (i + 1)) y ≡ all
state_after-next n i x y all h e was =
    let one : n - i ≡ suc (n - (i + 1)) = omega arith in
    ap (state_after (n - (i + 1))) e ∙ sym (ap (λ k. state_after k x) one) ∙ was

-- the bytes of one sample more behind those of the first i
pub made_more : (n i x y : ℕ) (front next bs all : List ℕ) → i < n → y ≡ next_state x → next ≡ front ++ bs
    → bs ≡ to_le_bytes w32 (cast_unsigned w32 (made_sample y))
    → front ++ sample_bytes (made_samples (n - i) x) ≡ all → next ++ sample_bytes (made_samples (n - (i + 1)) y) ≡ all
made_more n i x y front next bs all h e cut is was =
    let rest = sample_bytes (made_samples (n - (i + 1)) y) in
    let one : n - i ≡ suc (n - (i + 1)) = omega arith in
    let split : sample_bytes (made_samples (n - i) x) ≡ bs ++ rest =
    made_first (n - i) (n - (i + 1)) x one
    ∙ ap (λ z. to_le_bytes w32 (cast_unsigned w32 (made_sample z)) ++ sample_bytes (made_samples (n - (i + 1)) z)) (sym e)
    ∙ ap (λ l. l ++ rest) (sym is) in
    ap (λ l. l ++ rest) cut ∙ append_assoc front bs rest ∙ ap (λ l. front ++ l) (sym split) ∙ was

-- the first n of several samples, and the others
made_split : (n m x : ℕ)
    → sample_bytes (made_samples (n + m) x) ≡ sample_bytes (made_samples n x) ++ sample_bytes (made_samples m (state_after n x))
made_split zero m x = ap (λ k. sample_bytes (made_samples k x)) (omega arith)
made_split (suc n) m x =
    let one : suc n + m ≡ suc (n + m) = omega arith in
    let bs = to_le_bytes w32 (cast_unsigned w32 (made_sample (next_state x))) in
    made_first (suc n + m) (n + m) x one ∙ ap (λ l. bs ++ l) (made_split n m (next_state x))
    ∙ sym (append_assoc bs (sample_bytes (made_samples n (next_state x))) (sample_bytes (made_samples m (state_after n (next_state x)))))

-- n samples were written to the front of a buffer
pub whole_taken : (samples n x y given : ℕ) (bytes rest before : List ℕ) → given ≡ 0 → n ≤ samples
    → bytes ≡ sample_bytes (made_samples n x)
    → length bytes ≡ 4 * n → y ≡ state_after n x → before ≡ drop given (sample_bytes (made_samples samples x))
    → before ≡ take (4 * n) (bytes ++ rest) ++ drop given (sample_bytes (made_samples (samples - n) y))
whole_taken samples n x y given bytes rest before none few is long e was =
    let all : n + (samples - n) ≡ samples = omega (arith, few) in
    let behind = sample_bytes (made_samples (samples - n) y) in
    let split : sample_bytes (made_samples samples x) ≡ bytes ++ behind =
    ap (λ k. sample_bytes (made_samples k x)) (sym all) ∙ made_split n (samples - n) x
    ∙ ap (λ l. l ++ sample_bytes (made_samples (samples - n) (state_after n x))) (sym is)
    ∙ ap (λ z. bytes ++ sample_bytes (made_samples (samples - n) z)) (sym e) in
    was ∙ ap (λ k. drop k (sample_bytes (made_samples samples x))) none ∙ split
    ∙ ap (λ l. l ++ behind) (sym (take_at bytes rest (4 * n) long))
    ∙ ap (λ k. take (4 * n) (bytes ++ rest) ++ drop k behind) (sym none)

-- n bytes of the first sample were written, behind those that were given
pub part_taken : (samples x given n : ℕ) (bs copied rest before : List ℕ) → 0 < samples → given + n ≤ 4
    → bs ≡ to_le_bytes w32 (cast_unsigned w32 (made_sample (next_state x))) → copied ≡ take n (drop given bs)
    → before ≡ drop given (sample_bytes (made_samples samples x))
    → before ≡ take n (copied ++ rest) ++ drop (given + n) (sample_bytes (made_samples samples x))
part_taken samples x given n bs copied rest before some few is part was =
    let others = sample_bytes (made_samples (samples - 1) (next_state x)) in
    let four : length bs ≡ 4 = ap length is in
    let split : sample_bytes (made_samples samples x) ≡ bs ++ others =
    made_first samples (samples - 1) x (omega (arith, some)) ∙ ap (λ l. l ++ others) (sym is) in
    let inside : n ≤ length (drop given bs) = omega (arith, few, four, length-drop given bs) in
    let long : length copied ≡ n = ap length part ∙ length-take-le n (drop given bs) inside in
    let same : copied ≡ take n (drop given (sample_bytes (made_samples samples x))) =
    part ∙ sym (take-append-le n (drop given bs) others inside)
    ∙ ap (take n) (sym (drop-append-le given bs others (omega (arith, few, four))) ∙ ap (drop given) (sym split)) in
    take-append-taken n given (sample_bytes (made_samples samples x)) copied rest before long same was

-- the first sample was given whole
pub drop-given : (samples x y given : ℕ) → 0 < samples → given ≡ 4 → y ≡ next_state x
    → drop given (sample_bytes (made_samples samples x)) ≡ sample_bytes (made_samples (samples - 1) y)
drop-given samples x y given some whole e =
    let bs = to_le_bytes w32 (cast_unsigned w32 (made_sample (next_state x))) in
    let others = sample_bytes (made_samples (samples - 1) (next_state x)) in
    ap (drop given) (made_first samples (samples - 1) x (omega (arith, some))) ∙ ap (λ k. drop k (bs ++ others)) whole
    ∙ ap (λ z. sample_bytes (made_samples (samples - 1) z)) (sym e)
