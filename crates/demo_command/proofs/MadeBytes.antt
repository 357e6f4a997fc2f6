-- The bytes of made samples, read as samples.
use Rattle.std.proofs.Common.{◌≡◌, ◌≤◌, ◌<◌, ℕ, zero, suc, ◌/◌, ◌^◌, ℤ, pos, List, ◌∷◌, length, refl, ap, ◌∙◌, arith}
use Rattle.std.specs.Prelude.{FitsSigned}
use Rattle.std.specs.Int.{w32}
use Rattle.std.proofs.lemmas.Int.{fits_signed_from_abs}
use Rattle.lemmas.proofs.Integers.{abs-sub}
use Rattle.recording.specs.Samples.{samples, torn_bytes, sample_bytes}
use Rattle.recording.specs.Synth.{next_state, made_sample, made_samples}
use Rattle.recording.proofs.Groups.{samples-group, torn_bytes-group, bytes_of, length-bytes_of, sample-bytes_of}

pub length-made : (n x : ℕ) → length (made_samples n x) ≡ n
length-made zero x = refl
length-made (suc n) x = ap suc (length-made n (next_state x))

state_few : (x : ℕ) → next_state x < 2 ^ 64
state_few x = omega arith

made_fits : (x : ℕ) → x < 2 ^ 64 → FitsSigned w32 (made_sample x)
made_fits x lt =
    let few : x / 2 ^ 57 ≤ 127 = omega (arith, lt) in
    fits_signed_from_abs w32 (made_sample x) (omega (arith, abs-sub (pos (x / 2 ^ 57)) (pos 64) 127 64 few (omega arith)))

pub samples-made : (n x : ℕ) → samples (sample_bytes (made_samples n x)) ≡ made_samples n x
samples-made zero x = refl
samples-made (suc n) x =
    let y = next_state x in
    let v = made_sample y in
    samples-group (bytes_of v) (sample_bytes (made_samples n y)) (length-bytes_of v)
    ∙ ap (λ (w : ℤ). w ∷ samples (sample_bytes (made_samples n y))) (sample-bytes_of v (made_fits y (state_few x)))
    ∙ ap (λ (l : List ℤ). v ∷ l) (samples-made n y)

pub torn_bytes-made : (n x : ℕ) → torn_bytes (sample_bytes (made_samples n x)) ≡ 0
torn_bytes-made zero x = refl
torn_bytes-made (suc n) x =
    let y = next_state x in
    torn_bytes-group (bytes_of (made_sample y)) (sample_bytes (made_samples n y)) (length-bytes_of (made_sample y)) ∙ torn_bytes-made n y
