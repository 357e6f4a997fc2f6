-- The front that was read means what the whole means: it is the whole, or both are too long.
use Rattle.std.proofs.Common.{◌≡◌, ◌+◌, ◌<◌, ◌≤◌, ◌⊎◌, inl, inr, ◌++◌, ℕ, true, List, [], length, length-append, take, min, refl, sym, ap, ◌∙◌, arith}
use Rattle.std.specs.Prelude.{Err, nat_lt}
use Rattle.std.proofs.lemmas.List.{length-take-le, take_all}
use Rattle.std.proofs.Math.Seq.{take-append_seam}
use Rattle.std.proofs.lemmas.Bool.{cases_lt}
use Rattle.std.proofs.lemmas.Bool.Decides.{nat_tests}
use Rattle.site_config.specs.declared.fault.ConfigFault.TheVariants.{TooLong}
use Rattle.site_config.specs.declared.limits.TheConstants.{MAX_BYTES}
use Rattle.site_config.specs.Configuration.{config_of_bytes}
use Rattle.status.specs.config_reading.Reading.{IsFront}

too_long : (bytes : List ℕ) → MAX_BYTES < length bytes → config_of_bytes bytes ≡ Err TooLong
unfolding config_of_bytes
too_long bytes more = let far : nat_lt MAX_BYTES (length bytes) ≡ true = grind (arith, nat_tests) in rw far refl

-- a buffer that is full, or a source that is empty
pub front_of : (n room : ℕ) (bytes left rest : List ℕ) → length bytes ≡ room → n ≤ room → left ≡ take n bytes ++ rest
    → ((n ≡ room) ⊎ (rest ≡ [])) → IsFront n bytes room left
front_of n room bytes left rest long within is end =
    let taken : length (take n bytes) ≡ n = length-take-le n bytes (omega (arith, long, within)) in
    let all : length left ≡ n + length rest = ap length is ∙ omega (arith, length-append (take n bytes) rest, taken) in
    record {
      many = by (length rest) all (shorter end);
      same = sym (ap (take n) is ∙ ap (λ k. take k (take n bytes ++ rest)) (sym taken) ∙ take-append_seam (take n bytes) rest);
    }
  where
    shorter : ((n ≡ room) ⊎ (rest ≡ [])) → (n ≡ room) ⊎ (length rest ≡ 0)
    shorter (inl full) = inl full
    shorter (inr none) = inr (ap length none)

    by : (more : ℕ) → length left ≡ n + more → ((n ≡ room) ⊎ (more ≡ 0)) → n ≡ min room (length left)
    by more all (inl full) = grind (arith, all, full)
    by more all (inr none) = grind (arith, all, none, within)

pub meaning_front : (n : ℕ) (bytes left : List ℕ) → IsFront n bytes (MAX_BYTES + 1) left →
    config_of_bytes (take n bytes) ≡ config_of_bytes left
meaning_front n bytes left f = go (cases_lt MAX_BYTES (length left))
  where
    go : (MAX_BYTES < length left) ⊎ (length left ≤ MAX_BYTES) → config_of_bytes (take n bytes) ≡ config_of_bytes left
    go (inl more) =
        let many : n ≡ MAX_BYTES + 1 = grind (arith, f.many, more) in
        let long : length (take n left) ≡ n = length-take-le n left (omega (arith, many, more)) in
        ap config_of_bytes f.same ∙ (too_long (take n left) (omega (arith, long, many)) ∙ sym (too_long left more))
    go (inr few) =
        let many : n ≡ length left = grind (arith, f.many, few) in
        ap config_of_bytes (f.same ∙ take_all n left (omega (arith, many)))
