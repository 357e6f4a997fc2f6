-- After each bit the multiple is by one more of the first bits of n, whose number is at most n.
use Rattle.std.proofs.Common.{◌≡◌, ℕ, ◌+◌, ◌*◌, ◌-◌, ◌/◌, ◌%◌, ◌^◌, ◌<◌, ◌≤◌, ◌∙◌, div-one, sym, ap, rules, arith}
use Rattle.std.proofs.lemmas.Nat.{shr_le}
use Rattle.lemmas.proofs.Naturals.{multiple_fits, sum_fits, first_bits}
use Rattle.damage.proofs.exact_frac.frac.Frac.add_times.Goals as goal

-- m is the first bits of n with the next bit b, h those before: twice the multiple by h fits
doubled : (p h b m n x d top : ℕ) → p ≡ h * x → m ≡ 2 * h + b → m ≤ n → n < top → x < d → p + p < top * d
doubled p h b m n x d top e f g t s = multiple_fits (p + p) (2 * h) x d top (omega arith) s (omega arith)

-- and so it does with the next bit
extended : (q p h b m n x d top : ℕ) → q ≡ p + p → p ≡ h * x → m ≡ 2 * h + b → m ≤ n → n < top → x < d →
    q + (0 * d + b * x) < top * d
extended q p h b m n x d top k e f g t s =
    multiple_fits (q + (0 * d + b * x)) m x d top (omega (arith, ap (λ y. y * x) f)) s (omega arith)

-- which makes it the multiple by m
stepped : (r q p h b m x d : ℕ) → r ≡ q + (0 * d + b * x) → q ≡ p + p → p ≡ h * x → m ≡ 2 * h + b → r ≡ m * x
stepped r q p h b m x d i k e f = omega (arith, ap (λ y. y * x) f)

next_bit : (n bit : ℕ) → bit < 64 → n / 2 ^ (64 - (bit + 1)) ≡ 2 * (n / 2 ^ (64 - bit)) + n / 2 ^ (63 - bit) % 2
next_bit n bit h =
    let next : 64 - (bit + 1) ≡ 63 - bit = omega arith in ap (λ k. n / 2 ^ k) next ∙ first_bits n bit h

-- after all 64 bits the multiple is by n itself, and fits beside the number
finished : (w r v m d n bit x e top : ℕ) → r < e → x < e → w + n < top → 64 ≤ bit → bit ≤ 64 →
    v * d + m ≡ n / 2 ^ (64 - bit) * x → d ≡ e → w * e + r + (v * e + m) < top * e
finished w r v m d n bit x e top g h f a b i j =
    let last : 64 - bit ≡ 0 = omega arith in
    let all_bits : n / 2 ^ (64 - bit) * x ≡ n * x = ap (λ k. n / 2 ^ k * x) last ∙ ap (λ k. k * x) (div-one n) in
    let whole : v * e + m ≡ n * x = ap (λ y. v * y + m) (sym j) ∙ i ∙ all_bits in
    rw whole (sum_fits w r n x e top g h f)

pub add-requires-clause-fits : goal.add-requires-clause-fits
add-requires-clause-fits c =
    doubled _ _ _ _ _ _ _ _ c.loop-bit.invariant.multiple
    (first_bits c.args.n c.loop-bit.bit c.loop-bit-test.true) (shr_le c.args.n (63 - c.loop-bit.bit)) (omega arith) (omega arith)

pub add-requires-in-loop-bit-clause-fits : goal.add-requires-in-loop-bit-clause-fits
add-requires-in-loop-bit-clause-fits c =
    extended _ _ _ _ _ _ _ _ _ c.add.ensures.sum c.loop-bit.invariant.multiple
    (first_bits c.args.n c.loop-bit.bit c.loop-bit-test.true) (shr_le c.args.n (63 - c.loop-bit.bit)) (omega arith) (omega arith)

pub add-requires-2-clause-fits : goal.add-requires-2-clause-fits
add-requires-2-clause-fits c =
    finished _ _ _ _ _ c.args.n c.loop-bit.bit c.args.num _ _ (omega arith) c.requires.below_one c.requires.fits
    c.loop-bit-test.false c.loop-bit.auto.bit-end c.loop-bit.invariant.multiple c.loop-bit.invariant.den

pub loop-bit-preserved : goal.loop-bit-preserved
loop-bit-preserved c = record {
  multiple = stepped _ _ _ _ _ (c.args.n / 2 ^ (64 - (c.loop-bit.bit + 1))) _ _
      c.add-in-loop-bit.ensures.sum c.add.ensures.sum c.loop-bit.invariant.multiple
      (next_bit c.args.n c.loop-bit.bit c.loop-bit-test.true);
  den = search rules;
}
