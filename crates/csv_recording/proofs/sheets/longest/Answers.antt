use Rattle.std.proofs.Common.{◌≡◌, ℕ, max, List, [], ◌∷◌, ℤ, length, arith}
use Rattle.std.proofs.lemmas.Grind.{common_steps}
use Rattle.std.proofs.lemmas.List.{drop_more, drop_all}
use Rattle.csv_recording.specs.Sheet.{longest}
use Rattle.csv_recording.proofs.sheets.longest.Goals as goal

one_more : (most n new : ℕ) (samples : List ℤ) (rest : List (List ℤ)) (all : ℕ) → max most (longest (samples ∷ rest)) ≡ all
    → n ≡ length samples → new ≡ max most n → max new (longest rest) ≡ all
unfolding longest
one_more most n new samples rest all before size is = omega (arith, before, size, is)

none_more : (most all : ℕ) → max most (longest []) ≡ all → most ≡ all
unfolding longest
none_more most all before = omega (arith, before)

pub loop-samples-preserved : goal.loop-samples-preserved
loop-samples-preserved c =
    let next = drop_more c.args.recordings.now c.loop-samples.samples-index c.samples-item.result c.loop-samples-test.true in
    let before = rw (next, ← c.samples-item.is) at c.loop-samples.invariant in
    let size : c.len.result ≡ length c.samples-item.result.items = omega (arith, c.len.ensures, c.samples-item.result.ok.0) in
    let most : c.max-most.result ≡ max c.loop-samples.most c.len.result = grind (arith, common_steps, c.max-most.ensures) in
    one_more _ c.len.result _ c.samples-item.result.items _ _ before size most

pub returns : goal.returns
returns c =
    let none = drop_all c.loop-samples.samples-index c.args.recordings.now (omega (arith, c.loop-samples-test.false)) in
    none_more _ _ (rw none at c.loop-samples.invariant)
