use Rattle.std.proofs.Common.{drop, sym, subst, arith}
use Rattle.std.specs.List.Sorted.{IsNonDecreasing}
use Rattle.std.proofs.lemmas.List.{take_at, length-take-le}
use Rattle.std.proofs.lemmas.List.Sorted.{IsNonDecreasingBy-from_sort}
use Rattle.tally.proofs.layout.order.Goals as goal

pub returns-clause-ordered : goal.returns-clause-ordered
returns-clause-ordered c =
    let s = c.sort_unstable.new.self in
    let n = length-take-le c.args.used c.args.touched.now c.requires.within in
    subst IsNonDecreasing
    (sym (take_at s (drop c.args.used c.args.touched.now) c.args.used (omega (arith, n, c.sort_unstable.ensures.len))))
    (IsNonDecreasingBy-from_sort (λ x. x) s c.sort_unstable.ensures.sorted)
