use Rattle.std.proofs.Common.{◌+◌, ◌-◌, ◌<◌, ◌∙◌, length, refl, sym, subst, get_or, set, arith}
use Rattle.tally.specs.Log.{with_more}
use Rattle.tally.proofs.Equal.{cell_of}
use Rattle.tally.proofs.PutTogether.{IsPutTogether, at_of, not_at_of, put_together-none, put_together-same, put_together-other_pair, put_together-first, put_together-fits}
use Rattle.tally.proofs.entries.put_together.Goals as goal
use Rattle.tally.proofs.entries.put_together.Goals.{then-kept-gt0+then-has_pair, else-kept-gt0, else-kept-gt0-via-then-kept-gt0+else-has_pair, else-kept-gt0-via-else-kept-gt0}

pub loop-i-init : goal.loop-i-init
loop-i-init c = put_together-none c.args.entries.now

pub overflow_add-entries : goal.overflow_add-entries
overflow_add-entries c =
    let l = c.loop-i in
    let z = cell_of 0 0 0 in
    let w : l.i < length c.args.entries.now = omega (arith, c.loop-i-test.true, l.invariant.length_kept) in
    let p = put_together-fits c.args.entries.now l.entries l.kept l.i
    (get_or l.entries l.i z) z c.requires.each c.requires.ordered l.invariant w refl
    (l.kept - 1) (omega (arith, c.if-kept-gt0.true)) c.requires.total in
    omega (arith, p)

pub loop-i-preserved : goal.loop-i-preserved
loop-i-preserved c =
    let l = c.loop-i in
    let xs = c.args.entries.now in
    let z = cell_of 0 0 0 in
    let x = get_or l.entries l.i z in
    let p = l.kept - 1 in
    let w : l.i < length xs = omega (arith, c.loop-i-test.true, l.invariant.length_kept) in
    elim c.if-kept-gt0.branch [
      | then-kept-gt0+then-has_pair b ↦
          let e = at_of (get_or l.entries p z) x.lo x.hi (sym b.has_pair.ensures ∙ b.if-has_pair.true) in
          let t = put_together-same xs l.entries l.kept l.i x z c.requires.each c.requires.ordered l.invariant w refl p
          (omega (arith, b.if-kept-gt0.true)) e.0 e.1 in
          subst (λ r. IsPutTogether xs r c.if-kept-gt0.kept (l.i + 1)) (sym b.entries-is)
          (subst (λ k. IsPutTogether xs (set l.entries p (with_more (get_or l.entries p z) x.n)) k (l.i + 1)) (sym b.kept-is) t)
      | else-kept-gt0 b ↦
          let t : IsPutTogether xs (set l.entries l.kept x) (l.kept + 1) (l.i + 1) = elim b.else-kept-gt0.branch [
            | else-kept-gt0-via-then-kept-gt0+else-has_pair v ↦
                put_together-other_pair xs l.entries l.kept l.i x z c.requires.each c.requires.ordered l.invariant w refl p
                (omega (arith, v.if-kept-gt0.true))
                (not_at_of (get_or l.entries p z) x.lo x.hi (sym v.has_pair.ensures ∙ v.if-has_pair.false))
            | else-kept-gt0-via-else-kept-gt0 v ↦
                put_together-first xs l.entries l.kept l.i x z c.requires.each c.requires.ordered l.invariant w refl
                (omega (arith, v.if-kept-gt0.false))
          ] in
          subst (λ r. IsPutTogether xs r c.if-kept-gt0.kept (l.i + 1)) (sym b.entries-is)
          (subst (λ k. IsPutTogether xs (set l.entries l.kept x) k (l.i + 1)) (sym b.kept-is) t)
    ]
