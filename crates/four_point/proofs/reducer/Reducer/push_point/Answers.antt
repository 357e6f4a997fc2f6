use Rattle.std.proofs.Common.{◌≡◌, ap, subst, sym, ◌∙◌, length, take, arith, length-take-le}
use Rattle.std.proofs.lemmas.List.{with_items_is}
use Rattle.four_point.specs.Residue.{IsResidue}
use Rattle.four_point.proofs.Index.{residue_bound}
use Rattle.four_point.proofs.reducer.Reducer.push_point.Goals as goal

pub push_point-self-inside-requires-clause-within : goal.push_point-self-inside-requires-clause-within
push_point-self-inside-requires-clause-within c =
    let i = c.self.inside in
    let b = residue_bound i.classes _ c.self.invariant.residue in
    let e = length-take-le i.len i.levels.items c.self.invariant.within in
    let k = ap (λ v. v.classes) c.self.view_is in
    omega arith

pub returns-clause-bound : goal.returns-clause-bound
returns-clause-bound c =
    let i = c.self.inside in
    let p = c.push_point-self-inside in
    let e : length p.new.levels ≡ i.levels.len = omega arith in
    let k = ap (λ v. v.classes) c.self.view_is in
    let r = subst (λ n. IsResidue n (take p.result p.new.levels)) (sym (k ∙ c.requires.classes)) p.ensures.residue in
    rw (with_items_is i.levels p.new.levels e) (residue_bound _ _ r)
