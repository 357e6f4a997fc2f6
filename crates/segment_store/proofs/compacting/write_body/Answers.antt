use Rattle.std.proofs.Common.{◌≡◌, ◌<◌, ◌++◌, ℕ, List, ap, sym, subst, ◌∙◌, arith}
use Rattle.std.specs.Prelude.{OnOk, OnErr}
use Rattle.outside.specs.Sink.{AppendsPrefix}
use Rattle.segment.specs.declared.segment_rules.name.Name.{Name}
use Rattle.segment_store.proofs.Fronts.{one_copy}
use Rattle.segment_store.proofs.compacting.write_body.Goals as goal

pub returns-clause-ok : goal.returns-clause-ok
returns-clause-ok g c tells =
    let v = c.args.segment.now in
    let e = c.name-name.ensures.value in
    let some : v.from < v.to = omega (arith, ap (λ (x : Name). x.from) e, ap (λ (x : Name). x.to) e, c.if-name.false) in
    let text = c.frame-n.ensures.framed ∙ sym (one_copy v some) in
    subst (λ (t : List ℕ). OnOk c.put.result (g.O.Sink.written c.put.new.self ≡ g.O.Sink.written c.args.out.now ++ t)) text
    (c.put.ensures.ok tells)

pub returns-clause-failed : goal.returns-clause-failed
returns-clause-failed g c tells =
    let v = c.args.segment.now in
    let e = c.name-name.ensures.value in
    let some : v.from < v.to = omega (arith, ap (λ (x : Name). x.from) e, ap (λ (x : Name). x.to) e, c.if-name.false) in
    let text = c.frame-n.ensures.framed ∙ sym (one_copy v some) in
    subst (λ (t : List ℕ). OnErr c.put.result (AppendsPrefix (g.O.Sink.written c.args.out.now) (g.O.Sink.written c.put.new.self) t)) text
    (c.put.ensures.failed tells)
