use Rattle.std.proofs.Common.{rules, arith, ◌≡◌, ◌<◌, length, subst, ◌∙◌}
use Rattle.std.proofs.lemmas.List.{get_or-set_other, get_or_default}
use Rattle.std.proofs.Math.ListN.{length-set}
use Rattle.count_workers.specs.Preparing.{ConnectsRing}
use Rattle.count_workers.proofs.Preparation.{set_pushed}
use Rattle.count_workers.proofs.preparing.new_worker.Goals as goal

pub loop-g-preserved : goal.loop-g-preserved
loop-g-preserved h c =
    let k = c.loop-g.g in let rs = c.loop-g.readers in let rs0 = c.args.readers.now in let x = c.index-readers-g.result in
    let a = c.connect.new.reader in
    let l : k < length rs = omega arith in
    let n : length c.loop-g.takers.items ≡ k = search rules in
    record {
      long = length-set rs k a ∙ c.loop-g.invariant.long;
      takers = search rules;
      room = search rules;
      done = λ u d e m. set_pushed ConnectsRing rs0 rs c.loop-g.takers.items c.push_reserved.new.self.items k a
          c.in_ok-connect.field-0 d e l
          n c.push_reserved.ensures.items (λ i t o. c.loop-g.invariant.done i d t o)
          (subst (λ r. ConnectsRing r a c.in_ok-connect.field-0) (get_or_default rs k x d l
          ∙ c.loop-g.invariant.rest k d (omega arith)) c.in_ok-connect.ensures) u m;
      rest = λ u d m. get_or-set_other rs k u a d (λ e. omega arith) ∙ c.loop-g.invariant.rest u d (omega arith);
    }
