use Rattle.std.proofs.Common.{rules, refl, ◌≡◌, ◌+◌, ◌++◌, true, length, take, drop, sym, subst}
use Rattle.lemmas.proofs.Lists.{all_written}
use Rattle.count_workers.specs.Preparing.{NewWorker}
use Rattle.count_workers.proofs.Preparation.{Preparing, prepared_none, prepared_more, nothing_taken, rests_first}
use Rattle.count_workers.proofs.prepared.Prepared.new.Goals as goal

pub loop-number-init : goal.loop-number-init
loop-number-init h c = record {
  prepared = prepared_none c.args.plan.now c.in_ok-readers.readers.items _ _ (search rules) (search rules) (search rules) (search rules);
  workers_room = search rules;
  returns_room = search rules;
}

pub loop-number-preserved : goal.loop-number-preserved
loop-number-preserved h c =
    let rs = c.loop-number.readers in let new = c.new_worker.new.readers in let w = c.in_ok-new_worker.field-0 in
    let made : NewWorker c.loop-number.number c.in_ok-back.back rs.items new w =
    subst (λ l. NewWorker c.loop-number.number c.in_ok-back.back l new w) c.as_mut_slice.ensures.value c.in_ok-new_worker.ensures in
    let long : rs.len ≡ length rs.items = rs.ok.0 in
    let same : take rs.len (new ++ drop (length new) rs.items) ≡ new = all_written rs.items new rs.len long (search rules) in
    record {
      prepared = subst (λ l. Preparing c.args.plan.now
          (c.loop-number.number + 1) l c.push_reserved.new.self.items c.push_reserved-in-loop-number.new.self.items) (sym same)
          (prepared_more c.args.plan.now c.loop-number.number rs.items new c.loop-number.workers.items c.push_reserved.new.self.items
          c.loop-number.returns.items c.push_reserved-in-loop-number.new.self.items w
          (record { taker = c.in_ok-back.taker; awaited = true }) c.in_ok-back.back
          c.loop-number.invariant.prepared made
          (record {
            one = record { one = search rules };
            even = search rules;
            awaited =
                refl;
          }) c.push_reserved.ensures.items c.push_reserved-in-loop-number.ensures.items c.requires.gauges.0);
      workers_room = search rules;
      returns_room = search rules;
    }

pub invariant_of-result : goal.invariant_of-result
invariant_of-result h c =
    rests_first c.args.plan.now c.in_ok-pool.pool c.in_ok-board.board c.loop-number.number c.loop-number.readers.items
    c.loop-number.workers.items c.loop-number.returns.items c.requires (search rules) c.loop-number.invariant.prepared (search rules)
    (search rules)

pub returns : goal.returns
returns h c = record {
  grid = search rules;
  gauges = search rules;
  block = search rules;
  workers = search rules;
  board = search rules;
  inside = search rules;
  rings = nothing_taken c.args.plan.now c.loop-number.number c.loop-number.readers.items c.loop-number.workers.items
      c.loop-number.returns.items (search rules) c.loop-number.invariant.prepared;
}
