use Rattle.std.proofs.Common.{rules, inr}
use Rattle.count_workers.proofs.collector.collecting.look.Goals as goal

pub returns-in-Some-Unit : goal.returns-in-Some-Unit
returns-in-Some-Unit c = record {
  same = search rules;
  came = inr (record {
    unit = c.in-Some-Unit.unit;
    stepped = c.deposit_one.ensures;
    awaited = (search rules, search rules);
    taken =
        search rules;
  });
}
