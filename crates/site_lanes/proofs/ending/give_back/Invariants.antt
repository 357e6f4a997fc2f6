use Rattle.std.specs.List.{All}
use Rattle.std.proofs.Common.{◌≡◌, ◌≤◌, ◌+◌, vec_len}
use Rattle.outside.specs.Fault.{CountRose}
use Rattle.outside.specs.Site.{AsksNothing}
use Rattle.site_lanes.specs.Lanes.{HasSource, HasNoFaults, IsFaulty, HasNotFailed}
use Rattle.site_lanes.proofs.ending.give_back.Given as goal

abbrev pub invariant-loop : goal.invariant-loop
invariant-loop g l =
    let t = g.T.Site in
    record {
      out : t.out l.site ≡ vec_len l.lanes;
      sources : All HasSource l.lanes.items;
      faulty : All (IsFaulty g.T.Src.Source.faults) l.lanes.items;
      asked : AsksNothing (t.names_asked l.fn.site) (t.names_asked l.site);
      files : t.tells → t.files l.site ≡ t.files l.fn.site;
      left : l.counter + vec_len l.lanes ≡ vec_len l.fn.lanes;
      fault : (CountRose (t.faults l.fn.site) (t.faults l.site) → ⊥) → All HasNotFailed l.lanes.items → All HasNotFailed l.fn.lanes.items;
      none : All (HasNoFaults g.T.Src.Source.faults) l.fn.lanes.items →
          All (HasNoFaults g.T.Src.Source.faults) l.lanes.items × (t.faults l.site ≡ t.faults l.fn.site);
      later : t.faults l.fn.site ≤ t.faults l.site;
    }
