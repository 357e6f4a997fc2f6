use Rattle.std.proofs.Common.{◌≢◌, ℕ, length, refl, ◌∙◌, arith}
use Rattle.count_workers.specs.declared.lane_loans.lane.Lane.{Lane}
use Rattle.recording.specs.declared.lane_ends.end.End.TheVariants.{ReadFault}
use Rattle.site_lanes.proofs.Places.{each_before, the_last}
use Rattle.site_lanes.specs.Lanes.{HasSource, HasNoFaults, IsFaulty}
use Rattle.site_lanes.proofs.ending.give_back.Goals as goal
use Rattle.lemmas.proofs.Lists.{each_more}
use Rattle.outside.proofs.Faults.{rose_more, rose_before}

pub loop-preserved : goal.loop-preserved
loop-preserved g c =
    let was = c.loop.invariant in
    let t = g.T.Site in
    let old = c.loop.lanes.items in
    let fewer = c.pop.new.self.items in
    let is = c.in-Some.ensures.items in
    record {
      out = omega (arith, was.out, c.give_back_one.ensures.back, c.in-Some.ensures.cases);
      sources = each_before (λ (x : Lane g.row.T-Src.Denot). HasSource x) fewer old c.in-Some.lane is was.sources;
      faulty = each_before (λ (x : Lane g.row.T-Src.Denot). IsFaulty g.T.Src.Source.faults x) fewer old c.in-Some.lane is was.faulty;
      asked = λ names has. c.give_back_one.ensures.asked names (was.asked names has);
      files = λ shows. c.give_back_one.ensures.files shows ∙ was.files shows;
      left = omega (arith, was.left, c.in-Some.ensures.cases);
      fault = λ none whole. was.fault (λ rose. none (rose_more _ _ _ rose c.give_back_one.ensures.later))
          (each_more (λ (k : ℕ) (x : Lane g.row.T-Src.Denot). x.end ≢ ReadFault) fewer old c.in-Some.lane (length fewer) is refl whole
          (λ e. none (rose_before _ _ _ was.later (c.give_back_one.ensures.cause e))));
      none = λ all.
          let kept = was.none all in
          let lanes = kept.0 in
          let few = each_before (λ (x : Lane g.row.T-Src.Denot). HasNoFaults g.T.Src.Source.faults x) fewer old c.in-Some.lane is lanes in
          let here = the_last (λ (x : Lane g.row.T-Src.Denot). HasNoFaults g.T.Src.Source.faults x) fewer old c.in-Some.lane is lanes in
          (few, c.give_back_one.ensures.steady here ∙ kept.1);
      later = omega (arith, was.later, c.give_back_one.ensures.later);
    }
