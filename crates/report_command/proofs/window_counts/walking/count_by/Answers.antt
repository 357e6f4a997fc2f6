use Rattle.std.proofs.Common.{◌∙◌, List, sym, subst, slice_index_or, arith}
use Rattle.std.specs.Prelude.{map}
use Rattle.recording.specs.declared.head.Head.{Head}
use Rattle.segment.specs.segment_rules.Parts.{PartsValue}
use Rattle.report_command.specs.window_counts.Counted.{IsCounted, period_of}
use Rattle.report_command.proofs.on_window_counts.Counted.{counted, grid_after, same_fault}
use Rattle.segment_store.proofs.Quiet.{quiet_starts}
use Rattle.report_command.proofs.window_counts.walking.count_by.Goals as goal

-- every body was handed over
pub returns-in-Ok-each_body-clause-counted : goal.returns-in-Ok-each_body-clause-counted
returns-in-Ok-each_body-clause-counted g c tells head bodies ends of heads reads =
    let e = c.in-Ok.ensures in
    let setup = c.args.setup.now in
    let times = c.args.times in
    let read = c.args.heads.now in
    let joined = c.each_body.new.visitor.joined in
    let r = c.in-Ok-each_body.ensures.reads tells head bodies ends of reads in
    let done = counted setup times (map (λ (h : Head). h.period_us) read) c.in-Ok.windows c.each_body.new.visitor r.1 ends r.3
    e.times e.periods e.grid (e.gauges ∙ c.requires.many) e.empty in
    λ gauge d lt. subst (λ (h : List Head). IsCounted setup times (period_of h gauge) bodies gauge (slice_index_or joined gauge d))
    (sym heads) (subst (λ (b : List PartsValue). IsCounted setup times (period_of read gauge) b gauge (slice_index_or joined gauge d))
    r.2 (done.1 gauge d lt))

pub returns-in-Ok-each_body-clause-gauges : goal.returns-in-Ok-each_body-clause-gauges
returns-in-Ok-each_body-clause-gauges g c =
    let e = c.in-Ok.ensures in
    let v = c.in-Ok-each_body.ensures.visited in
    (counted c.args.setup.now c.args.times (map (λ (h : Head). h.period_us) c.args.heads.now) c.in-Ok.windows c.each_body.new.visitor
    v.1 v.2 v.3 e.times e.periods e.grid (e.gauges ∙ c.requires.many) e.empty).0

pub returns-in-Ok-each_body-clause-grid : goal.returns-in-Ok-each_body-clause-grid
returns-in-Ok-each_body-clause-grid g c = grid_after c.in-Ok-each_body.ensures.visited.3 ∙ c.in-Ok.ensures.grid

-- what it leaves
pub returns-in_default-clause-walk : goal.returns-in_default-clause-walk
returns-in_default-clause-walk g c =
    let k = g.K.Station in
    record {
      refuses = λ tells. tt;
      unharmed = λ tells s. tt;
      quiet = λ tells. quiet_starts (k.clock c.args.station.now) (k.moments c.args.station.now) (k.told c.args.station.now)
          (k.seen c.args.station.now) (k.leaves c.args.station.now) (g.met.K.Station.only_now tells c.args.station.now);
      cause = λ is. absurd cc;
      later = omega arith;
    }

pub returns-in-Ok-each_body-clause-walk : goal.returns-in-Ok-each_body-clause-walk
returns-in-Ok-each_body-clause-walk g c = record {
  refuses = λ tells. tt;
  unharmed = λ tells s. tt;
  quiet = c.each_body.ensures.quiet;
  cause = λ is. absurd cc;
  later = c.each_body.ensures.later;
}

pub returns-in-Err-clause-walk : goal.returns-in-Err-clause-walk
returns-in-Err-clause-walk g c = record {
  refuses = c.in-Err.ensures.refuses;
  unharmed = λ tells s. c.in-Err.ensures.unharmed tells s.head s.bodies s.ends s.of_setup s.reads;
  quiet = c.each_body.ensures.quiet;
  cause = λ is. c.in-Err.ensures.cause (same_fault is);
  later = c.each_body.ensures.later;
}
