use Rattle.std.proofs.Common.{◌≡◌, sym, subst}
use Rattle.turning_points.specs.Ends.{end_points}
use Rattle.tally.specs.tables.Bins.{count_at}
use Rattle.simple_counts.specs.level_crossing.Crossings.{IsCrossings, crossing_count}
use Rattle.simple_counts.proofs.on_level_crossing.Loaded.{crossed_counts, crossed_is}
use Rattle.simple_counts.proofs.level_crossing.crossings.Crossings.load.Goals as goal

pub returns-clause-counts : goal.returns-clause-counts
returns-clause-counts c = λ l.
    let limits = c.replace_by.ensures.rules in
    subst (λ v. crossing_count v l ≡ count_at l c.args.bins.now) (sym c.replace_by.ensures.value)
    (crossed_counts c.args.self.now.classes c.args.self.now.reference (end_points c.args.ends.now) c.args.bins.now
    (limits.classes, limits.reference) c.requires l)

pub returns-clause-rules : goal.returns-clause-rules
returns-clause-rules c =
    let limits = c.replace_by.ensures.rules in
    subst (λ v. IsCrossings v) (sym c.replace_by.ensures.value)
    (crossed_is c.args.self.now.classes c.args.self.now.reference (end_points c.args.ends.now) c.args.bins.now
    (limits.classes, limits.reference) c.requires)
