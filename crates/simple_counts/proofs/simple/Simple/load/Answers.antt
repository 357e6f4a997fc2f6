use Rattle.std.proofs.Common.{◌≡◌, sym, subst}
use Rattle.turning_points.specs.Ends.{end_points}
use Rattle.tally.specs.tables.Bins.{count_at}
use Rattle.simple_counts.specs.Simple.{IsSimple, range_count, peak_count, valley_count}
use Rattle.simple_counts.proofs.Loaded.{loaded_counted, loaded_ranges, loaded_peaks, loaded_valleys}
use Rattle.simple_counts.proofs.simple.Simple.load.Goals as goal

pub returns-clause-ranges : goal.returns-clause-ranges
returns-clause-ranges c = λ k. subst (λ v. range_count v k ≡ count_at k c.args.ranges.now) (sym c.replace_by.ensures.value)
    (loaded_ranges c.args.self.now.classes c.args.self.now.reference (end_points c.args.ends.now) c.args.peaks.now c.args.valleys.now
    c.args.ranges.now c.requires k)

pub returns-clause-peaks : goal.returns-clause-peaks
returns-clause-peaks c = λ l.
    let limits = c.replace_by.ensures.rules in
    subst (λ v. peak_count v l ≡ count_at l c.args.peaks.now) (sym c.replace_by.ensures.value)
    (loaded_peaks c.args.self.now.classes c.args.self.now.reference (end_points c.args.ends.now) c.args.peaks.now c.args.valleys.now
    c.args.ranges.now c.requires (limits.classes, limits.reference) l)

pub returns-clause-valleys : goal.returns-clause-valleys
returns-clause-valleys c = λ l.
    let limits = c.replace_by.ensures.rules in
    subst (λ v. valley_count v l ≡ count_at l c.args.valleys.now) (sym c.replace_by.ensures.value)
    (loaded_valleys c.args.self.now.classes c.args.self.now.reference (end_points c.args.ends.now) c.args.peaks.now c.args.valleys.now
    c.args.ranges.now c.requires (limits.classes, limits.reference) l)

pub returns-clause-rules : goal.returns-clause-rules
returns-clause-rules c =
    let limits = c.replace_by.ensures.rules in
    subst IsSimple (sym c.replace_by.ensures.value) (loaded_counted c.args.self.now.classes c.args.self.now.reference
    (end_points c.args.ends.now) c.args.peaks.now c.args.valleys.now c.args.ranges.now c.requires (limits.classes, limits.reference))
