use Rattle.std.proofs.Common.{sym, subst, arith}
use Rattle.turning_points.specs.Ends.{end_points}
use Rattle.tally.proofs.on_tables.Filled.{keys_within}
use Rattle.simple_counts.specs.Loading.{CanLoad}
use Rattle.simple_counts.proofs.Loaded.{loaded_closed, last_in}
use Rattle.simple_counts.proofs.simple.Simple.replace_by.Goals as goal

pub load_ranges-requires-clause-within : goal.load_ranges-requires-clause-within
load_ranges-requires-clause-within c =
    let h = subst (λ v. CanLoad v.classes v.reference (end_points c.args.ends.now) c.args.peaks.now c.args.valleys.now c.args.ranges.now)
    (sym c.self.view_is) c.requires in
    keys_within 0 1 c.self.inside.classes _ c.args.ranges.now h.ranges_are (omega (arith, c.self.invariant.decided))

pub load_ranges-requires-clause-last : goal.load_ranges-requires-clause-last
load_ranges-requires-clause-last c =
    let h = subst (λ v. CanLoad v.classes v.reference (end_points c.args.ends.now) c.args.peaks.now c.args.valleys.now c.args.ranges.now)
    (sym c.self.view_is) c.requires in
    last_in c.self.inside.classes c.self.inside.reference (end_points c.args.ends.now) c.args.peaks.now c.args.valleys.now c.args.ranges.now
    h _ c.self.invariant.decided

pub load_extremes-requires-clause-peaks : goal.load_extremes-requires-clause-peaks
load_extremes-requires-clause-peaks c =
    let h = subst (λ v. CanLoad v.classes v.reference (end_points c.args.ends.now) c.args.peaks.now c.args.valleys.now c.args.ranges.now)
    (sym c.self.view_is) c.requires in
    keys_within 0 c.self.inside.reference c.self.inside.classes _ c.args.peaks.now h.peaks_are (omega (arith, c.self.invariant.extremes))

pub load_extremes-requires-clause-valleys : goal.load_extremes-requires-clause-valleys
load_extremes-requires-clause-valleys c =
    let h = subst (λ v. CanLoad v.classes v.reference (end_points c.args.ends.now) c.args.peaks.now c.args.valleys.now c.args.ranges.now)
    (sym c.self.view_is) c.requires in
    keys_within 0 0 c.self.inside.reference _ c.args.valleys.now h.valleys_are
    (omega (arith, c.self.invariant.extremes, c.self.invariant.reference.1))

pub invariant_of-self : goal.invariant_of-self
invariant_of-self c =
    let h = subst (λ v. CanLoad v.classes v.reference (end_points c.args.ends.now) c.args.peaks.now c.args.valleys.now c.args.ranges.now)
    (sym c.self.view_is) c.requires in
    loaded_closed c.self.inside.classes c.self.inside.reference (end_points c.args.ends.now) c.args.peaks.now c.args.valleys.now
    c.args.ranges.now h (c.self.invariant.classes, c.self.invariant.reference) _ _ _ _ c.self.invariant.decided
    c.self.invariant.extremes c.load_ranges.ensures c.load_extremes.ensures
