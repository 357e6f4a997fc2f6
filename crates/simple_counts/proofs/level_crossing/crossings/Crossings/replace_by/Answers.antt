use Rattle.std.proofs.Common.{sym, subst, arith}
use Rattle.turning_points.specs.Ends.{end_points}
use Rattle.simple_counts.specs.level_crossing.Loading.{CanLoadCrossings}
use Rattle.tally.proofs.on_tables.Filled.{keys_within}
use Rattle.simple_counts.proofs.on_level_crossing.Loaded.{crossed_closed}
use Rattle.simple_counts.proofs.level_crossing.crossings.Crossings.replace_by.Goals as goal

pub load_bins-requires : goal.load_bins-requires
load_bins-requires c =
    let h = subst (λ v. CanLoadCrossings v.classes (end_points c.args.ends.now) c.args.bins.now) (sym c.self.view_is) c.requires in
    keys_within 0 1 c.self.inside.classes _ c.args.bins.now h.bins_are (omega (arith, c.self.invariant.begins))

pub load_bins-requires-2 : goal.load_bins-requires-2
load_bins-requires-2 c =
    let h = subst (λ v. CanLoadCrossings v.classes (end_points c.args.ends.now) c.args.bins.now) (sym c.self.view_is) c.requires in
    keys_within 1 1 c.self.inside.classes _ c.args.bins.now h.bins_are (omega (arith, c.self.invariant.stops))

pub invariant_of-self : goal.invariant_of-self
invariant_of-self c =
    let h = subst (λ v. CanLoadCrossings v.classes (end_points c.args.ends.now) c.args.bins.now) (sym c.self.view_is) c.requires in
    crossed_closed c.self.inside.classes c.self.inside.reference (end_points c.args.ends.now) c.args.bins.now
    (c.self.invariant.classes, c.self.invariant.reference) h _ _ _ _ c.self.invariant.begins c.self.invariant.stops c.load_bins.ensures
    c.load_bins-2.ensures
