-- The levels of each stretch are put behind those before it.
use Rattle.std.proofs.Common.{◌≡◌, ◌≤◌, ◌-◌, ◌∙◌, ap, length, take, drop, arith, length-take, length-drop}
use Rattle.std.proofs.lemmas.List.{take_all}
use Rattle.calibration.specs.History.{history, missing_count}
use Rattle.calibration.proofs.Places.{counts_add}
use Rattle.calibration.proofs.Bounds.{few_levels, stretch_levels, stretch_used}
use borrow.Rule.Slice.PartMut.{same_len_mid}
use Rattle.calibration.proofs.classifier.Classifier.levels.Goals as goal

pub levels_of-used-requires : goal.levels_of-used-requires
levels_of-used-requires c =
    let raws = c.args.raws.now in
    let from = c.loop-from.from in
    let few = few_levels c.args.self.now.gain c.args.self.now.grid (take from raws) in
    record {
      room = omega (
        arith,
        few,
        length-take from raws,
        c.loop-from.invariant.used,
        c.loop-from.invariant.length,
        c.requires.room,
        c.min-to.ensures,
        length-take (c.min-to.result - from) (drop from raws),
        length-drop from raws,
        length-take (length c.loop-from.levels - c.loop-from.used) (drop c.loop-from.used c.loop-from.levels),
        length-drop c.loop-from.used c.loop-from.levels,
      );
    }

pub loop-from-preserved : goal.loop-from-preserved
loop-from-preserved c =
    let gain = c.args.self.now.gain in
    let grid = c.args.self.now.grid in
    let raws = c.args.raws.now in
    let from = c.loop-from.from in
    let to = c.min-to.result in
    let used = c.loop-from.used in
    let levels = c.loop-from.levels in
    let kept = c.levels_of-used.ensures in
    let ahead : from ≤ to = omega (arith, c.min-to.ensures, c.loop-from-test.true) in
    let few = few_levels gain grid (take from raws) in
    let inside : used ≤ length levels = omega (
      arith,
      few,
      length-take from raws,
      c.loop-from.invariant.used,
      c.loop-from.invariant.length,
      c.requires.room,
    ) in
    let short = few_levels gain grid (take (to - from) (drop from raws)) in
    let within : c.levels_of-used.result ≤ length c.levels_of-used.new.levels =
    omega (
      arith,
      short,
      few,
      kept.used,
      kept.length,
      length-take from raws,
      c.loop-from.invariant.used,
      c.loop-from.invariant.length,
      c.requires.room,
      c.min-to.ensures,
      length-take (to - from) (drop from raws),
      length-drop from raws,
      length-take (length levels - used) (drop used levels),
      length-drop used levels,
    ) in
    record {
      from = omega (arith, c.min-to.ensures);
      levels = stretch_levels gain grid raws from to ahead used c.levels_of-used.result levels c.levels_of-used.new.levels inside within
          c.loop-from.invariant.levels kept.levels;
      used = stretch_used gain grid raws from to ahead used c.levels_of-used.result c.loop-from.invariant.used kept.used;
      length = same_len_mid used (length levels - used) levels c.levels_of-used.new.levels kept.length ∙ c.loop-from.invariant.length;
    }

pub missing_beside-missing-requires : goal.missing_beside-missing-requires
missing_beside-missing-requires c =
    let raws = c.args.raws.now in
    let all : take c.loop-from.from raws ≡ raws = take_all c.loop-from.from raws (omega (arith, c.loop-from-test.false)) in
    c.loop-from.invariant.used ∙ ap (λ l. length (history c.args.self.now.grid c.args.self.now.gain l)) all

pub overflow_sub-result : goal.overflow_sub-result
overflow_sub-result c =
    let few = few_levels c.args.self.now.gain c.args.self.now.grid (take c.loop-from.from c.args.raws.now) in
    omega (arith, few, c.loop-from.invariant.used, length-take c.loop-from.from c.args.raws.now)

pub overflow_sub-result-2 : goal.overflow_sub-result-2
overflow_sub-result-2 c =
    let raws = c.args.raws.now in
    let all : take c.loop-from.from raws ≡ raws = take_all c.loop-from.from raws (omega (arith, c.loop-from-test.false)) in
    let whole = counts_add c.args.self.now.gain c.args.self.now.grid raws in
    omega (
      arith,
      whole,
      c.loop-from.invariant.used,
      c.missing_beside-missing.ensures,
      ap (λ l. length (history c.args.self.now.grid c.args.self.now.gain l)) all,
    )

pub returns-clause-refused : goal.returns-clause-refused
returns-clause-refused c =
    let gain = c.args.self.now.gain in
    let grid = c.args.self.now.grid in
    let raws = c.args.raws.now in
    let all : take c.loop-from.from raws ≡ raws = take_all c.loop-from.from raws (omega (arith, c.loop-from-test.false)) in
    let whole = counts_add gain grid raws in
    omega (
      arith,
      whole,
      c.loop-from.invariant.used,
      c.missing_beside-missing.ensures,
      ap (λ l. length (history grid gain l)) all,
      ap (missing_count grid gain) all,
    )
