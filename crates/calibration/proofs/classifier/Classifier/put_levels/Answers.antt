-- The value at each place is put behind those before it.
use Rattle.std.proofs.Common.{◌<◌, length, take, get_or, rules, arith, length-take}
use Rattle.std.specs.Prelude.{pos}
use Rattle.std.specs.Int.{w32}
use Rattle.std.proofs.lemmas.Int.{to_z-of_z}
use Rattle.calibration.proofs.Places.{levels_more, used_more, counts_add}
use Rattle.calibration.proofs.classifier.Classifier.put_levels.Goals as goal

pub bounds-levels-used : goal.bounds-levels-used
bounds-levels-used c =
    let raws = c.args.raws.now in
    let so_far = counts_add c.args.self.now.gain c.args.self.now.grid (take c.loop-raw.raw-index raws) in
    omega (
      arith,
      so_far,
      c.loop-raw.invariant.used,
      length-take c.loop-raw.raw-index raws,
      c.loop-raw-test.true,
      c.requires.room,
      c.loop-raw.auto.levels,
    )

pub loop-raw-preserved : goal.loop-raw-preserved
loop-raw-preserved c =
    let gain = c.args.self.now.gain in
    let grid = c.args.self.now.grid in
    let raws = c.args.raws.now in
    let i = c.loop-raw.raw-index in
    let raw = to_z-of_z w32 (get_or raws i (pos 0)) (search rules) in
    let b = c.place-place.result.is_level in
    let v = c.place-place.result.level in
    let so_far = counts_add gain grid (take i raws) in
    let room : c.loop-raw.used < length c.loop-raw.levels =
    omega (arith, so_far, c.loop-raw.invariant.used, length-take i raws, c.loop-raw-test.true, c.requires.room, c.loop-raw.auto.levels) in
    record {
      levels = levels_more gain grid raws i (pos 0) _ b v c.loop-raw.used c.loop-raw.levels c.loop-raw-test.true raw room
          c.place-place.ensures c.loop-raw.invariant.levels;
      used = used_more gain grid raws i (pos 0) _ b v c.loop-raw.used c.loop-raw-test.true raw c.place-place.ensures
          c.loop-raw.invariant.used;
    }
