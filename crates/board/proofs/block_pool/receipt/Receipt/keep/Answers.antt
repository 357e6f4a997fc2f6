use Rattle.std.proofs.Common.{ap, length, arith, rules, ◌≡◌, vec_len}
use Rattle.board.proofs.block_pool.receipt.Receipt.keep.Goals as goal

pub write_front-requires : goal.write_front-requires
write_front-requires c =
    let samples = ap length c.samples.ensures in
    let buffer : length c.as_mut_slice.result.now ≡ vec_len c.self.inside.buffer = search rules in
    let block : c.args.unit.now.block ≡ vec_len c.self.inside.buffer = search rules in
    let long = c.name-name.ensures.long in
    let limits = c.name-name.ensures.limits.1 in
    omega (arith, samples, buffer, block, long, limits)
