use Rattle.std.proofs.Common.{length, ap, arith}
use Rattle.std.specs.Fmt.{decimal}
use Rattle.count_command.specs.declared.held_samples.line.TheConstants.{MAX_LINE_BYTES}
use Rattle.count_command.proofs.on_held_samples.LineLengths.{more, front-long}
use Rattle.count_command.proofs.held_samples.line.HeldLine.write.Goals as goal
use Rattle.lemmas.proofs.Lists.{length-decimal_word as number-short}

pub push_number-requires : goal.push_number-requires
push_number-requires c =
    let front = front-long MAX_LINE_BYTES c.self.inside.line c.clear.new.self c.push.new.self c.push-2.new.self c.push-3.new.self
    c.args.word.now c.as_bytes.result.now
    c.self.invariant c.clear.ensures c.push.ensures c.requires.word c.push-2.ensures c.push-3.ensures in
    omega (arith, front.room_is, front.long_is, ap length c.as_bytes.ensures.value, c.requires.short, number-short c.args.n (omega arith))

pub push-requires-4 : goal.push-requires-4
push-requires-4 c =
    let front = front-long MAX_LINE_BYTES c.self.inside.line c.clear.new.self c.push.new.self c.push-2.new.self c.push-3.new.self
    c.args.word.now c.as_bytes.result.now
    c.self.invariant c.clear.ensures c.push.ensures c.requires.word c.push-2.ensures c.push-3.ensures in
    let all = more _ _ _ c.push_number.new.self (decimal c.args.n) front c.push_number.ensures in
    omega (arith, all.room_is, all.long_is, ap length c.as_bytes.ensures.value, c.requires.short, number-short c.args.n (omega arith))
