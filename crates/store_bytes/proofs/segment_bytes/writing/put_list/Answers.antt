use Rattle.std.proofs.Common.{◌≡◌, ◌+◌, ◌-◌, ◌/◌, ◌<◌, ◌^◌, ◌++◌, ◌∙◌, drop, length, take, refl, ap, arith}
use Rattle.std.specs.Int.{w16, to_be_bytes}
use Rattle.std.specs.List.{flat_map}
use Rattle.store_bytes.specs.segment_bytes.Grammar.{bin}
use Rattle.store_bytes.specs.segment_bytes.Writing.{bins_of}
use Rattle.store_bytes.proofs.on_segment_bytes.Encoded.{number_before}
use Rattle.store_bytes.proofs.on_segment_bytes.Listed.{bins_bytes, bins_few}
use Rattle.store_bytes.proofs.segment_bytes.writing.put_list.Goals as goal

pub overflow_cast-end : goal.overflow_cast-end
overflow_cast-end c =
    let counts = c.args.counts.now in
    let few : (c.put_bins-end.result - c.args.at - 2) / 10 < 2 ^ 16 =
    omega (arith, c.put_bins-end.ensures.next_is, bins_bytes c.args.key counts, bins_few c.args.key counts, c.requires.few) in
    record { fits = few }

pub returns-clause-puts : goal.returns-clause-puts
returns-clause-puts c =
    let bins = bins_of c.args.key c.args.counts.now in
    let all = c.put_bins-end.ensures in
    let long = bins_bytes c.args.key c.args.counts.now in
    let e : (c.put_bins-end.result - c.args.at - 2) / 10 ≡ length bins = omega (arith, all.next_is, long) in
    let mid = c.put_bins-end.new.buf in
    number_before 2 (to_be_bytes w16 (length bins)) (flat_map bin bins) c.args.buf.now mid c.set_u16.new.buf c.args.at
    c.put_bins-end.result refl all
    (omega (arith, all.next_is, long, c.requires.room, c.put_bins-end.auto.buf))
    (omega (arith, c.put_bins-end.auto.buf))
    (c.set_u16.ensures ∙ ap (λ n. take c.args.at mid ++ to_be_bytes w16 n ++ drop (c.args.at + 2) mid) e)

pub returns-clause-next : goal.returns-clause-next
returns-clause-next c = omega (arith, c.put_bins-end.ensures.next_is, bins_bytes c.args.key c.args.counts.now)
