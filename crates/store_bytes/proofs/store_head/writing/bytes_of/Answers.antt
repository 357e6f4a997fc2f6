use Rattle.std.proofs.Common.{◌<◌, [], length, ap, arith}
use Rattle.store_bytes.specs.store_head.Head.{front}
use Rattle.store_bytes.proofs.on_store_head.Gauges.{gauges_push, heads_push, gains_push}
use Rattle.store_bytes.proofs.store_head.writing.bytes_of.Goals as goal

pub loop-gauge-preserved : goal.loop-gauge-preserved
loop-gauge-preserved c =
    let i = c.loop-gauge.gauge in
    let heads = c.args.head.now.heads in
    let gains = c.args.head.now.setup.gains in
    let heads2 = c.as_slice-heads.ensures in
    let gains2 = c.as_slice-gains.ensures in
    let same = c.requires.heads in
    let x = c.index-gains-gauge.result in
    let is = c.index-gains-gauge.is in
    let lt : i < length heads = omega (arith, c.loop-gauge-test.true, ap length heads2) in
    let v = c.loop-gauge.invariant in
    let e = c.in_ok-add_gauge.ensures in
    record {
      recorded = heads_push heads _ gains _ i _ x lt same heads2 gains2 is v.recorded e.head;
      gains = gains_push heads _ gains _ i (record { id = []; period_us = 0 }) x lt same heads2 gains2 is v.gains e.gain;
      bytes = gauges_push heads _ gains _ i _ x lt same heads2 gains2 is (front c.args.layout c.args.head.now.setup) _ _ v.bytes e.items;
      len = omega (arith, e.len, v.len);
    }
