use Rattle.std.proofs.Common.{◌≡◌, ◌≤◌, ◌*◌, ◌+◌, length, ap, ◌∙◌, arith, rules}
use Rattle.std.proofs.lemmas.Slice.{take-put_mid}
use Rattle.std.specs.Int.{to_le_bytes, cast_unsigned, w32}
use Rattle.recording.proofs.Made.{made_more, state_after-next}
use Rattle.recording.proofs.synth.make_samples.Goals as goal

pub loop-i-preserved : goal.loop-i-preserved
loop-i-preserved c =
    let i = c.loop-i.i in
    let x = c.loop-i.state in
    let y = c.next_state-state.result in
    let bs = c.write_i32.new.buf in
    let is : bs ≡ to_le_bytes w32 (cast_unsigned w32 c.made_sample.result) = search rules in
    let value = ap (λ z. to_le_bytes w32 (cast_unsigned w32 z)) c.made_sample.ensures in
    let four : length bs ≡ 4 = search rules in
    let room : 4 * i ≤ length c.loop-i.bytes = search rules in
    let cut = take-put_mid (4 * i) _ c.loop-i.bytes bs (4 * (i + 1)) (omega (arith, four)) room in
    record {
      made = made_more c.args.samples i x y _ _ bs _ (search rules) c.next_state-state.ensures cut (is ∙ value) c.loop-i.invariant.made;
      behind = state_after-next c.args.samples i x y _ (search rules) c.next_state-state.ensures c.loop-i.invariant.behind;
    }
