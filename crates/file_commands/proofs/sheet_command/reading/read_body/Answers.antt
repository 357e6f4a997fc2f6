use Rattle.std.proofs.Common.{◌≡◌, ℤ, List, ◌++◌, length, take, length-take, length-append, append_assoc, sym, ◌∙◌, ap, subst, arith}
use Rattle.recording.specs.Samples.{samples}
use Rattle.recording.specs.Filling.{Takes}
use Rattle.recording.specs.declared.ends.FillEnd.{FillEnd}
use Rattle.recording.proofs.Reading.{Splits, splits_more}
use Rattle.file_commands.proofs.sheet_command.reading.read_body.Goals as goal

pub loop-preserved : goal.loop-preserved
loop-preserved g c =
    let was = c.loop.invariant in
    let fill = c.fill-filled.ensures in
    let n = c.fill-filled.result.n in
    let buf = c.fill-filled.new.buf in
    let old = c.loop.samples.items in
    let body = g.S.Source.left c.args.src.now in
    let before = g.S.Source.left c.loop.src in
    let after = g.S.Source.left c.fill-filled.new.src in
    let items : c.extend_from_slice.new.self.items ≡ old ++ take n buf = c.in_ok-extend_from_slice.ensures.items in
    record {
      read = λ tells.
          let taken = subst (λ (e : FillEnd). Takes (length c.loop.piece) before n e after) c.in-More.is (fill.taken tells) in
          let piece = splits_more (length c.loop.piece) n buf before after (fill.samples tells) taken in
          let split = was.read tells in
          subst (λ (w : List ℤ). Splits body w after) (sym items)
          (split.0 ∙ (ap (λ (l : List ℤ). old ++ l) piece.0 ∙ sym (append_assoc old (take n buf) (samples after))), piece.1 ∙ split.1);
      turns = omega (
        arith,
        was.turns,
        ap length items,
        length-append old (take n buf),
        length-take n buf,
        fill.full.0 c.in-More.is,
        fill.length,
        was.piece,
      );
      few = omega (arith, c.len.ensures, c.if-len-gt-MAX_SAMPLES.false);
      steady = fill.steady (λ e. absurd cc) ∙ was.steady;
      piece = fill.length ∙ was.piece;
    }
