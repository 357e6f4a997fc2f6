use Rattle.std.proofs.Common.{ap, sym, subst, rules, ◌∙◌, ◌≡◌, vec_len, take, ◌-◌}
use Rattle.segment.specs.Segment.{Stands}
use Rattle.segment.specs.Name.{name_of}
use Rattle.segment.proofs.Known.{stands_known}
use Rattle.board.specs.block_pool.Units.{FilledValue}
use Rattle.board.proofs.block_pool.receipt.Receipt.is_of.Goals as goal

pub returns : goal.returns
returns c =
    let unit = c.args.unit.now in
    let mine = c.self.inside in
    let seen = c.self.view_is in
    let segment : c.segment-segment.result.now ≡ unit.segment = c.segment-segment.ensures.segment in
    let block : unit.block ≡ vec_len mine.buffer = search rules in
    let grid : unit.grid ≡ mine.grid = sym c.segment-segment.ensures.grid ∙ sym c.grid.ensures.value ∙ search (rules, c.if-ne.ensures) in
    let name : name_of unit.segment ≡ mine.name = ap name_of (sym segment) ∙ search rules in
    let gain : unit.gain ≡ mine.gain = search rules in
    let kept = ap (λ (f : FilledValue). f.samples) seen in
    let stands : Stands unit.segment unit.gain unit.samples = stands_known unit.segment unit.gain unit.samples
    (subst (λ s. ∥ Stands s unit.gain unit.samples ∥₁) segment c.segment-segment.ensures.stands) in
    let same_gain = gain ∙ ap (λ (f : FilledValue). f.gain) seen in (
      λ yes.
          let front : unit.samples ≡ take (mine.name.to - mine.name.from) mine.buffer.items = sym c.samples.ensures ∙ (c.are_samples.ensures.0 yes ∙ search rules) in
          let samples = front ∙ kept in
          record {
            block = block ∙ ap (λ (f : FilledValue). f.block) seen;
            grid = grid ∙ ap (λ (f : FilledValue). f.grid) seen;
            name = name ∙ ap (λ (f : FilledValue). f.name) seen;
            samples = samples;
            gain = same_gain;
            stands = subst (Stands unit.segment c.args.self.now.gain) samples
                (subst (λ g. Stands unit.segment g unit.samples) same_gain stands);
          },
      λ count.
          let front : unit.samples ≡ take (mine.name.to - mine.name.from) mine.buffer.items = count.samples ∙ sym kept in
          c.are_samples.ensures.1 (c.samples.ensures ∙ front ∙ search rules),
    )
