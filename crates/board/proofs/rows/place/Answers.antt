use Rattle.std.proofs.Common.{arith, ap, sym, ◌∙◌, ◌≡◌, ◌<◌, ◌≤◌, ◌+◌, ℕ, refl, length, get_or}
use Rattle.std.proofs.lemmas.List.{get_or_default}
use Rattle.segment.specs.declared.segment_rules.name.Name.{Name}
use Rattle.segment.specs.Segment.{SegmentValue}
use Rattle.segment.specs.Name.{name_of}
use Rattle.board.proofs.Placing.{put_loose, extend_loose, extend_less, placed_put, placed_extend, alike, window_room, extended_at, slot_at, none_before, some_before, to_there, begins_before, strictly}
use Rattle.board.proofs.rows.place.Goals as goal

pub close-requires-clause-longest : goal.close-requires-clause-longest
close-requires-clause-longest c =
    let loose = put_loose c.args.start c.args.block c.args.k c.args.slots.now c.put.new.slots c.args.segment.now c.requires.row
    c.requires.fits
    (none_before c.args.k _ c.args.slots.now c.in_default.ensures) c.put.ensures in
    λ d m some. window_room c.args.start c.args.block _ _ c.args.k (c.args.k + 1) c.args.k
    (c.args.k + 1) _ c.put.new.slots d loose c.put.ensures.set c.requires.fits.place m
    (slot_at c.args.k c.args.slots.now c.put.new.slots c.args.segment.now d
    (omega (arith, c.requires.fits.place, c.requires.row.long)) c.requires.fits.some c.put.ensures) some

pub returns-in_default : goal.returns-in_default
returns-in_default c =
    placed_put c.args.start c.args.block c.args.k c.args.slots.now c.put.new.slots c.close.new.slots c.args.segment.now c.requires.row
    c.requires.fits (none_before c.args.k _ c.args.slots.now c.in_default.ensures) c.put.ensures c.close.ensures

pub returns-then-last-from : goal.returns-then-last-from
returns-then-last-from c =
    let slots = c.args.slots.now in
    let segment = c.args.segment.now in
    let upto : c.in-Some.j ≤ c.args.k = c.in-Some.ensures.0 in
    let inside : c.in-Some.j < length slots = omega (arith, upto, c.requires.fits.place, c.requires.row.long) in
    let e = c.index-slots-j.result in
    let to : c.name-last.result.to ≡ (get_or slots c.in-Some.j e).to = ap (λ (n : Name). n.to) c.name-last.ensures.value in
    let from : c.name-from.result.from ≡ segment.from = ap (λ (n : Name). n.from) c.name-from.ensures.value in
    record {
      same = refl;
      at = c.in-Some.j;
      within = omega (arith, upto, c.requires.fits.place);
      interval = λ d. c.name-last.ensures.value ∙ ap name_of (get_or_default slots c.in-Some.j e d inside);
      from = omega (
        arith,
        ap
            (λ (n : Name). n.from) c.name-last.ensures.value,
        begins_before c.args.start c.args.block c.in-Some.j c.args.k slots segment e c.requires.row c.requires.fits upto
            c.in-Some.ensures.1,
      );
      to = omega (arith, from, c.if-last-from.true);
    }

pub extend-requires-clause-grid : goal.extend-requires-clause-grid
extend-requires-clause-grid c = λ d. (c.requires.row.each c.in-Some.j d (omega (arith, c.in-Some.ensures.0, c.requires.fits.place))).grid

pub close-requires-then-last-from-2-clause-grid : goal.close-requires-then-last-from-2-clause-grid
close-requires-then-last-from-2-clause-grid c = λ d m.
    let slots = c.args.slots.now in
    let segment = c.args.segment.now in
    let upto : c.in-Some.j ≤ c.args.k = c.in-Some.ensures.0 in
    let inside : c.in-Some.j < length slots = omega (arith, upto, c.requires.fits.place, c.requires.row.long) in
    let e = c.index-slots-j.result in
    let to : c.name-last.result.to ≡ (get_or slots c.in-Some.j e).to = ap (λ (n : Name). n.to) c.name-last.ensures.value in
    let from : c.name-from.result.from ≡ segment.from = ap (λ (n : Name). n.from) c.name-from.ensures.value in
    let touch : (d : SegmentValue) → (get_or slots c.in-Some.j d).to ≡ segment.from = to_there slots c.in-Some.j e
    (λ (t : ℕ). t ≡ segment.from) inside (sym to ∙ c.if-last-from-2.true ∙ from) in
    let less : c.in-Some.j < c.args.k =
    extend_less c.args.start c.args.block c.in-Some.j c.args.k slots segment c.requires.row c.requires.fits upto
    c.in-Some.ensures.1 touch in
    let loose = extend_loose c.args.start c.args.block c.in-Some.j c.args.k slots c.extend.new.slots segment c.requires.row
    c.requires.fits less
    c.in-Some.ensures.1 c.in-Some.ensures.2 touch c.extend.ensures in
    (alike c.args.start c.args.block segment.gauge segment.grid c.in-Some.j (c.args.k + 1) c.in-Some.j
    (c.args.k + 1) _ c.extend.new.slots d loose c.extend.ensures.set (omega (arith, upto, c.requires.fits.place)) m).0

pub close-requires-then-last-from-2-clause-gauge : goal.close-requires-then-last-from-2-clause-gauge
close-requires-then-last-from-2-clause-gauge c = λ d m.
    let slots = c.args.slots.now in
    let segment = c.args.segment.now in
    let upto : c.in-Some.j ≤ c.args.k = c.in-Some.ensures.0 in
    let inside : c.in-Some.j < length slots = omega (arith, upto, c.requires.fits.place, c.requires.row.long) in
    let e = c.index-slots-j.result in
    let to : c.name-last.result.to ≡ (get_or slots c.in-Some.j e).to = ap (λ (n : Name). n.to) c.name-last.ensures.value in
    let from : c.name-from.result.from ≡ segment.from = ap (λ (n : Name). n.from) c.name-from.ensures.value in
    let touch : (d : SegmentValue) → (get_or slots c.in-Some.j d).to ≡ segment.from = to_there slots c.in-Some.j e
    (λ (t : ℕ). t ≡ segment.from) inside (sym to ∙ c.if-last-from-2.true ∙ from) in
    let less : c.in-Some.j < c.args.k =
    extend_less c.args.start c.args.block c.in-Some.j c.args.k slots segment c.requires.row c.requires.fits upto
    c.in-Some.ensures.1 touch in
    let loose = extend_loose c.args.start c.args.block c.in-Some.j c.args.k slots c.extend.new.slots segment c.requires.row
    c.requires.fits less
    c.in-Some.ensures.1 c.in-Some.ensures.2 touch c.extend.ensures in
    (alike c.args.start c.args.block segment.gauge segment.grid c.in-Some.j (c.args.k + 1) c.in-Some.j
    (c.args.k + 1) _ c.extend.new.slots d loose c.extend.ensures.set (omega (arith, upto, c.requires.fits.place)) m).1

pub close-requires-then-last-from-2-clause-longest : goal.close-requires-then-last-from-2-clause-longest
close-requires-then-last-from-2-clause-longest c = λ d m some.
    let slots = c.args.slots.now in
    let segment = c.args.segment.now in
    let upto : c.in-Some.j ≤ c.args.k = c.in-Some.ensures.0 in
    let inside : c.in-Some.j < length slots = omega (arith, upto, c.requires.fits.place, c.requires.row.long) in
    let e = c.index-slots-j.result in
    let to : c.name-last.result.to ≡ (get_or slots c.in-Some.j e).to = ap (λ (n : Name). n.to) c.name-last.ensures.value in
    let from : c.name-from.result.from ≡ segment.from = ap (λ (n : Name). n.from) c.name-from.ensures.value in
    let touch : (d : SegmentValue) → (get_or slots c.in-Some.j d).to ≡ segment.from = to_there slots c.in-Some.j e
    (λ (t : ℕ). t ≡ segment.from) inside (sym to ∙ c.if-last-from-2.true ∙ from) in
    let less : c.in-Some.j < c.args.k =
    extend_less c.args.start c.args.block c.in-Some.j c.args.k slots segment c.requires.row c.requires.fits upto
    c.in-Some.ensures.1 touch in
    let loose = extend_loose c.args.start c.args.block c.in-Some.j c.args.k slots c.extend.new.slots segment c.requires.row
    c.requires.fits less
    c.in-Some.ensures.1 c.in-Some.ensures.2 touch c.extend.ensures in
    window_room c.args.start c.args.block segment.gauge segment.grid c.in-Some.j (c.args.k + 1) c.in-Some.j
    (c.args.k + 1) _ c.extend.new.slots d loose c.extend.ensures.set (omega (arith, upto, c.requires.fits.place)) m
    (extended_at c.in-Some.j slots c.extend.new.slots segment d inside c.requires.fits.some c.in-Some.ensures.1 touch c.extend.ensures) some

pub close-requires-else-last-from-2-clause-grid : goal.close-requires-else-last-from-2-clause-grid
close-requires-else-last-from-2-clause-grid c = λ d m.
    let slots = c.args.slots.now in
    let segment = c.args.segment.now in
    let upto : c.in-Some.j ≤ c.args.k = c.in-Some.ensures.0 in
    let inside : c.in-Some.j < length slots = omega (arith, upto, c.requires.fits.place, c.requires.row.long) in
    let e = c.index-slots-j.result in
    let to : c.name-last.result.to ≡ (get_or slots c.in-Some.j e).to = ap (λ (n : Name). n.to) c.name-last.ensures.value in
    let from : c.name-from.result.from ≡ segment.from = ap (λ (n : Name). n.from) c.name-from.ensures.value in
    let before = some_before c.args.start c.args.block segment.gauge segment.grid c.in-Some.j c.args.k segment.from slots c.requires.row
    c.requires.fits.place upto c.in-Some.ensures.1 c.in-Some.ensures.2
    (strictly slots c.in-Some.j segment.from e e inside (omega (arith, to, from, c.if-last-from.false))
    (λ same. c.if-last-from-2.false (to ∙ same ∙ sym from))) in
    let loose = put_loose c.args.start c.args.block c.args.k slots c.put-else-last-from-2.new.slots segment c.requires.row c.requires.fits
    before c.put-else-last-from-2.ensures in
    (alike c.args.start c.args.block segment.gauge segment.grid c.args.k (c.args.k + 1) c.args.k
    (c.args.k + 1) _ c.put-else-last-from-2.new.slots d loose c.put-else-last-from-2.ensures.set c.requires.fits.place m).0

pub close-requires-else-last-from-2-clause-gauge : goal.close-requires-else-last-from-2-clause-gauge
close-requires-else-last-from-2-clause-gauge c = λ d m.
    let slots = c.args.slots.now in
    let segment = c.args.segment.now in
    let upto : c.in-Some.j ≤ c.args.k = c.in-Some.ensures.0 in
    let inside : c.in-Some.j < length slots = omega (arith, upto, c.requires.fits.place, c.requires.row.long) in
    let e = c.index-slots-j.result in
    let to : c.name-last.result.to ≡ (get_or slots c.in-Some.j e).to = ap (λ (n : Name). n.to) c.name-last.ensures.value in
    let from : c.name-from.result.from ≡ segment.from = ap (λ (n : Name). n.from) c.name-from.ensures.value in
    let before = some_before c.args.start c.args.block segment.gauge segment.grid c.in-Some.j c.args.k segment.from slots c.requires.row
    c.requires.fits.place upto c.in-Some.ensures.1 c.in-Some.ensures.2
    (strictly slots c.in-Some.j segment.from e e inside (omega (arith, to, from, c.if-last-from.false))
    (λ same. c.if-last-from-2.false (to ∙ same ∙ sym from))) in
    let loose = put_loose c.args.start c.args.block c.args.k slots c.put-else-last-from-2.new.slots segment c.requires.row c.requires.fits
    before c.put-else-last-from-2.ensures in
    (alike c.args.start c.args.block segment.gauge segment.grid c.args.k (c.args.k + 1) c.args.k
    (c.args.k + 1) _ c.put-else-last-from-2.new.slots d loose c.put-else-last-from-2.ensures.set c.requires.fits.place m).1

pub close-requires-else-last-from-2-clause-longest : goal.close-requires-else-last-from-2-clause-longest
close-requires-else-last-from-2-clause-longest c = λ d m some.
    let slots = c.args.slots.now in
    let segment = c.args.segment.now in
    let upto : c.in-Some.j ≤ c.args.k = c.in-Some.ensures.0 in
    let inside : c.in-Some.j < length slots = omega (arith, upto, c.requires.fits.place, c.requires.row.long) in
    let e = c.index-slots-j.result in
    let to : c.name-last.result.to ≡ (get_or slots c.in-Some.j e).to = ap (λ (n : Name). n.to) c.name-last.ensures.value in
    let from : c.name-from.result.from ≡ segment.from = ap (λ (n : Name). n.from) c.name-from.ensures.value in
    let before = some_before c.args.start c.args.block segment.gauge segment.grid c.in-Some.j c.args.k segment.from slots c.requires.row
    c.requires.fits.place upto c.in-Some.ensures.1 c.in-Some.ensures.2
    (strictly slots c.in-Some.j segment.from e e inside (omega (arith, to, from, c.if-last-from.false))
    (λ same. c.if-last-from-2.false (to ∙ same ∙ sym from))) in
    let loose = put_loose c.args.start c.args.block c.args.k slots c.put-else-last-from-2.new.slots segment c.requires.row c.requires.fits
    before c.put-else-last-from-2.ensures in
    window_room c.args.start c.args.block segment.gauge segment.grid c.args.k (c.args.k + 1) c.args.k
    (c.args.k + 1) _ c.put-else-last-from-2.new.slots d loose c.put-else-last-from-2.ensures.set c.requires.fits.place m
    (slot_at c.args.k slots c.put-else-last-from-2.new.slots segment d
    (omega (arith, c.requires.fits.place, c.requires.row.long)) c.requires.fits.some c.put-else-last-from-2.ensures) some

pub returns-then-last-from-2 : goal.returns-then-last-from-2
returns-then-last-from-2 c =
    let slots = c.args.slots.now in
    let segment = c.args.segment.now in
    let upto : c.in-Some.j ≤ c.args.k = c.in-Some.ensures.0 in
    let inside : c.in-Some.j < length slots = omega (arith, upto, c.requires.fits.place, c.requires.row.long) in
    let e = c.index-slots-j.result in
    let to : c.name-last.result.to ≡ (get_or slots c.in-Some.j e).to = ap (λ (n : Name). n.to) c.name-last.ensures.value in
    let from : c.name-from.result.from ≡ segment.from = ap (λ (n : Name). n.from) c.name-from.ensures.value in
    let touch : (d : SegmentValue) → (get_or slots c.in-Some.j d).to ≡ segment.from = to_there slots c.in-Some.j e
    (λ (t : ℕ). t ≡ segment.from) inside (sym to ∙ c.if-last-from-2.true ∙ from) in
    let less : c.in-Some.j < c.args.k =
    extend_less c.args.start c.args.block c.in-Some.j c.args.k slots segment c.requires.row c.requires.fits upto
    c.in-Some.ensures.1 touch in
    placed_extend c.args.start c.args.block c.in-Some.j c.args.k slots c.extend.new.slots c.close-then-last-from-2.new.slots segment
    c.requires.row c.requires.fits upto c.in-Some.ensures.1 c.in-Some.ensures.2 touch c.extend.ensures c.close-then-last-from-2.ensures

pub returns-else-last-from-2 : goal.returns-else-last-from-2
returns-else-last-from-2 c =
    let slots = c.args.slots.now in
    let segment = c.args.segment.now in
    let upto : c.in-Some.j ≤ c.args.k = c.in-Some.ensures.0 in
    let inside : c.in-Some.j < length slots = omega (arith, upto, c.requires.fits.place, c.requires.row.long) in
    let e = c.index-slots-j.result in
    let to : c.name-last.result.to ≡ (get_or slots c.in-Some.j e).to = ap (λ (n : Name). n.to) c.name-last.ensures.value in
    let from : c.name-from.result.from ≡ segment.from = ap (λ (n : Name). n.from) c.name-from.ensures.value in
    let before = some_before c.args.start c.args.block segment.gauge segment.grid c.in-Some.j c.args.k segment.from slots c.requires.row
    c.requires.fits.place upto c.in-Some.ensures.1 c.in-Some.ensures.2
    (strictly slots c.in-Some.j segment.from e e inside (omega (arith, to, from, c.if-last-from.false))
    (λ same. c.if-last-from-2.false (to ∙ same ∙ sym from))) in
    placed_put c.args.start c.args.block c.args.k slots c.put-else-last-from-2.new.slots c.close-else-last-from-2.new.slots segment
    c.requires.row c.requires.fits before c.put-else-last-from-2.ensures c.close-else-last-from-2.ensures
