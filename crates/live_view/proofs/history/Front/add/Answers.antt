use Rattle.std.proofs.Common.{◌≡◌, sym, ◌∙◌, ap}
use Rattle.live_view.proofs.Adding.{adds_moves}
use Rattle.live_view.proofs.history.Front.add.Goals as goal

pub compare_exchange-found-requires : goal.compare_exchange-found-requires
compare_exchange-found-requires c =
    let offer = c.plain-offer.ensures in
    let pen = c.no_pen-pen.ensures in
    let same : c.self.inside.seen.book ≡ c.history.inside.head.book =
    ap (λ f. f.of) c.self.view_is ∙ (c.requires ∙ sym c.history.view_is) in (
      c.history.invariant.0,
      same,
      pen.0 ∙ same,
      offer.0,
      rw (c.history.invariant.1, pen.1, offer.1, offer.3)
          (adds_moves c.self.inside.seen.log c.args.show.now c.self.inside.count (sym c.self.invariant)),
    )
