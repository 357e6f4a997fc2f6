use Rattle.std.proofs.Common.{sym, ap, subst, ◌∙◌}
use Rattle.std.specs.Prelude.{map}
use Rattle.segment.specs.Parts.{parts_of}
use Rattle.store_bytes.specs.store_head.Head.{HeadValue, see_head}
use Rattle.segment_store.specs.Image.{Reads, nothing_held}
use Rattle.segment_store.specs.Visiting.{HasVisited}
use Rattle.segment_store.proofs.SameReading.{same_head, same_reading}
use Rattle.segment_store.proofs.visiting.each_body.Goals as goal

pub returns-in-Ok-clause-visited : goal.returns-in-Ok-clause-visited
returns-in-Ok-clause-visited g c =
    let x = c.in-Ok.found in
    let p = c.in-Ok.ensures.visited in (
      x.layout,
      p.0,
      x.ends.items,
      p.1,
      λ tells. subst (λ i. Reads (see_head x.layout x.head) (map parts_of p.0) x.ends.items i) (c.walk_store.ensures.quiet tells).seen_same
          (p.3 tells).0,
    )

pub returns-in-Ok-clause-reads : goal.returns-in-Ok-clause-reads
returns-in-Ok-clause-reads g c tells head bodies ends same reads =
    let x = c.in-Ok.found in
    let p = c.in-Ok.ensures.visited in
    let image = g.K.Station.seen c.args.station.now in
    let h = see_head x.layout x.head in
    let r = subst (λ i. Reads h (map parts_of p.0) x.ends.items i) (c.walk_store.ensures.quiet tells).seen_same (p.3 tells).0 in
    let eq = same_head head h bodies (map parts_of p.0) ends x.ends.items image (same ∙ sym c.in-Ok.ensures.setup) reads r in
    let both = same_reading head h bodies (map parts_of p.0) ends x.ends.items image eq reads r in (
      ap (λ (v : HeadValue). see_head v.layout x.head) eq ∙ sym eq,
      p.0,
      sym both.0,
      subst (λ e. HasVisited g.V.Visitor.step c.args.visitor.now c.walk_store.new.visitor c.args.setup.now (nothing_held c.args.setup.now)
          p.0 e) (sym both.1) p.1,
    )
