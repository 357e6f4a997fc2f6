use Rattle.std.proofs.Common.{sym, subst, ◌∙◌}
use Rattle.segment_store.specs.Image.{Reads}
use Rattle.segment_store.specs.Keeping.{see_state}
use Rattle.segment_store.proofs.SameReading.{same_on}
use Rattle.segment_store.proofs.store.Store.resume.Goals as goal

pub returns-in-Ok-clause-reads : goal.returns-in-Ok-clause-reads
returns-in-Ok-clause-reads g c tells head bodies ends same reads =
    let k = g.K.Station in
    let s = see_state c.in-Ok.state in
    let on = c.in-Ok.ensures.on tells in
    let seen = (c.resume.ensures.quiet tells).seen_same in
    let both = same_on s head bodies on.0 ends (k.seen c.resume.new.station) (k.leaves c.resume.new.station) (same
    ∙ sym c.in-Ok.ensures.setup)
    (subst (λ i. Reads head bodies ends i) (sym seen) reads) on.1 in
    (both.0, both.1.0, both.1.1)
