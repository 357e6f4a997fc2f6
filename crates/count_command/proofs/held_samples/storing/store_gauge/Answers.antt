use Rattle.std.proofs.Common.{◌<◌, ap, arith}
use Rattle.std.proofs.lemmas.Bool.Decides.{nat_tests}
use Rattle.segment.specs.declared.segment_rules.name.Name.{Name}
use Rattle.count_command.proofs.on_held_samples.Going.{going_starts}
use Rattle.count_command.proofs.on_held_samples.Pace.{paced_starts}
use Rattle.count_command.proofs.held_samples.storing.store_gauge.Goals as goal

pub returns-then-span-clause-going : goal.returns-then-span-clause-going
returns-then-span-clause-going g c = λ tells r named known is kept stored follows.
    going_starts r _ _ _ _ _ _ stored (g.met.K.Station.only_now tells c.args.station.now)

pub returns-clause-going : goal.returns-clause-going
returns-clause-going g c = λ tells r named known is kept stored follows.
    let front = c.args.front.now in
    let some : front.from < front.to = grind (
      arith,
      nat_tests,
      c.requires.ascends,
      c.if-span.false,
      ap (λ (x : Name). x.from) c.name-span.ensures.value,
      ap (λ (x : Name). x.to) c.name-span.ensures.value,
    ) in
    c.store_front.ensures.going tells r named known is kept stored (follows some)

pub returns-then-span-clause-paced : goal.returns-then-span-clause-paced
returns-then-span-clause-paced g c = λ tells names is window short bodies on.
    paced_starts names window _ bodies _ _ _ _ _ _ on (g.met.K.Station.only_now tells c.args.station.now)
