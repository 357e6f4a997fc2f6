use Rattle.std.proofs.Common.{rules, ◌≡◌, length}
use Rattle.report_command.proofs.on_site_report.FewHalves.{halves_few}
use Rattle.report_command.proofs.site_report.damages.put_halves.Goals as goal

pub returns-clause-few : goal.returns-clause-few
returns-clause-few c =
    let places : length c.half_units.new.out ≡ c.args.segment.now.grid.classes = search rules in
    halves_few c.args.segment.now c.grid-grid.ensures.rules c.half_units.new.out places c.half_units.ensures.none c.half_units.ensures.each
