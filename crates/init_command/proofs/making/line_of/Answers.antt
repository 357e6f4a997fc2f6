use Rattle.init_command.proofs.Lines.{number_fits, end_fits}
use Rattle.init_command.proofs.making.line_of.Goals as goal

pub push_number-requires : goal.push_number-requires
push_number-requires c =
    number_fits c.args.gauges c.requires.few c.in_ok-line.line c.push.new.self c.push.new.self c.in_ok-line.ensures c.push.ensures

pub push-requires-2 : goal.push-requires-2
push-requires-2 c =
    end_fits c.args.gauges c.requires.few c.in_ok-line.line c.push.new.self c.push_number.new.self c.in_ok-line.ensures c.push.ensures
    c.push_number.ensures
