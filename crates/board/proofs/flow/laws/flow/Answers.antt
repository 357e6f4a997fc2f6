use Rattle.board.proofs.on_flow.Keeping.{each_event, each_schedule, never_falls, through}
use Rattle.board.proofs.flow.laws.flow.Goals as goal

pub returns-clause-event : goal.returns-clause-event
returns-clause-event c = each_event

pub returns-clause-schedule : goal.returns-clause-schedule
returns-clause-schedule c = each_schedule

pub returns-clause-stored : goal.returns-clause-stored
returns-clause-stored c = never_falls

pub returns-clause-through : goal.returns-clause-through
returns-clause-through c = through
