use Rattle.board.proofs.on_arrivals.Reached.{are_arrivals}
use Rattle.board.proofs.on_arrivals.Reaching.{reached}
use Rattle.board.proofs.on_arrivals.Ascending.{ascends}
use Rattle.board.proofs.arrivals.laws.placed.Goals as goal

pub returns-clause-reached : goal.returns-clause-reached
returns-clause-reached c = reached

pub returns-clause-reaches : goal.returns-clause-reaches
returns-clause-reaches c = are_arrivals

pub returns-clause-ascend : goal.returns-clause-ascend
returns-clause-ascend c = ascends
