use Rattle.tally.proofs.Enough.{push_has_room, merge_has_room, join_has_room}
use Rattle.tally.proofs.laws.room.Goals as goal

pub returns-clause-push : goal.returns-clause-push
returns-clause-push c = push_has_room

pub returns-clause-merge : goal.returns-clause-merge
returns-clause-merge c = merge_has_room

pub returns-clause-join : goal.returns-clause-join
returns-clause-join c = join_has_room
