use Rattle.board.proofs.on_deposits.Going.{stepped}
use Rattle.board.proofs.deposits.depositing.deposit_one.Goals as goal

pub returns-then-fits : goal.returns-then-fits
returns-then-fits c = stepped _ _ _ _ c.args.unit c.segment.result.now c.deposit.result c.segment.ensures.segment c.deposit.ensures.answer
    c.deposit.ensures.same c.deposit.ensures.carries c.give.ensures
