use Rattle.count_command.proofs.watching.rounds.watch_rounds.Given as goal

-- the live view that is watched
abbrev pub ghosts-rounds_watched : goal.ghosts-rounds_watched
ghosts-rounds_watched g a = record { book = a.watch.of }
