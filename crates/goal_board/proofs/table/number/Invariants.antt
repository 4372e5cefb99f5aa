use Rattle.goal_board.proofs.table.number.Given as goal

abbrev pub ghosts-number_as : goal.ghosts-number_as
ghosts-number_as a = record { goal = a.goal; source = a.source }
