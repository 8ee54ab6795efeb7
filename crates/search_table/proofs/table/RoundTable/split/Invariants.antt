use Rattle.search_table.proofs.table.RoundTable.split.Given as goal

abbrev pub ghosts-split_seat_for : goal.ghosts-split_seat_for
ghosts-split_seat_for a = record { worker = a.worker }
