use Rattle.tp_stream.proofs.tally.report_lost.Given as goal

abbrev pub ghosts-add_lost : goal.ghosts-add_lost
ghosts-add_lost a = record { number = a.number }
