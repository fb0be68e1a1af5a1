use Rattle.tp_stream.proofs.queue.open_queue.Given as goal

abbrev pub ghosts-deal : goal.ghosts-deal
ghosts-deal a = record { packets = a.packets; members = a.members }
