use Rattle.tpw_why.proofs.states.write_arrival.Goals as goal

pub after-requires-clause-placed : goal.after-requires-clause-placed
after-requires-clause-placed g c = c.requires.placed c.args.place.at c.in-Some.state.now c.in-Some.ensures.some
