use Rattle.tpw_why.proofs.states.write_state.Goals as goal

pub write_arrivals-requires-clause-placed : goal.write_arrivals-requires-clause-placed
write_arrivals-requires-clause-placed g c = rw c.deref-3.ensures.value c.requires.placed
