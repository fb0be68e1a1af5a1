use Rattle.tp_check.proofs.Respected.{stands_there}
use Rattle.tp_check.proofs.laws.exact.states_of_the_passes_are_sound.Goals as goal

pub returns : goal.returns
returns c = λ image cuts n table range spelled kept is. stands_there image cuts range spelled kept n table is
