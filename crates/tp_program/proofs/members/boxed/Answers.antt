use Rattle.tp_program.proofs.Fitting.{all_fit}
use Rattle.tp_program.proofs.members.boxed.Goals as goal

pub returns-clause-fit : goal.returns-clause-fit
returns-clause-fit c = all_fit c.args.media.now c.in_ok-links.links.items c.in_ok-links.ensures.wires c.requires
