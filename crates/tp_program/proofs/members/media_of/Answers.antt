use Rattle.tp_program.proofs.Fitting.{all_have_room}
use Rattle.tp_program.proofs.members.media_of.Goals as goal

pub returns-clause-room : goal.returns-clause-room
returns-clause-room c = all_have_room c.in_ok-media.media.items c.in_ok-media.ensures.empty
