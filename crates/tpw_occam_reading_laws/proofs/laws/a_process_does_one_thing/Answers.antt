use Rattle.tpw_occam_reading_laws.proofs.OneMeaning.{one_thing}
use Rattle.tpw_occam_reading_laws.proofs.laws.a_process_does_one_thing.Goals as goal

pub returns : goal.returns
returns c = one_thing
