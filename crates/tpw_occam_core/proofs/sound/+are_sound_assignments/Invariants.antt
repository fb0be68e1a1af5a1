use Rattle.std.proofs.Common.{length}
use Rattle.tpw_occam_core.proofs.sound.+are_sound_assignments.Given as goal

abbrev pub decreases-are_sound_assignments : goal.decreases-are_sound_assignments
decreases-are_sound_assignments l = length l.list.now
