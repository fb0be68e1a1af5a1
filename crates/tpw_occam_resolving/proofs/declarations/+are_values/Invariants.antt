use Rattle.std.proofs.Common.{length}
use Rattle.tpw_occam_resolving.proofs.declarations.+are_values.Given as goal

abbrev pub decreases-are_values : goal.decreases-are_values
decreases-are_values l = length l.forms.now
