use Rattle.tp_requests.proofs.LineLemmas.{is_line, has_line}
use Rattle.tp_requests.proofs.laws.what_may_be_asked_has_a_line.Goals as goal

pub returns-clause-some : goal.returns-clause-some
returns-clause-some c = is_line

pub returns-clause-only : goal.returns-clause-only
returns-clause-only c = has_line
