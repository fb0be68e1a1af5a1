use Rattle.std.proofs.Common.{rules, sym, ◌∙◌}
use denote.Enum.Bare.{same_true}
use Rattle.tpw_occam_lexing.specs.contracts.keywords.Keyword.{the_type}
use Rattle.tpw_occam_reading.proofs.marks.is_same_keyword.Goals as goal

pub returns : goal.returns
returns c is = same_true the_type (search rules) _ _ (sym c.eq.ensures ∙ is)
