-- What a CASE does.
use Rattle.std.specs.Prelude.{ℕ}
use Rattle.tpw_occam_meaning.specs.declared.expression.Expression.{Expression}
use Rattle.tpw_occam_meaning.specs.declared.tree.Cases.{Cases}
use Rattle.tpw_occam_meaning.specs.Effects.{Effect, given}
use Rattle.tpw_occam_meaning.specs.Expressions.{value_of, type_of}
use Rattle.tpw_occam_meaning.specs.Maybe.{and_then, where_true}
use Rattle.tpw_occam_meaning.specs.Names.{Names}
use Rattle.tpw_occam_meaning.specs.Processes.{all_constants, are_distinct, selected, otherwise}

-- what is behind the constants that have a value, or behind ELSE, or as STOP
abbrev pub cased : Expression → Cases → Names → ℕ → Effect
cased e list names d =
    and_then (type_of e names) (λ of. and_then (all_constants list of names) (λ words.
    where_true (are_distinct words) (and_then (value_of e of names d) (λ v. given d v (λ word n.
    selected list of word (otherwise list names n) names n)))))
