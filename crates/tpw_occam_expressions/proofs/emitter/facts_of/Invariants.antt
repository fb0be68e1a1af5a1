use Rattle.std.proofs.Common.{◌≡◌, map, take}
use Rattle.tpw_occam_expressions.specs.Agreement.{fact_of_kind}
use Rattle.tpw_occam_expressions.proofs.emitter.facts_of.Given as goal

-- the facts so far
abbrev pub invariant-loop-kind : goal.invariant-loop-kind
invariant-loop-kind l = l.facts.items ≡ map fact_of_kind (take l.kind-index l.kinds)
