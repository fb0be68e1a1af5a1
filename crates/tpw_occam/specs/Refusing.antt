-- What a compiled worker may be refused for.
use Rattle.std.specs.Prelude.{Ok, Err}
use Rattle.tp_accept.specs.Verdict.{Answer}
use Rattle.tp_accept.specs.declared.refusal.RefusalCode.TheVariants.{State, B1}
use Rattle.tp_accept.specs.declared.refusal.Refusal.TheVariants.{Refused, Memory}

-- it may be run, or it is refused for its states, for its budget, or for want of memory
abbrev pub IsOfStatesOrBudget : Answer → Type 0
IsOfStatesOrBudget (Ok allowed) = Unit {0}
IsOfStatesOrBudget (Err (Refused (State code) place)) = Unit {0}
IsOfStatesOrBudget (Err (Refused B1 place)) = Unit {0}
IsOfStatesOrBudget (Err Memory) = Unit {0}
IsOfStatesOrBudget answer = ⊥
