-- Where the rules do not keep the order.
use Rattle.std.specs.Prelude.{◌≡◌, IfOk, Ok}
use Rattle.tp_decode.specs.declared.instr.Instr.{Instr}
use Rattle.tp_state.specs.declared.state.State.{State}
use Rattle.tp_state.specs.Order.{IsBelow}
use Rattle.test_rules.specs.Samples.{next_of}

-- a state is below another, and nothing is refused after the other; but something is refused after the first, or what
-- is known after it is not below
pub record BreaksTheOrder (instr : Instr) (s t : State) : Type 0 where
  pub below : IsBelow s t
  pub outcome : State
  pub goes_on : next_of instr t ≡ Ok outcome
  pub breaks : IfOk (next_of instr s) (λ u. ¬ IsBelow u outcome)
