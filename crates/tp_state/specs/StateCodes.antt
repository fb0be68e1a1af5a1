-- What is printed of a refusal, and when it is one.
use Rattle.std.specs.Prelude.{◌≡◌, ℕ, List, ◌++◌, codes, Result, Err}
use Rattle.std.specs.Fmt.{decimal}
use Rattle.tp_state.specs.declared.fault.StateCode.{StateCode}
use Rattle.tp_state.specs.declared.fault.StateCode.TheVariants.{S1, S2, S3, S4, S5, S6, S7, S8, S9, S10, S11}
use Rattle.tp_state.specs.declared.fault.StateFault.{StateFault}
use Rattle.tp_state.specs.declared.fault.StateFault.TheVariants.{Refused, Memory}

abbrev pub state_code_text : StateCode → List ℕ
state_code_text S1 = codes "S1"
state_code_text S2 = codes "S2"
state_code_text S3 = codes "S3"
state_code_text S4 = codes "S4"
state_code_text S5 = codes "S5"
state_code_text S6 = codes "S6"
state_code_text S7 = codes "S7"
state_code_text S8 = codes "S8"
state_code_text S9 = codes "S9"
state_code_text S10 = codes "S10"
state_code_text S11 = codes "S11"

abbrev pub state_fault_text : StateFault → List ℕ
state_fault_text (Refused code place) = state_code_text code ++ codes " at " ++ decimal place
state_fault_text Memory = codes "out of memory"

-- a fault at an address is the refusal there, or a want of memory
abbrev pub IsFaultAt : {A : Type 0} → ℕ → Result A StateCode → StateFault → Type 0
IsFaultAt at answer (Refused code place) = (answer ≡ Err code) × (place ≡ at)
IsFaultAt at answer Memory = Unit {0}
