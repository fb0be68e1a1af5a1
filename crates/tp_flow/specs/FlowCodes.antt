-- What is printed of a refusal.
use Rattle.std.specs.Prelude.{ℕ, List, ◌++◌, codes}
use Rattle.std.specs.Fmt.{decimal}
use Rattle.tp_flow.specs.declared.fault.FlowCode.{FlowCode}
use Rattle.tp_flow.specs.declared.fault.FlowCode.TheVariants.{J1, J2, J3, J4, J5, J6, J7}
use Rattle.tp_flow.specs.declared.fault.FlowFault.{FlowFault}

abbrev pub flow_code_text : FlowCode → List ℕ
flow_code_text J1 = codes "J1"
flow_code_text J2 = codes "J2"
flow_code_text J3 = codes "J3"
flow_code_text J4 = codes "J4"
flow_code_text J5 = codes "J5"
flow_code_text J6 = codes "J6"
flow_code_text J7 = codes "J7"

abbrev pub flow_fault_text : FlowFault → List ℕ
flow_fault_text fault = flow_code_text fault.code ++ codes " at " ++ decimal fault.place
