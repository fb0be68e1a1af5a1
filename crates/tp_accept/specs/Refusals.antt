-- The refusals of an image, and what is printed of them.
use Rattle.std.specs.Prelude.{ℕ, List, ◌++◌, codes, Option, Some, None}
use Rattle.std.specs.Fmt.{decimal}
use Rattle.tp_image.specs.declared.fault.ImageFault.{ImageFault}
use Rattle.tp_image.specs.declared.fault.ImageFault.TheVariants as image_fault
use Rattle.tp_image.specs.Codes.{code_text}
use Rattle.tp_decode.specs.declared.fault.DecodeFault.{DecodeFault}
use Rattle.tp_decode.specs.declared.fault.DecodeFault.TheVariants as decode_fault
use Rattle.tp_decode.specs.Codes.{decode_code_text}
use Rattle.tp_flow.specs.declared.fault.FlowFault.{FlowFault}
use Rattle.tp_flow.specs.FlowCodes.{flow_code_text}
use Rattle.tp_state.specs.declared.fault.StateFault.{StateFault}
use Rattle.tp_state.specs.declared.fault.StateFault.TheVariants as state_fault
use Rattle.tp_state.specs.StateCodes.{state_code_text}
use Rattle.tp_accept.specs.declared.refusal.RefusalCode.{RefusalCode}
use Rattle.tp_accept.specs.declared.refusal.RefusalCode.TheVariants.{Image, Cutting, Flow, State, B1}
use Rattle.tp_accept.specs.declared.refusal.Refusal.{Refusal}
use Rattle.tp_accept.specs.declared.refusal.Refusal.TheVariants.{Refused, Memory}

-- ---- what each judgement refuses

abbrev pub of_image : ImageFault → Refusal
of_image (image_fault.Refused code place) = Refused (Image code) place
of_image image_fault.Memory = Memory

abbrev pub of_cutting : DecodeFault → Refusal
of_cutting (decode_fault.Refused code place) = Refused (Cutting code) place
of_cutting decode_fault.Memory = Memory

abbrev pub of_flow : FlowFault → Refusal
of_flow fault = Refused (Flow fault.code) fault.place

abbrev pub of_state : StateFault → Refusal
of_state (state_fault.Refused code place) = Refused (State code) place
of_state state_fault.Memory = Memory

-- the bound is above the limit
abbrev pub too_long : Refusal
too_long = Refused B1 0

-- ---- its parts

abbrev pub code_of : Refusal → Option RefusalCode
code_of (Refused code place) = Some code
code_of Memory = None

abbrev pub place_of : Refusal → ℕ
place_of (Refused code place) = place
place_of Memory = 0

-- ---- what is printed

abbrev pub refusal_code_text : RefusalCode → List ℕ
refusal_code_text (Image code) = code_text code
refusal_code_text (Cutting code) = decode_code_text code
refusal_code_text (Flow code) = flow_code_text code
refusal_code_text (State code) = state_code_text code
refusal_code_text B1 = codes "B1"

abbrev pub refusal_text : Refusal → List ℕ
refusal_text (Refused code place) = refusal_code_text code ++ codes " " ++ decimal place
refusal_text Memory = codes "out of memory"
