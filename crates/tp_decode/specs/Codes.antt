-- What is printed of a refusal.
use Rattle.std.specs.Prelude.{ℕ, List, ◌++◌, codes}
use Rattle.std.specs.Fmt.{decimal}
use Rattle.tp_decode.specs.declared.fault.DecodeCode.{DecodeCode}
use Rattle.tp_decode.specs.declared.fault.DecodeCode.TheVariants.{D1, D2, D3}
use Rattle.tp_decode.specs.declared.fault.DecodeFault.{DecodeFault}
use Rattle.tp_decode.specs.declared.fault.DecodeFault.TheVariants.{Refused, Memory}

abbrev pub decode_code_text : DecodeCode → List ℕ
decode_code_text D1 = codes "D1"
decode_code_text D2 = codes "D2"
decode_code_text D3 = codes "D3"

abbrev pub decode_fault_text : DecodeFault → List ℕ
decode_fault_text (Refused code place) = decode_code_text code ++ codes " at byte " ++ decimal place
decode_fault_text Memory = codes "out of memory"
