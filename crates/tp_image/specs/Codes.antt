-- What is printed of a refusal.
use Rattle.std.specs.Prelude.{ℕ, List, ◌++◌, codes}
use Rattle.std.specs.Fmt.{decimal}
use Rattle.tp_image.specs.declared.fault.ImageCode.{ImageCode}
use Rattle.tp_image.specs.declared.fault.ImageCode.TheVariants.{F1, F2, F3, F4, F5, F6, F7, F8, F9, F10}
use Rattle.tp_image.specs.declared.fault.ImageFault.{ImageFault}
use Rattle.tp_image.specs.declared.fault.ImageFault.TheVariants.{Refused, Memory}

abbrev pub code_text : ImageCode → List ℕ
code_text F1 = codes "F1"
code_text F2 = codes "F2"
code_text F3 = codes "F3"
code_text F4 = codes "F4"
code_text F5 = codes "F5"
code_text F6 = codes "F6"
code_text F7 = codes "F7"
code_text F8 = codes "F8"
code_text F9 = codes "F9"
code_text F10 = codes "F10"

abbrev pub fault_text : ImageFault → List ℕ
fault_text (Refused code place) = code_text code ++ codes " at byte " ++ decimal place
fault_text Memory = codes "out of memory"
