-- The names of instructions, as a text has them: in capitals or not.
use Rattle.std.specs.Prelude.{ℕ, pos, Bool, List, Option}
use Rattle.std.specs.List.{find}
use Rattle.std.specs.Option.{option_map}
use Rattle.std.specs.Str.{str_eq_ignore_ascii_case}
use Rattle.tp_decode.specs.declared.instr.Instr.{Instr}
use Rattle.tp_decode.specs.Table.{entry, functions, operations}

-- a word is the name of an instruction
abbrev pub names : List ℕ → Instr → Bool
names word i = str_eq_ignore_ascii_case word (entry i).name

-- the instruction with an operand of its own that has this name, at the operand 0
unfoldable pub function_by_name : List ℕ → Option Instr
function_by_name word = find (names word) (functions (pos 0))

-- the code of its function
unfoldable pub function_named : List ℕ → Option ℕ
function_named word = option_map (λ i. (entry i).function) (function_by_name word)

-- the operation of this name
unfoldable pub operation_named : List ℕ → Option Instr
operation_named word = find (names word) operations
