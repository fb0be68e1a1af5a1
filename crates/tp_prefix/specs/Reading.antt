-- What reading finds at the front of bytes.
use Rattle.std.specs.Prelude.{◌≡◌, ℕ, ◌+◌, ◌-◌, ◌≤◌, List, length, take, Result, Ok, Err}
use Rattle.tp_prefix.specs.declared.spelled.Spelled.{Spelled}
use Rattle.tp_prefix.specs.declared.spelled.PrefixFault.{PrefixFault}
use Rattle.tp_prefix.specs.declared.spelled.PrefixFault.TheVariants.{D1, D2}
use Rattle.tp_prefix.specs.Spelling.{IsSpelling, IsCutOff, IsTooLong}

-- the bytes from an address on begin with this spelling, or with none for this reason
abbrev pub Reads : List ℕ → ℕ → Result Spelled PrefixFault → Type 0
Reads bytes at (Ok s) =
    (at ≤ s.next) × (s.next ≤ at + length bytes) × IsSpelling (take (s.next - at) bytes) s.function s.operand
Reads bytes at (Err (D1 place)) = (place ≡ at) × IsCutOff bytes
Reads bytes at (Err (D2 place)) = (place ≡ at) × IsTooLong bytes
