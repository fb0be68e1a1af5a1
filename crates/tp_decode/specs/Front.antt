-- What is at the front of a code.
use Rattle.std.specs.Prelude.{◌≡◌, ℕ, ◌≤◌, List, length, take}
use Rattle.tp_prefix.specs.Spelling.{IsCutOff, IsTooLong}
use Rattle.tp_decode.specs.declared.fault.DecodeFault.{DecodeFault}
use Rattle.tp_decode.specs.declared.fault.DecodeCode.TheVariants.{D1, D2, D3}
use Rattle.tp_decode.specs.declared.fault.DecodeFault.TheVariants.{Refused, Memory}
use Rattle.tp_decode.specs.Cutting.{Cut, IsSpelled, IsUnknown}

-- the code begins with this instruction
pub record BeginsWith (code : List ℕ) (cut : Cut) : Type 0 where
  pub within : length cut.bytes ≤ length code
  pub front : take (length cut.bytes) code ≡ cut.bytes
  pub spelled : IsSpelled cut

-- no instruction can be cut from the front of the code, which is at an address
abbrev pub Stops : List ℕ → ℕ → DecodeFault → Type 0
Stops code at (Refused D1 place) = (place ≡ at) × IsCutOff code
Stops code at (Refused D2 place) = (place ≡ at) × IsTooLong code
Stops code at (Refused D3 place) = (place ≡ at) × IsUnknown code
Stops code at Memory = ⊥
