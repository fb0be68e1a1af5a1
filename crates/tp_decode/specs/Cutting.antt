-- Cuttings: a code as the instructions that are spelled in it, one after another.
use Rattle.std.specs.Prelude.{◌≡◌, ◌≢◌, ℕ, ◌+◌, ◌-◌, ◌==◌, Bool, true, false, nat_lt, if◌then◌else◌, ℤ, List, [], ◌∷◌}
use Rattle.std.specs.Prelude.{◌++◌, length, Option, Some, None, Result, Ok, Err}
use Rattle.std.specs.List.{flat_map, AllByRecursion}
use Rattle.std.specs.Option.{option_and_then}
use Rattle.tp_prefix.specs.Spelling.{is_prefix, spelled, IsSpelling, IsCutOff, IsTooLong}
use Rattle.tp_decode.specs.declared.instr.Instr.{Instr}
use Rattle.tp_decode.specs.declared.placed.Placed.{Placed}
use Rattle.tp_decode.specs.declared.fault.DecodeFault.{DecodeFault}
use Rattle.tp_decode.specs.declared.fault.DecodeCode.TheVariants.{D1, D2, D3}
use Rattle.tp_decode.specs.declared.fault.DecodeFault.TheVariants.{Refused, Memory}
use Rattle.tp_decode.specs.Table.{entry, instruction}

-- an instruction in a code: the bytes that spell it
pub record Cut : Type 0 where
  pub bytes : List ℕ
  pub instr : Instr

-- the bytes are a spelling of the instruction, canonical or longer
abbrev pub IsSpelled : Cut → Type 0
IsSpelled cut = IsSpelling cut.bytes (entry cut.instr).function (entry cut.instr).operand

-- the bytes of a list of instructions
abbrev pub code_of : List Cut → List ℕ
code_of cuts = flat_map (λ cut. cut.bytes) cuts

-- spellings of instructions that joined are the code
pub record IsCutting (code : List ℕ) (cuts : List Cut) : Type 0 where
  pub joined : code_of cuts ≡ code
  pub each : AllByRecursion IsSpelled cuts

-- a code that begins with a spelling of no instruction
pub record IsUnknown (code : List ℕ) : Type 0 where
  pub bytes : List ℕ
  pub after : List ℕ
  pub function : ℕ
  pub operand : ℤ
  pub front : code ≡ bytes ++ after
  pub spelling : IsSpelling bytes function operand
  pub unknown : (i : Instr) → (entry i).function ≡ function → (entry i).operand ≢ operand

-- instructions, and behind them an address at which none can be cut
pub record BreaksAt (code : List ℕ) (at : ℕ) (Breaks : List ℕ → Type 0) : Type 0 where
  pub cuts : List Cut
  pub rest : List ℕ
  pub joined : code ≡ code_of cuts ++ rest
  pub each : AllByRecursion IsSpelled cuts
  pub place : at ≡ length (code_of cuts)
  pub breaks : Breaks rest

-- why a code has no cutting: at an address no instruction can be cut, though all before it are
abbrev pub IsRefused : List ℕ → DecodeFault → Type 0
IsRefused code (Refused D1 at) = BreaksAt code at IsCutOff
IsRefused code (Refused D2 at) = BreaksAt code at IsTooLong
IsRefused code (Refused D3 at) = BreaksAt code at IsUnknown
IsRefused code Memory = ⊥

-- The same as a function of the code. The instruction that bytes spell:
unfoldable pub spelled_instruction : List ℕ → Option Instr
spelled_instruction bytes = option_and_then (λ s. instruction s.0 s.1) (spelled 0 bytes)

-- an instruction, if there is one, before those that are cut behind it
abbrev pub before : ℕ → List ℕ → Option Instr → Result (List Cut) DecodeFault → Result (List Cut) DecodeFault
before at bytes None rest = Err (Refused D3 at)
before at bytes (Some instr) (Ok cuts) = Ok (record { bytes = bytes; instr = instr } ∷ cuts)
before at bytes (Some instr) (Err e) = Err e

-- the one of two values that a test picks; the other is not worked out
abbrev pub picked : {A : Type 0} → Bool → (Unit {0} → A) → (Unit {0} → A) → A
picked true one other = one tt
picked false one other = other tt

-- the cutting of a code behind some prefixes, whose first byte is at an address
unfoldable pub cutting_from : ℕ → List ℕ → List ℕ → Result (List Cut) DecodeFault
cutting_from at [] [] = Ok []
cutting_from at [] (p ∷ prefixes) = Err (Refused D1 at)
cutting_from at (b ∷ code) prefixes =
    let bytes = prefixes ++ b ∷ [] in
    picked (is_prefix b)
    (λ _. picked (nat_lt (length bytes) 8) (λ _. cutting_from at code bytes) (λ _. Err (Refused D2 at)))
    (λ _. before at bytes (spelled_instruction bytes) (cutting_from (at + length bytes) code []))

-- the one cutting of a code, or why there is none
abbrev pub cutting : List ℕ → Result (List Cut) DecodeFault
cutting code = cutting_from 0 code []

-- the instructions with their places, the first of them at an address
abbrev pub placed_from : ℕ → List Cut → List Placed
placed_from at [] = []
placed_from at (cut ∷ cuts) =
    record { at = at; instr = cut.instr; next = at + length cut.bytes } ∷ placed_from (at + length cut.bytes) cuts

-- the addresses of instructions, the first of them at an address
abbrev pub starts_from : ℕ → List Cut → List ℕ
starts_from at [] = []
starts_from at (cut ∷ cuts) = at ∷ starts_from (at + length cut.bytes) cuts

-- the instruction at an address
abbrev pub cut_at : List Cut → ℕ → Option Cut
cut_at [] at = None
cut_at (cut ∷ cuts) at =
    if at == 0 then Some cut
    else if nat_lt at (length cut.bytes) then None
    else cut_at cuts (at - length cut.bytes)

-- the number of the instruction at an address, where the first has a number
abbrev pub index_from : ℕ → List Cut → ℕ → Option ℕ
index_from i [] at = None
index_from i (cut ∷ cuts) at =
    if at == 0 then Some i
    else if nat_lt at (length cut.bytes) then None
    else index_from (i + 1) cuts (at - length cut.bytes)
