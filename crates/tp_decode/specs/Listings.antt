-- What a listing keeps of each instruction.
use Rattle.std.specs.Prelude.{◌≡◌, ℕ, ◌+◌, ◌-◌, List, [], ◌∷◌, ◌++◌, map, replicate, length, nat_lt, IsTrue, Option}
use Rattle.std.specs.Prelude.{Some, None, Result, Ok, Err}
use Rattle.std.specs.List.{list_all, AllByRecursion}
use Rattle.tp_decode.specs.declared.piece.Piece.{Piece}
use Rattle.tp_decode.specs.declared.fault.DecodeFault.{DecodeFault}
use Rattle.tp_decode.specs.declared.fault.DecodeFault.TheVariants.{Memory}
use Rattle.tp_decode.specs.Cutting.{Cut, IsSpelled, starts_from}

abbrev pub cut_of : Piece → Cut
cut_of piece = record { bytes = piece.spelling.items; instr = piece.instr }

abbrev pub cuts_of : List Piece → List Cut
cuts_of pieces = map cut_of pieces

-- for each byte of an instruction, the instruction's number at the first, and none at the others
abbrev pub numbered : ℕ → Cut → List (Option ℕ)
numbered i cut = Some i ∷ replicate (length cut.bytes - 1) None

-- for each byte of a code, the number of the instruction that starts there, if one does
abbrev pub numbers_from : ℕ → List Cut → List (Option ℕ)
numbers_from i [] = []
numbers_from i (cut ∷ cuts) = numbered i cut ++ numbers_from (i + 1) cuts

-- the starts and the numbers are those of the pieces, each of which is spelled, and none of which is empty
pub record IsListing (starts : List ℕ) (numbers : List (Option ℕ)) (pieces : List Piece) : Type 0 where
  pub rising : starts ≡ starts_from 0 (cuts_of pieces)
  pub counted : numbers ≡ numbers_from 0 (cuts_of pieces)
  pub some : IsTrue (list_all (λ cut. nat_lt 0 (length cut.bytes)) (cuts_of pieces))
  pub each : AllByRecursion IsSpelled (cuts_of pieces)

-- what was decoded is what the definition says, unless memory ran out
abbrev pub Gives : Result (List Cut) DecodeFault → Result (List Cut) DecodeFault → Type 0
Gives (Ok cuts) said = said ≡ Ok cuts
Gives (Err Memory) said = Unit {0}
Gives (Err e) said = said ≡ Err e
