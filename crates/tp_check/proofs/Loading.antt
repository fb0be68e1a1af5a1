-- What the instructions of a code load are words.
use Rattle.std.proofs.Common.{◌≡◌, false, ℤ, FitsSigned, w32, List, refl, sym, subst, arith}
use Rattle.std.specs.List.{AllByRecursion}
use Rattle.std.proofs.lemmas.Int.{ints}
use Rattle.std.proofs.lemmas.Bool.Decides.{nat_tests}
use Rattle.tp_decode.specs.declared.placed.Placed.{Placed}
use Rattle.tp_decode.specs.Cutting.{Cut, IsSpelled, code_of}
use Rattle.tp_words.specs.Numbers.{overflows}
use Rattle.tp_state.specs.Sound.{LoadsWord}
use Rattle.tp_state.proofs.CodeLemmas.{spelling_of, operand_fits}
use Rattle.tp_check.proofs.Places.{IsInItsPlace}

no_overflow : (z : ℤ) → overflows z ≡ false → FitsSigned w32 z
no_overflow z e = grind (arith, ints, nat_tests)

pub loads_word : (cuts : List Cut) → AllByRecursion IsSpelled cuts → (p : Placed) → IsInItsPlace cuts p → LoadsWord p.instr
loads_word cuts spelled p stands =
    subst (λ (q : Placed). LoadsWord q.instr) (sym stands.is)
    (no_overflow _ (operand_fits stands.cut (spelling_of (code_of cuts) cuts p.at stands.cut (record { joined = refl; each = spelled }) stands.there)))
