-- The image of a program that is made of code is in range, and its code is cut into instructions: one for each line.
use Rattle.std.proofs.Common.{◌≡◌, ℕ, suc, ◌+◌, ◌<◌, length, List, [], ◌∷◌, ◌++◌, map, slice_get, Some, ap, sym, ◌∙◌, arith, refl}
use Rattle.std.specs.Prelude.{slice_index}
use Rattle.std.specs.List.{concat, flat_map, AllByRecursion}
use Rattle.tp_decode.specs.Lines.{shortest}
use Rattle.tp_decode.specs.Cutting.{Cut, IsSpelled, IsCutting}
use Rattle.tp_decode.proofs.DecodingLemmas.{spelled_some}
use Rattle.tp_image.specs.Image.{ImageValue}
use Rattle.tpw_asm.specs.declared.program.Program.{Program}
use Rattle.tpw_asm.specs.Layout.{addresses_from, spelled_at, spelled_from}
use Rattle.tpw_asm.specs.Assembly.{IsAssembly}
use Rattle.tpw_occam_symbolic.specs.declared.code.CodeLine.{CodeLine}
use Rattle.tpw_occam_symbolic.specs.MatchStates.{Site, address_of, operation_of, instr_of}
use Rattle.tpw_occam_symbolic.specs.Placing.{line_at, HasOperand}
use Rattle.tpw_occam_symbolic.proofs.SimulationCode.{shortest_spells, first_address, parts}
use Rattle.tpw_occam_symbolic.proofs.SimulationImage.{IsMadeOf, plain_spelling, operand_fits, line_there, code_joined, long}

abbrev pub cut_of : Site → ℕ → CodeLine → Cut
cut_of site place line = record { bytes = shortest (instr_of site place line.step); instr = instr_of site place line.step }

-- the instructions of lines, the first of which is at a place
abbrev pub cuts_from : Site → ℕ → List CodeLine → List Cut
cuts_from site place [] = []
cuts_from site place (line ∷ lines) = cut_of site place line ∷ cuts_from site (place + 1) lines

joined_from : (site : Site) (place : ℕ) (lines : List CodeLine)
    → flat_map (λ (cut : Cut). cut.bytes) (cuts_from site place lines) ≡ concat (spelled_from site.addresses place (map (line_at site) lines))
joined_from site place [] = refl
joined_from site place (line ∷ lines) =
    ap (λ bytes. bytes ++ flat_map (λ (cut : Cut). cut.bytes) (cuts_from site (place + 1) lines))
    (sym (plain_spelling site.addresses place (operation_of site line.step)))
    ∙ ap (λ rest. spelled_at site.addresses place (line_at site line) ++ rest) (joined_from site (place + 1) lines)

-- each line is as long as from its place to the next, and not without bytes
pub record IsLaidOut (site : Site) : Type 0 where
  pub starts : address_of site 0 ≡ 0
  pub next : (place : ℕ) (line : CodeLine) → slice_get site.code place ≡ Some line → address_of site (place + 1) ≡ address_of site place + length (cut_of site place line).bytes
  pub some : (place : ℕ) (line : CodeLine) → slice_get site.code place ≡ Some line → 0 < length (cut_of site place line).bytes

module _ (program : Program) (image : ImageValue) (is : IsAssembly program image) (site : Site) (made : IsMadeOf program site) (placed : site.addresses ≡ addresses_from 0 is.lengths) where
  each_from : (place : ℕ) (lines : List CodeLine)
      → ((at : ℕ) (line : CodeLine) → slice_get lines at ≡ Some line → HasOperand site line.step)
      → AllByRecursion IsSpelled (cuts_from site place lines)
  each_from place [] operands = tt
  each_from place (line ∷ lines) operands = (
    shortest_spells (instr_of site place line.step) (operand_fits program image is site made placed place line.step (operands 0 line refl)),
    each_from (place + 1) lines (λ at next there. operands (suc at) next there),
  )

  pub is_cut : IsCutting image.code (cuts_from site 0 site.code)
  is_cut = record {
    joined = joined_from site 0 site.code
        ∙ ap (λ lines. concat (spelled_from site.addresses 0 lines)) (sym made.lines)
        ∙ sym (code_joined program image is site made placed);
    each = each_from 0 site.code made.operands;
  }

  pub laid_out : IsLaidOut site
  laid_out = record {
    starts = ap (λ a. slice_index a 0) placed ∙ first_address 0 is.lengths;
    next = λ place line at.
        let p = parts site.addresses 0 0 program.lines.items is.lengths place (line_at site line)
        (long program image is site made placed) (line_there program image is site made placed place line at) in
        let none : 0 + place ≡ place = omega arith in
        let spelling : spelled_at site.addresses (0 + place) (line_at site line) ≡ shortest (instr_of site place line.step) =
        ap (λ n. spelled_at site.addresses n (line_at site line)) none ∙ plain_spelling site.addresses place (operation_of site line.step) in
        ap (λ a. slice_index a (place + 1)) placed ∙ p.next ∙ omega (arith, p.start, ap (λ a. slice_index a place) placed, ap length spelling);
    some = λ place line at.
        spelled_some (cut_of site place line) (shortest_spells (instr_of site place line.step) (operand_fits program image is site made placed place line.step (made.operands place line at)));
  }
