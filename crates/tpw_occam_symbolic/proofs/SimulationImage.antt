-- Code and items lie in the image that a program is assembled to.
use Rattle.std.proofs.Common.{◌≡◌, ◌⊎◌, inl, inr, ℕ, zero, suc, ◌+◌, ◌-◌, ◌*◌, ◌<◌, ◌≤◌, ◌^◌, List, [], ◌∷◌, ◌++◌, length, map, replicate}
use Rattle.std.proofs.Common.{slice_get, slice_range, Some, None, ap, sym, subst, ◌∙◌, arith, length-append, w32}
use Rattle.std.specs.Prelude.{slice_index}
use Rattle.std.specs.List.{concat}
use Rattle.std.proofs.lemmas.Bool.{cases_lt}
use Rattle.std.proofs.lemmas.Option.{same_Some}
use mir.Val.{SFits}
use Rattle.tp_prefix.proofs.ReadingLemmas.{middle}
use Rattle.tp_decode.specs.Spelling.{IsSpelling}
use Rattle.tp_decode.specs.Table.{entry}
use Rattle.tp_decode.specs.Lines.{shortest}
use Rattle.tp_image.specs.declared.image.Version.{Version}
use Rattle.tp_image.specs.declared.image.Version.TheVariants.{One, Two}
use Rattle.tp_image.specs.Limits.{most_workspace}
use Rattle.tp_image.specs.Image.{ImageValue}
use Rattle.tp_step.specs.State.{mem_start}
use Rattle.tpw_asm.specs.declared.program.Operation.{Operation}
use Rattle.tpw_asm.specs.declared.program.Line.{Line}
use Rattle.tpw_asm.specs.declared.program.Line.TheVariants.{Spelled}
use Rattle.tpw_asm.specs.declared.program.Program.{Program}
use Rattle.tpw_asm.specs.Layout.{addresses_from, instr_at, spelled_at, spelled_from}
use Rattle.tpw_asm.specs.Faults.{operation_fault, line_fault, first_fault}
use Rattle.tpw_asm.specs.Assembly.{IsAssembly}
use Rattle.tpw_asm.specs.Outcome.{AreAddresses}
use Rattle.tpw_asm.proofs.LayoutLemmas.{way_is, operation_sound, sound_first}
use Rattle.tpw_asm.proofs.AssemblyLemmas.{has_addresses, has_count}
use Rattle.tpw_occam_symbolic.specs.declared.items.Item.{Item}
use Rattle.tpw_occam_symbolic.specs.declared.code.Step.{Step}
use Rattle.tpw_occam_symbolic.specs.declared.code.Step.TheVariants.{Plain, Load, Store, Pointer, JumpTo, CjTo, Distance}
use Rattle.tpw_occam_symbolic.specs.declared.code.CodeLine.{CodeLine}
use Rattle.tpw_occam_symbolic.specs.MatchStates.{Site, address_of, base_of, operation_of, instr_of, GoesOn, IsSpelledIn, LiesIn}
use Rattle.tpw_occam_symbolic.specs.Placing.{line_at, HasOperand}
use Rattle.tpw_occam_symbolic.proofs.SimulationCode.{get_map, index_behind, parts, shortest_spells, small_fits}

-- a program is made of code
pub record IsMadeOf (program : Program) (site : Site) : Type 0 where
  pub lines : program.lines.items ≡ map (line_at site) site.code
  pub operands : (place : ℕ) (line : CodeLine) → slice_get site.code place ≡ Some line → HasOperand site line.step

-- items have words of their own in the workspace
pub record HasItems (image : ImageValue) (site : Site) : Type 0 where
  pub inside : (item : Item) → 0 < site.sizes item
      → (mem_start ≤ base_of site item) × (base_of site item + site.sizes item ≤ mem_start + 4 * image.workspace)
  pub apart : (one other : Item) (i k : ℕ) → i < site.sizes one → k < site.sizes other
      → base_of site one + i ≡ base_of site other + k → one ≡ other

-- a line without a fault
sound_at : (count number : ℕ) (lines : List Line) (k : ℕ) (line : Line) → first_fault count number lines ≡ None
    → slice_get lines k ≡ Some line → line_fault count (number + k) line ≡ None
sound_at count number [] k line sound is = cc
sound_at count number (l ∷ lines) zero line sound is =
    ap (line_fault count (number + 0)) (sym (same_Some _ _ is)) ∙ ap (λ n. line_fault count n l) (omega arith) ∙ (sound_first count number l lines sound).0
sound_at count number (l ∷ lines) (suc k) line sound is =
    ap (λ n. line_fault count n line) (omega arith) ∙ sound_at count (number + 1) lines k line (sound_first count number l lines sound).1 is

pub workspace_most : (v : Version) (n : ℕ) → n ≤ most_workspace v → n ≤ 512
workspace_most One n most = omega (arith, most)
workspace_most Two n most = omega (arith, most)

-- a spelling that no length is stated for
pub plain_spelling : (addresses : List ℕ) (number : ℕ) (operation : Operation)
    → spelled_at addresses number (Spelled operation None) ≡ shortest (instr_at addresses number operation)
plain_spelling addresses number operation =
    let spelling = shortest (instr_at addresses number operation) in
    let none : 0 - length spelling ≡ 0 = omega arith in
    ap (λ n. replicate n 0x20 ++ spelling) none

module _ (program : Program) (image : ImageValue) (is : IsAssembly program image) (site : Site) (made : IsMadeOf program site) (placed : site.addresses ≡ addresses_from 0 is.lengths) where
  lines : List Line
  lines = map (line_at site) site.code

  are : AreAddresses site.addresses
  are = has_addresses program site.addresses is.lengths is.laid_out placed

  count : length site.addresses ≡ length program.lines.items + 1
  count = has_count program site.addresses is.lengths is.laid_out placed

  pub small : (place : ℕ) → address_of site place < 2 ^ 16
  small place = by_side (cases_lt place (length site.addresses))
    where
      by_side : (place < length site.addresses) ⊎ (length site.addresses ≤ place) → address_of site place < 2 ^ 16
      by_side (inl within) = are.small place within
      by_side (inr behind) = omega (arith, index_behind site.addresses place behind)

  pub operand_fits : (place : ℕ) (step : Step) → HasOperand site step → SFits w32 (entry (instr_of site place step)).operand
  operand_fits place (Plain instr) has = has
  operand_fits place (Load item word) has = small_fits _ has
  operand_fits place (Store item word) has = small_fits _ has
  operand_fits place (Pointer item word) has = small_fits _ has
  operand_fits place (JumpTo to) has = small_fits _ (omega (arith, small to))
  operand_fits place (CjTo to) has = small_fits _ (omega (arith, small to))
  operand_fits place (Distance from to) has = small_fits _ (omega (arith, small to))

  rises : (from to : ℕ) → from ≤ to → to ≤ length program.lines.items → address_of site from ≤ address_of site to
  rises from to h within = are.rising from to h (omega (arith, within, count))

  goes_on : (place : ℕ) (step : Step) → operation_fault (length program.lines.items) place (operation_of site step) ≡ None → GoesOn site place step
  goes_on place (Plain instr) sound = tt
  goes_on place (Load item word) sound = tt
  goes_on place (Store item word) sound = tt
  goes_on place (Pointer item word) sound = tt
  goes_on place (JumpTo to) sound = let way = way_is _ _ _ sound in rises (place + 1) to way.0 way.1
  goes_on place (CjTo to) sound = let way = way_is _ _ _ sound in rises (place + 1) to way.0 way.1
  goes_on place (Distance from to) sound = let way = way_is _ _ _ sound in rises from to way.0 way.1

  pub line_there : (place : ℕ) (line : CodeLine) → slice_get site.code place ≡ Some line → slice_get program.lines.items place ≡ Some (line_at site line)
  line_there place line at = ap (λ ls. slice_get ls place) made.lines ∙ get_map (line_at site) site.code place line at

  pub code_joined : image.code ≡ concat (spelled_from site.addresses 0 program.lines.items)
  code_joined = ap (λ (i : ImageValue). i.code) is.said ∙ ap (λ a. concat (spelled_from a 0 program.lines.items)) (sym placed)

  pub long : map length (spelled_from site.addresses 0 program.lines.items) ≡ is.lengths
  long = ap (λ a. map length (spelled_from a 0 program.lines.items)) placed ∙ is.laid_out.layout.least.layout

  pub spelled_in : (place : ℕ) (line : CodeLine) → slice_get site.code place ≡ Some line → IsSpelledIn image site place line.step
  spelled_in place line at =
      let p = parts site.addresses 0 0 program.lines.items is.lengths place (line_at site line) long (line_there place line at) in
      let none : 0 + place ≡ place = omega arith in
      let instr = instr_of site place line.step in
      let bytes = spelled_at site.addresses (0 + place) (line_at site line) in
      let is_shortest : bytes ≡ shortest instr =
      ap (λ n. spelled_at site.addresses n (line_at site line)) none ∙ plain_spelling site.addresses place (operation_of site line.step) in
      let start : address_of site place ≡ length p.before = ap (λ a. slice_index a place) placed ∙ p.start ∙ omega arith in
      let next : address_of site (place + 1) ≡ length p.before + length bytes = ap (λ a. slice_index a (place + 1)) placed ∙ p.next ∙ omega arith in
      let code : image.code ≡ p.before ++ bytes ++ p.after = code_joined ∙ p.joined in
      let size : length image.code ≡ length p.before + length bytes + length p.after =
      ap length code ∙ length-append (p.before ++ bytes) p.after ∙ ap (λ n. n + length p.after) (length-append p.before bytes) in
      let range : slice_range image.code (address_of site place) (address_of site (place + 1)) ≡ bytes =
      ap (λ c. slice_range c (address_of site place) (address_of site (place + 1))) code
      ∙ ap (λ a. slice_range (p.before ++ bytes ++ p.after) a (address_of site (place + 1))) start
      ∙ ap (λ b. slice_range (p.before ++ bytes ++ p.after) (length p.before) b) next
      ∙ middle p.before bytes p.after in
      let sound = sound_at (length program.lines.items) 0 program.lines.items place (line_at site line) is.laid_out.layout.places.lines (line_there place line at) in
      record {
        spelled = record {
          forward = omega (arith, start, next);
          within = omega (arith, next, size);
          spelling = subst (λ bs. IsSpelling bs (entry instr).function (entry instr).operand) (sym (range ∙ is_shortest))
              (shortest_spells instr (operand_fits place line.step (made.operands place line at)));
        };
        goes_on = goes_on place line.step
            (ap (λ n. operation_fault (length program.lines.items) n (operation_of site line.step)) (sym none)
            ∙ (operation_sound (length program.lines.items) (0 + place) (operation_of site line.step) None sound).0);
      }

  -- the code and its items lie in the image
  pub lies_in : HasItems image site → LiesIn image site
  lies_in items = record {
    lines = spelled_in;
    small = small;
    inside = items.inside;
    few = workspace_most image.version image.workspace is.in_range.workspace.1;
    apart = items.apart;
  }
