-- An image is read back from its text.
use Rattle.std.proofs.Common.{◌≡◌, ℕ, ◌+◌, ◌%◌, ◌<◌, ◌^◌, Bool, true, false, if◌then◌else◌, ℤ, List, [], ◌∷◌, ◌++◌, length, map, Option, Some, None, Ok, refl, ap, sym, ◌∙◌, subst, arith}
use Rattle.std.specs.Int.{w32, cast_signed}
use Rattle.std.specs.Int.RustNames.{FitsSigned}
use Rattle.std.specs.List.{flat_map, AllByRecursion}
use Rattle.std.proofs.lemmas.Int.{ints}
use Rattle.tp_words.specs.Words.{signed, complement}
use Rattle.tp_prefix.specs.Spelling.{function_of, digit_of, is_pfix, is_nfix, is_prefix, shifted, shifted_complement, spelled}
use Rattle.tp_decode.specs.declared.instr.Instr.TheVariants.{Jump, Cj}
use Rattle.tp_decode.specs.Table.{entry}
use Rattle.tp_decode.specs.Lines.{shortest}
use Rattle.tp_decode.specs.Cutting.{Cut, IsSpelled}
use Rattle.tp_image.specs.Image.{ImageValue}
use Rattle.tpw_asm.specs.declared.program.Operation.{Operation}
use Rattle.tpw_asm.specs.declared.program.Operation.TheVariants.{Plain, JumpTo, CjTo}
use Rattle.tpw_asm.specs.declared.program.Line.{Line}
use Rattle.tpw_asm.specs.declared.program.Line.TheVariants.{Byte, Spelled}
use Rattle.tpw_asm.specs.declared.program.Program.{Program}
use Rattle.tpw_asm.specs.Layout.{addresses_from, code_of, IsLeastLayout}
use Rattle.tpw_asm.specs.Faults.{AreSound, first_row, first_narrow}
use Rattle.tpw_asm.specs.Assembly.{row_of, IsAssembly}
use Rattle.tpw_asm.specs.CodeLines.{is_filled, stated, spelling_lines, cut_lines, AreLinesOf}
use Rattle.tpw_asm.specs.Labelling.{place_ahead, to_place, placed, labelled, labelled_from, IsDisassembly}
use Rattle.tp_image.specs.Limits.{most_code}
use Rattle.tpw_text.specs.declared.remarks.Remarks.{Remarks}
use Rattle.tpw_text.specs.Programs.{ProgramSaid, SourceSaid, program_said}
use Rattle.tpw_text.specs.Texts.{source_of}
use Rattle.tpw_text.specs.Written.{text_of}
use Rattle.tpw_text_laws.specs.Sources.{IsSource}
use Rattle.tpw_text_laws.specs.Conditions.{HasOperand}
use Rattle.tpw_text_laws.proofs.ReadBack.{read_back}
use Rattle.tpw_text_laws.proofs.Images.{image_may}

-- an operand that is spelled has 32 bits
record IsShifted (oreg : ℕ) : Type 0 where
  even : oreg % 16 ≡ 0
  small : oreg < 2 ^ 32

word_fits : (n : ℕ) → n < 2 ^ 32 → FitsSigned w32 (cast_signed w32 n)
word_fits n small = omega (arith, ints)

shifted_is : (n : ℕ) → IsShifted (shifted n)
shifted_is n = record { even = omega arith; small = omega arith }

abbrev spelling : ℕ → ℤ → Option (ℕ × ℤ)
spelling f e = Some (f, e)

last_fits : (oreg b f : ℕ) (e : ℤ) (t : Bool) → IsShifted oreg → (if t then None else spelling (function_of b) (signed (oreg + digit_of b))) ≡ spelling f e → FitsSigned w32 e
last_fits oreg b f e true is spells = cc
last_fits oreg b f e false is spells =
    let same : signed (oreg + digit_of b) ≡ e = ap (λ (o : Option (ℕ × ℤ)). second o) spells in
    subst (FitsSigned w32) same (word_fits (oreg + digit_of b) (omega (arith, is.even, is.small)))
  where
    second : Option (ℕ × ℤ) → ℤ
    second None = e
    second (Some p) = p.1

next_fits : (oreg b f : ℕ) (e : ℤ) (t u : Bool) (x y : Option (ℕ × ℤ)) → (x ≡ spelling f e → FitsSigned w32 e) →
    (y ≡ spelling f e → FitsSigned w32 e) → (if t then x else if u then y else None) ≡ spelling f e → FitsSigned w32 e
next_fits oreg b f e true u x y one two spells = one spells
next_fits oreg b f e false true x y one two spells = two spells
next_fits oreg b f e false false x y one two spells = cc

operand_fits : (oreg : ℕ) (bytes : List ℕ) (f : ℕ) (e : ℤ) → IsShifted oreg → spelled oreg bytes ≡ spelling f e → FitsSigned w32 e
unfolding spelled
operand_fits oreg [] f e is spells = cc
operand_fits oreg (b ∷ []) f e is spells = last_fits oreg b f e (is_prefix b) is spells
operand_fits oreg (b ∷ c ∷ rest) f e is spells =
    next_fits oreg b f e (is_pfix b) (is_nfix b) (spelled (shifted (oreg + digit_of b)) (c ∷ rest)) (spelled (shifted_complement (oreg + digit_of b)) (c ∷ rest))
    (operand_fits (shifted (oreg + digit_of b)) (c ∷ rest) f e (shifted_is (oreg + digit_of b)))
    (operand_fits (shifted_complement (oreg + digit_of b)) (c ∷ rest) f e (shifted_is (complement (oreg + digit_of b)))) spells

-- the lines of a code
bytes_have : (bytes : List ℕ) → AllByRecursion HasOperand (map Byte bytes)
bytes_have [] = tt
bytes_have (b ∷ bytes) = (tt, bytes_have bytes)

both_have : (xs ys : List Line) → AllByRecursion HasOperand xs → AllByRecursion HasOperand ys → AllByRecursion HasOperand (xs ++ ys)
both_have [] ys all more = more
both_have (x ∷ xs) ys all more = (all.0, both_have xs ys all.1 more)

cut_has : (cut : Cut) → IsSpelled cut → AllByRecursion HasOperand (cut_lines cut)
cut_has cut is = by (is_filled cut.bytes (shortest cut.instr))
  where
    by : (t : Bool) → AllByRecursion HasOperand (if t then Spelled (Plain cut.instr) (stated cut.bytes (shortest cut.instr)) ∷ [] else map Byte cut.bytes)
    by true = (operand_fits 0 cut.bytes (entry cut.instr).function (entry cut.instr).operand (record { even = refl; small = omega arith }) is.spells, tt)
    by false = bytes_have cut.bytes

cuts_have : (cuts : List Cut) → AllByRecursion IsSpelled cuts → AllByRecursion HasOperand (flat_map cut_lines cuts)
cuts_have [] all = tt
cuts_have (cut ∷ cuts) all = both_have (cut_lines cut) (flat_map cut_lines cuts) (cut_has cut all.0) (cuts_have cuts all.1)

code_has : (code : List ℕ) (lines : List Line) → AreLinesOf code lines → AllByRecursion HasOperand lines
code_has code lines is = subst (AllByRecursion HasOperand) (sym is.are) (both_have (flat_map cut_lines is.cuts) (map Byte is.rest) (cuts_have is.cuts is.each) (bytes_have is.rest))

-- with places for distances
place_has : (jump : ℕ → Operation) (plain : Operation) (bytes : Option ℕ) (o : Option ℕ) →
    ((p : ℕ) → HasOperand (Spelled (jump p) bytes)) → HasOperand (Spelled plain bytes) →
    HasOperand (Spelled (to_place jump plain o) bytes)
place_has jump plain bytes None j p = p
place_has jump plain bytes (Some place) j p = j place

placed_has : (addresses : List ℕ) (number : ℕ) (operation : Operation) (bytes : Option ℕ) → HasOperand (Spelled operation bytes) → HasOperand (Spelled (placed addresses number operation) bytes)
placed_has addresses number (Plain (Jump n)) bytes has = place_has JumpTo (Plain (Jump n)) bytes (place_ahead addresses (number + 1) n) (λ p. tt) has
placed_has addresses number (Plain (Cj n)) bytes has = place_has CjTo (Plain (Cj n)) bytes (place_ahead addresses (number + 1) n) (λ p. tt) has
placed_has addresses number operation bytes has = has

line_has : (addresses : List ℕ) (number : ℕ) (line : Line) → HasOperand line → HasOperand (labelled addresses number line)
line_has addresses number (Byte byte) has = tt
line_has addresses number (Spelled operation bytes) has = placed_has addresses number operation bytes has

lines_have : (addresses : List ℕ) (number : ℕ) (lines : List Line) → AllByRecursion HasOperand lines → AllByRecursion HasOperand (labelled_from addresses number lines)
lines_have addresses number [] all = tt
lines_have addresses number (line ∷ lines) all = (line_has addresses number line all.0, lines_have addresses (number + 1) lines all.1)

disassembly_has : (image : ImageValue) (program : Program) → IsDisassembly image program → AllByRecursion HasOperand program.lines.items
disassembly_has image program is = subst (AllByRecursion HasOperand) (sym is.lines) (lines_have (addresses_from 0 is.lengths) 0 is.code_lines (code_has image.code is.code_lines is.are_code_lines))

-- programs that say the same have the same image
pub same_assembly : (a b : Program) (image : ImageValue) → program_said a ≡ program_said b → IsAssembly a image → IsAssembly b image
same_assembly a b image same is =
    let lengths = is.lengths in
    record {
      lengths = lengths;
      laid_out = record {
        layout = record {
          places = record {
            lines = subst (λ (s : ProgramSaid). AreSound s.lines) same is.laid_out.layout.places.lines;
            rows = subst (λ (s : ProgramSaid). first_row (length s.lines) 0 s.loops ≡ None) same is.laid_out.layout.places.rows;
          };
          least = subst (λ (s : ProgramSaid). IsLeastLayout s.lines lengths) same is.laid_out.layout.least;
          short = omega (arith, is.laid_out.layout.short, ap (λ (s : ProgramSaid). most_code s.version) same);
        };
        stated = subst (λ (s : ProgramSaid). first_narrow 0 s.lines lengths ≡ None) same is.laid_out.stated;
      };
      said = is.said ∙ ap (λ (s : ProgramSaid). image_of s lengths) same;
      in_range = is.in_range;
    }
  where
    image_of : ProgramSaid → List ℕ → ImageValue
    image_of s lengths = record {
      version = s.version;
      workspace = s.workspace;
      start = s.start;
      packet = s.packet;
      result = s.result;
      loops = map (row_of (addresses_from 0 lengths)) s.loops;
      initial = s.initial;
      code = code_of lengths s.lines;
    }

pub disassembled_back : (image : ImageValue) (program : Program) (remarks : Option Remarks) → IsDisassembly image program → IsAssembly program image
    → (source : SourceSaid) × (source_of (text_of (program_said program) remarks) ≡ Ok source) ×
    IsSource (program_said program) remarks source × ((again : Program) → program_said again ≡ source.program →
    IsAssembly again image)
disassembled_back image program remarks from is =
    let back = read_back (program_said program) remarks (image_may program image is (disassembly_has image program from)) in
    (back.0, back.1, back.2, λ again same. same_assembly program again image (sym (same ∙ back.2.program)) is)
