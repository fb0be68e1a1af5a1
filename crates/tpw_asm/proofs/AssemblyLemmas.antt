-- A program has one image, or one kind of fault.
use Rattle.std.proofs.Common.{◌≡◌, ℕ, ◌+◌, ◌≤◌, Bool, true, false, if◌then◌else◌, List, [], ◌∷◌, length, map, sum}
use Rattle.std.proofs.Common.{Option, Some, None, Result, Ok, Err, MatchResult, IfOk, IfErr, refl, sym, ap, subst, ◌∙◌}
use Rattle.std.proofs.Common.{arith, length-append}
use Rattle.std.specs.List.{concat}
use Rattle.std.specs.Option.{option_and_then, option_or, option_map}
use Rattle.tp_image.specs.Limits.{most_code}
use Rattle.tp_image.specs.Image.{ImageValue, InRange}
use Rattle.tp_image.specs.Text.{header_of}
use Rattle.tp_image.proofs.Headers.{no_field_fault}
use Rattle.tp_image.proofs.Bodies.{ranges_of}
use Rattle.tp_image.specs.declared.image.Version.{Version}
use Rattle.tp_image.specs.declared.image.Version.TheVariants.{One, Two}
use Rattle.std.proofs.lemmas.Option.{same_Some}
use Rattle.tpw_asm.specs.declared.program.Line.{Line}
use Rattle.tpw_asm.specs.declared.program.Loop.{Loop}
use Rattle.tpw_asm.specs.declared.fault.LineFault.{LineFault}
use Rattle.tpw_asm.specs.Faults.{line_fault, first_fault, is_row_behind, first_row, is_stated, first_narrow, AreSound}
use Rattle.tpw_asm.specs.declared.program.Program.{Program}
use Rattle.tpw_asm.specs.declared.assembling.Assembled.{Assembled}
use Rattle.tpw_asm.specs.declared.fault.AssemblyFault.{AssemblyFault}
use Rattle.tpw_asm.specs.declared.fault.AssemblyFault.TheVariants.{Line as LineRefused, Row, TooLong, Narrow, Field, Memory}
use Rattle.tpw_asm.specs.Layout.{addresses_from, spelled_from, spellings, code_of, IsLayout, IsLeastLayout}
use Rattle.tpw_asm.specs.Assembly.{assembled, code_of_fault, field_refusal, HasLayout, HasLengths, IsAssembly, IsRefused}
use Rattle.tpw_asm.specs.Outcome.{AreAddresses}
use Rattle.tpw_asm.proofs.LayoutLemmas.{sum-cons, sum_grows, same_sum, length-addresses, length-needed, are_addresses}

-- there is one least layout
pub one_layout : (lines : List Line) (xs ys : List ℕ) → IsLeastLayout lines xs → IsLeastLayout lines ys → xs ≡ ys
one_layout lines xs ys a b =
    let there = a.least ys b.layout in
    let back = b.least xs a.layout in
    same_sum xs ys there (sum_grows ys xs back)

pub one_assembly : (program : Program) (a b : ImageValue) → IsAssembly program a → IsAssembly program b → a ≡ b
one_assembly program a b is is' =
    is.said ∙ ap (assembled program) (one_layout program.lines.items is.lengths is'.lengths is.laid_out.layout.least is'.laid_out.layout.least) ∙ sym is'.said

-- no field of an image is refused
pub not_refused : (image : ImageValue) → InRange image → field_refusal (header_of image) ≡ None
unfolding field_refusal
not_refused image r = ap (option_and_then code_of_fault) (no_field_fault (header_of image) (ranges_of image r))

-- a program that has an image is not refused
pub assembly_refused : (program : Program) (image : ImageValue) (e : AssemblyFault) → IsAssembly program image → IsRefused program e → e ≡ Memory
assembly_refused program image (LineRefused number f) is refusal = let sound = is.laid_out.layout.places.lines in cc
assembly_refused program image (Row number) is refusal = let sound = is.laid_out.layout.places.rows in let behind = refusal.1 in cc
assembly_refused program image TooLong is refusal = let long = refusal.1 is.lengths is.laid_out.layout.least.layout in let short = is.laid_out.layout.short in absurd (omega arith)
assembly_refused program image (Narrow number) is refusal =
    let same = one_layout program.lines.items is.lengths refusal.0 is.laid_out.layout.least refusal.1.least in
    let stated = is.laid_out.stated in
    let narrow = refusal.2 in
    cc
assembly_refused program image (Field code) is refusal =
    let same = one_layout program.lines.items is.lengths refusal.0 is.laid_out.layout.least refusal.1.layout.least in
    let none = not_refused image is.in_range in
    let said = is.said in
    let refused = refusal.2 in
    cc
assembly_refused program image Memory is refusal = refl

pub assembly_only : (program : Program) (r : Result Assembled AssemblyFault) → IfOk r (λ made. IsAssembly program made.image)
    → IfErr r (λ e. IsRefused program e) → (image : ImageValue) → IsAssembly program image
    → MatchResult r (λ made. made.image ≡ image) (λ e. e ≡ Memory)
assembly_only program (Ok made) ok err image is = one_assembly program made.image image ok is
assembly_only program (Err e) ok err image is = assembly_refused program image e is err

pub length-concat : (xss : List (List ℕ)) → length (concat xss) ≡ sum (map length xss)
length-concat [] = refl
length-concat (xs ∷ xss) = length-append xs (concat xss) ∙ omega (arith, length-concat xss, sum-cons (length xs) (map length xss))

-- the code is as long as its lines
pub length-code : (lengths : List ℕ) (lines : List Line) → IsLayout lines lengths → length (code_of lengths lines) ≡ sum lengths
length-code lengths lines is = length-concat (spellings lengths lines) ∙ ap sum is

-- the fault of each check is a refusal of its kind
is_line : (count number : ℕ) (lines : List Line) (e : AssemblyFault) → first_fault count number lines ≡ Some e → (n : ℕ) × (f : LineFault) × (e ≡ LineRefused n f)
is_line count number [] e is = cc
is_line count number (line ∷ lines) e is = by_case (is_line count (number + 1) lines e) (line_fault count number line) is
  where
    by_case : (first_fault count (number + 1) lines ≡ Some e → (n : ℕ) × (f : LineFault) × (e ≡ LineRefused n f)) → (o : Option LineFault)
        → option_or (option_map (λ fault. LineRefused number fault) o) (first_fault count (number + 1) lines) ≡ Some e → (n : ℕ) × (f : LineFault) × (e ≡ LineRefused n f)
    by_case go None is = go is
    by_case go (Some f) is = (number, f, sym (same_Some _ _ is))

pub line_refused : (program : Program) (e : AssemblyFault) → first_fault (length program.lines.items) 0 program.lines.items ≡ Some e → IsRefused program e
line_refused program e is =
    let l = is_line (length program.lines.items) 0 program.lines.items e is in
    subst (IsRefused program) (sym l.2) (is ∙ ap Some l.2)

is_row : (count number : ℕ) (rows : List Loop) (e : AssemblyFault) → first_row count number rows ≡ Some e → (n : ℕ) × (e ≡ Row n)
is_row count number [] e is = cc
is_row count number (row ∷ rows) e is = by_test (is_row count (number + 1) rows e) (is_row_behind count row) is
  where
    by_test : (first_row count (number + 1) rows ≡ Some e → (n : ℕ) × (e ≡ Row n)) → (p : Bool) → (if p then Some (Row number) else first_row count (number + 1) rows) ≡ Some e → (n : ℕ) × (e ≡ Row n)
    by_test go true is = (number, sym (same_Some _ _ is))
    by_test go false is = go is

pub row_refused : (program : Program) (e : AssemblyFault) → AreSound program.lines.items → first_row (length program.lines.items) 0 program.loops.items ≡ Some e → IsRefused program e
row_refused program e sound is =
    let r = is_row (length program.lines.items) 0 program.loops.items e is in
    subst (IsRefused program) (sym r.1) (sound, is ∙ ap Some r.1)

is_narrow : (number : ℕ) (lines : List Line) (lengths : List ℕ) (e : AssemblyFault) → first_narrow number lines lengths ≡ Some e → (n : ℕ) × (e ≡ Narrow n)
is_narrow number [] lengths e is = cc
is_narrow number (line ∷ lines) [] e is = cc
is_narrow number (line ∷ lines) (x ∷ lengths) e is = by_test (is_narrow (number + 1) lines lengths e) (is_stated line x) is
  where
    by_test : (first_narrow (number + 1) lines lengths ≡ Some e → (n : ℕ) × (e ≡ Narrow n)) → (p : Bool) →
        (if p then first_narrow (number + 1) lines lengths else Some (Narrow number)) ≡ Some e → (n : ℕ) × (e ≡ Narrow n)
    by_test go true is = go is
    by_test go false is = (number, sym (same_Some _ _ is))

pub narrow_refused : (program : Program) (lengths : List ℕ) (e : AssemblyFault) → HasLayout program lengths → first_narrow 0 program.lines.items lengths ≡ Some e → IsRefused program e
narrow_refused program lengths e has is =
    let r = is_narrow 0 program.lines.items lengths e is in
    subst (IsRefused program) (sym r.1) (lengths, has, is ∙ ap Some r.1)

pub layout_count : (lines : List Line) (lengths : List ℕ) → IsLayout lines lengths → length lengths ≡ length lines
layout_count lines lengths is = sym (ap length is) ∙ length-needed (addresses_from 0 lengths) 0 lines

most_small : (v : Version) → most_code v ≤ 8192
most_small One = omega arith
most_small Two = omega arith

pub has_addresses : (program : Program) (addresses lengths : List ℕ) → HasLengths program lengths → addresses ≡ addresses_from 0 lengths → AreAddresses addresses
has_addresses program addresses lengths has is = are_addresses addresses lengths is (omega (arith, has.layout.short, most_small program.version))

pub has_count : (program : Program) (addresses lengths : List ℕ) → HasLengths program lengths → addresses ≡ addresses_from 0 lengths → length addresses ≡ length program.lines.items + 1
has_count program addresses lengths has is = omega (arith, ap length is, length-addresses 0 lengths, layout_count program.lines.items lengths has.layout.least.layout)

pub code_is : (program : Program) (addresses lengths code : List ℕ) → addresses ≡ addresses_from 0 lengths →
    code ≡ concat (spelled_from addresses 0 program.lines.items) → code ≡ code_of lengths program.lines.items
code_is program addresses lengths code is made = made ∙ ap (λ xs. concat (spelled_from xs 0 program.lines.items)) is
