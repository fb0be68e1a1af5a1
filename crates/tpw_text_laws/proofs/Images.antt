-- A program that has an image may be written.
use Rattle.std.proofs.Common.{zero, suc, length-append, if◌then◌else◌, ◌≡◌, ℕ, ◌+◌, ◌<◌, ◌≤◌, ◌^◌, Bool, true, false}
use Rattle.std.proofs.Common.{List, [], ◌∷◌, ◌++◌, length, map, Option, Some, None, unwrap_or, refl, ap, ◌∙◌, subst}
use Rattle.std.proofs.Common.{arith}
use Rattle.std.specs.List.{concat, AllByRecursion}
use Rattle.std.proofs.lemmas.List.{length-map}
use Rattle.std.proofs.lemmas.List.Elements.{recursion_from_All}
use Rattle.std.proofs.lemmas.Bool.Decides.{nat_tests}
use Rattle.tp_image.specs.declared.image.Version.{Version}
use Rattle.tp_image.specs.declared.image.Version.TheVariants.{One, Two}
use Rattle.tp_image.specs.Limits.{most_code, most_workspace}
use Rattle.tp_image.specs.Image.{ImageValue, IsRow, most_initial}
use Rattle.tpw_asm.specs.declared.program.Operation.{Operation}
use Rattle.tpw_asm.specs.declared.program.Operation.TheVariants.{Plain, JumpTo, CjTo, Distance}
use Rattle.tpw_asm.specs.declared.program.Line.{Line}
use Rattle.tpw_asm.specs.declared.program.Line.TheVariants.{Byte, Spelled}
use Rattle.tpw_asm.specs.declared.program.Spot.{Spot}
use Rattle.tpw_asm.specs.declared.program.Spot.TheVariants.{Place, Address}
use Rattle.tpw_asm.specs.declared.program.Loop.{Loop}
use Rattle.tpw_asm.specs.declared.program.Program.{Program}
use Rattle.tpw_asm.specs.declared.fault.AssemblyFault.TheVariants.{Row, Narrow}
use Rattle.tpw_asm.specs.Layout.{addresses_from, spelled_at, spelled_from}
use Rattle.tpw_asm.specs.Faults.{line_fault, operation_fault, first_fault, is_behind, is_row_behind, first_row, is_stated, first_narrow}
use Rattle.tpw_asm.specs.Assembly.{address_of, row_of, IsAssembly}
use Rattle.tpw_asm.proofs.LayoutLemmas.{way_is, operation_sound, sound_first, line_some, ones_sum}
use Rattle.tpw_text.specs.Written.{is_named}
use Rattle.tpw_text_laws.specs.Sources.{label_at, labels_below}
use Rattle.tpw_text.specs.Programs.{program_said}
use Rattle.tpw_text_laws.specs.Conditions.{MayBeSpot, MayBeRow, MayBeOperation, MayBeStated, MayBeLine, HasOperand, MayBeWritten}
use Rattle.tpw_text_laws.proofs.Tests.{or_false}

-- rows
spot_may : (addresses : List ℕ) (count : ℕ) (s : Spot) → is_behind count s ≡ false → address_of addresses s < 2 ^ 16 → MayBeSpot count s
spot_may addresses count (Place place) within small = grind (arith, nat_tests)
spot_may addresses count (Address address) within small = omega (arith, small)

row_may : (addresses : List ℕ) (count : ℕ) (row : Loop) → is_row_behind count row ≡ false → IsRow (row_of addresses row) → MayBeRow count row
row_may addresses count row within is =
    let both = or_false (is_behind count row.head) (is_behind count row.lend) within in
    record {
      head = spot_may addresses count row.head both.0 is.head;
      lend = spot_may addresses count row.lend both.1 is.lend;
      control = omega (arith, is.control);
      turns = omega (arith, is.count);
      start = is.start;
    }

first_row_is : (count number : ℕ) (row : Loop) (rows : List Loop) → first_row count number (row ∷ rows) ≡ None → (is_row_behind count row ≡ false) × (first_row count (number + 1) rows ≡ None)
first_row_is count number row rows none = by (is_row_behind count row) refl none
  where
    by : (t : Bool) → is_row_behind count row ≡ t → (if t then Some (Row number) else first_row count (number + 1) rows)
        ≡ None → (is_row_behind count row ≡ false) × (first_row count (number + 1) rows ≡ None)
    by true e none = cc
    by false e none = (e, none)

rows_may : (addresses : List ℕ) (count number : ℕ) (rows : List Loop) → first_row count number rows ≡ None → AllByRecursion IsRow (map (row_of addresses) rows) → AllByRecursion (MayBeRow count) rows
rows_may addresses count number [] none all = tt
rows_may addresses count number (row ∷ rows) none all =
    let parts = first_row_is count number row rows none in
    (row_may addresses count row parts.0 all.0, rows_may addresses count (number + 1) rows parts.1 all.1)

-- lines
stated_may : (operation : Operation) (bytes : Option ℕ) (n : ℕ) → unwrap_or bytes 0 ≤ 8 → is_stated (Spelled operation bytes) n ≡ true → 0 < n → MayBeStated bytes
stated_may operation None n few is some = tt
stated_may operation (Some bytes) n few is some =
    let same : bytes ≡ n = grind (arith, nat_tests) in
    (omega arith, omega (arith, few))

operation_may : (count number : ℕ) (operation : Operation) (bytes : Option ℕ) → operation_fault count number operation ≡ None → HasOperand (Spelled operation bytes) → MayBeOperation count operation
operation_may count number (Plain i) bytes sound has = has
operation_may count number (JumpTo to) bytes sound has = (way_is count (number + 1) to sound).1
operation_may count number (CjTo to) bytes sound has = (way_is count (number + 1) to sound).1
operation_may count number (Distance from to) bytes sound has = let way = way_is count from to sound in (omega (arith, way.0, way.1), way.1)

line_may : (addresses : List ℕ) (count number : ℕ) (line : Line) → line_fault count number line ≡ None → is_stated line (length (spelled_at addresses number line)) ≡ true
    → AllByRecursion (λ byte. byte < 256) (spelled_at addresses number line) → HasOperand line → MayBeLine count line
line_may addresses count number (Byte byte) sound is small has = omega (arith, small.0)
line_may addresses count number (Spelled operation bytes) sound is small has =
    let parts = operation_sound count number operation bytes sound in (
      operation_may count number operation bytes parts.0 has,
      stated_may operation bytes (length (spelled_at addresses number (Spelled operation bytes))) parts.1 is
          (omega (arith, line_some addresses number (Spelled operation bytes))),
    )

narrow_is : (number bytes : ℕ) (line : Line) (lines : List Line) (lengths : List ℕ) →
    first_narrow number (line ∷ lines) (bytes ∷ lengths) ≡ None → (is_stated line bytes ≡ true) ×
    (first_narrow (number + 1) lines lengths ≡ None)
narrow_is number bytes line lines lengths none = by (is_stated line bytes) refl none
  where
    by : (t : Bool) → is_stated line bytes ≡ t → (if t then first_narrow (number + 1) lines lengths else Some
        (Narrow number)) ≡ None → (is_stated line bytes ≡ true) × (first_narrow (number + 1) lines lengths ≡ None)
    by true e none = (e, none)
    by false e none = cc

all_parts : (P : ℕ → Type 0) (xs ys : List ℕ) → AllByRecursion P (xs ++ ys) → AllByRecursion P xs × AllByRecursion P ys
all_parts P [] ys all = (tt, all)
all_parts P (x ∷ xs) ys all = let parts = all_parts P xs ys all.1 in ((all.0, parts.0), parts.1)

lines_may : (addresses : List ℕ) (count number : ℕ) (lines : List Line) → first_fault count number lines ≡ None → first_narrow number lines (map length (spelled_from addresses number lines)) ≡ None
    → AllByRecursion (λ byte. byte < 256) (concat (spelled_from addresses number lines)) → AllByRecursion HasOperand lines → AllByRecursion (MayBeLine count) lines
lines_may addresses count number [] sound narrow small has = tt
lines_may addresses count number (line ∷ lines) sound narrow small has =
    let first = sound_first count number line lines sound in
    let long = narrow_is number (length (spelled_at addresses number line)) line lines (map length (spelled_from addresses (number + 1) lines)) narrow in
    let bytes = all_parts (λ byte. byte < 256) (spelled_at addresses number line) (concat (spelled_from addresses (number + 1) lines)) small in
    (line_may addresses count number line first.0 long.0 bytes.0 has.0, lines_may addresses count (number + 1) lines first.1 long.1 bytes.1 has.1)

-- fields
workspace_most : (v : Version) → most_workspace v ≤ 512
workspace_most One = omega arith
workspace_most Two = omega arith

code_most : (v : Version) → most_code v ≤ 8192
code_most One = omega arith
code_most Two = omega arith

initial_most : (v : Version) (n : ℕ) → most_initial v n ≤ n
initial_most One n = omega arith
initial_most Two n = omega arith

labels_most : (named : ℕ → Bool) (n : ℕ) → length (labels_below named n) ≤ n
labels_most named zero = omega arith
labels_most named (suc n) = omega (arith, labels_most named n, length-append (labels_below named n) (if named n then label_at n ∷ [] else []), one_most (named n))
  where
    one_most : (t : Bool) → length (if t then label_at n ∷ [] else []) ≤ 1
    one_most true = omega arith
    one_most false = omega arith

pub image_may : (program : Program) (image : ImageValue) → IsAssembly program image → AllByRecursion HasOperand program.lines.items → MayBeWritten (program_said program)
image_may program image is has =
    let lines = program.lines.items in
    let lengths = is.lengths in
    let range = is.in_range in
    let workspace : image.workspace ≡ program.workspace = ap (λ (i : ImageValue). i.workspace) is.said in
    let start : image.start ≡ program.start = ap (λ (i : ImageValue). i.start) is.said in
    let packet : image.packet ≡ program.packet = ap (λ (i : ImageValue). i.packet) is.said in
    let result : image.result ≡ program.result = ap (λ (i : ImageValue). i.result) is.said in
    let initial : image.initial ≡ program.initial.items = ap (λ (i : ImageValue). i.initial) is.said in
    let loops : image.loops ≡ map (row_of (addresses_from 0 lengths)) program.loops.items = ap (λ (i : ImageValue). i.loops) is.said in
    let code : image.code ≡ concat (spelled_from (addresses_from 0 lengths) 0 lines) = ap (λ (i : ImageValue). i.code) is.said in
    let layout = is.laid_out.layout.least.layout in
    let few_lines : length lines ≤ 8192 = omega (arith, ones_sum lines lengths layout, is.laid_out.layout.short, code_most program.version) in
    let few : image.workspace ≤ 512 = omega (arith, range.workspace.1, workspace_most image.version) in
    record {
      workspace = omega arith;
      start = omega (arith, range.start_most);
      packet = omega (arith, range.packet.1);
      result = omega (arith, range.result.1);
      rows = omega (arith, range.loops, ap length loops, length-map program.loops.items (row_of (addresses_from 0 lengths)));
      loops = rows_may (addresses_from 0 lengths) (length lines) 0 program.loops.items is.laid_out.layout.places.rows
          (subst (AllByRecursion IsRow) loops (recursion_from_All IsRow image.loops range.rows));
      words = omega (arith, range.initial, initial_most image.version image.workspace, ap length initial);
      initial = subst (AllByRecursion (λ word. word < 2 ^ 32)) initial (recursion_from_All (λ word. word < 2 ^ 32) image.initial range.words);
      count = omega (arith, few_lines);
      labels = omega (arith, few_lines, labels_most (is_named (program_said program)) (suc (length lines)));
      lines = lines_may (addresses_from 0 lengths) (length lines) 0 lines is.laid_out.layout.places.lines (ap (first_narrow 0 lines) layout ∙ is.laid_out.stated)
          (subst (AllByRecursion (λ byte. byte < 256)) code (recursion_from_All (λ byte. byte < 256) image.code range.bytes)) has;
    }
