-- What an image is disassembled to is assembled to that image.
use Rattle.std.proofs.Common.{◌≡◌, ℕ, ◌+◌, ◌≤◌, false, nat_eq, List, [], ◌∷◌, length, map, sum, Option, Some, None, refl, sym, ap, subst, ◌∙◌, arith}
use Rattle.std.specs.List.{concat, position}
use Rattle.std.proofs.lemmas.Bool.Decides.{nat_tests}
use Rattle.std.proofs.lemmas.List.Quantifiers.{position-Some}
use Rattle.tp_image.specs.declared.image.LoopRow.{LoopRow}
use Rattle.tp_image.specs.Limits.{most_code}
use Rattle.tp_image.specs.Image.{ImageValue, InRange}
use Rattle.tpw_asm.specs.declared.program.Line.{Line}
use Rattle.tpw_asm.specs.declared.program.Program.{Program}
use Rattle.tpw_asm.specs.Layout.{addresses_from, code_of, IsLayout, IsLeastLayout}
use Rattle.tpw_asm.specs.Faults.{is_behind, first_row, first_fault, first_narrow}
use Rattle.tpw_asm.specs.Assembly.{address_of, row_of, assembled, IsAssembly}
use Rattle.tpw_asm.specs.CodeLines.{AreLinesOf}
use Rattle.tpw_asm.specs.Labelling.{spot_from, spot_of, loop_of, labelled_from}
use Rattle.tpw_asm.proofs.LayoutLemmas.{length-addresses}
use Rattle.tpw_asm.proofs.AssemblyLemmas.{layout_count, length-code}
use Rattle.tpw_asm.proofs.RoundTrip.{spells_code}
use Rattle.tpw_asm.proofs.Labelled.{all_spelled_same, length-labelled, lines_sound, none_narrow, lines_ahead, least_ahead}

-- a spot's address; its place is not behind the last
spot_is : (addresses : List ℕ) (count address : ℕ) → length addresses ≡ count + 1 → (address_of addresses (spot_of addresses address) ≡ address) × (is_behind count (spot_of addresses address) ≡ false)
unfolding spot_of
spot_is addresses count address size = by_case (position (λ a. nat_eq a address) addresses) refl
  where
    by_case : (o : Option ℕ) → position (λ a. nat_eq a address) addresses ≡ o → (address_of addresses (spot_from address o) ≡ address) × (is_behind count (spot_from address o) ≡ false)
    by_case None found = (refl, refl)
    by_case (Some place) found =
        let parts = position-Some (λ a. nat_eq a address) addresses place 0 found in
        (grind (arith, nat_tests, parts.1), grind (arith, nat_tests, parts.0))

row_same : (addresses : List ℕ) (count : ℕ) (row : LoopRow) → length addresses ≡ count + 1 → row_of addresses (loop_of addresses row) ≡ row
row_same addresses count row size =
    let make : ℕ → ℕ → LoopRow = λ h l. record { head = h; lend = l; control = row.control; count = row.count; start = row.start } in
    ap (λ h. make h (address_of addresses (spot_of addresses row.lend))) ((spot_is addresses count row.head size).0) ∙ ap (λ l. make row.head l) ((spot_is addresses count row.lend size).0)

rows_same : (addresses : List ℕ) (count : ℕ) (rows : List LoopRow) → length addresses ≡ count + 1 → map (row_of addresses) (map (loop_of addresses) rows) ≡ rows
rows_same addresses count [] size = refl
rows_same addresses count (row ∷ rows) size = let first = row_same addresses count row size in let rest = rows_same addresses count rows size in cc

rows_sound : (addresses : List ℕ) (count number : ℕ) (rows : List LoopRow) → length addresses ≡ count + 1 → first_row count number (map (loop_of addresses) rows) ≡ None
rows_sound addresses count number [] size = refl
rows_sound addresses count number (row ∷ rows) size =
    rw ((spot_is addresses count row.head size).1, (spot_is addresses count row.lend size).1) (rows_sound addresses count (number + 1) rows size)

-- a program with the fields of an image
pub record HasFields (program : Program) (image : ImageValue) : Type 0 where
  pub version : program.version ≡ image.version
  pub workspace : program.workspace ≡ image.workspace
  pub start : program.start ≡ image.start
  pub packet : program.packet ≡ image.packet
  pub result : program.result ≡ image.result
  pub initial : program.initial.items ≡ image.initial

fields_said : (program : Program) (image : ImageValue) (lengths : List ℕ) → HasFields program image →
    map (row_of (addresses_from 0 lengths)) program.loops.items ≡ image.loops →
    code_of lengths program.lines.items ≡ image.code
    → image ≡ assembled program lengths
fields_said program image lengths has rows code =
    let version = has.version in
    let workspace = has.workspace in
    let start = has.start in
    let packet = has.packet in
    let result = has.result in
    let initial = has.initial in
    let made : ImageValue = record {
      version = program.version;
      workspace = program.workspace;
      start = program.start;
      packet = program.packet;
      result = program.result;
      loops = map (row_of (addresses_from 0 lengths)) program.loops.items;
      initial = program.initial.items;
      code = code_of lengths program.lines.items;
    } in
    let same : record {
      version = image.version;
      workspace = image.workspace;
      start = image.start;
      packet = image.packet;
      result = image.result;
      loops = image.loops;
      initial = image.initial;
      code = image.code;
    } ≡ made = cc in
    same

pub disassembly_is_assembly : (program : Program) (image : ImageValue) (unlabelled : List Line) (lengths : List ℕ) →
    InRange image → HasFields program image → AreLinesOf image.code unlabelled → IsLeastLayout unlabelled lengths
    → program.lines.items ≡ labelled_from (addresses_from 0 lengths) 0 unlabelled → program.loops.items ≡ map (loop_of (addresses_from 0 lengths)) image.loops → IsAssembly program image
disassembly_is_assembly program image unlabelled lengths in_range has are_lines least lines loops =
    let addresses = addresses_from 0 lengths in
    let all = labelled_from addresses 0 unlabelled in
    let spells = spells_code image.code unlabelled are_lines in
    let size : length addresses ≡ length unlabelled + 1 = omega (arith, length-addresses 0 lengths, layout_count unlabelled lengths least.layout) in
    let count : length program.lines.items ≡ length unlabelled = ap length lines ∙ length-labelled addresses 0 unlabelled in
    let spelled = all_spelled_same addresses 0 unlabelled in
    let layout : IsLayout all lengths = ap (map length) spelled ∙ least.layout in
    let sound : first_fault (length all) 0 all ≡ None = ap (λ n. first_fault n 0 all)
    (length-labelled addresses 0 unlabelled) ∙ lines_sound addresses (length unlabelled) 0 unlabelled size
    spells.own in
    let code : code_of lengths program.lines.items ≡ image.code = ap (code_of lengths) lines ∙ ap concat spelled ∙ spells.code addresses 0 in
    let short : sum lengths ≤ most_code image.version = omega (arith, length-code lengths unlabelled least.layout, ap length (spells.code addresses 0), in_range.code) in
    let narrow : first_narrow 0 all lengths ≡ None = ap (first_narrow 0 all) (sym least.layout) ∙ none_narrow addresses addresses 0 unlabelled spells.own in
    record {
      lengths = lengths;
      laid_out = record {
        layout = record {
          places = record {
            lines = ap (λ xs. first_fault (length xs) 0 xs) lines ∙ sound;
            rows = ap (λ n. first_row n 0 program.loops.items) count ∙ ap (first_row (length unlabelled) 0) loops ∙ rows_sound addresses (length unlabelled) 0 image.loops size;
          };
          least = subst (λ (xs : List Line). IsLeastLayout xs lengths) (sym lines) (least_ahead all lengths (lines_ahead addresses 0 unlabelled spells.own) sound layout);
          short = omega (arith, short, ap most_code has.version);
        };
        stated = ap (λ xs. first_narrow 0 xs lengths) lines ∙ narrow;
      };
      said = fields_said program image lengths has (ap (map (row_of addresses)) loops ∙ rows_same addresses (length unlabelled) image.loops size) code;
      in_range = in_range;
    }
