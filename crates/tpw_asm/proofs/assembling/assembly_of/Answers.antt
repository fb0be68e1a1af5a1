use Rattle.std.proofs.Common.{◌≡◌, ◌+◌, ◌-◌, length, map, Some, refl, sym, ap, ◌∙◌, arith}
use Rattle.std.specs.List.{concat}
use Rattle.std.specs.Option.{option_and_then}
use Rattle.tp_image.specs.Image.{ImageValue}
use Rattle.tp_image.specs.Text.{header_of}
use Rattle.tp_image.specs.Faults.{field_fault}
use Rattle.tpw_asm.specs.Layout.{addresses_from, spelled_from}
use Rattle.tpw_asm.specs.Assembly.{row_of, assembled, code_of_fault, field_refusal}
use Rattle.tpw_asm.proofs.AssemblyLemmas.{has_addresses, has_count, code_is}
use Rattle.tpw_asm.proofs.assembling.assembly_of.Goals as goal

pub code_of-requires-clause-addresses : goal.code_of-requires-clause-addresses
code_of-requires-clause-addresses c =
    has_addresses c.args.program.now _ _ c.in_ok-layout.ensures.lengths (c.deref.ensures.value ∙ c.in_ok-layout.ensures.addresses)

pub code_of-requires-clause-count : goal.code_of-requires-clause-count
code_of-requires-clause-count c =
    has_count c.args.program.now _ _ c.in_ok-layout.ensures.lengths (c.deref.ensures.value ∙ c.in_ok-layout.ensures.addresses)
    ∙ ap (λ xs. length xs + 1) (sym c.deref-2.ensures.value)

pub rows_of-requires-clause-addresses : goal.rows_of-requires-clause-addresses
rows_of-requires-clause-addresses c =
    has_addresses c.args.program.now _ _ c.in_ok-layout.ensures.lengths (c.deref-3.ensures.value ∙ c.in_ok-layout.ensures.addresses)

pub rows_of-requires-clause-sound : goal.rows_of-requires-clause-sound
rows_of-requires-clause-sound c =
    let count = has_count c.args.program.now c.deref-3.result.now c.in_ok-layout.layout.lengths.items c.in_ok-layout.ensures.lengths (c.deref-3.ensures.value ∙ c.in_ok-layout.ensures.addresses) in
    let less : length c.deref-3.result.now - 1 ≡ length c.args.program.now.lines.items = omega arith in
    rw (less, c.deref-4.ensures.value) c.in_ok-layout.ensures.lengths.layout.places.rows

pub returns-in-Err-Refused-clause-refused : goal.returns-in-Err-Refused-clause-refused
unfolding field_refusal
returns-in-Err-Refused-clause-refused c =
    let program = c.args.program.now in
    let lengths = c.in_ok-layout.layout.lengths.items in
    let rows : c.in_ok-loops.loops.items ≡ map (row_of (addresses_from 0 lengths)) program.loops.items =
    c.in_ok-loops.ensures.rows ∙ ap (λ at. map (row_of at) c.deref-4.result.now)
    (c.deref-3.ensures.value ∙ c.in_ok-layout.ensures.addresses) ∙
    ap (map (row_of (addresses_from 0 lengths))) c.deref-4.ensures.value in
    let made : c.in_ok-code.code.items ≡ concat (spelled_from c.deref.result.now 0 program.lines.items) =
    c.in_ok-code.ensures ∙ ap (λ xs. concat (spelled_from c.deref.result.now 0 xs)) c.deref-2.ensures.value in
    let code = code_is program c.deref.result.now lengths c.in_ok-code.code.items (c.deref.ensures.value ∙ c.in_ok-layout.ensures.addresses) made in
    let initial : c.in_ok-from_slice.field-0.items ≡ program.initial.items = c.in_ok-from_slice.ensures.items ∙ c.deref-5.ensures.value in
    let image : ImageValue = record {
      version = program.version;
      workspace = program.workspace;
      start = program.start;
      packet = program.packet;
      result = program.result;
      loops = c.in_ok-loops.loops.items;
      initial = c.in_ok-from_slice.field-0.items;
      code = c.in_ok-code.code.items;
    } in
    let same : image ≡ assembled program lengths = rw (rows, initial, code) refl in
    let first : field_fault (header_of image) ≡ Some c.in-Err-Refused.field-0 = c.in-Err-Refused.ensures.first in
    let fault = ap (λ i. field_fault (header_of i)) (sym same) ∙ first ∙ ap Some c.in-Err-Refused.field-0-is in
    (lengths, c.in_ok-layout.ensures.lengths, ap (option_and_then code_of_fault) fault)
