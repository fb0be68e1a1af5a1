use Rattle.std.proofs.Common.{◌≡◌, ℕ, List, length, map, sym, ap, subst, ◌∙◌, arith}
use Rattle.tp_image.specs.Image.{ImageValue, InRange}
use Rattle.tpw_asm.specs.declared.program.Line.{Line}
use Rattle.tpw_asm.specs.Layout.{addresses_from}
use Rattle.tpw_asm.specs.CodeLines.{AreLinesOf}
use Rattle.tpw_asm.specs.Labelling.{labelled_from, loop_of}
use Rattle.tpw_asm.proofs.LayoutLemmas.{are_addresses, length-addresses}
use Rattle.tpw_asm.proofs.AssemblyLemmas.{layout_count}
use Rattle.tpw_asm.proofs.RoundTrip.{spells_code}
use Rattle.tpw_asm.proofs.Labelled.{own_sound}
use Rattle.tpw_asm.proofs.Disassembled.{disassembly_is_assembly}
use Rattle.tpw_asm.proofs.disassembling.disassemble.Goals as goal

pub least_layout-requires-clause-sound : goal.least_layout-requires-clause-sound
least_layout-requires-clause-sound c =
    rw c.deref-2.ensures.value (own_sound (length c.in_ok-unlabelled.unlabelled.items) 0
    c.in_ok-unlabelled.unlabelled.items (spells_code c.deref.result.now c.in_ok-unlabelled.unlabelled.items
    c.in_ok-unlabelled.ensures).own)

pub labelled_lines-requires-clause-addresses : goal.labelled_lines-requires-clause-addresses
labelled_lines-requires-clause-addresses c =
    let laid_out = c.in-Ok.ensures.laid_out in
    are_addresses c.deref-3.result.now c.in-Ok.layout.lengths.items (c.deref-3.ensures.value ∙ laid_out.addresses) (omega (arith, laid_out.short))

pub labelled_lines-requires-clause-count : goal.labelled_lines-requires-clause-count
labelled_lines-requires-clause-count c =
    let laid_out = c.in-Ok.ensures.laid_out in
    omega (
      arith,
      ap length (c.deref-3.ensures.value ∙ laid_out.addresses),
      length-addresses 0 c.in-Ok.layout.lengths.items,
      layout_count c.deref-2.result.now c.in-Ok.layout.lengths.items
          laid_out.least.layout,
      ap length c.deref-2.ensures.value,
      ap length c.deref-4.ensures.value,
    )

pub returns-clause-assembled : goal.returns-clause-assembled
returns-clause-assembled c =
    let laid_out = c.in-Ok.ensures.laid_out in
    let image = c.args.image.now in
    let view = c.image.view_is in
    let lengths = c.in-Ok.layout.lengths.items in
    let are_lines : AreLinesOf image.code c.deref-2.result.now =
    subst (λ (xs : List ℕ). AreLinesOf xs c.deref-2.result.now) (c.deref.ensures.value ∙ ap (λ (i : ImageValue). i.code) view)
    (subst (λ (ls : List Line). AreLinesOf c.deref.result.now ls) (sym c.deref-2.ensures.value) c.in_ok-unlabelled.ensures) in
    let lines : c.in_ok-lines.lines.items ≡ labelled_from (addresses_from 0 lengths) 0 c.deref-2.result.now =
    c.in_ok-lines.ensures ∙ ap (λ xs. labelled_from xs 0 c.deref-4.result.now) (c.deref-3.ensures.value ∙ laid_out.addresses)
    ∙ ap (labelled_from (addresses_from 0 lengths) 0) (c.deref-4.ensures.value ∙ sym c.deref-2.ensures.value) in
    let loops : c.in_ok-loops_of.field-0.items ≡ map (loop_of (addresses_from 0 lengths)) image.loops =
    c.in_ok-loops_of.ensures ∙ ap (λ xs. map (loop_of xs) c.deref-6.result.now) (c.deref-5.ensures.value ∙ laid_out.addresses)
    ∙ ap (map (loop_of (addresses_from 0 lengths))) (c.deref-6.ensures.value ∙ ap (λ (i : ImageValue). i.loops) view) in
    disassembly_is_assembly _ image c.deref-2.result.now lengths (subst (λ (i : ImageValue). InRange i) view c.image.invariant)
    record {
      version = ap (λ (i : ImageValue). i.version) view;
      workspace = ap (λ (i : ImageValue). i.workspace) view;
      start = ap (λ (i : ImageValue). i.start) view;
      packet = ap (λ (i : ImageValue). i.packet) view;
      result = ap (λ (i : ImageValue). i.result) view;
      initial = c.in_ok-from_slice.ensures.items ∙ c.deref-7.ensures.value ∙ ap (λ (i : ImageValue). i.initial) view;
    }
    are_lines laid_out.least lines loops
