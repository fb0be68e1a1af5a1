use Rattle.std.proofs.Common.{◌≡◌, ◌==◌, ◌<◌, ap, sym, ◌∙◌, if◌then◌else◌, arith, length, List, ℕ}
use Rattle.std.proofs.lemmas.List.{with_items_is}
use Rattle.std.specs.Vec.{with_items}
use Rattle.tpw_occam_core.specs.Arrays.{with_element}
use Rattle.tpw_occam_interpreter.specs.Memories.{row}
use Rattle.tpw_occam_interpreter.proofs.ArrayRows.{row_set, row_at}
use Rattle.tpw_occam_interpreter.proofs.writing.put_in_array.Goals as goal

pub returns-then-a-len : goal.returns-then-a-len
returns-then-a-len c =
    let arrays = c.args.arrays.now.items in
    let bytes = c.index_mut.result.now in
    let short : c.args.a < length arrays = omega (arith, c.if-a-len.true, c.len.ensures, c.args.arrays.now.ok.0) in
    let is : row arrays c.args.a ≡ bytes.items =
    row_at arrays c.args.a bytes short ∙ sym (ap (λ v. v.items) c.index_mut.ensures.value) in
    let same = with_items_is bytes c.put_element.new.bytes (c.put_element.auto.bytes ∙ c.deref_mut.ensures.len) in
    let put = same ∙ c.put_element.ensures ∙ ap (λ x. with_element c.args.kind x c.args.i c.args.word) (c.deref_mut.ensures.value ∙ sym is) in
    λ b. row_set arrays c.args.a b (with_items bytes c.put_element.new.bytes) short
    ∙ ap (λ (x : List ℕ). if b == c.args.a then x else row arrays b) put
