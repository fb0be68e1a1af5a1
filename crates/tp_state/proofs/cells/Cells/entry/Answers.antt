use Rattle.std.proofs.Common.{◌-◌, length, refl, ◌∙◌, arith}
use Rattle.tp_state.proofs.SeenLemmas.{first_seen}
use Rattle.tp_state.proofs.cells.Cells.entry.Goals as goal

pub returns : goal.returns
returns c =
    let values = c.in_ok-values.values.items in
    let words = c.deref.result.now in
    first_seen c.in_ok-values.values.items c.whole_planes-planes.result.items c.deref.result.now (c.image.inside.workspace - length c.deref.result.now)
    (λ i lt. c.whole_planes-planes.ensures.known c.in_ok-values.values.items i (omega (arith, lt, c.in_ok-values.ensures.long)))
    c.in_ok-values.ensures.value
    ∙ rw (c.deref.ensures.value, ← c.image.view_is) refl
