use Rattle.std.proofs.Common.{◌∙◌, sym}
use Rattle.tp_state.specs.Planes.{cell_in}
use Rattle.tp_state.proofs.SeenLemmas.{cell_at-seen, cell_at-seen_past}
use Rattle.tp_state.proofs.cells.word_at.Goals as goal

pub cell-requires-clause-row : goal.cell-requires-clause-row
unfolding cell_in
cell-requires-clause-row c = c.requires.rows c.args.x c.if-x-values.true

pub returns-then-x-values : goal.returns-then-x-values
unfolding cell_in
returns-then-x-values c = c.cell.ensures ∙ sym (cell_at-seen c.args.values.now c.args.planes.now c.args.x c.if-x-values.true)

pub returns-else-x-values : goal.returns-else-x-values
returns-else-x-values c = sym (cell_at-seen_past c.args.values.now c.args.planes.now c.args.x c.if-x-values.false)
