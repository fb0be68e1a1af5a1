use Rattle.tp_state.specs.CellRules.{is_defined}
use Rattle.tp_state.proofs.SeenLemmas.{tested_seen}
use Rattle.tp_state.proofs.cells.words_defined.Goals as goal

pub returns : goal.returns
returns c =
    tested_seen is_defined c.args.values.now c.args.planes.now c.args.x c.args.n c.part-first.result.0
    c.part-first.result.1 c.all_defined.result c.part-first.ensures.first c.part-first.ensures.end
    c.all_defined.ensures.yes c.all_defined.ensures.no
