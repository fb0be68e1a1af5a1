use Rattle.std.proofs.Common.{◌≤◌, length, arith}
use Rattle.tp_state.proofs.SeenLemmas.{whole_blurred, seen_blurred}
use Rattle.tp_state.proofs.cells.blur_words.Goals as goal

pub returns-clause-whole : goal.returns-clause-whole
returns-clause-whole c =
    let room : c.part-first.result.1 ≤ length c.args.values.now = omega (arith, c.part-first.ensures.end) in
    whole_blurred c.args.values.now c.args.planes.now c.blur_all.new.planes c.part-first.result.0 c.part-first.result.1 c.requires room c.blur_all.ensures

pub returns-clause-value : goal.returns-clause-value
returns-clause-value c =
    seen_blurred c.args.values.now c.args.planes.now c.blur_all.new.planes c.args.x c.args.n (rw (c.part-first.ensures.end, c.part-first.ensures.first) at c.blur_all.ensures)
