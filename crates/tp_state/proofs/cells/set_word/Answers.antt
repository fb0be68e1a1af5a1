use Rattle.std.proofs.Common.{◌<◌, length, arith}
use Rattle.tp_state.proofs.SeenLemmas.{length_seen, whole_set, seen_set}
use Rattle.tp_state.proofs.cells.set_word.Goals as goal

pub returns-clause-whole : goal.returns-clause-whole
returns-clause-whole c =
    let inside : c.args.x < length c.args.values.now = omega (arith, length_seen c.args.values.now c.args.planes.now) in
    whole_set c.args.values.now c.args.planes.now c.put_one.new.planes c.args.x c.of-kept.result.value
    c.of-kept.result.first c.of-kept.result.second c.args.cell c.requires.whole inside c.put_one.ensures
    c.of-kept.ensures.cell c.of-kept.ensures.row

pub returns-clause-value : goal.returns-clause-value
returns-clause-value c =
    let inside : c.args.x < length c.args.values.now = omega (arith, length_seen c.args.values.now c.args.planes.now) in
    seen_set c.args.values.now c.args.planes.now c.put_one.new.planes c.args.x c.of-kept.result.value
    c.of-kept.result.first c.of-kept.result.second c.args.cell inside c.put_one.ensures c.of-kept.ensures.cell
