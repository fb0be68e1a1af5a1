use Rattle.std.proofs.Common.{◌≤◌, ◌+◌, length, arith}
use Rattle.tp_state.proofs.SeenLemmas.{FillsValues, fills_cut, length_seen, whole_filled, seen_filled}
use Rattle.tp_state.proofs.cells.fill_words.Goals as goal

pub returns-clause-whole : goal.returns-clause-whole
returns-clause-whole c =
    let room : c.args.x + c.args.n ≤ length c.args.values.now = omega (arith, length_seen c.args.values.now c.args.planes.now) in
    let fills : FillsValues c.args.values.now c.fill_values.new.values c.args.x c.args.n c.of-kept.result.value =
    rw c.fill_values.ensures (fills_cut c.args.values.now c.args.x c.args.n c.of-kept.result.value room) in
    whole_filled c.args.values.now c.fill_values.new.values c.args.planes.now c.put_all.new.planes c.args.x c.args.n
    c.of-kept.result.value c.of-kept.result.first c.of-kept.result.second c.args.cell c.requires.whole room fills
    c.put_all.ensures c.of-kept.ensures.cell c.of-kept.ensures.row

pub returns-clause-value : goal.returns-clause-value
returns-clause-value c =
    let room : c.args.x + c.args.n ≤ length c.args.values.now = omega (arith, length_seen c.args.values.now c.args.planes.now) in
    let fills : FillsValues c.args.values.now c.fill_values.new.values c.args.x c.args.n c.of-kept.result.value =
    rw c.fill_values.ensures (fills_cut c.args.values.now c.args.x c.args.n c.of-kept.result.value room) in
    seen_filled c.args.values.now c.fill_values.new.values c.args.planes.now c.put_all.new.planes c.args.x c.args.n
    c.of-kept.result.value c.of-kept.result.first c.of-kept.result.second c.args.cell room fills c.put_all.ensures
    c.of-kept.ensures.cell
