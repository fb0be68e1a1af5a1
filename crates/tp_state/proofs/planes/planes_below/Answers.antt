use Rattle.std.proofs.Common.{◌<◌, length, arith}
use Rattle.tp_state.proofs.PlaneJoins.{tells_comparing, below_more, below_found}
use Rattle.tp_state.proofs.planes.planes_below.Goals as goal

pub loop-w-preserved : goal.loop-w-preserved
loop-w-preserved c =
    let room : c.loop-w.w < length c.args.others.now = omega arith in
    let reports = tells_comparing c.args.values.now c.args.other_values.now c.args.planes.now c.args.others.now
    c.loop-w.w c.closed.result c.differing-differ.result c.requires.whole.padded room c.requires.values
    c.differing-differ.ensures c.closed.ensures in
    below_more c.args.values.now c.args.other_values.now c.args.planes.now c.args.others.now c.loop-w.w
    c.differing-differ.result c.failing.result (λ i. (c.type_inv.values i).fits)
    (λ i. (c.type_inv.other_values i).fits) reports room c.failing.ensures c.if-failing-ne0.false c.loop-w.invariant

pub returns-then-failing-ne0-clause-no : goal.returns-then-failing-ne0-clause-no
returns-then-failing-ne0-clause-no c e =
    let room : c.loop-w.w < length c.args.others.now = omega arith in
    let reports = tells_comparing c.args.values.now c.args.other_values.now c.args.planes.now c.args.others.now
    c.loop-w.w c.closed.result c.differing-differ.result c.requires.whole.padded room c.requires.values
    c.differing-differ.ensures c.closed.ensures in
    let found = below_found c.args.values.now c.args.other_values.now c.args.planes.now c.args.others.now c.loop-w.w
    c.differing-differ.result c.failing.result (λ i. (c.type_inv.values i).fits)
    (λ i. (c.type_inv.other_values i).fits) reports room c.failing.ensures c.failing.type_inv c.if-failing-ne0.true in
    (found.0, omega (arith, found.1), found.2)
