use Rattle.std.proofs.Common.{◌≡◌, length, sym, ◌∙◌, arith}
use Rattle.tp_state.proofs.SeenLemmas.{length_seen, below_seen, not_below_seen}
use Rattle.tp_state.proofs.cells.words_below.Goals as goal

pub returns-clause-yes : goal.returns-clause-yes
returns-clause-yes c e =
    let long : length c.args.other_values.now ≡ length c.args.values.now =
    sym (length_seen c.args.other_values.now c.args.others.now) ∙ c.requires.long ∙
    length_seen c.args.values.now c.args.planes.now in
    below_seen c.args.values.now c.args.other_values.now c.args.planes.now c.args.others.now c.requires.whole long (c.planes_below.ensures.yes e)

pub returns-clause-no : goal.returns-clause-no
returns-clause-no c e =
    let long : length c.args.other_values.now ≡ length c.args.values.now =
    sym (length_seen c.args.other_values.now c.args.others.now) ∙ c.requires.long ∙
    length_seen c.args.values.now c.args.planes.now in
    let longer : length c.args.others.now ≡ length c.args.planes.now = omega (arith, c.requires.whole.enough, c.requires.whole.no_more, c.requires.others.enough, c.requires.others.no_more, long) in
    not_below_seen c.args.values.now c.args.other_values.now c.args.planes.now c.args.others.now c.requires.whole c.requires.others long longer (c.planes_below.ensures.no e)
