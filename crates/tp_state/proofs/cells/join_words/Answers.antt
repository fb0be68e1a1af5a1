use Rattle.std.proofs.Common.{◌≡◌, length, sym, ◌∙◌}
use Rattle.tp_state.proofs.SeenLemmas.{length_seen, whole_joined, seen_joined, tells_seen}
use Rattle.tp_state.proofs.AgreeLemmas.{agree_seen}
use Rattle.tp_state.proofs.cells.join_words.Goals as goal

pub join_planes-requires-clause-agree : goal.join_planes-requires-clause-agree
join_planes-requires-clause-agree c e =
    let long : length c.args.other_values.now ≡ length c.args.values.now =
    sym (length_seen c.args.other_values.now c.args.others.now) ∙ c.requires.long ∙
    length_seen c.args.values.now c.args.planes.now in
    agree_seen c.args.values.now c.args.other_values.now c.args.planes.now c.args.others.now c.requires.whole long
    (λ i. (c.type_inv.values i).fits) (λ i. (c.type_inv.other_values i).fits) (c.requires.agree e)

pub returns-clause-whole : goal.returns-clause-whole
returns-clause-whole c =
    let long : length c.args.other_values.now ≡ length c.args.values.now =
    sym (length_seen c.args.other_values.now c.args.others.now) ∙ c.requires.long ∙
    length_seen c.args.values.now c.args.planes.now in
    whole_joined c.args.values.now c.args.other_values.now c.args.planes.now c.args.others.now c.join_planes.new.planes c.requires.whole c.requires.others long c.join_planes.ensures.joined

pub returns-clause-value : goal.returns-clause-value
returns-clause-value c =
    let long : length c.args.other_values.now ≡ length c.args.values.now =
    sym (length_seen c.args.other_values.now c.args.others.now) ∙ c.requires.long ∙
    length_seen c.args.values.now c.args.planes.now in
    seen_joined c.args.values.now c.args.other_values.now c.args.planes.now c.args.others.now c.join_planes.new.planes c.requires.whole long c.join_planes.ensures.joined

pub returns-clause-changed : goal.returns-clause-changed
returns-clause-changed c =
    let long : length c.args.other_values.now ≡ length c.args.values.now =
    sym (length_seen c.args.other_values.now c.args.others.now) ∙ c.requires.long ∙
    length_seen c.args.values.now c.args.planes.now in
    let whole = whole_joined c.args.values.now c.args.other_values.now c.args.planes.now c.args.others.now
    c.join_planes.new.planes c.requires.whole c.requires.others long c.join_planes.ensures.joined in
    tells_seen c.args.values.now c.args.planes.now c.join_planes.new.planes c.join_planes.result c.requires.whole whole
    c.join_planes.ensures.joined.long c.join_planes.ensures.stays c.join_planes.ensures.moves
