use Rattle.std.proofs.Common.{subst}
use Rattle.tp_check.specs.Joining.{is_join_at}
use Rattle.tp_check.proofs.Least.{none_respected}
use Rattle.tp_check.proofs.Verdict.{IsBetween, none_between, one_more, is_refusal, is_settled, refusal_handed_on}
use Rattle.tp_check.proofs.passes.settle.Goals as goal

pub loop-is_left-init : goal.loop-is_left-init
loop-is_left-init c =
    none_between c.args.image.now c.args.listing.now c.begin.ensures.in_range c.law_is_spelled.ensures c.requires.kept (is_join_at c.args.predecessors.now) c.requires.join c.in_ok-passes.passes
    (c.in_ok-passes.ensures.begins c.args.listing.now (is_join_at c.args.predecessors.now) c.requires.all c.requires.kept c.requires.join)

pub pass-requires : goal.pass-requires
pass-requires c =
    let on = c.loop-is_left.invariant.after in
    record {
      range = c.begin.ensures.in_range;
      kept = c.requires.kept;
      spelled = c.law_is_spelled.ensures;
      nest = c.requires.nest;
      join = c.requires.join;
      places = on.places;
      rests = on.rests;
      way = (on.whole, on.before);
    }

pub returns-in_err-is_left-clause-refused : goal.returns-in_err-is_left-clause-refused
returns-in_err-is_left-clause-refused c =
    let on = c.loop-is_left.invariant in
    refusal_handed_on c.args.image.now c.args.listing.now c.from_residual-in_err-is_left.result c.in_err-is_left.field-0.0 c.from_residual-in_err-is_left.ensures.1
    (is_refusal c.args.image.now c.args.listing.now c.begin.ensures.in_range c.law_is_spelled.ensures c.requires.kept
    (is_join_at c.args.predecessors.now) c.requires.join c.loop-is_left.passes c.loop-is_left.is_left on
    c.in_err-is_left.field-0.0 _
    (c.in_err-is_left.ensures.gives on.after.whole on.after.before))

pub returns-in_err-is_left-clause-exact : goal.returns-in_err-is_left-clause-exact
returns-in_err-is_left-clause-exact c =
    none_respected c.args.image.now c.args.listing.now c.begin.ensures.in_range c.requires.kept c.law_is_spelled.ensures c.from_residual-in_err-is_left.result (returns-in_err-is_left-clause-refused c)

pub loop-is_left-preserved : goal.loop-is_left-preserved
loop-is_left-preserved c =
    one_more c.args.image.now c.args.listing.now c.begin.ensures.in_range c.law_is_spelled.ensures c.requires.kept
    (is_join_at c.args.predecessors.now) c.requires.join c.loop-is_left.passes c.pass.new.self c.loop-is_left.is_left
    c.in_ok-is_left.is_left c.loop-is_left.invariant
    c.in_ok-is_left.ensures.rests c.in_ok-is_left.ensures.leaves c.in_ok-is_left.ensures.gives

pub returns-clause-settled : goal.returns-clause-settled
returns-clause-settled c =
    is_settled c.args.image.now c.args.listing.now c.begin.ensures.in_range c.law_is_spelled.ensures c.requires.kept (is_join_at c.args.predecessors.now) c.requires.join c.loop-is_left.passes
    (subst (IsBetween c.args.image.now c.args.listing.now (is_join_at c.args.predecessors.now) c.loop-is_left.passes) c.loop-is_left-test.false c.loop-is_left.invariant)
