use Rattle.tpw_occam_symbolic.proofs.Words.{applied_small}
use Rattle.tpw_occam_expressions.proofs.operators.result_value.Goals as goal

pub returns : goal.returns
returns c vb va b a = record {
  small = applied_small c.args.operator vb va b.small a.small;
  source = c.result_range.ensures.contains vb va b.small a.small b.source a.source;
  known = c.result_range-2.ensures.contains vb va b.small a.small b.known a.known;
}
