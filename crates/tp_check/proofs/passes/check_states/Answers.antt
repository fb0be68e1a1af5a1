use Rattle.std.proofs.Common.{rules}
use Rattle.tp_check.specs.Joining.{is_join_at, is_kept_at}
use Rattle.tp_check.proofs.Verdict.{is_table, are_states_there}
use Rattle.tp_check.proofs.passes.check_states.Goals as goal

pub returns-clause-table : goal.returns-clause-table
returns-clause-table c =
    is_table c.args.image.now c.args.listing.now c.settle.ensures.in_range c.settle.ensures.spelled c.requires.kept
    (is_join_at c.in_ok-predecessors.predecessors) c.in_ok-predecessors.ensures.is_join c.in_ok-states.states.items
    (is_kept_at c.in_ok-predecessors.predecessors) _
    c.in_ok-states.ensures.settled c.in_ok-predecessors.ensures.is_kept (search rules)

pub returns-clause-states : goal.returns-clause-states
returns-clause-states c = are_states_there c.args.image.now c.args.listing.now c.settle.ensures.in_range
    c.settle.ensures.spelled c.requires.kept (is_join_at c.in_ok-predecessors.predecessors)
    c.in_ok-predecessors.ensures.is_join _ (returns-clause-table c)
