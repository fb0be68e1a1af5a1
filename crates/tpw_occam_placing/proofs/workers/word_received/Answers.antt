use Rattle.std.proofs.Common.{rules, sym, ◌∙◌}
use Rattle.tpw_occam_placing.proofs.Working.{cell_received, element_received}
use Rattle.tpw_occam_placing.proofs.workers.word_received.Goals as goal

pub returns-in-Some : goal.returns-in-Some
returns-in-Some c =
    cell_received c.args.tables.now c.args.scope.now c.args.to.now c.in-Cell.cell c.in-Some.n c.in-Cell.kind c.in-Cell.is
    (search rules) (sym c.variable.ensures ∙ c.in-Some.is)

pub returns-in_ok-taken-in-Element : goal.returns-in_ok-taken-in-Element
returns-in_ok-taken-in-Element c =
    element_received c.args.tables.now c.args.scope.now c.args.to.now _ c.in-Some-free_variable.n c.in_ok-to-in-Element.to
    c.in_ok-taken-in-Element.field-0 c.in-Some-free_variable.ensures.lies c.in-Some-free_variable.ensures.new
    c.in_ok-to-in-Element.ensures c.in_ok-taken-in-Element.ensures
