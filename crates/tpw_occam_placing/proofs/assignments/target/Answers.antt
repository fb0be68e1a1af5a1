use Rattle.std.proofs.Common.{◌∙◌, sym}
use Rattle.tpw_occam_placing.proofs.Assigning.{target_cell, target_element}
use Rattle.tpw_occam_placing.proofs.assignments.target.Goals as goal

pub returns-in-Some : goal.returns-in-Some
returns-in-Some c =
    target_cell c.args.tables.now c.args.scope.now c.args.to.now c.in-Cell.cell c.in-Some.n c.in-Cell.kind c.in-Cell.is
    (sym c.variable.ensures ∙ c.in-Some.is) (c.keeps.ensures c.if-keeps.true)

pub returns-in_ok-expression-in-Element : goal.returns-in_ok-expression-in-Element
returns-in_ok-expression-in-Element c =
    target_element c.args.tables.now c.args.scope.now c.args.to.now c.in-Element.array c.in-Some-array.n c.in-Element.kind
    c.in-Element.subscript c.in_ok-expression-in-Element.field-0 c.in-Element.is (sym c.array.ensures ∙ c.in-Some-array.is)
    c.in_ok-expression-in-Element.ensures
