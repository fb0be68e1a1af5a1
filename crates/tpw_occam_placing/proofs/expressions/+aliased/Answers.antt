use Rattle.std.proofs.Common.{sym}
use Rattle.tpw_occam_placing.proofs.PlacingWithin.{placed_within, placed_element}
use Rattle.tpw_occam_placing.proofs.expressions.+aliased.Goals as goal

-- src/expressions.rt:14:1
pub returns-in_ok-within-in-Within-2 : goal.returns-in_ok-within-in-Within-2
returns-in_ok-within-in-Within-2 t c =
    placed_within c.args.tables.now c.args.scope.now c.args.aliases.now _ c.in-Within.cell c.in-Some-free_variable.n
    c.args.e.now c.in-Within.value c.in-Within.within c.deref-in-Within-2.result.now c.deref-in-Within-3.result.now
    c.in_ok-value-in-Within.value c.in_ok-within-in-Within.within c.in_ok-within-in-Within-2.field-0 c.in-Within.is
    c.deref-in-Within-2.ensures c.deref-in-Within-3.ensures (sym c.if-mentions.ensures) c.in-Some-free_variable.ensures.lies
    c.in-Some-free_variable.ensures.new c.in_ok-value-in-Within.ensures c.in_ok-within-in-Within.ensures
    c.in_ok-within-in-Within-2.ensures

pub returns-in_ok-element-in-Element : goal.returns-in_ok-element-in-Element
returns-in_ok-element-in-Element t c =
    placed_element c.args.tables.now c.args.scope.now c.args.aliases.now c.in-Element.array c.in-Some-array.n c.in-Element.kind
    c.args.e.now c.in-Element.subscript c.deref.result.now c.in_ok-subscript-in-Element.subscript
    c.in_ok-element-in-Element.field-0 c.in-Element.is c.deref.ensures c.in-Some-array.ensures
    c.in_ok-subscript-in-Element.ensures c.in_ok-element-in-Element.ensures
