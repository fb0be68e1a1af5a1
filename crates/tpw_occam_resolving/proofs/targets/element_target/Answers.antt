use Rattle.std.proofs.Common.{sym, ◌∙◌}
use Rattle.tpw_occam_names.specs.Scopes.{view_of}
use Rattle.tpw_occam_scoped.specs.Made.{value_made}
use Rattle.tpw_occam_resolving.proofs.Making.{element_targeted}
use Rattle.tpw_occam_resolving.proofs.targets.element_target.Goals as goal

pub returns-in_ok-expression-in-Some : goal.returns-in_ok-expression-in-Some
returns-in_ok-expression-in-Some c =
    element_targeted (view_of c.args.view) (value_made c.args.i) c.in-Some.array c.element_type.result
    c.in_ok-expression-in-Some.field-0 (sym c.written_array.ensures ∙ c.in-Some.is) c.element_type.ensures
    c.in_ok-expression-in-Some.ensures
