use Rattle.std.proofs.Common.{ap}
use Rattle.tpw_occam_names.specs.Scopes.{view_of, storage_of}
use Rattle.tpw_occam_scoped.specs.Made.{value_made}
use Rattle.tpw_occam_resolving.proofs.Making.{array_element, table_element}
use Rattle.tpw_occam_resolving.proofs.values.element.Goals as goal

pub returns-in_ok-element-in-Array : goal.returns-in_ok-element-in-Array
returns-in_ok-element-in-Array c =
    array_element (view_of c.args.view) (value_made c.args.i) c.in-Array.a c.in_ok-i-in-Array.i
    c.in_ok-element-in-Array.field-0 (ap storage_of c.in-Array.is) c.in_ok-i-in-Array.ensures
    c.in_ok-element-in-Array.ensures

pub returns-in_ok-listed-in-Varying : goal.returns-in_ok-listed-in-Varying
returns-in_ok-listed-in-Varying c =
    table_element (view_of c.args.view) c.args.i c.in-Table.table.now c.in_ok-table-in-Varying.table.items c.in-Varying.i
    c.in_ok-listed-in-Varying.field-0 (ap storage_of c.in-Table.is) c.in_ok-table-in-Varying.ensures.items c.in-Varying.is
    c.in_ok-listed-in-Varying.ensures
