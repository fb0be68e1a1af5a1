use Rattle.std.proofs.Common.{sym, ap, ◌∙◌}
use Rattle.tpw_occam_core.specs.Meaning.{bind}
use Rattle.tpw_occam_meaning.specs.Values.{Varying, of_one, monadic}
use Rattle.tpw_occam_scoped.specs.Made.{value_made}
use Rattle.tpw_occam_resolving.proofs.operators.of_one.Goals as goal

pub returns-in_ok-monadic_expression-in-Varying : goal.returns-in_ok-monadic_expression-in-Varying
returns-in_ok-monadic_expression-in-Varying c =
    ap Varying c.in_ok-monadic_expression-in-Varying.ensures
    ∙ sym (ap (λ v. of_one (λ a. bind a (monadic c.args.operator)) (value_made v)) c.in-Varying.is)
