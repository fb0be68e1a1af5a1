-- What stands behind declarations, and what a FUNCTION with a body does where it is called.
use Rattle.std.specs.Prelude.{ℕ, List, map}
use Rattle.tpw_occam_meaning.specs.Calls.{entered}
use Rattle.tpw_occam_meaning.specs.Effects.{Effect}
use Rattle.tpw_occam_meaning.specs.Names as text
use Rattle.tpw_occam_meaning.specs.Names.{Names, taking}
use Rattle.tpw_occam_meaning.specs.Processes.{run, valued}
use Rattle.tpw_occam_names.specs.Scopes.{names_of, form_of}
use Rattle.tpw_occam_resolving.specs.declared.functions.Call.{Call}
use Rattle.tpw_occam_resolving.specs.declared.rest.Rest.{Rest}
use Rattle.tpw_occam_resolving.specs.declared.rest.Rest.TheVariants as rest
use Rattle.tpw_occam_resolving.specs.Passing.{place_of}

-- what is done behind declarations, or where a call enters
abbrev pub after_of : Rest → Names → ℕ → Effect
after_of (rest.Process p) names d = run p.now names d
after_of (rest.Valued body results) names d = valued body.now (map place_of results.now) names d

-- what a FUNCTION with a body does for the places of its results
abbrev pub given_to : Call → Names → List text.Place → ℕ → Effect
given_to call names results d =
    entered call.arguments.now (map form_of call.forms.now)
    (taking call.takes.now (valued call.body.now results) (names_of call.own.now)) names d
