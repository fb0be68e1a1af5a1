-- Refusals that are handed on.
use Rattle.std.proofs.Common.{◌≡◌, Bool, Result, Ok, Err, ap, ◌∙◌, rules}
use Rattle.std.specs.Prelude.{IsErrAnd}
use Rattle.tp_state.specs.declared.fault.StateFault.{StateFault}
use Rattle.tp_state.specs.declared.fault.StateFault.TheVariants.{Refused, Memory}
use Rattle.tp_state.specs.Answer.{◌>>=◌}
use Rattle.tp_check.specs.Tables.{Table}
use Rattle.tp_check.specs.Steps.{Carries}

-- a fault that is handed on
pub carried_on : {X : Type 0} (r : Result X StateFault) (e : StateFault) (wanted : Result Table StateFault)
    (P Q : Table → Type 0) → IsErrAnd r (λ x. x ≡ e) → Carries {X = Bool} (Err e) wanted P → Carries r wanted Q
carried_on (Ok x) e wanted P Q is carries = absurd (search rules)
carried_on (Err x) (Refused code place) wanted P Q is carries = rw is carries
carried_on (Err x) Memory wanted P Q is carries = rw is tt

-- what follows a refusal of the first part
pub then_more : (e : StateFault) (wanted first : Result Table StateFault) (more : Table → Result Table StateFault)
    (P Q : Table → Type 0) → wanted ≡ (first >>= more) → Carries {X = Bool} (Err e) first P →
    Carries {X = Bool} (Err e) wanted Q
then_more (Refused code place) wanted first more P Q is refuses = is ∙ ap (λ r. r >>= more) refuses
then_more Memory wanted first more P Q is refuses = tt
