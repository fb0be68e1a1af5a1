use Rattle.std.proofs.Common.{◌≡◌, None, rules}
use Rattle.std.proofs.lemmas.Result.{err_from_is_err_and}
use Rattle.tp_image.specs.Faults.{first_fault}
use Rattle.tp_accept.proofs.AnswerLemmas.{no_fault, refused_states, state_answer}
use Rattle.tp_accept.proofs.Exact.{acceptable_of, settled_allowed, settled_refused, refused_alike}
use Rattle.tp_accept.proofs.NeverWrong.{never_goes_wrong_of}
use Rattle.tp_accept.proofs.acceptance.accept.Goals as goal

pub returns-in_err-nest-clause-refused : goal.returns-in_err-nest-clause-refused
returns-in_err-nest-clause-refused c = search rules

pub returns-in_err-nest-clause-exact : goal.returns-in_err-nest-clause-exact
returns-in_err-nest-clause-exact c = refused_alike c.args.text.items c.from_residual-in_err-nest.result (returns-in_err-nest-clause-refused c)

pub returns-in_err-check_states-clause-refused : goal.returns-in_err-check_states-clause-refused
returns-in_err-check_states-clause-refused c =
    let p = err_from_is_err_and c.from_residual-in_err-check_states.result c.from_residual-in_err-check_states.ensures.1 in
    let none : first_fault c.args.text.items ≡ None = no_fault c.args.text.items c.in_ok-image.image (search rules) in
    rw (p.1, p.2)
    (refused_states c.args.text.items c.in_ok-image.image c.in_ok-listing.listing c.in_err-check_states.field-0.0 none (search rules) (search rules) (search rules) (search rules))

pub returns-in_err-check_states-clause-exact : goal.returns-in_err-check_states-clause-exact
returns-in_err-check_states-clause-exact c = refused_alike c.args.text.items c.from_residual-in_err-check_states.result (returns-in_err-check_states-clause-refused c)

pub returns-in_err-budget-clause-refused : goal.returns-in_err-budget-clause-refused
returns-in_err-budget-clause-refused c =
    let p = err_from_is_err_and c.from_residual-in_err-budget.result c.from_residual-in_err-budget.ensures.1 in
    let found = c.in_ok-check_states.ensures.table in
    rw (p.1, p.2) λ some.
    state_answer c.args.text.items c.in_ok-image.image c.in_ok-listing.listing _ (no_fault c.args.text.items c.in_ok-image.image (search rules)) (search rules) (search rules) (search rules)
    (settled_refused c.in_ok-image.image c.in_ok-listing.listing (found.whole, found.verdict) c.in_err-budget.field-0.0 c.in_err-budget.ensures.refused some)

pub returns-in_err-budget-clause-exact : goal.returns-in_err-budget-clause-exact
returns-in_err-budget-clause-exact c = refused_alike c.args.text.items c.from_residual-in_err-budget.result (returns-in_err-budget-clause-refused c)

pub returns-clause-allowed : goal.returns-clause-allowed
returns-clause-allowed c =
    let found = c.in_ok-check_states.ensures.table in
    state_answer c.args.text.items c.in_ok-image.image c.in_ok-listing.listing _ (no_fault c.args.text.items c.in_ok-image.image (search rules)) (search rules) (search rules) (search rules)
    (settled_allowed c.in_ok-image.image c.in_ok-listing.listing (found.whole, found.verdict) c.in_ok-budget.budget c.in_ok-budget.ensures.value c.in_ok-budget.ensures.within)

pub returns-clause-acceptable : goal.returns-clause-acceptable
returns-clause-acceptable c =
    let found = c.in_ok-check_states.ensures.table in
    acceptable_of c.in_ok-image.image c.in_ok-listing.listing c.in_ok-budget.budget (search rules) (search rules)
    (search rules) (found.whole, found.verdict) c.in_ok-budget.ensures.value c.in_ok-budget.ensures.within

pub returns-clause-ends : goal.returns-clause-ends
returns-clause-ends c = never_goes_wrong_of c.in_ok-image.image c.in_ok-budget.budget ∣ returns-clause-acceptable c ∣₁

pub invariant_of-result : goal.invariant_of-result
invariant_of-result c =
    let found = c.in_ok-check_states.ensures.table in
    record {
      acceptable = ∣ acceptable_of c.in_ok-image.image c.in_ok-listing.listing c.in_ok-budget.budget (search rules)
          (search rules) (search rules) (found.whole, found.verdict) c.in_ok-budget.ensures.value
          c.in_ok-budget.ensures.within ∣₁;
    }
