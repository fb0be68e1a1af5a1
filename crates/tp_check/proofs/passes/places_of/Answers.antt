use Rattle.std.proofs.Common.{◌-◌, length, slice_get, ap, ◌∙◌, arith}
use Rattle.tp_check.proofs.Places.{last_above, no_last}
use Rattle.tp_check.proofs.passes.places_of.Goals as goal

pub returns-in-Some-clause-all : goal.returns-in-Some-clause-all
returns-in-Some-clause-all c at starts =
    let le = last_above 0 c.args.listing.now at c.in-Some.last.now (c.in-Some.ensures.value ∙ ap (λ xs. slice_get xs (length xs - 1)) c.starts.ensures) starts in
    omega (arith, le)

pub returns-in-None-clause-all : goal.returns-in-None-clause-all
returns-in-None-clause-all c at starts = absurd (no_last 0 c.args.listing.now at (c.in-None.ensures.value ∙ ap (λ xs. slice_get xs (length xs - 1)) c.starts.ensures) starts)
