use Rattle.std.proofs.Common.{refl, sym, subst, arith}
use Rattle.tp_accept.specs.Capped.{AreCapped}
use Rattle.tp_accept.proofs.TableFilled.{counted_capped, counted_bound}
use Rattle.tp_accept.proofs.bound.budget.Goals as goal

pub whole_at-bytes-requires : goal.whole_at-bytes-requires
whole_at-bytes-requires c = subst AreCapped (sym c.deref.ensures.value) (counted_capped c.args.image.now.loops c.args.listing.now c.in_ok-costs.costs.items c.in_ok-costs.ensures)

pub returns-then-from-bytes-clause-refused : goal.returns-then-from-bytes-clause-refused
returns-then-from-bytes-clause-refused c =
    let counted = counted_bound c.args.image.now.loops c.args.listing.now c.deref.result.now c.in_ok-costs.costs.items
    c.whole_at-bytes.result c.whole_at-bytes.ensures.value c.deref.ensures.value c.in_ok-costs.ensures in
    λ _. (refl, omega (arith, counted))

pub returns-clause-value : goal.returns-clause-value
returns-clause-value c =
    let counted = counted_bound c.args.image.now.loops c.args.listing.now c.deref.result.now c.in_ok-costs.costs.items
    c.whole_at-bytes.result c.whole_at-bytes.ensures.value c.deref.ensures.value c.in_ok-costs.ensures in
    omega (arith, counted)

pub returns-clause-within : goal.returns-clause-within
returns-clause-within c =
    let counted = counted_bound c.args.image.now.loops c.args.listing.now c.deref.result.now c.in_ok-costs.costs.items
    c.whole_at-bytes.result c.whole_at-bytes.ensures.value c.deref.ensures.value c.in_ok-costs.ensures in
    omega (arith, counted)
