use Rattle.std.proofs.Common.{◌≡◌, ◌-◌, suc, length, ap, sym, ◌∙◌, subst, arith, replicate}
use Rattle.tp_decode.specs.Cutting.{code_of}
use Rattle.tp_flow.proofs.FlowFirst.{is_there}
use Rattle.tp_flow.proofs.FlowSpelled.{each_some}
use Rattle.tp_accept.specs.Capped.{AreCapped, uncounted}
use Rattle.tp_accept.proofs.TableFilled.{HasCostsFrom, placed_within, none_yet, all_capped, one_more, all_counted}
use Rattle.tp_accept.proofs.bound.costs.Goals as goal

pub loop-i-init : goal.loop-i-init
loop-i-init c =
    let all : c.in_ok-costs.costs.items ≡ replicate c.len.result uncounted = c.in_ok-costs.ensures.items_if_clones_equal (λ y h. h) in
    let bytes : c.len.result ≡ length (code_of c.args.listing.now) = omega (arith, c.len.ensures, ap length c.requires.joined, ap (λ image. length image.code) c.image.view_is) in
    record {
      below = omega arith;
      found = rw (all, c.len-i.ensures) (none_yet c.args.image.now.loops c.args.listing.now c.len.result bytes);
    }

pub unwrap-placed-requires : goal.unwrap-placed-requires
unwrap-placed-requires c = is_there c.args.listing.now (c.loop-i.i - 1) c.get.result (omega arith) c.get.ensures

pub cost_of-requires-clause-capped : goal.cost_of-requires-clause-capped
cost_of-requires-clause-capped c = subst AreCapped (sym c.deref.ensures.value) (all_capped c.args.image.now.loops c.args.listing.now c.loop-i.costs.items c.loop-i.i c.loop-i.invariant.found)

pub cost_of-requires-clause-order : goal.cost_of-requires-clause-order
cost_of-requires-clause-order c = (placed_within 0 c.args.listing.now (c.loop-i.i - 1) c.unwrap-placed.result
    (each_some c.args.listing.now c.requires.each) (sym c.get.ensures ∙ c.unwrap-placed.ensures)).order

pub index_mut-requires : goal.index_mut-requires
index_mut-requires c =
    let placed = placed_within 0 c.args.listing.now (c.loop-i.i - 1) c.unwrap-placed.result (each_some c.args.listing.now c.requires.each) (sym c.get.ensures ∙ c.unwrap-placed.ensures) in
    omega (arith, placed.within, c.loop-i.invariant.found.long, c.deref.ensures.len, ap length c.deref.ensures.value)

pub loop-i-preserved : goal.loop-i-preserved
loop-i-preserved c =
    let costs : c.deref.result.now ≡ c.loop-i.costs.items = c.deref.ensures.value in
    let more : c.loop-i.i ≡ suc (c.loop-i.i - 1) = omega arith in
    let found : HasCostsFrom c.args.image.now.loops c.args.listing.now c.loop-i.costs.items (suc (c.loop-i.i - 1)) =
    subst (HasCostsFrom c.args.image.now.loops c.args.listing.now c.loop-i.costs.items) more c.loop-i.invariant.found
    in
    record {
      below = omega arith;
      found = one_more c.args.image.now.loops c.args.listing.now c.loop-i.costs.items (c.loop-i.i - 1)
          c.unwrap-placed.result c.cost_of.result (each_some c.args.listing.now c.requires.each)
          (sym c.get.ensures ∙ c.unwrap-placed.ensures) (rw costs at c.cost_of.ensures) found;
    }

pub returns : goal.returns
returns c = all_counted c.args.image.now.loops c.args.listing.now c.loop-i.costs.items c.loop-i.i (omega arith) c.loop-i.invariant.found
