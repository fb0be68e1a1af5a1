use Rattle.std.proofs.Common.{◌≡◌, Some, slice_get, sym, ◌∙◌, arith}
use Rattle.tp_decode.specs.Cutting.{placed_from}
use Rattle.tp_flow.proofs.FlowFirst.{is_there, refused_here, passed_here, all_passed}
use Rattle.tp_flow.proofs.jumps.instruction_fault.Goals as goal

pub unwrap-placed-requires : goal.unwrap-placed-requires
unwrap-placed-requires c = is_there c.args.listing.now c.loop-i.i c.get.result (omega arith) c.get.ensures

pub returns-in-Some : goal.returns-in-Some
returns-in-Some c =
    let here : slice_get (placed_from 0 c.args.listing.now) c.loop-i.i ≡ Some c.unwrap-placed.result = sym c.get.ensures ∙ c.unwrap-placed.ensures in
    sym (refused_here c.args.image.now c.args.listing.now c.loop-i.i c.unwrap-placed.result here c.loop-i.invariant.passed c.in-Some.code (sym c.in-Some.ensures))

pub loop-i-preserved : goal.loop-i-preserved
loop-i-preserved c =
    let here : slice_get (placed_from 0 c.args.listing.now) c.loop-i.i ≡ Some c.unwrap-placed.result = sym c.get.ensures ∙ c.unwrap-placed.ensures in
    record {
      passed = passed_here c.args.image.now c.args.listing.now c.loop-i.i c.unwrap-placed.result here c.loop-i.invariant.passed (sym c.in_default.ensures);
      alike = c.reaching-stretch.ensures;
    }

pub returns : goal.returns
returns c = sym (all_passed c.args.image.now c.args.listing.now c.loop-i.i (omega arith) c.loop-i.invariant.passed)
