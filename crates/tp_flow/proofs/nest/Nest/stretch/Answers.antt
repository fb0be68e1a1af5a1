use Rattle.std.proofs.Common.{◌≡◌, ℕ, ◌≤◌, length, ap, arith}
use Rattle.tp_flow.specs.declared.range.LoopRange.{LoopRange}
use Rattle.tp_flow.specs.NestRanges.{contains}
use Rattle.tp_flow.proofs.Alike.{each_more}
use Rattle.tp_flow.proofs.nest.Nest.stretch.Goals as goal

pub loop-range-preserved : goal.loop-range-preserved
loop-range-preserved c =
    let P : LoopRange → Type 0 = λ range. (at : ℕ) → c.args.first ≤ at → at ≤ c.min-last.result → contains range c.args.first ≡ contains range at in
    each_more P c.loops-range-items.result.now c.args.self.now c.loops-range-items.ensures.value
    c.loop-range.range-index c.loop-range-test.true (λ k d lt at ge le. c.loop-range.invariant k d lt at ge
    (omega arith)) _
    (λ at ge le. c.alike_up_to.ensures at ge (omega arith))

pub returns : goal.returns
returns c = λ at ge le k d lt. c.loop-range.invariant k d (omega (arith, ap length c.loops-range-items.ensures.value)) at ge le
