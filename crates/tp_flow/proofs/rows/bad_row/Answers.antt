use Rattle.std.proofs.Common.{◌≡◌, ℕ, Bool}
use Rattle.tp_image.specs.declared.image.LoopRow.{LoopRow}
use Rattle.tp_flow.specs.RowRules.{is_bad_row}
use Rattle.tp_flow.proofs.FlowSearch.{numbered_more, numbered_here, numbered_all}
use Rattle.tp_flow.proofs.rows.bad_row.Goals as goal

pub returns-then-is_bad_row : goal.returns-then-is_bad_row
returns-then-is_bad_row c =
    let rows : c.deref-row-items.result.now ≡ c.args.image.now.loops = cc in
    let test : ℕ × LoopRow → Bool = λ row. is_bad_row c.args.image.now c.args.listing.now row.0 row.1 in
    numbered_here test c.args.image.now.loops c.deref-row-items.result.now rows c.loop-i.i _ c.is_bad_row.result c.loop-i-test.true c.loop-i.invariant c.is_bad_row.ensures c.if-is_bad_row.true

pub loop-i-preserved : goal.loop-i-preserved
loop-i-preserved c =
    let rows : c.deref-row-items.result.now ≡ c.args.image.now.loops = cc in
    let test : ℕ × LoopRow → Bool = λ row. is_bad_row c.args.image.now c.args.listing.now row.0 row.1 in
    numbered_more test c.args.image.now.loops c.deref-row-items.result.now rows c.loop-i.i _ c.is_bad_row.result c.loop-i-test.true c.loop-i.invariant c.is_bad_row.ensures c.if-is_bad_row.false

pub returns : goal.returns
returns c =
    let rows : c.deref-row-items.result.now ≡ c.args.image.now.loops = cc in
    let test : ℕ × LoopRow → Bool = λ row. is_bad_row c.args.image.now c.args.listing.now row.0 row.1 in
    numbered_all test c.args.image.now.loops c.deref-row-items.result.now rows c.loop-i.i c.loop-i-test.false c.loop-i.invariant
