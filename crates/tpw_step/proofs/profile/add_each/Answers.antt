use Rattle.std.proofs.Common.{◌≡◌, ◌+◌, ◌<◌, get_or, length, set, ap, ◌∙◌, arith}
use Rattle.tpw_step.proofs.Adding.{one_more, as_before}
use Rattle.tpw_step.proofs.profile.add_each.Goals as goal

pub loop-i-preserved : goal.loop-i-preserved
loop-i-preserved c =
    let xs = c.args.counts.now in
    let ys = c.args.more.now in
    let i = c.loop-i.i in
    let there : i < length ys = omega (arith, c.loop-i-test.true, c.requires.long) in
    let now : get_or c.loop-i.counts i 0 ≡ get_or xs i 0 =
    ap (λ l. get_or l i 0) c.loop-i.invariant ∙ as_before xs ys i 0 c.loop-i-test.true there in
    ap (λ n. set c.loop-i.counts i (n + get_or ys i 0)) now ∙ ap (λ l. set l i (get_or xs i 0 + get_or ys i 0)) c.loop-i.invariant
    ∙ one_more xs ys i 0 0 c.loop-i-test.true there
