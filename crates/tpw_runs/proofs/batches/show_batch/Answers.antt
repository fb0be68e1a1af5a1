use Rattle.std.proofs.Common.{◌++◌, ◌∙◌, ap, arith, append_assoc}
use Rattle.tpw_runs.proofs.Showing.{shows_more}
use Rattle.tpw_runs.proofs.batches.show_batch.Goals as goal

pub loop-i-preserved : goal.loop-i-preserved
loop-i-preserved g c =
    let report = g.S.Report in
    let i = c.loop-i.i in
    let shown = c.loop-i.invariant.1.0 in
    let one = report.text c.loop-i.report c.deref.result.now c.index-entries-i.result in (
      omega (arith, c.in_ok-show.ensures.count, c.loop-i.invariant.0),
      (
        shown ++ one,
        c.in_ok-show.ensures.text ∙ ap (λ l. l ++ one) c.loop-i.invariant.1.1 ∙ append_assoc c.args.out.now.items shown one,
        shows_more report.text report.becomes (λ p. p.items) c.args.packets.now c.args.entries.now i c.index-packets-i.result
            c.index-entries-i.result c.deref.result.now c.args.report.now c.loop-i.report c.show.new.self shown
            (omega (arith, c.loop-i-test.true, c.requires.each)) c.loop-i-test.true c.index-packets-i.is c.index-entries-i.is
            c.deref.ensures.value c.loop-i.invariant.1.2 c.in_ok-show.ensures.next,
      ),
    )
