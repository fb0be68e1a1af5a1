use Rattle.std.proofs.Common.{◌≡◌, ◌≤◌, ◌-◌, ℕ, List, map, take, length}
use Rattle.std.specs.Io.KnownBytes.{Appends}
use Rattle.tp_collect.specs.declared.collected.Entry.{Entry}
use Rattle.tpw_runs.specs.Reports.{ShowsAll}
use Rattle.tpw_runs.specs.Results.{AreResults, AreReady}
use Rattle.tpw_runs.proofs.batches.run_packets.Given as goal

-- the packets before a number were run
abbrev pub invariant-loop-number : goal.invariant-loop-number
invariant-loop-number g l =
    let report = g.S.Report in
    let all = map (λ p. p.items) l.packets in
    (l.number ≤ length l.packets)
    × (report.count l.report ≡ l.number)
    × AreReady g.D.LinkDevice.state l.image.image l.links.items
    × ((entries : List Entry)
    × (written : List ℕ)
    × AreResults l.image.image l.image.budget (take l.number all) entries
    × ShowsAll report.text report.becomes l.fn.report (take l.number all) entries written l.report
    × Appends (g.W.Write.contents l.fn.writer) (g.W.Write.contents l.writer) written)

abbrev pub decreases-loop-number : goal.decreases-loop-number
decreases-loop-number g l = length l.packets - l.number
