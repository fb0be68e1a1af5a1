use Rattle.std.proofs.Common.{◌≡◌, ◌+◌, ◌++◌, ℕ, List, map, take}
use Rattle.tpw_runs.specs.Reports.{ShowsAll}
use Rattle.tpw_runs.proofs.batches.show_batch.Given as goal

-- the packets before the index are shown
abbrev pub invariant-loop-i : goal.invariant-loop-i
invariant-loop-i g l =
    let report = g.S.Report in
    (report.count l.report ≡ report.count l.fn.report + l.i)
    × ((shown : List ℕ)
    × (l.out.items ≡ l.fn.out.items ++ shown)
    × ShowsAll report.text report.becomes l.fn.report (take l.i (map (λ p. p.items) l.packets)) (take l.i l.entries) shown l.report)
