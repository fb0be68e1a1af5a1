use Rattle.std.proofs.Common.{ap, ◌∙◌}
use Rattle.tpw_runs.specs.Tallies.{counted}
use Rattle.tpw_runs.proofs.Forms.{one_counted}
use Rattle.tpw_runs.proofs.report.ShownReport.show.Goals as goal

pub returns-clause-count : goal.returns-clause-count
returns-clause-count c = ap counted c.add_entry.ensures ∙ one_counted c.args.self.now.form c.args.self.now.tally c.args.entry.now
