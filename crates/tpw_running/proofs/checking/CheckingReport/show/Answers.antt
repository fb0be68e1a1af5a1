use Rattle.std.proofs.Common.{◌≡◌, ◌++◌, ◌∙◌, Option, Some, None, ap, sym, arith}
use Rattle.std.specs.Option.{option_map}
use Rattle.tpw_occam_core.specs.Meaning.{Meant}
use Rattle.tpw_occam_interpreter.specs.declared.workers.Given.{Given}
use Rattle.tpw_occam_interpreter.specs.Workers.{IsGiven}
use Rattle.tpw_occam_scoped.specs.Meaning.{meaning}
use Rattle.tpw_runs.specs.Tallies.{counted}
use Rattle.tpw_runs.proofs.Forms.{one_counted}
use Rattle.tpw_running.specs.Checks.{given_value, other_text}
use Rattle.tpw_running.proofs.checking.CheckingReport.show.Goals as goal

given_is : (meant : Option Meant) (g : Option Given) → IsGiven meant g → option_map given_value g ≡ meant
given_is meant None h = sym h
given_is meant (Some g) h = sym h

pub returns-clause-count : goal.returns-clause-count
returns-clause-count c = ap counted c.add_entry.ensures ∙ one_counted c.args.self.now.form c.args.self.now.tally c.args.entry.now

pub returns-clause-text : goal.returns-clause-text
returns-clause-text c =
    let s = c.args.self.now in
    let out = c.args.out.now.items in
    let e = c.args.entry.now in
    let few = c.requires in
    c.in_ok-write_other.ensures
    ∙ ap (λ n. out ++ other_text s.style s.form s.budget n e (option_map given_value c.in_ok-meant.meant.given)) (c.packets-number.ensures (omega (arith, few)))
    ∙ ap (λ m. out ++ other_text s.style s.form s.budget (counted s.tally) e m) (given_is (meaning s.core.now c.args.packet.now) c.in_ok-meant.meant.given c.in_ok-meant.ensures)
