use Rattle.std.proofs.lemmas.Result.{on_ok_weaker}
use Rattle.tpw_occam_symbolic.specs.declared.items.Item.TheVariants.{Variable}
use Rattle.tpw_occam_code.proofs.Storing.{does_store}
use Rattle.tpw_occam_code.proofs.assignments.store_variable.Goals as goal

pub returns : goal.returns
returns c = on_ok_weaker c.emit.result (λ is arrays word.
    does_store arrays c.args.code.now c.emit.new.self c.args.line (Variable c.args.x) 0 word is) c.emit.ensures
