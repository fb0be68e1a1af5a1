use Rattle.std.proofs.lemmas.Result.{on_ok_weaker}
use Rattle.tpw_occam_symbolic.specs.declared.items.Item.TheVariants.{Array}
use Rattle.tpw_occam_code.proofs.Storing.{does_store}
use Rattle.tpw_occam_code.proofs.assignments.store_word.Goals as goal

pub returns : goal.returns
returns c = on_ok_weaker c.emit.result (λ is arrays value.
    does_store arrays c.args.code.now c.emit.new.self c.args.line (Array c.args.array) c.args.word value is) c.emit.ensures
