use Rattle.std.proofs.Common.{ap, sym, ◌∙◌}
use Rattle.tpw_occam_symbolic.specs.Program.{message_bytes}
use Rattle.tpw_occam_symbolic.proofs.Sizes.{result_size}
use Rattle.tpw_occam_symbolic.proofs.program.result_words.Goals as goal

pub returns-in-Array : goal.returns-in-Array
returns-in-Array c sound =
    result_size c.args.worker.now c.in-Array.a c.array_bytes.result sound c.in-Array.is c.array_bytes.ensures
    ∙ ap (message_bytes c.args.worker.now.arrays.items) (sym c.in-Array.is)
