use Rattle.std.proofs.lemmas.Result.{on_ok_weaker}
use Rattle.tpw_occam_expressions.proofs.Elements.{does_base}
use Rattle.tpw_occam_expressions.proofs.subscripts.base.Goals as goal

pub returns : goal.returns
returns c = on_ok_weaker c.indexed.result (λ indexes arrays v small.
    does_base arrays c.args.code.now c.emit.new.self c.indexed.new.code c.args.line c.args.offset.variable c.args.array v small
    c.in_ok-emit.ensures (indexes arrays v)) c.indexed.ensures
