use Rattle.tpw_occam_expressions.proofs.Elements.{does_element}
use Rattle.tpw_occam_expressions.proofs.subscripts.indexed_element.Goals as goal

pub returns-clause-makes : goal.returns-clause-makes
returns-clause-makes c arrays bytes i long h =
    does_element c.args.kind arrays c.args.code.now c.indexed.new.code c.load.new.code c.args.array bytes i long h
    (c.in_ok-indexed.ensures arrays i) (c.in_ok-load.ensures arrays c.args.array bytes i h)
