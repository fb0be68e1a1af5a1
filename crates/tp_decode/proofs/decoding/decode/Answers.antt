use Rattle.tp_decode.proofs.DecodingLemmas.{said_cutting, said_only, said_refused, said_first}
use Rattle.tp_decode.proofs.decoding.decode.Goals as goal

pub returns-clause-cutting : goal.returns-clause-cutting
returns-clause-cutting c = said_cutting c.args.code.now c.cut.result c.cut.ensures

pub returns-clause-only : goal.returns-clause-only
returns-clause-only c cuts is = said_only c.args.code.now c.cut.result cuts c.cut.ensures is

pub returns-clause-refused : goal.returns-clause-refused
returns-clause-refused c = said_refused c.args.code.now c.cut.result c.cut.ensures

pub returns-clause-first : goal.returns-clause-first
returns-clause-first c e is = said_first c.args.code.now c.cut.result e c.cut.ensures is
