use Rattle.std.proofs.Common.{drop, arith, length-drop}
use Rattle.tp_prefix.specs.Reading.{Reads}
use Rattle.tp_prefix.proofs.ReadingLemmas.{only_one, is_cut_off, is_too_long, said_cut_off, said_too_long, rest_is}
use Rattle.tp_prefix.proofs.reading.read_one.Goals as goal

pub returns-clause-only : goal.returns-clause-only
returns-clause-only c s stands =
    let reads : Reads (drop c.args.at c.args.code.now) c.args.at c.read_front.result = rw rest_is at c.read_front.ensures in
    only_one (drop c.args.at c.args.code.now) c.args.at c.read_front.result s reads (stands.forward, omega (arith, length-drop c.args.at c.args.code.now, stands.within), stands.spelling)

pub returns-clause-cut_off : goal.returns-clause-cut_off
returns-clause-cut_off c =
    let reads : Reads (drop c.args.at c.args.code.now) c.args.at c.read_front.result = rw rest_is at c.read_front.ensures in
    (said_cut_off _ _ _ reads, is_cut_off _ _ _ reads)

pub returns-clause-too_long : goal.returns-clause-too_long
returns-clause-too_long c =
    let reads : Reads (drop c.args.at c.args.code.now) c.args.at c.read_front.result = rw rest_is at c.read_front.ensures in
    (said_too_long _ _ _ reads, is_too_long _ _ _ reads)
