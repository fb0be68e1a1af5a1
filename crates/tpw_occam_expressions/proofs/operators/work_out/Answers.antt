use Rattle.std.proofs.Common.{ap, ◌∙◌, Some}
use Rattle.std.proofs.lemmas.Result.{on_ok_weaker}
use Rattle.tpw_occam_core.specs.Arithmetic.{applied}
use Rattle.tpw_occam_expressions.proofs.Machines.{makes_pair, makes_equal, working_same}
use Rattle.tpw_occam_expressions.proofs.operators.work_out.Goals as goal

pub returns-in_ok-instr-in-Equal : goal.returns-in_ok-instr-in-Equal
returns-in_ok-instr-in-Equal c = on_ok_weaker c.instr-in-Equal.result (λ is b a hb ha twins count.
    rw c.in-Equal.is (makes_equal c.args.code.now c.instr.new.self c.instr-in-Equal.new.self c.args.line b a hb ha
    c.in_ok-instr-in-Equal.ensures is)) c.instr-in-Equal.ensures

pub returns-in_default : goal.returns-in_default
returns-in_default c = on_ok_weaker c.instr-in_default.result (λ is b a hb ha twins count.
    makes_pair _ _ c.args.line c.instr_of.result b a (applied c.args.operator b a) is
    (c.instr_of.ensures.works b a twins count ∙ ap (λ o. Some (applied o b a)) (working_same c.args.operator c.in_default.not-Equal)))
    c.instr-in_default.ensures
