use Rattle.tpw_occam_core.specs.Arithmetic.{applied}
use Rattle.std.proofs.lemmas.Result.{on_ok_weaker}
use Rattle.tpw_occam_expressions.proofs.Answering.{answers_above, count_of_no_shift}
use Rattle.tpw_occam_expressions.proofs.Immediates.{answers_worked, answers_two}
use Rattle.tpw_occam_expressions.proofs.operators.apply_constant.Goals as goal

pub returns-in_ok-instr-in-Some-clause-makes : goal.returns-in_ok-instr-in-Some-clause-makes
returns-in_ok-instr-in-Some-clause-makes c vb holds unshifted =
    answers_two c.args.code.now c.instr.new.self vb (applied c.args.operator vb c.args.c)
    (answers_worked c.args.code.now c.instr.new.self c.args.line c.in-Some.instr vb (applied c.args.operator vb c.args.c)
    (c.in-Some.ensures.some vb holds) c.in_ok-instr-in-Some.ensures)

pub returns-in_ok-instr-in-Some-clause-immediate : goal.returns-in_ok-instr-in-Some-clause-immediate
returns-in_ok-instr-in-Some-clause-immediate c vb holds has =
    answers_worked c.args.code.now c.instr.new.self c.args.line c.in-Some.instr vb (applied c.args.operator vb c.args.c)
    (c.in-Some.ensures.some vb holds) c.in_ok-instr-in-Some.ensures

pub returns-in_ok-a-in-None-clause-makes : goal.returns-in_ok-a-in-None-clause-makes
returns-in_ok-a-in-None-clause-makes c = on_ok_weaker c.apply.result (λ makes vb holds unshifted.
    answers_above c.args.code.now c.number.new.code c.apply.new.code vb c.args.c (applied c.args.operator vb c.args.c)
    c.in_ok-a-in-None.ensures.makes (makes vb c.args.c holds c.in_ok-a-in-None.ensures.holds (count_of_no_shift c.args.operator c.args.c unshifted)))
    c.apply.ensures.makes
