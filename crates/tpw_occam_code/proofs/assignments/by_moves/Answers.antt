use Rattle.std.proofs.Common.{refl, ap, sym, subst, arith}
use Rattle.std.proofs.lemmas.Result.{on_ok_weaker}
use Rattle.tpw_occam_expressions.specs.declared.emitter.Allocation.{Allocation}
use Rattle.tpw_occam_code.specs.Registers.{FitAll}
use Rattle.tpw_occam_code.proofs.Settling.{moves_assign}
use Rattle.tpw_occam_code.proofs.Ordering.{settled_numbered}
use Rattle.tpw_occam_code.proofs.Registers.{registers_assign}
use Rattle.tpw_occam_code.proofs.assignments.by_moves.Goals as goal

pub make_moves-requires : goal.make_moves-requires
make_moves-requires c = settled_numbered c.args.all.now c.args.moves.now c.requires

pub make_moves-requires-2 : goal.make_moves-requires-2
make_moves-requires-2 c = settled_numbered c.args.all.now c.args.moves.now c.requires

pub returns-then-not-keep_any-clause-assigns : goal.returns-then-not-keep_any-clause-assigns
returns-then-not-keep_any-clause-assigns c = on_ok_weaker c.make_moves.result (λ makes.
    moves_assign c.args.emitter.now c.args.code.now c.make_moves.new.code c.args.all.now c.args.moves.now _ c.requires
    (makes (ap (λ (r : Allocation). r.registers) c.from_word.ensures))) c.make_moves.ensures.makes

pub returns-then-fit_in_registers-clause-assigns : goal.returns-then-fit_in_registers-clause-assigns
returns-then-fit_in_registers-clause-assigns c = on_ok_weaker c.assign_by_registers.result (λ assigns.
    let three = ap (λ (r : Allocation). r.registers) c.from_word-then-fit_in_registers.ensures in
    registers_assign c.args.emitter.now c.args.code.now c.assign_by_registers.new.code c.args.all.now _
    (assigns (omega (arith, three)) (subst (λ n. FitAll c.args.emitter.now c.args.all.now n) (sym three) (c.if-fit_in_registers.ensures refl))))
    c.assign_by_registers.ensures.assigns

pub returns-clause-assigns : goal.returns-clause-assigns
returns-clause-assigns c = on_ok_weaker c.make_moves-2.result (λ makes.
    moves_assign c.args.emitter.now c.args.code.now c.make_moves-2.new.code c.args.all.now c.args.moves.now _ c.requires
    (makes (ap (λ (r : Allocation). r.registers) c.from_word-2.ensures))) c.make_moves-2.ensures.makes
