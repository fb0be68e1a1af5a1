use Rattle.std.proofs.Common.{◌≡◌, ◌-◌, ◌∷◌, sym, subst, ap, ◌∙◌, arith}
use Rattle.std.proofs.lemmas.Result.{on_ok_weaker}
use Rattle.tpw_occam_expressions.specs.declared.emitter.Allocation.{Allocation}
use Rattle.tpw_occam_code.specs.Registers.{IsWordTarget, FitAll, StoresWord, AssignsBelow}
use Rattle.tpw_occam_code.proofs.Matching.{none_of, more_of, rest_of}
use Rattle.tpw_occam_code.proofs.Registers.{registers_none, registers_more}
use Rattle.tpw_occam_code.proofs.assignments.+assign_by_registers.Goals as goal

pub returns-in_default-clause-assigns : goal.returns-in_default-clause-assigns
returns-in_default-clause-assigns t c most fit =
    subst (λ all. AssignsBelow c.args.emitter.now c.args.code.now c.args.code.now all c.args.room.registers) (sym (none_of c.args.all.now c.in_default.len_below))
    (registers_none c.args.emitter.now c.args.code.now c.args.room.registers)

pub returns-clause-assigns : goal.returns-clause-assigns
returns-clause-assigns t c = on_ok_weaker c.store_in_word.result (λ stores most fit.
    let k = c.args.emitter.now in
    let one = c.one-item.result in
    let rest = rest_of c.args.all.now in
    let are = more_of c.args.all.now one c.in-len1-up.len_at_least c.one-item.is in
    let fits : FitAll k (one ∷ rest) c.args.room.registers = subst (λ all. FitAll k all c.args.room.registers) are fit in
    let first = c.in_ok-expression.ensures.knowledge in
    let both = c.in_ok-assign_by_registers.ensures.knowledge ∙ first in
    let registers : c.above.result.registers ≡ c.args.room.registers - 1 = ap (λ (r : Allocation). r.registers) c.above.ensures in
    subst (λ all. AssignsBelow k c.args.code.now c.store_in_word.new.code all c.args.room.registers) (sym are)
    (registers_more k c.args.code.now c.expression.new.code c.assign_by_registers.new.code c.store_in_word.new.code one rest
    c.args.room.registers c.args.room.next_temporary most fits
    c.in_ok-expression.ensures.computes
    (λ storages scope unset s place stands knows. (c.in_ok-expression.ensures.known storages scope unset s place stands knows).small)
    (subst (λ n. AssignsBelow k c.expression.new.code c.assign_by_registers.new.code rest n) registers
    (subst (λ k. AssignsBelow k c.expression.new.code c.assign_by_registers.new.code rest c.above.result.registers) first
    (c.in_ok-assign_by_registers.ensures.assigns (omega (arith, most, registers))
    (subst (λ k. FitAll k rest c.above.result.registers) (sym first) (subst (λ n. FitAll k rest n) (sym registers) fits.3)))))
    (subst (λ k. StoresWord k c.assign_by_registers.new.code c.store_in_word.new.code one.target) both
    (stores (subst (λ k. IsWordTarget k one.target) (sym both) fits.2))))) c.store_in_word.ensures.stores
