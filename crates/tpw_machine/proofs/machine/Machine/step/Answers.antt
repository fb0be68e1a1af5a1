use Rattle.std.proofs.Common.{◌≡◌, ◌%◌, SFits, w32, w64, rules, to_z-of_z, Some, ◌+◌, ◌/◌, nat_eq, false, arith, sym, ap, ◌∙◌, refl}
use Rattle.std.proofs.lemmas.Bool.Decides.{nat_tests}
use Rattle.tp_words.specs.Words.{signed}
use Rattle.tp_decode.specs.Table.{instruction}
use Rattle.tp_step.specs.Steps.{step, code_byte}
use Rattle.tp_step.specs.Effects.{effect}
use Rattle.tpw_machine.specs.Meaning.{state_of}
use Rattle.tpw_machine.specs.Phases.{is_stopped}
use Rattle.tpw_machine.proofs.TurnLemmas.{turned_alike, not_stopped}
use Rattle.tpw_machine.proofs.machine.Machine.step.Goals as goal

pub returns-in-Some-of : goal.returns-in-Some-of
unfolding step
returns-in-Some-of g c =
    let image = c.args.image.now in
    let f = c.in-Some.byte / 16 in
    let fits : SFits w64 c.args.self.now.iptr = search rules in
    let not_pfix : nat_eq f 2 ≡ false = grind (arith, nat_tests) in
    let not_nfix : nat_eq f 6 ≡ false = grind (arith, nat_tests) in
    let going : is_stopped c.args.phase.now ≡ false = not_stopped c.args.phase.now c.in_default.not-Stopped in
    let byte_is : code_byte image.code c.args.self.now.iptr ≡ Some c.in-Some.byte = sym (simp to_z-of_z at c.in-Some.ensures.value) in
    let fits' : SFits w32 c.cast_signed.result = search rules in
    let operand : c.cast_signed.result ≡ signed (c.args.self.now.oreg + c.in-Some.byte % 16) = simp (c.from.ensures, c.advance.ensures) at c.cast_signed.ensures in
    let found = simp to_z-of_z at c.in-Some-of.ensures in
    let instr_is : instruction f (signed (c.args.self.now.oreg + c.in-Some.byte % 16)) ≡ Some c.in-Some-of.instr = sym (found ∙ ap (instruction f) operand) in
    turned_alike image (step image) (effect image c.in-Some-of.instr) (state_of c.args.self.now)
    (state_of c.clear_operand.new.self) (state_of c.execute.new.self) c.args.phase.now c.execute.new.phase _ _
    c.execute.result
    (λ p is. rw (c.clear_operand.ensures.rest p, c.advance.ensures, is, going, byte_is, not_pfix, not_nfix, instr_is) refl)
    (λ p. (refl, refl, refl))
    c.execute.ensures
