use Rattle.std.proofs.Common.{◌≡◌, ◌-◌, drop, inr, None, Some, refl, sym, ap, ◌∙◌, arith, rules, length-take}
use Rattle.std.proofs.lemmas.Int.{to_z-of_z}
use mir.Val.{SFits}
use mir.Syntax.{w32}
use Rattle.tp_decode.specs.declared.fault.DecodeCode.TheVariants.{D3}
use Rattle.tp_decode.specs.declared.fault.DecodeFault.TheVariants.{Refused}
use Rattle.tp_decode.specs.Table.{instruction}
use Rattle.tp_decode.proofs.DecodingLemmas.{unknown_in_front, known_in_front, spelled_some}
use Rattle.tpw_asm.proofs.CodeLines.{stops_unread}
use Rattle.tpw_asm.proofs.code_lines.found_at.Goals as goal

pub returns-in_default : goal.returns-in_default
returns-in_default c =
    let e = c.in_default.ensures in
    inr (stops_unread _ c.args.at c.read_one.result c.in_default.field-0 c.in_default.is c.read_one.ensures.refused c.read_one.ensures.cut_off c.read_one.ensures.too_long)

pub returns-in_default-of : goal.returns-in_default-of
returns-in_default-of c =
    let s = c.in-Ok.spelled in
    let fits : SFits w32 s.operand = search rules in
    let none : instruction s.function s.operand ≡ None = ap (instruction s.function) (sym (to_z-of_z w32 s.operand fits)) ∙ sym c.of.ensures ∙ c.in_default-of.is in
    inr (Refused D3 c.args.at, (refl, unknown_in_front c.args.code.now c.args.at s c.in-Ok.ensures.found none))

pub returns : goal.returns
returns c =
    let s = c.in-Ok.spelled in
    let read = c.in-Ok.ensures.found in
    let fits : SFits w32 s.operand = search rules in
    let found : instruction s.function s.operand ≡ Some c.in-Some.instr = ap (instruction s.function) (sym (to_z-of_z w32 s.operand fits)) ∙ sym c.of.ensures ∙ c.in-Some.is in
    let begins = known_in_front c.args.code.now c.args.at s _ c.in-Some.instr read found refl in
    let some = spelled_some _ begins.spelled in
    (omega (arith, some, length-take (s.next - c.args.at) (drop c.args.at c.args.code.now), read.forward), read.within, begins)
