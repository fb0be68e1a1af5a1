use Rattle.std.proofs.Common.{◌≡◌, None, Some, refl, sym, ap, ◌∙◌, rules}
use Rattle.std.proofs.lemmas.Int.{to_z-of_z}
use mir.Val.{SFits}
use mir.Syntax.{w32}
use Rattle.tp_decode.specs.Table.{instruction}
use Rattle.tp_decode.proofs.DecodingLemmas.{unknown_in_front, known_in_front}
use Rattle.tp_decode.proofs.decoding.piece_at.Goals as goal

pub returns-in_default : goal.returns-in_default
returns-in_default c =
    let s = c.in-Ok.spelled in
    let fits : SFits w32 s.operand = search rules in
    let none : instruction s.function s.operand ≡ None = ap (instruction s.function) (sym (to_z-of_z w32 s.operand fits)) ∙ sym c.of.ensures ∙ c.in_default.is in
    rw c.refused-in_default.ensures (refl, unknown_in_front c.args.code.now c.args.at s c.in-Ok.ensures.found none)

pub returns : goal.returns
returns c =
    let s = c.in-Ok.spelled in
    let fits : SFits w32 s.operand = search rules in
    let found : instruction s.function s.operand ≡ Some c.in-Some.instr = ap (instruction s.function) (sym (to_z-of_z w32 s.operand fits)) ∙ sym c.of.ensures ∙ c.in-Some.is in
    known_in_front c.args.code.now c.args.at s _ _ c.in-Ok.ensures.found found c.copied.ensures
