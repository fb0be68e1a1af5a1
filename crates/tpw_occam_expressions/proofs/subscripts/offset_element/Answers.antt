use Rattle.std.proofs.Common.{◌<◌, ◌^◌, ◌∙◌, arith, w32, ap}
use Rattle.std.specs.Int.{cast_signed, cast_unsigned}
use Rattle.std.proofs.lemmas.Int.{of_z-to_z, to_z_pos}
use Rattle.tpw_occam_expressions.proofs.Elements.{does_offset_element}
use Rattle.tpw_occam_expressions.proofs.subscripts.offset_element.Goals as goal

pub returns-clause-makes : goal.returns-clause-makes
returns-clause-makes c arrays bytes v small long h short =
    let k = c.args.offset.constant in
    let low : k < 2 ^ 31 = omega (arith, h, short) in
    let same = ap (cast_unsigned w32) c.cast_signed.ensures ∙ of_z-to_z w32 k (omega (arith, low)) in
    does_offset_element arrays c.args.code.now c.base.new.code c.instr.new.self c.args.line c.args.offset.variable c.args.array bytes v k _
    (ap (cast_signed w32) same ∙ to_z_pos w32 k low) long h (c.in_ok-base.ensures arrays v small) c.in_ok-instr.ensures
