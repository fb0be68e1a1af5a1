use Rattle.std.proofs.Common.{◌<◌, ◌^◌, ◌∙◌, arith, w32, ap}
use Rattle.std.specs.Int.{cast_signed, cast_unsigned}
use Rattle.std.proofs.lemmas.Int.{of_z-to_z, to_z_pos}
use Rattle.std.proofs.lemmas.Result.{on_ok_weaker}
use Rattle.tpw_occam_code.proofs.Storing.{does_store_offset}
use Rattle.tpw_occam_code.proofs.assignments.store_offset.Goals as goal

pub returns : goal.returns
returns c = on_ok_weaker c.instr.result (λ is arrays bytes v word small long h short.
    let k = c.args.offset.constant in
    let low : k < 2 ^ 31 = omega (arith, h, short) in
    let same = ap (cast_unsigned w32) c.cast_signed.ensures ∙ of_z-to_z w32 k (omega (arith, low)) in
    does_store_offset arrays bytes c.args.code.now c.base.new.code c.instr.new.self c.args.line c.args.offset.variable c.args.array v k word _
    (ap (cast_signed w32) same ∙ to_z_pos w32 k low) long h (c.in_ok-base.ensures arrays v small) is) c.instr.ensures
