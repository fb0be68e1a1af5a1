use Rattle.std.proofs.Common.{◌==◌, ◌<◌, ap, ◌∙◌, if◌then◌else◌, arith, length}
use Rattle.tpw_occam_interpreter.proofs.ArrayRows.{row_set}
use Rattle.tpw_occam_interpreter.proofs.writing.put_array.Goals as goal

pub returns : goal.returns
returns c =
    let short : c.args.a < length c.grow_arrays.new.arrays.items =
    omega (arith, c.in_ok-grow_arrays.ensures.room, c.grow_arrays.new.arrays.ok.0) in
    λ b. row_set c.grow_arrays.new.arrays.items c.args.a b c.args.bytes short
    ∙ ap (λ x. if b == c.args.a then c.args.bytes.items else x) (c.grow_arrays.ensures.same b)
