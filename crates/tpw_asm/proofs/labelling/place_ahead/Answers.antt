use Rattle.std.proofs.Common.{◌≡◌, pos, sym, ap, ◌∙◌}
use Rattle.tp_prefix.proofs.Reach.{not_below_zero}
use Rattle.tpw_asm.specs.Labelling.{place_ahead}
use Rattle.tpw_asm.proofs.labelling.place_ahead.Goals as goal

pub returns : goal.returns
returns c =
    let is : c.args.bytes ≡ pos c.cast_unsigned.result = not_below_zero c.args.bytes c.cast_unsigned.result c.ranges.bytes c.if-bytes-lt0.false c.cast_unsigned.ensures in
    c.place_behind.ensures ∙ sym (ap (place_ahead c.args.addresses.now c.args.from) is)
