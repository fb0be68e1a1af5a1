use Rattle.std.proofs.Common.{◌<◌, ◌/◌, length, sym, arith, ◌∙◌}
use Rattle.tp_prefix.proofs.CanonicalLemmas.{natural_byte, natural_longer, natural_room}
use Rattle.tp_prefix.proofs.encoding.+natural.Goals as goal
use Rattle.tp_prefix.proofs.encoding.+natural.Goals.{then-operand-lt16, else-operand-lt16}

pub push-requires : goal.push-requires
push-requires t c =
    elim c.if-operand-lt16.branch [
      | then-operand-lt16 w ↦ let short : length c.if-operand-lt16.bytes.items < 8 = rw (w.bytes-is, w.new-bytes.ensures) (omega arith) in (omega arith, short)
      | else-operand-lt16 w ↦
          let room = natural_room 2 (c.args.operand / 16) (omega arith) in
          let short : length c.if-operand-lt16.bytes.items < 8 = rw (w.bytes-is, w.natural-bytes.ensures) room.0 in
          (omega arith, short)
    ]

pub returns : goal.returns
returns t c =
    elim c.if-operand-lt16.branch [
      | then-operand-lt16 w ↦ c.push.ensures.items ∙ rw (w.bytes-is, w.new-bytes.ensures) (sym (natural_byte _ _ w.if-operand-lt16.true))
      | else-operand-lt16 w ↦ c.push.ensures.items ∙ rw (w.bytes-is, w.natural-bytes.ensures) (sym (natural_longer _ _ (omega arith) (omega arith)))
    ]
