use Rattle.std.proofs.Common.{◌≡◌, ◌≤◌, ◌+◌, ◌++◌, ◌∙◌, ap, sym, subst, arith, length}
use Rattle.tpw_runs.proofs.Numbers.{from_ok}
use Rattle.tpw_runs.proofs.Behind.{one_packet}
use Rattle.tpw_runs.proofs.batches.batch_of.Goals as goal

pub loop-message-preserved : goal.loop-message-preserved
loop-message-preserved c =
    let message = c.message-item.result in
    let short : length message.items ≤ 256 =
    subst (λ m. length m.items ≤ 256) (sym c.message-item.is) (c.requires c.loop-message.message-index message c.loop-message-test.true) in
    let fits : length c.new-packet.result.items + length c.deref.result.now ≤ 256 =
    omega (arith, ap length c.new-packet.ensures, ap length c.deref.ensures.value, short) in
    let taken = from_ok c.try_extend_from_slice.result _ (c.try_extend_from_slice.ensures.variant.1 fits) c.try_extend_from_slice.ensures.ok in
    let same : c.try_extend_from_slice.new.self.items ≡ message.items =
    taken ∙ ap (λ l. l ++ c.deref.result.now) c.new-packet.ensures ∙ c.deref.ensures.value in
    one_packet (λ p. p.items) (λ m. m.items) c.loop-message.packets.items c.push.new.self.items c.try_extend_from_slice.new.self
    c.args.messages.now c.loop-message.message-index message c.in_ok-push.ensures.items c.loop-message.invariant
    c.loop-message-test.true c.message-item.is same
