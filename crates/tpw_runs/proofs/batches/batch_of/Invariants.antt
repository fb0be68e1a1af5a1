use Rattle.std.proofs.Common.{◌≡◌, map, take}
use Rattle.tpw_runs.proofs.batches.batch_of.Given as goal

abbrev pub invariant-loop-message : goal.invariant-loop-message
invariant-loop-message l = map (λ p. p.items) l.packets.items ≡ take l.message-index (map (λ m. m.items) l.messages)
