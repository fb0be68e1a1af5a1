use Rattle.tp_state.proofs.PlaneJoins.{all_closed}
use Rattle.tp_state.proofs.values.differing.Goals as goal

pub returns-then-closed-eq18446744073709551615 : goal.returns-then-closed-eq18446744073709551615
returns-then-closed-eq18446744073709551615 c j lt room clear = absurd (all_closed c.args.closed j c.if-closed-eq18446744073709551615.true lt clear)
