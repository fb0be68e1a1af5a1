-- Calls of a faulty wire, one after another.
use Rattle.std.specs.Prelude.{◌≡◌, List, [], ◌∷◌}
use Rattle.tp_link.specs.Device.{Answer}
use Rattle.tp_link.specs.FaultyWire.{FaultPlan, FollowsPlan}

-- What calls answered, each a send or a receive, that were made of a wire with the plan p before them and q after them.
unfoldable pub AreAnswers : FaultPlan → List Answer → FaultPlan → Type 0
AreAnswers p [] q = q ≡ p
AreAnswers p (answer ∷ answers) q = (next : FaultPlan) × FollowsPlan p answer next × AreAnswers next answers q
