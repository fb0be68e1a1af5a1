use Rattle.std.proofs.Common.{◌≡◌, length}
use Rattle.tp_farm.specs.Jobs.{value_of_job}
use Rattle.tp_farm.specs.Members.{HasAccounts}
use Rattle.tp_farm.specs.Turns.{MayTake}
use Rattle.tp_farm.proofs.member.work.Given as goal

abbrev pub invariant-loop : goal.invariant-loop
invariant-loop g l =
    g.W.WorkSource.is_own l.source l.member.hand
    × (l.member.number ≡ l.initial.member.number)
    × (l.member.entry.value ≡ l.initial.member.entry.value)
    × HasAccounts g.D.LinkDevice.state g.W.WorkSource.progress (value_of_job l.job) l.member
    × MayTake (g.W.WorkSource.progress l.member.hand)
    × (length (g.W.WorkSource.progress l.member.hand).taken ≡ l.counter)
