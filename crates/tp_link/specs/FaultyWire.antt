-- What a faulty wire means: a device over its medium, with a plan of when it fails.
use Rattle.std.specs.Prelude.{◌≡◌, ◌↔◌, ℕ, ◌+◌, Bool, not, nat_eq, min, if◌then◌else◌, IsTrue, IsErrOf}
use Rattle.std.specs.Borrow.{GName}
use Rattle.tp_link.specs.declared.device.DeviceFault.TheVariants.{Failed}
use Rattle.tp_link.specs.Device.{DeviceState, Answer}
use Rattle.tp_link.specs.Medium.{MediumState, device_over}
use Rattle.tp_link.specs.declared.faulty.FaultyWire.{FaultyWire}

-- the call of send or receive that fails, counted from 1 over both, or 0 for none, and how many
-- were made, counted no further than that one
pub record FaultPlan : Type 0 where
  pub failing_call : ℕ
  pub calls : ℕ

-- a plan of which no call was made
abbrev pub new_plan : ℕ → FaultPlan
new_plan k = record { failing_call = k; calls = 0 }

-- whether the next call is the one that fails
abbrev pub fails_next : FaultPlan → Bool
fails_next p = nat_eq (p.calls + 1) p.failing_call

-- one more call was made
abbrev pub after_call : FaultPlan → FaultPlan
after_call p = record p { calls = min (p.calls + 1) p.failing_call }

-- what a send or a receive answers where the plan is p, and the plan after it
pub record FollowsPlan (p : FaultPlan) (answer : Answer) (q : FaultPlan) : Type 0 where
  pub failing : IsErrOf answer Failed ↔ IsTrue (fails_next p)
  pub counted : q ≡ after_call p

abbrev pub can_fail : FaultPlan → Bool
can_fail p = not (nat_eq p.failing_call 0)

-- 1 once the failing call was made
abbrev pub faults_of : FaultPlan → ℕ
faults_of p = if can_fail p then (if nat_eq p.calls p.failing_call then 1 else 0) else 0

-- which borrow of its medium the wire holds: its end is seen in what was borrowed
abbrev pub loan_of : FaultyWire → GName
loan_of w = w.medium.ghost_name

abbrev pub medium_of : FaultyWire → MediumState
medium_of w = w.medium.now

abbrev pub plan_of : FaultyWire → FaultPlan
plan_of w = record { failing_call = w.failing_call; calls = w.calls }

abbrev pub device_of : FaultyWire → DeviceState
device_of w = device_over (medium_of w) (faults_of (plan_of w)) (can_fail (plan_of w))
