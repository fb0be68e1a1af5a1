-- What a link device means, and what each call does to that meaning.
use Rattle.std.specs.Prelude.{◌≡◌, ℕ, ◌+◌, ◌<◌, ◌^◌, Bool, true, false, List, ◌++◌, length, take, drop, Result, Ok, Err}
use Rattle.std.specs.Prelude.{nat_le}
use Rattle.std.specs.Prelude.{if◌then◌else◌}
use Rattle.tp_link.specs.declared.device.DeviceFault.{DeviceFault}
use Rattle.tp_link.specs.declared.device.DeviceFault.TheVariants.{Closed, Full, Short, Failed}

-- the bytes that a device holds, oldest first, the most that it can hold, whether it is open,
-- how often it has failed, and whether it can fail
pub record DeviceState : Type 0 where
  pub held : List ℕ
  pub room : ℕ
  pub opened : Bool
  pub faults : ℕ
  pub fallible : Bool

-- what a send or a receive answers
abbrev pub Answer : Type 0
Answer = Result (Unit {0}) DeviceFault

-- 1 where the device failed in the call that gave this answer, else 0
abbrev pub failures : Answer → ℕ
failures (Ok _) = 0
failures (Err Closed) = 0
failures (Err Full) = 0
failures (Err Short) = 0
failures (Err Failed) = 1

-- what is held after a send of the bytes, by its answer
abbrev pub held_after_send : Answer → List ℕ → List ℕ → List ℕ
held_after_send (Ok _) held bytes = held ++ bytes
held_after_send (Err _) held bytes = held

-- the device after a send of the bytes, by its answer
abbrev pub after_send : DeviceState → List ℕ → Answer → DeviceState
after_send s bytes r = record s {
  held = held_after_send r s.held bytes;
  faults = s.faults + failures r;
}

-- what is held after a receive of n bytes, by its answer
abbrev pub held_after_receive : Answer → List ℕ → ℕ → List ℕ
held_after_receive (Ok _) held n = drop n held
held_after_receive (Err _) held n = held

-- the device after a receive of n bytes, by its answer
abbrev pub after_receive : DeviceState → ℕ → Answer → DeviceState
after_receive s n r = record s {
  held = held_after_receive r s.held n;
  faults = s.faults + failures r;
}

-- what a receive leaves in the buffer that it was lent, by its answer
abbrev pub received : DeviceState → List ℕ → Answer → List ℕ
received s into (Ok _) = take (length into) s.held
received s into (Err _) = into

abbrev pub after_close : DeviceState → DeviceState
after_close s = record s { opened = false }

-- the answer to a send in which the device does not fail
abbrev pub plain_send : DeviceState → List ℕ → Answer
plain_send s bytes =
    if s.opened
    then (if nat_le (length s.held + length bytes) s.room then Ok tt else Err Full)
    else Err Closed

-- the answer to a receive of n bytes in which the device does not fail
abbrev pub plain_receive : DeviceState → ℕ → Answer
plain_receive s n =
    if s.opened
    then (if nat_le n (length s.held) then Ok tt else Err Short)
    else Err Closed

-- r is the plain answer, or the device failed, which it may only where it can and where its count
-- can rise
pub record MayAnswer (s : DeviceState) (plain r : Answer) : Type 0 where
  pub plainly : failures r ≡ 0 → r ≡ plain
  pub can_fail : failures r ≡ 1 → s.fallible ≡ true
  pub countable : failures r ≡ 1 → s.faults + 1 < 2 ^ 64

-- r may be the answer to a send of the bytes
abbrev pub MayAnswerSend : DeviceState → List ℕ → Answer → Type 0
MayAnswerSend s bytes r = MayAnswer s (plain_send s bytes) r

-- r may be the answer to a receive of n bytes
abbrev pub MayAnswerReceive : DeviceState → ℕ → Answer → Type 0
MayAnswerReceive s n r = MayAnswer s (plain_receive s n) r
