-- What a member's thread gives back.
use Rattle.std.specs.Prelude.{◌≡◌, Bool, List, length, replicate}
use Rattle.std.specs.List.{AllZip}
use Rattle.tp_link.specs.Device.{DeviceState}
use Rattle.tp_link.specs.declared.links.Links.{Links}
use Rattle.tp_stream.specs.Streams.{StreamView, HandView, IsHandOf, hand_progress}
use Rattle.tp_collect.specs.Collecting.{Collection, vacant}
use Rattle.tp_outcome.specs.Devices.{devices_of}
use Rattle.tp_farm.specs.declared.thread.Returned.{Returned}
use Rattle.tp_farm.specs.declared.thread.Shared.{Shared}
use Rattle.tp_farm.specs.Jobs.{value_of_job, AreWhole}
use Rattle.tp_farm.specs.Turns.{no_progress}
use Rattle.tp_farm.specs.Members.{KeepsAccounts, EndsBy}
use Rattle.tp_farm.specs.BatchWork.{BatchWork, batch_work}

abbrev pub work_of : {G : Type 0} → (G → Bool) → Shared G → BatchWork
work_of open_for_good shared = batch_work open_for_good shared.job.now shared.gate.now

-- the shared stream has the batch's packets, and each packet is as many bytes as the image states
pub record IsSet {G : Type 0} (shared : Shared G) : Type 0 where
  pub packets : shared.stream.now.packets ≡ (value_of_job shared.job.now).packets
  pub whole : AreWhole (value_of_job shared.job.now)

-- a hand of the stream that has done nothing
pub record IsFresh (stream : StreamView) (hand : HandView) : Type 0 where
  pub is_own : IsHandOf stream hand
  pub none : hand_progress hand ≡ no_progress

-- a member that had these devices has done its work: its hand is one of the stream's, its accounts are in order, and it
-- has ended as it says
pub record HasWorked {D : Type 0} (state : D → DeviceState) (stream : StreamView) (work : BatchWork) (before : Links D)
    (r : Returned D) : Type 0 where
  pub is_own : IsHandOf stream r.hand
  pub accounts : KeepsAccounts work.batch (devices_of state before) (devices_of state r.links) (hand_progress r.hand)
      r.filed.items
  pub ends : EndsBy work.batch work.open_for_good (hand_progress r.hand) r.end

-- so have members, each with its own devices
abbrev pub HaveWorked : {D : Type 0} → (D → DeviceState) → StreamView → BatchWork → List (Links D) → List (Returned D)
    → Type 0
HaveWorked state stream work before rs = AllZip (HasWorked state stream work) before rs

-- the stream and the work are those which members share
abbrev pub HasWorkedOn : {G D : Type 0} → (D → DeviceState) → (G → Bool) → Shared G → Links D → Returned D → Type 0
HasWorkedOn state open_for_good shared before r =
    HasWorked state shared.stream.now (work_of open_for_good shared) before r

abbrev pub HaveWorkedOn : {G D : Type 0} → (D → DeviceState) → (G → Bool) → Shared G → List (Links D)
    → List (Returned D) → Type 0
HaveWorkedOn state open_for_good shared before rs = AllZip (HasWorkedOn state open_for_good shared) before rs

-- members have done their work on the packets of a stream, of which nothing is filed in the collector yet
pub record HaveToSettle {D : Type 0} (state : D → DeviceState) (stream : StreamView) (work : BatchWork)
    (before : List (Links D)) (rs : List (Returned D)) (c : Collection) : Type 0 where
  pub worked : HaveWorked state stream work before rs
  pub sized : length stream.packets ≡ length work.batch.packets
  pub whole : AreWhole work.batch
  pub empty : c ≡ record { batch = work.batch; entries = replicate (length stream.packets) vacant }
