-- What a member does with its packets: what it files, and how it ends.
use Rattle.std.specs.Prelude.{◌≡◌, ℕ, ◌<◌, ◌⊎◌, Bool, true, false, List, [], ◌∷◌, length, sum_by, Some, None, slice_get}
use Rattle.std.specs.Prelude.{All}
use Rattle.tp_link.specs.Device.{DeviceState}
use Rattle.tp_link.specs.declared.links.Link.{Link}
use Rattle.tp_link.specs.declared.links.LinkFault.{LinkFault}
use Rattle.tp_outcome.specs.Devices.{Devices, devices_of}
use Rattle.tp_board.specs.Sources.{Progress}
use Rattle.tp_collect.specs.Collected.{JobValue, IsResult}
use Rattle.tp_farm.specs.declared.member.Filed.{Filed}
use Rattle.tp_farm.specs.declared.member.Filed.TheVariants as filed
use Rattle.tp_farm.specs.declared.member.Member.{Member}
use Rattle.tp_farm.specs.declared.member.End.{End}
use Rattle.tp_farm.specs.declared.member.End.TheVariants as end
use Rattle.tp_farm.specs.Settings.{SameSettings, Rises, failures_by}
use Rattle.tp_farm.specs.Losses.{MayLose}

-- ---- what is filed

-- the packet of a number, which a member's devices lost
pub record IsLost (batch : JobValue) (devices : Devices) (number : ℕ) (fault : LinkFault) : Type 0 where
  pub packet : List ℕ
  pub is : slice_get batch.packets number ≡ Some packet
  pub cause : MayLose batch.image packet devices fault.link fault.code

abbrev pub IsFiled : JobValue → Devices → Filed → Type 0
IsFiled batch devices (filed.Done done) = IsResult batch done.packet done
IsFiled batch devices (filed.Lost number fault) = IsLost batch devices number fault

-- how often the device of a link failed for it
abbrev pub failures_filed : Link → Filed → ℕ
failures_filed which (filed.Done done) = 0
failures_filed which (filed.Lost number fault) = failures_by which fault

-- the numbers of the packets that are done, in their order, and of those that are lost
abbrev pub done_numbers : List Filed → List ℕ
done_numbers [] = []
done_numbers (filed.Done done ∷ more) = done.packet ∷ done_numbers more
done_numbers (filed.Lost number fault ∷ more) = done_numbers more

abbrev pub lost_numbers : List Filed → List ℕ
lost_numbers [] = []
lost_numbers (filed.Done done ∷ more) = lost_numbers more
lost_numbers (filed.Lost number fault ∷ more) = number ∷ lost_numbers more

-- A member's accounts: its devices keep their settings and have failed as often as what it files says; what it files is
-- of the batch; and what it finished and abandoned at its source is what it files as done and as lost.
pub record KeepsAccounts (batch : JobValue) (before now : Devices) (p : Progress) (these : List Filed) : Type 0 where
  pub settings : SameSettings before now
  pub rises : Rises before now (λ which. sum_by (failures_filed which) these)
  pub filed : All (IsFiled batch before) these
  pub finished : p.finished ≡ done_numbers these
  pub abandoned : p.abandoned ≡ lost_numbers these

abbrev pub HasAccounts : {H D : Type 0} → (D → DeviceState) → (H → Progress) → JobValue → Member H D → Type 0
HasAccounts state progress batch member =
    KeepsAccounts batch (devices_of state member.entry.value) (devices_of state member.links)
    (progress member.hand) member.filed.items

-- ---- how a member ends

-- With nothing in hand, a member ends where there are no more packets, or where the source was stopped: it has seen the
-- stop, or its own gate said no, and then it has called stop itself. It has called stop, too, where memory was refused.
abbrev pub EndsBy : JobValue → (open_for_good : Bool) → Progress → End → Type 0
EndsBy batch open_for_good p end.Drained =
    (p.in_hand ≡ None) × (p.stop_called ≡ false) × ((p.ended ≡ true) ⊎ (length batch.packets < length p.taken))
EndsBy batch open_for_good p end.Stopped =
    (p.in_hand ≡ None)
    × (((p.stop_called ≡ false) × (p.stop_seen ≡ true)) ⊎ ((p.stop_called ≡ true) × (open_for_good ≡ false)))
EndsBy batch open_for_good p end.Memory = (p.in_hand ≡ None) × (p.stop_called ≡ true)

-- a member that called stop, and lacked no memory, did so because its gate has answered it no
abbrev pub IsRefused : (answered : Bool → Type 0) → Progress → End → Type 0
IsRefused answered p end.Stopped = p.stop_called ≡ true → answered false
IsRefused answered p other = Unit {0}
