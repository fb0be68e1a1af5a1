-- Why a batch gives nothing.
use Rattle.std.specs.Prelude.{ℕ, ◌*◌, ◌<◌, ◌≤◌, ◌==◌, not, ◌||◌, nat_lt, if◌then◌else◌, length, position, Option, Some}
use Rattle.std.specs.Option.{option_map}
use Rattle.tp_board.specs.Limits.{most_packets, most_members}
use Rattle.tp_collect.specs.Collected.{JobValue}
use Rattle.tp_farm.specs.Jobs.{AreWhole}
use Rattle.tp_farm.specs.declared.fault.FarmFault.{FarmFault}
use Rattle.tp_farm.specs.declared.fault.FarmFault.TheVariants.{Members, Packets, Length, Thread, Memory}

-- the number of the first packet that has another length than the image's
abbrev pub first_other : JobValue → Option ℕ
first_other batch = position (λ packet. not (length packet == 4 * batch.image.packet)) batch.packets

-- G1, G2, G3: why a batch does not begin
abbrev pub job_fault : (members : ℕ) → JobValue → Option FarmFault
job_fault members batch =
    if (members == 0) || nat_lt most_members members then Some Members
    else if nat_lt most_packets (length batch.packets) then Some Packets
    else option_map Length (first_other batch)

-- the entry where none of these holds
pub record Begins (members : ℕ) (batch : JobValue) : Type 0 where
  pub some : 0 < members
  pub few : members ≤ most_members
  pub less : length batch.packets ≤ most_packets
  pub whole : AreWhole batch

-- why a batch that has begun gives nothing: what it runs on refused a thread (G4) or memory
abbrev pub IsEnvironmental : FarmFault → Type 0
IsEnvironmental Thread = Unit {0}
IsEnvironmental Memory = Unit {0}
IsEnvironmental fault = ⊥
