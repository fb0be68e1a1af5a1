-- What a layout is kept as, and why there is none.
use Rattle.std.specs.Prelude.{◌≡◌, ◌≤◌, ◌<◌, ◌^◌, ℕ, List, length, slice_index, sum}
use Rattle.tpw_asm.specs.declared.program.Line.{Line}
use Rattle.tpw_asm.specs.declared.layout.Layout.{Layout}
use Rattle.tpw_asm.specs.declared.fault.AssemblyFault.{AssemblyFault}
use Rattle.tpw_asm.specs.declared.fault.AssemblyFault.TheVariants.{Line as LineRefused, Row, TooLong, Narrow, Field}
use Rattle.tpw_asm.specs.declared.fault.AssemblyFault.TheVariants.{Memory}
use Rattle.tpw_asm.specs.Layout.{addresses_from, IsLayout, IsLeastLayout}

-- addresses that rise, each of them small
pub record AreAddresses (addresses : List ℕ) : Type 0 where
  pub some : 0 < length addresses
  pub rising : (from to : ℕ) → from ≤ to → to < length addresses → slice_index addresses from ≤ slice_index addresses to
  pub small : (place : ℕ) → place < length addresses → slice_index addresses place < 2 ^ 16

-- the least layout, whose code has at most this many bytes
pub record IsLaidOut (lines : List Line) (most : ℕ) (layout : Layout) : Type 0 where
  pub least : IsLeastLayout lines layout.lengths.items
  pub addresses : layout.addresses.items ≡ addresses_from 0 layout.lengths.items
  pub short : sum layout.lengths.items ≤ most

-- each layout has a code of more bytes
abbrev pub IsLong : List Line → ℕ → Type 0
IsLong lines most = (lengths : List ℕ) → IsLayout lines lengths → most < sum lengths

abbrev pub IsTooLong : List Line → ℕ → AssemblyFault → Type 0
IsTooLong lines most (LineRefused number fault) = ⊥
IsTooLong lines most (Row row) = ⊥
IsTooLong lines most TooLong = IsLong lines most
IsTooLong lines most (Narrow number) = ⊥
IsTooLong lines most (Field code) = ⊥
IsTooLong lines most Memory = Unit {0}
