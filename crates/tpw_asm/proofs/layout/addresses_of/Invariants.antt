use Rattle.std.proofs.Common.{◌≡◌, ◌≤◌, ◌*◌, ◌++◌, drop}
use Rattle.tpw_asm.specs.Layout.{addresses_from}
use Rattle.tpw_asm.proofs.layout.addresses_of.Given as goal

-- the addresses so far, and those of the lines that are left
abbrev pub invariant-loop-bytes : goal.invariant-loop-bytes
invariant-loop-bytes l = record {
  all : l.addresses.items ++ addresses_from l.at (drop l.bytes-index l.lengths) ≡ addresses_from 0 l.lengths;
  small : l.at ≤ 255 * l.bytes-index;
}
