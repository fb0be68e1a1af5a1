use Rattle.std.proofs.Common.{◌≡◌, ◌++◌, map, take}
use Rattle.tpw_asm.specs.declared.program.Line.TheVariants.{Byte}
use Rattle.tpw_asm.proofs.code_lines.push_bytes.Given as goal

-- the bytes so far are appended
abbrev pub invariant-loop-byte : goal.invariant-loop-byte
invariant-loop-byte l = l.lines.items ≡ l.fn.lines.items ++ map Byte (take l.byte-index l.bytes)
