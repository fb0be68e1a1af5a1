use Rattle.std.proofs.Common.{◌≡◌, ◌+◌, drop}
use Rattle.tpw_occam_lexing.specs.Bytes.{run}
use Rattle.tpw_occam_lexing.proofs.bytes.run.Given as goal

abbrev pub invariant-loop-byte : goal.invariant-loop-byte
invariant-loop-byte l = record {
  here : l.count ≡ l.byte-index;
  whole : run l.class l.bytes ≡ l.count + run l.class (drop l.byte-index l.bytes);
}
