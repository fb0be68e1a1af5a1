use Rattle.std.proofs.Common.{◌≡◌, ℕ, ◌<◌, ◌^◌, ◌%◌, List, ◌∷◌, ◌++◌, take}
use Rattle.tp_prefix.specs.Spelling.{spelled}
use Rattle.tp_prefix.proofs.SpellingLemmas.{ArePrefixes}
use Rattle.tp_prefix.proofs.reading.read_front.Given as goal

-- prefixes stand before byte i, and Oreg holds what they left
abbrev pub invariant-loop-i : goal.invariant-loop-i
invariant-loop-i l = record {
  few : l.i < 8;
  word : l.oreg < 2 ^ 32;
  multiple : l.oreg % 16 ≡ 0;
  prefixes : ArePrefixes (take l.i l.bytes);
  reads : (b : ℕ) (tail : List ℕ) → spelled 0 (take l.i l.bytes ++ b ∷ tail) ≡ spelled l.oreg (b ∷ tail);
}
