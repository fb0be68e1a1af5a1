use Rattle.std.proofs.Common.{◌≡◌, ◌-◌, ◌≤◌, length, drop, []}
use Rattle.tp_decode.specs.Cutting.{code_of, cutting_from, cutting}
use Rattle.tp_decode.specs.Listings.{cuts_of, IsListing}
use Rattle.tp_decode.proofs.Verdicts.{with_front}
use Rattle.tp_decode.proofs.decoding.cut.Given as goal

-- what is cut, and what is left of the code, are the cutting of the whole
abbrev pub invariant-loop-at : goal.invariant-loop-at
invariant-loop-at l = record {
  within : l.at ≤ length l.code;
  kept : IsListing l.starts.items l.numbers.items l.pieces.items;
  place : length (code_of (cuts_of l.pieces.items)) ≡ l.at;
  so_far : with_front (cuts_of l.pieces.items) (cutting_from l.at (drop l.at l.code) []) ≡ cutting l.code;
}

abbrev pub decreases-loop-at : goal.decreases-loop-at
decreases-loop-at l = length l.code - l.at
