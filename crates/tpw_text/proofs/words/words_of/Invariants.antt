use Rattle.std.proofs.Common.{◌≡◌, ◌≤◌, ◌+◌, ◌++◌, true, map, drop}
use Rattle.std.specs.List.{list_all, slice_range}
use Rattle.tpw_text.specs.Words.{token, tokens, is_plain}
use Rattle.tpw_text.proofs.words.words_of.Given as goal

-- the bytes since the start are plain, and the words so far and those from the start on are all
abbrev pub invariant-loop-i : goal.invariant-loop-i
invariant-loop-i l = record {
  order : l.start ≤ l.i;
  plain : list_all is_plain (slice_range l.said l.start l.i) ≡ true;
  words_are : map token l.words.items ++ tokens l.line (l.start + 1) (drop l.start l.said) ≡ tokens l.line 1 l.said;
}
