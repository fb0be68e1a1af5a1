use Rattle.std.proofs.Common.{◌≡◌, length, take, Ok}
use Rattle.std.specs.Str.Lines.{lines}
use Rattle.tpw_text.specs.Drafts.{said}
use Rattle.tpw_text.specs.Apart.{draft_apart}
use Rattle.tpw_text.specs.Texts.{words_of_lines, words_say}
use Rattle.tpw_text.proofs.reading.draft_of.Given as goal

-- the draft is what the lines so far say
abbrev pub invariant-loop-i : goal.invariant-loop-i
invariant-loop-i l = words_say (words_of_lines 1 (take (length l.yielded) (lines l.text))) ≡ Ok (draft_apart (said l.draft))
